-- The tokens of a text, as the grammar sees them.
use Rattle.std.specs.Prelude.{ℕ, List, Option, Some, None, map, slice_range}
use Rattle.aq_lex.specs.Listed.{Listed}
use Rattle.aq_lex.specs.declared.token.Token.{Token}
use Rattle.aq_lex.specs.declared.token.Kind.{Kind}
use Rattle.aq_lex.specs.declared.token.Kind.TheVariants as kinds
use Rattle.aq_lex.specs.declared.token.Symbol.{Symbol}
use Rattle.aq_lex.specs.declared.token.Symbol.TheVariants as symbols
use Rattle.aq_parse.specs.Piece.{Piece}
use Rattle.aq_parse.specs.Words.{reserved}
use Rattle.aq_parse.specs.declared.mark.Mark.{Mark}
use Rattle.aq_parse.specs.declared.mark.Mark.TheVariants as marks
use Rattle.aq_parse.specs.declared.lexeme.Sort.{Sort}
use Rattle.aq_parse.specs.declared.lexeme.Sort.TheVariants as sorts

abbrev pub sign_mark : Symbol → Mark
sign_mark symbols.Semicolon = marks.Semicolon
sign_mark symbols.Comma = marks.Comma
sign_mark symbols.ParenOpen = marks.ParenOpen
sign_mark symbols.ParenClose = marks.ParenClose
sign_mark symbols.BracketOpen = marks.BracketOpen
sign_mark symbols.BracketClose = marks.BracketClose
sign_mark symbols.BraceOpen = marks.BraceOpen
sign_mark symbols.BraceClose = marks.BraceClose
sign_mark symbols.Assign = marks.Assign
sign_mark symbols.Equals = marks.Equals
sign_mark symbols.Bang = marks.Bang
sign_mark symbols.Minus = marks.Minus
sign_mark symbols.Arrow = marks.Arrow
sign_mark symbols.Star = marks.Star
sign_mark symbols.Slash = marks.Slash
sign_mark symbols.At = marks.At

-- a word is reserved, or it is a name
abbrev pub word_sort : Option Mark → Sort
word_sort (Some m) = sorts.Fixed m
word_sort None = sorts.Name

abbrev pub sort_at : Kind → List ℕ → Sort
sort_at kinds.Name text = word_sort (reserved text)
sort_at (kinds.Number n) text = sorts.Number n
sort_at kinds.Decimal text = sorts.Decimal
sort_at kinds.Quoted text = sorts.Quoted
sort_at kinds.Pi text = sorts.Fixed marks.PiSign
sort_at kinds.Note text = sorts.Note
sort_at (kinds.Symbol s) text = sorts.Fixed (sign_mark s)
sort_at kinds.End text = sorts.Fixed marks.End

abbrev pub piece : Token → List ℕ → Piece
piece t text = record { sort = sort_at t.kind text; text = text; at = t.at }

abbrev pub piece_of : List ℕ → Token → Piece
piece_of source t = piece t (slice_range source t.start t.end)

abbrev pub pieces : Listed → List Piece
pieces tokens = map (piece_of tokens.source) tokens.list
