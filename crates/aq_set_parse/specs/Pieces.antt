-- The tokens of a set file, as the grammar sees them.
use Rattle.std.specs.Prelude.{ℕ, List, Option, Some, None, map, slice_range}
use Rattle.aq_set_parse.specs.Listed.{SetListed}
use Rattle.aq_set_parse.specs.Piece.{SetPiece}
use Rattle.aq_set_parse.specs.Words.{reserved}
use Rattle.aq_set_parse.specs.declared.token.SetToken.{SetToken}
use Rattle.aq_set_parse.specs.declared.token.SetKind.{SetKind}
use Rattle.aq_set_parse.specs.declared.token.SetKind.TheVariants as kinds
use Rattle.aq_set_parse.specs.declared.token.SetSymbol.{SetSymbol}
use Rattle.aq_set_parse.specs.declared.token.SetSymbol.TheVariants as symbols
use Rattle.aq_set_parse.specs.declared.mark.SetMark.{SetMark}
use Rattle.aq_set_parse.specs.declared.mark.SetMark.TheVariants as marks
use Rattle.aq_set_parse.specs.declared.lexeme.SetSort.{SetSort}
use Rattle.aq_set_parse.specs.declared.lexeme.SetSort.TheVariants as sorts

abbrev pub sign_mark : SetSymbol → SetMark
sign_mark symbols.Assign = marks.Assign
sign_mark symbols.Equals = marks.Equals
sign_mark symbols.Semicolon = marks.Semicolon
sign_mark symbols.Comma = marks.Comma
sign_mark symbols.BracketOpen = marks.BracketOpen
sign_mark symbols.BracketClose = marks.BracketClose
sign_mark symbols.ParenOpen = marks.ParenOpen
sign_mark symbols.ParenClose = marks.ParenClose
sign_mark symbols.Star = marks.Star
sign_mark symbols.Caret = marks.Caret
sign_mark symbols.Plus = marks.Plus
sign_mark symbols.Minus = marks.Minus
sign_mark symbols.Slash = marks.Slash

-- a word is reserved, or it is a name
abbrev pub word_sort : Option SetMark → SetSort
word_sort (Some m) = sorts.Fixed m
word_sort None = sorts.Name

abbrev pub sort_at : SetKind → List ℕ → SetSort
sort_at kinds.Name text = word_sort (reserved text)
sort_at (kinds.Number n) text = sorts.Number n
sort_at kinds.Ket text = sorts.Ket
sort_at (kinds.Symbol s) text = sorts.Fixed (sign_mark s)
sort_at kinds.End text = sorts.Fixed marks.End

abbrev pub piece : SetToken → List ℕ → SetPiece
piece t text = record { sort = sort_at t.kind text; text = text; at = t.at }

abbrev pub piece_of : List ℕ → SetToken → SetPiece
piece_of source t = piece t (slice_range source t.start t.end)

abbrev pub pieces : SetListed → List SetPiece
pieces tokens = map (piece_of tokens.source) tokens.list
