-- What the front of a set file is, computed from its first bytes.
use Rattle.std.specs.Prelude.{ℕ, ◌+◌, ◌^◌, ◌==◌, ◌&&◌, List, ◌∷◌, take, drop, Option, None, Some, if◌then◌else◌, nat_lt}
use Rattle.std.specs.List.{prefix_len}
use Rattle.aq_lex.specs.Bytes.{is_letter, is_digit, is_word, is_blank, begins, value}
use Rattle.aq_lex.specs.Fronts.{slash_front}
use Rattle.aq_lex.specs.declared.token.Class.{Class}
use Rattle.aq_lex.specs.declared.token.Class.TheVariants as program
use Rattle.aq_set_parse.specs.Rules.{is_bit}
use Rattle.aq_set_parse.specs.declared.token.SetSymbol.{SetSymbol}
use Rattle.aq_set_parse.specs.declared.token.SetSymbol.TheVariants as symbol
use Rattle.aq_set_parse.specs.declared.token.SetKind.TheVariants as kind
use Rattle.aq_set_parse.specs.declared.token.SetClass.{SetClass}
use Rattle.aq_set_parse.specs.declared.token.SetClass.TheVariants as «class»
use Rattle.aq_set_parse.specs.declared.token.SetFound.{SetFound}

-- a piece of this class and length
abbrev pub found : SetClass → ℕ → SetFound
found c n = record { class = c; len = n }

-- what a piece that begins with `/` is, by what it is in a program
abbrev pub slash_class : Class → SetClass
slash_class program.Comment = «class».Comment
slash_class program.OpenComment = «class».OpenComment
slash_class program.Blank = «class».Token (kind.Symbol symbol.Slash)
slash_class (program.Token k) = «class».Token (kind.Symbol symbol.Slash)
slash_class program.OpenText = «class».Token (kind.Symbol symbol.Slash)
slash_class program.LongNumber = «class».Token (kind.Symbol symbol.Slash)
slash_class (program.BadByte b) = «class».Token (kind.Symbol symbol.Slash)

-- behind `/`, as in a program
abbrev pub comment_front : List ℕ → SetFound
comment_front bs = found (slash_class (slash_front bs).class) (slash_front bs).len

-- behind `|`: a ket, where digits 0 and 1 and then a `>` stand there
abbrev pub ket_front : List ℕ → SetFound
ket_front bs =
    let n = prefix_len is_bit bs in
    if nat_lt 0 n && begins 62 (drop n bs) then found («class».Token kind.Ket) (n + 2) else found «class».BadKet 1

-- digits
abbrev pub number_class : ℕ → SetClass
number_class n = if nat_lt n (2 ^ 127) then «class».Token (kind.Number n) else «class».LongNumber

-- digits, and what is behind them
abbrev pub number_front : List ℕ → SetFound
number_front bs = let n = prefix_len is_digit bs in found (number_class (value (take n bs))) n

-- behind `=`
abbrev pub equals_front : List ℕ → SetFound
equals_front bs = if begins 61 bs then found («class».Token (kind.Symbol symbol.Equals)) 2 else found («class».Token (kind.Symbol symbol.Assign)) 1

-- the symbol that this byte is, whatever stands behind it
abbrev pub symbol_alone : ℕ → Option SetSymbol
symbol_alone b =
    if b == 59 then Some symbol.Semicolon
    else (if b == 44 then Some symbol.Comma
    else (if b == 91 then Some symbol.BracketOpen
    else (if b == 93 then Some symbol.BracketClose
    else (if b == 40 then Some symbol.ParenOpen
    else (if b == 41 then Some symbol.ParenClose
    else (if b == 42 then Some symbol.Star
    else (if b == 94 then Some symbol.Caret
    else (if b == 43 then Some symbol.Plus
    else (if b == 45 then Some symbol.Minus
    else None)))))))))

-- a symbol of one byte, or a bad byte
abbrev pub alone : ℕ → Option SetSymbol → SetFound
alone b (Some s) = found («class».Token (kind.Symbol s)) 1
alone b None = found («class».BadByte b) 1

-- the first byte is a sign
unfoldable pub set_sign_front : ℕ → List ℕ → SetFound
set_sign_front b bs =
    if b == 47 then comment_front bs
    else (if b == 124 then ket_front bs
    else (if b == 61 then equals_front bs
    else alone b (symbol_alone b)))

-- what stands at the front of b and bs
unfoldable pub set_front : ℕ → List ℕ → SetFound
set_front b bs =
    if is_letter b then found («class».Token kind.Name) (prefix_len is_word bs + 1)
    else (if is_digit b then number_front (b ∷ bs)
    else (if is_blank b then found «class».Blank 1
    else set_sign_front b bs))
