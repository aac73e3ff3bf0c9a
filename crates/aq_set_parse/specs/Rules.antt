-- The lexical rules of set files: what each kind of token, blank and comment is, as a whole text. Names, blanks and
-- comments are those of programs. No rule says where a text ends: of all fronts the longest counts.
use Rattle.std.specs.Prelude.{◌≡◌, ℕ, ◌^◌, ◌<◌, ◌≤◌, ◌==◌, Bool, true, false, ◌&&◌, ◌||◌, ◌⊎◌, List, [], ◌∷◌, ◌++◌}
use Rattle.std.specs.List.{list_all}
use Rattle.aq_lex.specs.Bytes.{is_number, value}
use Rattle.aq_lex.specs.Rules.{is_name, IsBlank, IsLineComment, IsBlockComment, IsOpenComment}
use Rattle.aq_set_parse.specs.declared.token.SetSymbol.{SetSymbol}
use Rattle.aq_set_parse.specs.declared.token.SetSymbol.TheVariants.{Assign, Equals, Semicolon, Comma, BracketOpen, BracketClose, ParenOpen, ParenClose, Star, Caret, Plus, Minus, Slash}
use Rattle.aq_set_parse.specs.declared.token.SetKind.{SetKind}
use Rattle.aq_set_parse.specs.declared.token.SetKind.TheVariants as kind
use Rattle.aq_set_parse.specs.declared.token.SetClass.{SetClass}
use Rattle.aq_set_parse.specs.declared.token.SetClass.TheVariants as «class»

-- how each symbol is written
abbrev pub symbol_text : SetSymbol → List ℕ
symbol_text Assign = 61 ∷ []
symbol_text Equals = 61 ∷ 61 ∷ []
symbol_text Semicolon = 59 ∷ []
symbol_text Comma = 44 ∷ []
symbol_text BracketOpen = 91 ∷ []
symbol_text BracketClose = 93 ∷ []
symbol_text ParenOpen = 40 ∷ []
symbol_text ParenClose = 41 ∷ []
symbol_text Star = 42 ∷ []
symbol_text Caret = 94 ∷ []
symbol_text Plus = 43 ∷ []
symbol_text Minus = 45 ∷ []
symbol_text Slash = 47 ∷ []

-- the digit 0 or 1
abbrev pub is_bit : ℕ → Bool
is_bit b = b == 48 || b == 49

-- one digit 0 or 1, or more
abbrev pub is_bits : List ℕ → Bool
is_bits [] = false
is_bits (b ∷ bs) = is_bit b && list_all is_bit bs

-- a ket, the name of a basis state: `|`, one digit 0 or 1 or more, and `>`
abbrev pub IsKet : List ℕ → Type 0
IsKet text = (bits : List ℕ) × (text ≡ 124 ∷ (bits ++ 62 ∷ [])) × (is_bits bits ≡ true)

-- the text is a token of this kind
abbrev pub IsToken : SetKind → List ℕ → Type 0
IsToken kind.Name text = is_name text ≡ true
IsToken (kind.Number n) text = (is_number text ≡ true) × (n ≡ value text) × (n < 2 ^ 127)
IsToken kind.Ket text = IsKet text
IsToken (kind.Symbol s) text = text ≡ symbol_text s
IsToken kind.End text = ⊥

-- The text is a blank, a comment, a token or a fault; what stands before it doesn't count. An open comment is as long as
-- it can be, so a closed one, where there is one, is longer and counts. A `|` alone is a fault, and a ket is longer.
abbrev pub Is : List ℕ → SetClass → List ℕ → Type 0
Is before «class».Blank text = IsBlank text
Is before «class».Comment text = IsLineComment text ⊎ IsBlockComment text
Is before («class».Token k) text = IsToken k text
Is before «class».OpenComment text = IsOpenComment text
Is before «class».LongNumber text = (is_number text ≡ true) × (2 ^ 127 ≤ value text)
Is before «class».BadKet text = text ≡ 124 ∷ []
Is before («class».BadByte b) text = ⊥
