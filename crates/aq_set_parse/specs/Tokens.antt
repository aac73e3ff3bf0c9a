-- The tokens of the grammar of set files, and the readers of one token.
use Rattle.std.specs.Prelude.{ℕ, ◌==◌, List, Option, Some, None, Bool, true, false, is_some, if◌then◌else◌}
use Rattle.aq_grammar.specs.Words.{IsOne, IsToken}
use Rattle.aq_grammar.specs.Readers.{Reader, one_at, token_at}
use Rattle.aq_lex.specs.declared.place.Place.{Place}
use Rattle.aq_set_parse.specs.Piece.{SetPiece}
use Rattle.aq_set_parse.specs.declared.tree.SetWord.{SetWord}
use Rattle.aq_set_parse.specs.declared.mark.SetMark.{SetMark}
use Rattle.aq_set_parse.specs.declared.mark.SetMark.TheVariants as marks
use Rattle.aq_set_parse.specs.declared.lexeme.SetSort.{SetSort}
use Rattle.aq_set_parse.specs.declared.lexeme.SetSort.TheVariants as sorts
use Rattle.aq_set_parse.specs.declared.reader.Fault.{Fault}
use Rattle.aq_set_parse.specs.declared.reader.Fault.TheVariants as faults

abbrev pub code : SetMark → ℕ
code marks.Set = 0
code marks.Claim = 1
code marks.When = 2
code marks.And = 3
code marks.Union = 4
code marks.All = 5
code marks.Omega = 6
code marks.Imaginary = 7
code marks.Root = 8
code marks.Assign = 9
code marks.Equals = 10
code marks.Semicolon = 11
code marks.Comma = 12
code marks.BracketOpen = 13
code marks.BracketClose = 14
code marks.ParenOpen = 15
code marks.ParenClose = 16
code marks.Star = 17
code marks.Caret = 18
code marks.Plus = 19
code marks.Minus = 20
code marks.Slash = 21
code marks.End = 22

abbrev pub is_sort : SetMark → SetSort → Bool
is_sort m (sorts.Fixed k) = code k == code m
is_sort m sorts.Name = false
is_sort m (sorts.Number n) = false
is_sort m sorts.Ket = false

abbrev pub is_mark : SetMark → SetPiece → Bool
is_mark m t = is_sort m t.sort

abbrev pub sort_of : Option SetPiece → Option SetSort
sort_of None = None
sort_of (Some t) = Some t.sort

abbrev pub shows : SetMark → Option SetSort → Bool
shows m None = false
shows m (Some s) = is_sort m s

-- a test of the next token
abbrev pub begins : SetMark → Option SetPiece → Bool
begins m n = shows m (sort_of n)

-- the place of the next token
abbrev pub place_of : Option SetPiece → Place
place_of None = record { line = 0; column = 0 }
place_of (Some t) = t.at

abbrev pub IsMark : SetMark → List SetPiece → Type 0
IsMark m = IsOne (is_mark m)

abbrev pub mark_at : SetMark → Reader SetPiece Fault (Unit {0})
mark_at m = one_at faults.Unexpected (is_mark m)

-- ---- a name, and a ket

abbrev pub word_of : SetPiece → SetWord
word_of t = record { text = t.text; at = t.at }

abbrev pub when : {A : Type 0} → Bool → A → Option A
when true x = Some x
when false x = None

abbrev pub is_name : SetSort → Bool
is_name (sorts.Fixed k) = false
is_name sorts.Name = true
is_name (sorts.Number n) = false
is_name sorts.Ket = false

abbrev pub name_of : SetPiece → Option SetWord
name_of t = when (is_name t.sort) (word_of t)

abbrev pub IsName : SetWord → List SetPiece → Type 0
IsName = IsToken name_of

abbrev pub name_at : Reader SetPiece Fault SetWord
name_at = token_at faults.Unexpected name_of

abbrev pub is_ket : SetSort → Bool
is_ket (sorts.Fixed k) = false
is_ket sorts.Name = false
is_ket (sorts.Number n) = false
is_ket sorts.Ket = true

abbrev pub ket_of : SetPiece → Option SetWord
ket_of t = when (is_ket t.sort) (word_of t)

abbrev pub IsKet : SetWord → List SetPiece → Type 0
IsKet = IsToken ket_of

abbrev pub ket_at : Reader SetPiece Fault SetWord
ket_at = token_at faults.Unexpected ket_of

abbrev pub shows_ket : Option SetSort → Bool
shows_ket None = false
shows_ket (Some s) = is_ket s

abbrev pub begins_ket : Option SetPiece → Bool
begins_ket n = shows_ket (sort_of n)

-- ---- a number

abbrev pub number_in : SetSort → Option ℕ
number_in (sorts.Fixed k) = None
number_in sorts.Name = None
number_in (sorts.Number n) = Some n
number_in sorts.Ket = None

abbrev pub number_of : SetPiece → Option ℕ
number_of t = number_in t.sort

abbrev pub IsNumber : ℕ → List SetPiece → Type 0
IsNumber = IsToken number_of

abbrev pub number_at : Reader SetPiece Fault ℕ
number_at = token_at faults.Unexpected number_of

abbrev pub shows_number : Option SetSort → Bool
shows_number None = false
shows_number (Some s) = is_some (number_in s)

abbrev pub begins_number : Option SetPiece → Bool
begins_number n = shows_number (sort_of n)

-- ---- the value of a condition: any number of the value 0 or 1

abbrev pub value_in : SetSort → Option Bool
value_in (sorts.Fixed k) = None
value_in sorts.Name = None
value_in (sorts.Number n) = if n == 0 then Some false else (if n == 1 then Some true else None)
value_in sorts.Ket = None

abbrev pub value_of : SetPiece → Option Bool
value_of t = value_in t.sort

abbrev pub IsValue : Bool → List SetPiece → Type 0
IsValue = IsToken value_of

abbrev pub value_at : Reader SetPiece Fault Bool
value_at = token_at faults.Unexpected value_of

-- ---- the sign between two terms, and whether it is a minus

abbrev pub minus_in : SetSort → Option Bool
minus_in (sorts.Fixed k) = if code k == code marks.Minus then Some true else (if code k == code marks.Plus then Some false else None)
minus_in sorts.Name = None
minus_in (sorts.Number n) = None
minus_in sorts.Ket = None

abbrev pub minus_of : SetPiece → Option Bool
minus_of t = minus_in t.sort

abbrev pub IsPlusOrMinus : Bool → List SetPiece → Type 0
IsPlusOrMinus = IsToken minus_of

abbrev pub plus_or_minus_at : Reader SetPiece Fault Bool
plus_or_minus_at = token_at faults.Unexpected minus_of

abbrev pub shows_sign : Option SetSort → Bool
shows_sign None = false
shows_sign (Some s) = is_some (minus_in s)

abbrev pub begins_sign : Option SetPiece → Bool
begins_sign n = shows_sign (sort_of n)
