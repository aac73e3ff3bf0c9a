-- The tokens of the grammar, and the readers of one token.
use Rattle.std.specs.Prelude.{ℕ, ◌==◌, List, Option, Some, None, Result, Ok, Err, Bool, true, false, ◌||◌, is_some, if◌then◌else◌}
use Rattle.aq_grammar.specs.Words.{IsOne, IsToken}
use Rattle.aq_grammar.specs.Readers.{Reader, one_at, token_at, see_at}
use Rattle.aq_lex.specs.declared.place.Place.{Place}
use Rattle.aq_parse.specs.Words.{is_three, is_stdgates}
use Rattle.aq_lex.specs.Notes.{note_name, note_rest}
use Rattle.aq_parse.specs.declared.tree.Word.{Word}
use Rattle.aq_parse.specs.declared.tree.Note.{Note}
use Rattle.aq_parse.specs.Piece.{Piece}
use Rattle.aq_parse.specs.declared.mark.Mark.{Mark}
use Rattle.aq_parse.specs.declared.mark.Mark.TheVariants as marks
use Rattle.aq_parse.specs.declared.lexeme.Sort.{Sort}
use Rattle.aq_parse.specs.declared.lexeme.Sort.TheVariants as sorts
use Rattle.aq_parse.specs.declared.reader.Fault.{Fault}
use Rattle.aq_parse.specs.declared.reader.Fault.TheVariants as faults

abbrev pub code : Mark → ℕ
code marks.Openqasm = 0
code marks.Include = 1
code marks.Qubit = 2
code marks.Qreg = 3
code marks.Bit = 4
code marks.Creg = 5
code marks.Measure = 6
code marks.Reset = 7
code marks.Barrier = 8
code marks.If = 9
code marks.Else = 10
code marks.While = 11
code marks.Pi = 12
code marks.True = 13
code marks.False = 14
code marks.Foreign = 15
code marks.Semicolon = 16
code marks.Comma = 17
code marks.ParenOpen = 18
code marks.ParenClose = 19
code marks.BracketOpen = 20
code marks.BracketClose = 21
code marks.BraceOpen = 22
code marks.BraceClose = 23
code marks.Assign = 24
code marks.Equals = 25
code marks.Bang = 26
code marks.Minus = 27
code marks.Arrow = 28
code marks.Star = 29
code marks.Slash = 30
code marks.At = 31
code marks.PiSign = 32
code marks.End = 33

abbrev pub is_sort : Mark → Sort → Bool
is_sort m (sorts.Fixed k) = code k == code m
is_sort m sorts.Name = false
is_sort m (sorts.Number n) = false
is_sort m sorts.Decimal = false
is_sort m sorts.Quoted = false
is_sort m sorts.Note = false

abbrev pub is_mark : Mark → Piece → Bool
is_mark m t = is_sort m t.sort

abbrev pub sort_of : Option Piece → Option Sort
sort_of None = None
sort_of (Some t) = Some t.sort

abbrev pub shows : Mark → Option Sort → Bool
shows m None = false
shows m (Some s) = is_sort m s

-- a test of the next token
abbrev pub begins : Mark → Option Piece → Bool
begins m n = shows m (sort_of n)

-- the place of the next token
abbrev pub place_of : Option Piece → Place
place_of None = record { line = 0; column = 0 }
place_of (Some t) = t.at

abbrev pub IsMark : Mark → List Piece → Type 0
IsMark m = IsOne (is_mark m)

abbrev pub mark_at : Mark → Reader Piece Fault (Unit {0})
mark_at m = one_at faults.Unexpected (is_mark m)

-- ---- a name

abbrev pub is_name : Sort → Bool
is_name (sorts.Fixed k) = false
is_name sorts.Name = true
is_name (sorts.Number n) = false
is_name sorts.Decimal = false
is_name sorts.Quoted = false
is_name sorts.Note = false

abbrev pub word_of : Piece → Word
word_of t = record { text = t.text; at = t.at }

abbrev pub when : {A : Type 0} → Bool → A → Option A
when true x = Some x
when false x = None

abbrev pub name_of : Piece → Option Word
name_of t = when (is_name t.sort) (word_of t)

abbrev pub IsName : Word → List Piece → Type 0
IsName = IsToken name_of

abbrev pub name_at : Reader Piece Fault Word
name_at = token_at faults.Unexpected name_of

abbrev pub shows_name : Option Sort → Bool
shows_name None = false
shows_name (Some s) = is_name s

abbrev pub begins_name : Option Piece → Bool
begins_name n = shows_name (sort_of n)

-- ---- a number

abbrev pub number_in : Sort → Option ℕ
number_in (sorts.Fixed k) = None
number_in sorts.Name = None
number_in (sorts.Number n) = Some n
number_in sorts.Decimal = None
number_in sorts.Quoted = None
number_in sorts.Note = None

abbrev pub number_of : Piece → Option ℕ
number_of t = number_in t.sort

abbrev pub IsNumber : ℕ → List Piece → Type 0
IsNumber = IsToken number_of

abbrev pub number_at : Reader Piece Fault ℕ
number_at = token_at faults.Unexpected number_of

abbrev pub shows_number : Option Sort → Bool
shows_number None = false
shows_number (Some s) = is_some (number_in s)

abbrev pub begins_number : Option Piece → Bool
begins_number n = shows_number (sort_of n)

-- ---- `pi`, as a word or as a sign

abbrev pub is_pi : Piece → Bool
is_pi t = is_sort marks.Pi t.sort || is_sort marks.PiSign t.sort

abbrev pub IsPi : List Piece → Type 0
IsPi = IsOne is_pi

abbrev pub pi_at : Reader Piece Fault (Unit {0})
pi_at = one_at faults.Unexpected is_pi

-- ---- the value of a test: 0 or 1, as any number of that value, or a word

abbrev pub value_in : Sort → Option Bool
value_in (sorts.Fixed k) = if code k == code marks.True then Some true else (if code k == code marks.False then Some false else None)
value_in sorts.Name = None
value_in (sorts.Number n) = if n == 0 then Some false else (if n == 1 then Some true else None)
value_in sorts.Decimal = None
value_in sorts.Quoted = None
value_in sorts.Note = None

abbrev pub value_of : Piece → Option Bool
value_of t = value_in t.sort

abbrev pub IsValue : Bool → List Piece → Type 0
IsValue = IsToken value_of

abbrev pub value_at : Reader Piece Fault Bool
value_at = token_at faults.Unexpected value_of

-- ---- the number of a version, and the text of an include, where it is taken

abbrev pub taken_if : Bool → Result (Unit {0}) Fault
taken_if true = Ok tt
taken_if false = Err faults.NotTaken

-- the language's version: the number 3, or a decimal whose part before the point is `3`
abbrev pub version_in : Sort → List ℕ → Result (Unit {0}) Fault
version_in (sorts.Fixed k) text = Err faults.Unexpected
version_in sorts.Name text = Err faults.Unexpected
version_in (sorts.Number n) text = taken_if (n == 3)
version_in sorts.Decimal text = taken_if (is_three text)
version_in sorts.Quoted text = Err faults.Unexpected
version_in sorts.Note text = Err faults.Unexpected

abbrev pub version_of : Piece → Result (Unit {0}) Fault
version_of t = version_in t.sort t.text

-- the library of gates
abbrev pub library_in : Sort → List ℕ → Result (Unit {0}) Fault
library_in (sorts.Fixed k) text = Err faults.Unexpected
library_in sorts.Name text = Err faults.Unexpected
library_in (sorts.Number n) text = Err faults.Unexpected
library_in sorts.Decimal text = Err faults.Unexpected
library_in sorts.Quoted text = taken_if (is_stdgates text)
library_in sorts.Note text = Err faults.Unexpected

abbrev pub library_of : Piece → Result (Unit {0}) Fault
library_of t = library_in t.sort t.text

abbrev pub three_at : Reader Piece Fault (Unit {0})
three_at = see_at faults.Unexpected version_of

abbrev pub library_at : Reader Piece Fault (Unit {0})
library_at = see_at faults.Unexpected library_of

-- ---- a note

abbrev pub is_note_sort : Sort → Bool
is_note_sort (sorts.Fixed k) = false
is_note_sort sorts.Name = false
is_note_sort (sorts.Number n) = false
is_note_sort sorts.Decimal = false
is_note_sort sorts.Quoted = false
is_note_sort sorts.Note = true

abbrev pub note_of : Piece → Option Note
note_of t = when (is_note_sort t.sort) (record { name = record { text = note_name t.text; at = t.at }; rest = note_rest t.text })

abbrev pub IsNote : Note → List Piece → Type 0
IsNote = IsToken note_of

abbrev pub note_at : Reader Piece Fault Note
note_at = token_at faults.Unexpected note_of

abbrev pub shows_note : Option Sort → Bool
shows_note None = false
shows_note (Some s) = is_note_sort s

abbrev pub begins_note : Option Piece → Bool
begins_note n = shows_note (sort_of n)

-- ---- the end of the text, with its place

abbrev pub end_of : Piece → Option Place
end_of t = when (is_mark marks.End t) t.at

abbrev pub IsEnd : Place → List Piece → Type 0
IsEnd = IsToken end_of

abbrev pub end_at : Reader Piece Fault Place
end_at = token_at faults.Unexpected end_of
