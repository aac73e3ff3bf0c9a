-- The words of the language.
use Rattle.std.specs.Prelude.{ℕ, Bool, ◌||◌, ◌&&◌, List, [], ◌∷◌, ◌++◌, Option, Some, None, codes, drop, if◌then◌else◌}
use Rattle.std.specs.List.{list_any}
use Rattle.std.specs.Str.{bytes_eq}
use Rattle.aq_lex.specs.Bytes.{begins}
use Rattle.aq_parse.specs.declared.mark.Mark.{Mark}
use Rattle.aq_parse.specs.declared.mark.Mark.TheVariants as marks

-- the mark that stands beside a text in a table
abbrev pub lookup : List ℕ → List (List ℕ × Mark) → Option Mark
lookup text [] = None
lookup text (row ∷ rows) = if bytes_eq text row.0 then Some row.1 else lookup text rows

-- the words that begin and divide statements, and the others
unfoldable pub statement_words : List (List ℕ × Mark)
statement_words =
    (codes "OPENQASM", marks.Openqasm) ∷
    (codes "include", marks.Include) ∷
    (codes "qubit", marks.Qubit) ∷
    (codes "qreg", marks.Qreg) ∷
    (codes "bit", marks.Bit) ∷
    (codes "creg", marks.Creg) ∷
    (codes "measure", marks.Measure) ∷
    (codes "reset", marks.Reset) ∷
    (codes "barrier", marks.Barrier) ∷
    []

unfoldable pub other_words : List (List ℕ × Mark)
other_words =
    (codes "if", marks.If) ∷
    (codes "else", marks.Else) ∷
    (codes "while", marks.While) ∷
    (codes "pi", marks.Pi) ∷
    (codes "true", marks.True) ∷
    (codes "false", marks.False) ∷
    []

-- the words that begin what is not taken
unfoldable pub gate_words : List (List ℕ)
gate_words = codes "gate" ∷ codes "ctrl" ∷ codes "negctrl" ∷ codes "inv" ∷ codes "pow" ∷ codes "gphase" ∷ codes "for" ∷ []

unfoldable pub box_words : List (List ℕ)
box_words = codes "def" ∷ codes "extern" ∷ codes "delay" ∷ codes "box" ∷ codes "defcal" ∷ codes "cal" ∷ codes "defcalgrammar" ∷ []

unfoldable pub type_words : List (List ℕ)
type_words = codes "input" ∷ codes "output" ∷ codes "let" ∷ codes "const" ∷ codes "int" ∷ codes "uint" ∷ codes "float" ∷ []

unfoldable pub unit_words : List (List ℕ)
unit_words = codes "angle" ∷ codes "bool" ∷ codes "complex" ∷ codes "duration" ∷ codes "stretch" ∷ codes "array" ∷ codes "return" ∷ []

unfoldable pub flow_words : List (List ℕ)
flow_words = codes "break" ∷ codes "continue" ∷ codes "end" ∷ codes "switch" ∷ codes "pragma" ∷ []

abbrev pub is_one_of : List (List ℕ) → List ℕ → Bool
is_one_of words text = list_any (λ word. bytes_eq text word) words

abbrev pub is_foreign : List ℕ → Bool
is_foreign text = is_one_of gate_words text || (is_one_of box_words text || (is_one_of type_words text || (is_one_of unit_words text || is_one_of flow_words text)))

-- the mark of a word that is reserved
abbrev pub or_mark : Option Mark → Option Mark → Option Mark
or_mark (Some m) other = Some m
or_mark None other = other

abbrev pub foreign_mark : List ℕ → Option Mark
foreign_mark text = if is_foreign text then Some marks.Foreign else None

unfoldable pub reserved : List ℕ → Option Mark
reserved text = or_mark (lookup text statement_words) (or_mark (lookup text other_words) (foreign_mark text))

-- a decimal whose part before the point is `3`
abbrev pub is_three : List ℕ → Bool
is_three text = begins 51 text && begins 46 (drop 1 text)

-- the text `stdgates.inc` in quotes of either kind
abbrev pub is_stdgates : List ℕ → Bool
is_stdgates text = bytes_eq text (34 ∷ (codes "stdgates.inc" ++ 34 ∷ [])) || bytes_eq text (39 ∷ (codes "stdgates.inc" ++ 39 ∷ []))
