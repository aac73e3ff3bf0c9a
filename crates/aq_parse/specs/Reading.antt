-- The reader of the grammar, place by place.
use Rattle.std.specs.Prelude.{ℕ, zero, suc, List, [], ◌∷◌, Option, Some, None, Result, Ok, Err, Bool, true, false, ◌||◌, not, ◌⊎◌, is_some}
use Rattle.std.proofs.Common.{inl, inr}
use Rattle.aq_lex.specs.declared.place.Place.{Place}
use Rattle.aq_grammar.specs.Readers.{Reader, ◌>>=◌, both, mapped, after, before, switch, choice, optional, many, separated, then_maybe, placed, refuse}
use Rattle.aq_parse.specs.Piece.{Piece}
use Rattle.aq_parse.specs.Tokens.{sort_of, begins, begins_name, begins_number, begins_note, place_of, mark_at, name_at, number_at, pi_at, value_at, three_at, library_at, note_at, end_at}
use Rattle.aq_parse.specs.Grammar.{or_one}
use Rattle.aq_parse.specs.declared.mark.Mark.{Mark}
use Rattle.aq_parse.specs.declared.mark.Mark.TheVariants as marks
use Rattle.aq_parse.specs.declared.lexeme.Sort.{Sort}
use Rattle.aq_parse.specs.declared.lexeme.Sort.TheVariants as sorts
use Rattle.aq_parse.specs.declared.reader.Fault.{Fault}
use Rattle.aq_parse.specs.declared.reader.Fault.TheVariants as faults
use Rattle.aq_parse.specs.declared.reader.Start.{Start}
use Rattle.aq_parse.specs.declared.reader.Start.TheVariants as starts
use Rattle.aq_parse.specs.declared.reader.Opening.{Opening}
use Rattle.aq_parse.specs.declared.reader.Opening.TheVariants as openings
use Rattle.aq_parse.specs.declared.tree.Word.{Word}
use Rattle.aq_parse.specs.declared.tree.Note.{Note}
use Rattle.aq_parse.specs.declared.tree.Spot.{Spot}
use Rattle.aq_parse.specs.declared.tree.Angle.{Angle}
use Rattle.aq_parse.specs.declared.tree.Test.{Test}
use Rattle.aq_parse.specs.declared.tree.Item.{Item}
use Rattle.aq_parse.specs.declared.tree.Tree.{Tree}
use Rattle.aq_parse.specs.declared.tree.Node.{Node}
use Rattle.aq_parse.specs.declared.tree.Node.TheVariants as nodes

abbrev pub Read : Type 0 → Type 0
Read A = Reader Piece Fault A

-- ---- spots

unfoldable pub size_at : List Piece → Result (ℕ × List Piece) (Fault × List Piece)
size_at = after (mark_at marks.BracketOpen) (before number_at (mark_at marks.BracketClose))

abbrev pub maybe_size_at : List Piece → Result (Option ℕ × List Piece) (Fault × List Piece)
maybe_size_at = optional (begins marks.BracketOpen) size_at

abbrev pub spot_of : Word × Option ℕ → Spot
spot_of v = record { name = v.0; index = v.1 }

unfoldable pub spot_at : Read Spot
spot_at = mapped spot_of (both name_at maybe_size_at)

unfoldable pub spots_at : Read (List Spot)
spots_at = separated (begins marks.Comma) (mark_at marks.Comma) spot_at

unfoldable pub source_at : Read Spot
source_at = after (mark_at marks.Assign) (after (mark_at marks.Measure) spot_at)

unfoldable pub target_at : Read Spot
target_at = after (mark_at marks.Arrow) spot_at

-- ---- angles

unfoldable pub divisor_at : Read ℕ
divisor_at = after (mark_at marks.Slash) number_at

-- pi, and what divides it
unfoldable pub turn_at : Read (Option ℕ)
turn_at = after pi_at (optional (begins marks.Slash) divisor_at)

unfoldable pub times_turn_at : Read (Option ℕ)
times_turn_at = after (mark_at marks.Star) turn_at

-- times, pi, over
abbrev pub Amount : Type 0
Amount = ℕ × (Bool × ℕ)

abbrev pub counted_of : ℕ × Option (Option ℕ) → Amount
counted_of (n, None) = (n, (false, 1))
counted_of (n, Some over) = (n, (true, or_one over))

abbrev pub turn_of : Option ℕ → Amount
turn_of over = (1, (true, or_one over))

unfoldable pub counted_at : Read Amount
counted_at = mapped counted_of (both number_at (optional (begins marks.Star) times_turn_at))

unfoldable pub amount_at : Read Amount
amount_at = choice begins_number counted_at (mapped turn_of turn_at)

unfoldable pub sign_at : Read Bool
sign_at = mapped is_some (optional (begins marks.Minus) (mark_at marks.Minus))

abbrev pub angle_of : Place × (Bool × Amount) → Angle
angle_of v = record { at = v.0; minus = v.1.0; times = v.1.1.0; pi = v.1.1.1.0; over = v.1.1.1.1 }

unfoldable pub angle_at : Read Angle
angle_at = mapped angle_of (placed place_of (both sign_at amount_at))

unfoldable pub angled_at : Read Angle
angled_at = after (mark_at marks.ParenOpen) (before angle_at (mark_at marks.ParenClose))

-- ---- tests

abbrev pub clear_of : Spot → Test
clear_of s = record { spot = s; value = false }

abbrev pub or_true : Option Bool → Bool
or_true (Some b) = b
or_true None = true

abbrev pub equal_of : Spot × Option Bool → Test
equal_of v = record { spot = v.0; value = or_true v.1 }

unfoldable pub equals_at : Read Bool
equals_at = after (mark_at marks.Equals) value_at

unfoldable pub clear_at : Read Test
clear_at = mapped clear_of (after (mark_at marks.Bang) spot_at)

unfoldable pub equal_at : Read Test
equal_at = mapped equal_of (both spot_at (optional (begins marks.Equals) equals_at))

unfoldable pub test_at : Read Test
test_at = choice (begins marks.Bang) clear_at equal_at

unfoldable pub head_at : Mark → Read Test
head_at word = after (mark_at word) (after (mark_at marks.ParenOpen) (before test_at (mark_at marks.ParenClose)))

-- ---- statements without bodies

abbrev pub include_of : Unit {0} → Node
include_of u = nodes.Include

unfoldable pub include_at : Read Node
include_at = mapped include_of (after (mark_at marks.Include) (before library_at (mark_at marks.Semicolon)))

abbrev pub qubit_of : Option ℕ × Word → Node
qubit_of v = nodes.Qubits v.1 v.0

unfoldable pub qubit_at : Read Node
qubit_at = mapped qubit_of (after (mark_at marks.Qubit) (both maybe_size_at (before name_at (mark_at marks.Semicolon))))

-- a name and its size, behind a word
unfoldable pub register_at : Mark → Read (Word × Option ℕ)
register_at word = after (mark_at word) (both name_at (before maybe_size_at (mark_at marks.Semicolon)))

abbrev pub qreg_of : Word × Option ℕ → Node
qreg_of v = nodes.Qubits v.0 v.1

unfoldable pub qreg_at : Read Node
qreg_at = mapped qreg_of (register_at marks.Qreg)

abbrev pub creg_of : Word × Option ℕ → Node
creg_of v = nodes.Bits v.0 v.1 None

unfoldable pub creg_at : Read Node
creg_at = mapped creg_of (register_at marks.Creg)

abbrev pub bit_of : Option ℕ × (Word × Option Spot) → Node
bit_of v = nodes.Bits v.1.0 v.0 v.1.1

unfoldable pub bit_at : Read Node
bit_at = mapped bit_of (after (mark_at marks.Bit) (both maybe_size_at (both name_at (before (optional (begins marks.Assign) source_at) (mark_at marks.Semicolon)))))

abbrev pub measure_of : Spot × Option Spot → Node
measure_of v = nodes.Measure v.0 v.1 false

unfoldable pub measure_at : Read Node
measure_at = mapped measure_of (after (mark_at marks.Measure) (both spot_at (before (optional (begins marks.Arrow) target_at) (mark_at marks.Semicolon))))

abbrev pub reset_of : Spot → Node
reset_of s = nodes.Reset s

unfoldable pub reset_at : Read Node
reset_at = mapped reset_of (after (mark_at marks.Reset) (before spot_at (mark_at marks.Semicolon)))

-- what may be left out, as a list
abbrev pub listed : {A : Type 0} → Option (List A) → List A
listed (Some xs) = xs
listed None = []

unfoldable pub maybe_spots_at : Read (List Spot)
maybe_spots_at = mapped listed (optional begins_name spots_at)

abbrev pub barrier_of : List Spot → Node
barrier_of spots = nodes.Barrier spots

unfoldable pub barrier_at : Read Node
barrier_at = mapped barrier_of (after (mark_at marks.Barrier) (before maybe_spots_at (mark_at marks.Semicolon)))

-- what follows a name at the begin of a statement
abbrev pub Tail : Type 0
Tail = (Option ℕ × Spot) ⊎ (Option Angle × List Spot)

abbrev pub assigns : Option Piece → Bool
assigns n = begins marks.BracketOpen n || begins marks.Assign n

unfoldable pub assign_tail_at : Read (Option ℕ × Spot)
assign_tail_at = both maybe_size_at (before source_at (mark_at marks.Semicolon))

unfoldable pub call_tail_at : Read (Option Angle × List Spot)
call_tail_at = both (optional (begins marks.ParenOpen) angled_at) (before spots_at (mark_at marks.Semicolon))

abbrev pub named_of : Word × Tail → Node
named_of v = elim v.1 [ inl t ↦ nodes.Measure t.1 (Some (spot_of (v.0, t.0))) true | inr t ↦ nodes.Call v.0 t.0 t.1 ]

unfoldable pub named_at : Read Node
named_at = mapped named_of (both name_at (choice assigns (mapped inl assign_tail_at) (mapped inr call_tail_at)))

-- which statement begins with the token
abbrev pub start_at : Mark → Start
start_at marks.Include = starts.Include
start_at marks.Qubit = starts.Qubit
start_at marks.Qreg = starts.Qreg
start_at marks.Bit = starts.Bit
start_at marks.Creg = starts.Creg
start_at marks.Measure = starts.Measure
start_at marks.Reset = starts.Reset
start_at marks.Barrier = starts.Barrier
start_at _ = starts.Named

abbrev pub start_in : Option Sort → Start
start_in (Some (sorts.Fixed m)) = start_at m
start_in _ = starts.Named

abbrev pub start_of : Option Piece → Start
start_of n = start_in (sort_of n)

abbrev pub simple_by : Start → Read Node
simple_by starts.Include = include_at
simple_by starts.Qubit = qubit_at
simple_by starts.Qreg = qreg_at
simple_by starts.Bit = bit_at
simple_by starts.Creg = creg_at
simple_by starts.Measure = measure_at
simple_by starts.Reset = reset_at
simple_by starts.Barrier = barrier_at
simple_by starts.Named = named_at

unfoldable pub simple_at : Read Node
simple_at = switch start_of simple_by

-- ---- statements, over a reader of bodies

abbrev pub Inner : Type 0
Inner = Read (List Item)

abbrev pub if_of : Test × (List Item × Option (List Item)) → Node
if_of v = nodes.If v.0 v.1.0 (listed v.1.1)

unfoldable pub if_at : Inner → Read Node
if_at body = mapped if_of (both (head_at marks.If) (then_maybe (begins marks.Else) body (after (mark_at marks.Else) body)))

abbrev pub while_of : Test × List Item → Node
while_of v = nodes.While v.0 v.1

unfoldable pub while_at : Inner → Read Node
while_at body = mapped while_of (both (head_at marks.While) body)

abbrev pub opening_at : Mark → Opening
opening_at marks.If = openings.If
opening_at marks.While = openings.While
opening_at marks.Foreign = openings.Foreign
opening_at _ = openings.Simple

abbrev pub opening_in : Option Sort → Opening
opening_in (Some (sorts.Fixed m)) = opening_at m
opening_in _ = openings.Simple

abbrev pub opening_of : Option Piece → Opening
opening_of n = opening_in (sort_of n)

abbrev pub bare_by : Inner → Opening → Read Node
bare_by body openings.If = if_at body
bare_by body openings.While = while_at body
bare_by body openings.Foreign = refuse faults.NotTaken
bare_by body openings.Simple = simple_at

unfoldable pub bare_at : Inner → Read Node
bare_at body = switch opening_of (bare_by body)

abbrev pub item_of : List Note × (Place × Node) → Item
item_of v = record { notes = v.0; at = v.1.0; node = v.1.1 }

unfoldable pub notes_at : Read (List Note)
notes_at = many begins_note note_at

unfoldable pub item_at : Inner → Read Item
item_at body = mapped item_of (both notes_at (placed place_of (bare_at body)))

abbrev pub open_inside : Option Piece → Bool
open_inside n = not (begins marks.BraceClose n)

abbrev pub open_outside : Option Piece → Bool
open_outside n = not (begins marks.End n)

abbrev pub alone : Item → List Item
alone x = x ∷ []

unfoldable pub block_at : Inner → Read (List Item)
block_at body = after (mark_at marks.BraceOpen) (before (many open_inside (item_at body)) (mark_at marks.BraceClose))

-- a body, whose statements have bodies that `body` reads
unfoldable pub inside_at : Inner → Read (List Item)
inside_at body = choice (begins marks.BraceOpen) (block_at body) (mapped alone (item_at body))

-- a body, in which bodies may nest so deep, itself included
unfoldable pub body_at : ℕ → Read (List Item)
body_at zero = refuse faults.TooDeep
body_at (suc deep) = inside_at (body_at deep)

-- ---- programs

unfoldable pub version_at : Read (Unit {0})
version_at = after (mark_at marks.Openqasm) (before three_at (mark_at marks.Semicolon))

abbrev pub forgotten : {A : Type 0} → A → Unit {0}
forgotten x = tt

unfoldable pub maybe_version_at : Read (Unit {0})
maybe_version_at = mapped forgotten (optional (begins marks.Openqasm) version_at)

abbrev pub tree_of : List Item × Place → Tree
tree_of v = record { items = v.0; end = v.1 }

unfoldable pub program_at : ℕ → Read Tree
program_at deep = mapped tree_of (after maybe_version_at (both (many open_outside (item_at (body_at deep))) end_at))

-- a program, and nothing behind it
abbrev pub ended : Tree × List Piece → Result (Tree × List Piece) (Fault × List Piece)
ended (tree, []) = Ok (tree, [])
ended (tree, t ∷ ts) = Err (faults.Unexpected, t ∷ ts)

unfoldable pub whole_at : ℕ → Read Tree
whole_at deep ts = program_at deep ts >>= ended
