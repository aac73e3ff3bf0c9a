-- The gates by name. The matrices are this project's own choice; their names are those of OpenQASM 3.0's standard library,
-- which other tools may give other global phases.
use Rattle.std.specs.Prelude.{ℕ, ◌+◌, ◌-◌, ◌%◌, ◌==◌, ℤ, pos, unsigned_abs, int_div, List, [], ◌∷◌, slice_index_or, Option, Some, None, if◌then◌else◌, codes}
use Rattle.std.specs.Int.{int_rem_euclid}
use Rattle.std.specs.Option.{option_or}
use Rattle.std.specs.Str.{bytes_eq}
use Rattle.aq_prog.specs.declared.gate.Entry.{Entry}
use Rattle.aq_prog.specs.declared.gate.Entry.TheVariants as entry
use Rattle.aq_prog.specs.declared.table.Rows.{Rows}
use Rattle.aq_prog.specs.declared.table.Named.{Named}

-- a name with its gate's number of controls and matrix
pub record NamedGate : Type 0 where
  pub name : List ℕ
  pub gate : Rows

-- w^j, and w^j / sqrt(2)
abbrev pub w : ℕ → Entry
w j = entry.Unit j 0

abbrev pub w_over_root : ℕ → Entry
w_over_root j = entry.Unit j 1

abbrev pub nil : Entry
nil = entry.Zero

abbrev pub named : List ℕ → ℕ → Entry → Entry → Entry → Entry → NamedGate
named name controls a b c d = record { name = name; gate = record { controls = controls; rows = (a ∷ b ∷ []) ∷ (c ∷ d ∷ []) ∷ [] } }

-- the rest in 0 .. m - 1
abbrev pub rest_by : ℕ → ℤ → ℕ
rest_by m z = unsigned_abs (int_rem_euclid z (pos m))

-- ---- the gates that take no angle
--     name          controls  row 0                             row 1
abbrev pub fixed_gates : List NamedGate
fixed_gates =
    named (codes "id") 0 (w 0) nil nil (w 0)
    ∷ named (codes "x") 0 nil (w 0) (w 0) nil
    ∷ named (codes "cx") 1 nil (w 0) (w 0) nil
    ∷ named (codes "CX") 1 nil (w 0) (w 0) nil
    ∷ named (codes "ccx") 2 nil (w 0) (w 0) nil
    ∷ named (codes "y") 0 nil (w 6) (w 2) nil
    ∷ named (codes "cy") 1 nil (w 6) (w 2) nil
    ∷ named (codes "z") 0 (w 0) nil nil (w 4)
    ∷ named (codes "cz") 1 (w 0) nil nil (w 4)
    ∷ named (codes "h") 0 (w_over_root 0) (w_over_root 0) (w_over_root 0) (w_over_root 4)
    ∷ named (codes "ch") 1 (w_over_root 0) (w_over_root 0) (w_over_root 0) (w_over_root 4)
    ∷ named (codes "s") 0 (w 0) nil nil (w 2)
    ∷ named (codes "sdg") 0 (w 0) nil nil (w 6)
    ∷ named (codes "t") 0 (w 0) nil nil (w 1)
    ∷ named (codes "tdg") 0 (w 0) nil nil (w 7)
    ∷ named (codes "sx") 0 (w_over_root 1) (w_over_root 7) (w_over_root 7) (w_over_root 1)
    ∷ []

-- ---- the gates of an angle e * pi/4
abbrev pub phase_gates : ℕ → List NamedGate
phase_gates r =
    named (codes "p") 0 (w 0) nil nil (w r)
    ∷ named (codes "cp") 1 (w 0) nil nil (w r)
    ∷ []

-- the cosine and the sine of f * pi/4, for f below 8
abbrev pub cosine : ℕ → Entry
cosine f = slice_index_or (w 0 ∷ w_over_root 0 ∷ nil ∷ w_over_root 4 ∷ w 4 ∷ w_over_root 4 ∷ nil ∷ w_over_root 0 ∷ []) f nil

abbrev pub sine : ℕ → Entry
sine f = slice_index_or (nil ∷ w_over_root 0 ∷ w 0 ∷ w_over_root 0 ∷ nil ∷ w_over_root 4 ∷ w 4 ∷ w_over_root 4 ∷ []) f nil

-- an entry times w^k
abbrev pub entry_turned : ℕ → Entry → Entry
entry_turned k entry.Zero = entry.Zero
entry_turned k (entry.Unit j e) = entry.Unit ((j + k) % 8) e

-- the rotations by an angle of f * pi/2; each entry has the half angle f * pi/4
abbrev pub rotation_gates : ℕ → List NamedGate
rotation_gates f =
    named (codes "rz") 0 (w ((8 - f) % 8)) nil nil (w f)
    ∷ named (codes "rx") 0 (cosine f) (entry_turned 6 (sine f)) (entry_turned 6 (sine f)) (cosine f)
    ∷ named (codes "ry") 0 (cosine f) (entry_turned 4 (sine f)) (sine f) (cosine f)
    ∷ []

-- an entry of the code's table
abbrev pub seen : Named → NamedGate
seen entry = record { name = entry.name.now; gate = entry.gate }

-- the gate of the first entry with the name
abbrev pub gate_among : List NamedGate → List ℕ → Option Rows
gate_among [] name = None
gate_among (entry ∷ rest) name = if bytes_eq entry.name name then Some entry.gate else gate_among rest name

-- a rotation needs an even number of eighths, since its entries have half the angle
abbrev pub rotation_named : List ℕ → ℤ → Option Rows
rotation_named name eighths = if rest_by 2 eighths == 0 then gate_among (rotation_gates (rest_by 8 (int_div eighths (pos 2)))) name else None

-- The gate with this name, for the angle eighths * pi/4.
abbrev pub rows_named : List ℕ → ℤ → Option Rows
rows_named name eighths =
    option_or (gate_among fixed_gates name)
    (option_or (gate_among (phase_gates (rest_by 8 eighths)) name)
    (rotation_named name eighths))
