-- Gates that leave the left half below their target as it is, and turn the right half alone.
use Rattle.std.specs.Prelude.{ℕ, ◌==◌, Bool, true, false, ◌&&◌}
use Rattle.aq_prog.specs.Gates.{entry_at}
use Rattle.aq_prog.specs.declared.gate.Entry.{Entry}
use Rattle.aq_prog.specs.declared.gate.Entry.TheVariants as entry
use Rattle.aq_prog.specs.declared.gate.Gate.{Gate}

abbrev pub is_zero : Entry → Bool
is_zero entry.Zero = true
is_zero (entry.Unit j e) = false

abbrev pub is_one : Entry → Bool
is_one entry.Zero = false
is_one (entry.Unit j e) = (j == 0) && (e == 0)

-- the matrix is diagonal, and its first entry is one
abbrev pub only_turns : Gate → Bool
only_turns gate =
    is_one (entry_at gate.matrix.rows 0 0) && (is_zero (entry_at gate.matrix.rows 0 1)
    && is_zero (entry_at gate.matrix.rows 1 0))

-- the ordered pair of places to which a gate is put below a pair at its target: where it only turns the right side,
-- that side with itself, whatever the left one is
abbrev pub key_of : Bool → ℕ × ℕ → ℕ × ℕ
key_of true p = (p.1, p.1)
key_of false p = p
