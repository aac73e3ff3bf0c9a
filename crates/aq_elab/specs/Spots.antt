-- What a spot stands for: a register, or one of its parts.
use Rattle.std.specs.Prelude.{ℕ, ◌+◌, List, Option, Some, None, Ok, Err, Bool, true, false, if◌then◌else◌, nat_lt}
use Rattle.aq_parse.specs.declared.tree.Spot.{Spot}
use Rattle.aq_prog.specs.Digits.{tabulate}
use Rattle.aq_elab.specs.Known.{Known, declared_as, Checked}
use Rattle.aq_elab.specs.declared.fault.ElabFault.TheVariants as faults
use Rattle.aq_elab.specs.declared.scope.Declared.{Declared}
use Rattle.aq_elab.specs.declared.scope.Span.{Span}
use Rattle.aq_elab.specs.declared.scope.Role.{Role}
use Rattle.aq_elab.specs.declared.scope.Role.TheVariants as roles

abbrev pub is_role : Role → Role → Bool
is_role roles.Qubit roles.Qubit = true
is_role roles.Qubit roles.Bit = false
is_role roles.Bit roles.Qubit = false
is_role roles.Bit roles.Bit = true

-- how many qubits or bits it is
abbrev pub width_of : Option ℕ → ℕ
width_of (Some n) = n
width_of None = 1

abbrev pub width : Span → ℕ
width span = width_of span.size

-- one of them by its number; a single one is meant by each number
abbrev pub offset : Option ℕ → ℕ → ℕ
offset (Some n) i = i
offset None i = 0

abbrev pub member : Span → ℕ → ℕ
member span i = span.first + offset span.size i

-- all of them in order
abbrev pub members : Span → List ℕ
members span = tabulate (width span) (member span)

-- the part with this index, where the register has it
abbrev pub part_at : Spot → Span → ℕ → Option ℕ → Checked Span
part_at spot span i None = Err (faults.IndexOut spot.name.at)
part_at spot span i (Some n) = if nat_lt i n then Ok (record { first = span.first + i; size = None }) else Err (faults.IndexOut spot.name.at)

-- all of it, or one part
abbrev pub part_of : Spot → Span → Option ℕ → Checked Span
part_of spot span None = Ok span
part_of spot span (Some i) = part_at spot span i span.size

-- what was declared is to have this role
abbrev pub part_as : Role → Spot → Option Declared → Checked Span
part_as role spot None = Err (faults.UnknownName spot.name.at)
part_as role spot (Some d) = if is_role role d.role then part_of spot d.span spot.index else Err (faults.UnknownName spot.name.at)

-- the qubits or bits that a spot stands for
abbrev pub span_of : Known → Role → Spot → Checked Span
span_of known role spot = part_as role spot (declared_as known.names spot.name.text)
