use Rattle.std.proofs.Common.{◌≡◌}
use Rattle.std.specs.Prelude.{map}
use Rattle.std.specs.List.{range_with_len}
use Rattle.aq_sets.specs.Vectors.{basis_vector}
use Rattle.aq_plain.proofs.rows.basis_rows.Given as goal

abbrev pub invariant-loop-index : goal.invariant-loop-index
invariant-loop-index l = l.rows.items ≡ map (basis_vector l.qubits) (range_with_len 0 l.index)
