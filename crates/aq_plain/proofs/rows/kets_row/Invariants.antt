use Rattle.std.proofs.Common.{◌≡◌, drop}
use Rattle.aq_sets.specs.Vectors.{kets_vector}
use Rattle.aq_plain.proofs.rows.kets_row.Given as goal

abbrev pub invariant-loop-i : goal.invariant-loop-i
invariant-loop-i l = l.row ≡ kets_vector l.qubits (drop l.i l.terms)
