use Rattle.std.proofs.Common.{◌≡◌, drop}
use Rattle.aq_set_read.specs.Meaning.{same_qubits}
use Rattle.aq_set_read.proofs.claims.same_qubits.Given as goal

abbrev pub invariant-loop-i : goal.invariant-loop-i
invariant-loop-i l = same_qubits l.qubits (drop l.i l.cases) (drop l.i l.made) ≡ same_qubits l.qubits l.cases l.made
