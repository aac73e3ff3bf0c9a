use Rattle.aq_plain.proofs.HalfLaws.{IsHalved}
use Rattle.aq_plain.proofs.project.keep_half.Given as goal

abbrev pub invariant-loop-index : goal.invariant-loop-index
invariant-loop-index l = IsHalved l.qubits l.qubit l.fn.outcome l.fn.amps l.amps l.index
