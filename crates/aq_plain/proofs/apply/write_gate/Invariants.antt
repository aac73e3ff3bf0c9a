use Rattle.std.proofs.Common.{◌-◌, length}
use Rattle.aq_plain.proofs.PairLaws.{IsPartly}
use Rattle.aq_plain.proofs.apply.write_gate.Given as goal

abbrev pub invariant-loop-index : goal.invariant-loop-index
invariant-loop-index l = IsPartly l.qubits l.gate l.fn.amps l.amps l.index

abbrev pub decreases-loop-index : goal.decreases-loop-index
decreases-loop-index l = length l.fn.amps - l.index
