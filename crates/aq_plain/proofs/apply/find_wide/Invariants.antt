use Rattle.std.proofs.Common.{ℕ, ◌<◌}
use Rattle.aq_prog.specs.Gates.{FitsGateAt}
use Rattle.aq_plain.proofs.apply.find_wide.Given as goal

abbrev pub invariant-loop-index : goal.invariant-loop-index
invariant-loop-index l = (x : ℕ) → x < l.index → FitsGateAt l.qubits l.gate l.amps x
