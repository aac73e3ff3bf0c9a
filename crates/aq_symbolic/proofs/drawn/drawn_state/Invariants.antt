use Rattle.std.proofs.Common.{◌≡◌}
use Rattle.aq_symbolic.proofs.drawn.drawn_state.Given as goal

abbrev pub invariant-loop-index : goal.invariant-loop-index
invariant-loop-index l = l.vector.qubits ≡ 4
