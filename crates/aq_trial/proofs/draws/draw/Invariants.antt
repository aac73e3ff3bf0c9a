use Rattle.std.proofs.Common.{◌≡◌, ◌<◌, ◌^◌, ◌++◌}
use Rattle.aq_trial.specs.Trials.{gates_from}
use Rattle.aq_trial.proofs.draws.draw.Given as goal

abbrev pub invariant-loop-left : goal.invariant-loop-left
invariant-loop-left l = (l.at < 2 ^ 31) × (l.gates ++ gates_from l.qubits l.left l.at ≡ gates_from l.qubits l.count l.x)

abbrev pub decreases-loop-left : goal.decreases-loop-left
decreases-loop-left l = l.left
