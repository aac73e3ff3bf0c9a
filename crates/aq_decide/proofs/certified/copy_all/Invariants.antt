use Rattle.std.proofs.Common.{take}
use Rattle.aq_decide.specs.Certified.{AreSameSets}
use Rattle.aq_decide.proofs.certified.copy_all.Given as goal

abbrev pub invariant-loop-goal : goal.invariant-loop-goal
invariant-loop-goal l = AreSameSets (take l.goal-index l.goals) l.list
