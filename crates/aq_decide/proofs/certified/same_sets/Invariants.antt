use Rattle.std.proofs.Common.{take}
use Rattle.aq_decide.specs.Certified.{AreSameSets}
use Rattle.aq_decide.proofs.certified.same_sets.Given as goal

abbrev pub invariant-loop-i : goal.invariant-loop-i
invariant-loop-i l = AreSameSets (take l.i l.ones) (take l.i l.others)
