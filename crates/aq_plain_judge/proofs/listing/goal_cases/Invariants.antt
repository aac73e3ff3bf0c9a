use Rattle.std.proofs.Common.{take}
use Rattle.aq_plain_judge.specs.Listing.{AreGoal}
use Rattle.aq_plain_judge.proofs.listing.goal_cases.Given as goal

-- the cases before are listed
abbrev pub invariant-loop-case : goal.invariant-loop-case
invariant-loop-case l = AreGoal l.program l.sets (take l.case-index l.cases) l.goal.items
