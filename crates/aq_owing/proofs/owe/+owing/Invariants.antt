use Rattle.std.proofs.Common.{◌≡◌, ◌++◌, ◌+◌, ◌*◌, drop}
use Rattle.aq_owing.specs.Making.{here_of, owed_from}
use Rattle.aq_owing.proofs.WeightLaws.{weight_of}
use Rattle.aq_owing.proofs.owe.+owing.Given as goal

-- what is owed so far, and what the statements that are left owe from the place, is all
abbrev pub invariant-owe_all-loop-index : goal.invariant-owe_all-loop-index
invariant-owe_all-loop-index l =
    l.list ++ owed_from l.claims l.goal (drop l.index l.body) (here_of l.place) ≡ l.fn.list ++ owed_from l.claims l.goal l.body (here_of l.fn.here)

-- the statements inside a statement are fewer
abbrev pub decreases-owe_branch : goal.decreases-owe_branch
decreases-owe_branch l = 3 * (weight_of l.branch.now + weight_of l.rest.now) + 2

abbrev pub decreases-owe_turn : goal.decreases-owe_turn
decreases-owe_turn l = 3 * weight_of l.body.now + 2

abbrev pub decreases-owe_one : goal.decreases-owe_one
decreases-owe_one l = 3 * weight_of l.body.now

abbrev pub decreases-owe_all : goal.decreases-owe_all
decreases-owe_all l = 3 * weight_of l.body.now + 1
