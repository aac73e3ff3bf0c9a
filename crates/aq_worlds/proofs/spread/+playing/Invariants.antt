use Rattle.std.proofs.Common.{◌+◌, ◌*◌, drop, length, take}
use Rattle.aq_obligations.specs.Worlds.{spread}
use Rattle.aq_plain.proofs.PlayLaws.{weight, weight_of}
use Rattle.aq_worlds.specs.Playing.{Collects, branch_of}
use Rattle.aq_worlds.proofs.SpreadLaws.{LeadsOn}
use Rattle.aq_worlds.proofs.spread.+playing.Given as goal

-- what the statements that are left come to from the worlds of now, all come to
abbrev pub invariant-play-loop-stmt : goal.invariant-play-loop-stmt
invariant-play-loop-stmt l = LeadsOn l.body l.fn.worlds.items (drop l.stmt-index l.body) l.left.items

-- the list is what comes of the worlds so far
abbrev pub invariant-play_each-loop-world : goal.invariant-play_each-loop-world
invariant-play_each-loop-world l = Collects (λ n. spread n l.stmt) l.fn.worlds.items (take (length l.yielded) l.fn.worlds.items) l.list.items

abbrev pub invariant-play_branches-loop-world : goal.invariant-play_branches-loop-world
invariant-play_branches-loop-world l = Collects (branch_of l.guard l.yes l.no) l.fn.worlds.items (take (length l.yielded) l.fn.worlds.items) l.list.items

-- the statements inside a statement are fewer
abbrev pub decreases-play_one : goal.decreases-play_one
decreases-play_one l = 5 * weight l.stmt.now

abbrev pub decreases-play_each : goal.decreases-play_each
decreases-play_each l = 5 * weight l.stmt.now + 1

abbrev pub decreases-play : goal.decreases-play
decreases-play l = 5 * weight_of l.body.now + 2

abbrev pub decreases-play_branch : goal.decreases-play_branch
decreases-play_branch l = 5 * (weight_of l.yes.now + weight_of l.no.now) + 3

abbrev pub decreases-play_branches : goal.decreases-play_branches
decreases-play_branches l = 5 * (weight_of l.yes.now + weight_of l.no.now) + 4
