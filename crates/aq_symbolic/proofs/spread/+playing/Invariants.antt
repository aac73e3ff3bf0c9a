use Rattle.std.proofs.Common.{◌+◌, ◌*◌, drop, length, take}
use Rattle.aq_plain.proofs.PlayLaws.{weight, weight_of}
use Rattle.aq_symbolic.specs.Memos.{AreAllMemos, AreMemos}
use Rattle.aq_symbolic.specs.Moves.{of_branch, of_stmt}
use Rattle.aq_symbolic.specs.Playing.{Collects}
use Rattle.aq_symbolic.specs.Steps.{Keeps}
use Rattle.aq_symbolic.proofs.LeadLemmas.{LeadsOn}
use Rattle.aq_symbolic.proofs.spread.+playing.Given as goal

-- what the statements that are left come to from the worlds of now, all come to
abbrev pub invariant-play_inside-loop-stmt : goal.invariant-play_inside-loop-stmt
invariant-play_inside-loop-stmt g l = record {
  keeps : Keeps l.fn.store l.store l.fn.steps l.steps;
  stock : AreAllMemos g.L.Label.parts g.L.Label.part_count l.store l.stock.entries.items;
  leads : LeadsOn g.L.Label.parts g.L.Label.part_count l.body l.fn.store l.fn.steps l.fn.worlds.items (drop l.stmt-index l.body) l.store l.steps l.left.items;
}

-- the list is what comes of the worlds so far
abbrev pub invariant-play_each-loop-world : goal.invariant-play_each-loop-world
invariant-play_each-loop-world g l = record {
  keeps : Keeps l.fn.store l.store l.fn.steps l.steps;
  made : Collects g.L.Label.parts g.L.Label.part_count (of_stmt l.stmt) l.fn.store l.store l.fn.steps l.steps l.fn.worlds.items (take (length l.yielded) l.fn.worlds.items) l.list.items;
  memos : AreMemos g.L.Label.parts g.L.Label.part_count l.levels l.store l.memos l.stmt;
  stock : AreAllMemos g.L.Label.parts g.L.Label.part_count l.store l.stock.entries.items;
}

abbrev pub invariant-play_branches-loop-world : goal.invariant-play_branches-loop-world
invariant-play_branches-loop-world g l = record {
  keeps : Keeps l.fn.store l.store l.fn.steps l.steps;
  made : Collects g.L.Label.parts g.L.Label.part_count (of_branch l.guard l.yes l.no) l.fn.store l.store l.fn.steps l.steps l.fn.worlds.items (take (length l.yielded) l.fn.worlds.items) l.list.items;
  stock : AreAllMemos g.L.Label.parts g.L.Label.part_count l.store l.stock.entries.items;
}

-- the statements inside a statement are fewer
abbrev pub decreases-play_one : goal.decreases-play_one
decreases-play_one g l = 5 * weight l.stmt.now

abbrev pub decreases-play_each : goal.decreases-play_each
decreases-play_each g l = 5 * weight l.stmt.now + 1

abbrev pub decreases-play_inside : goal.decreases-play_inside
decreases-play_inside g l = 5 * weight_of l.body.now + 2

abbrev pub decreases-play_branch : goal.decreases-play_branch
decreases-play_branch g l = 5 * (weight_of l.yes.now + weight_of l.no.now) + 3

abbrev pub decreases-play_branches : goal.decreases-play_branches
decreases-play_branches g l = 5 * (weight_of l.yes.now + weight_of l.no.now) + 4
