use Rattle.std.proofs.Common.{◌≡◌, ◌+◌, ◌-◌, ◌*◌, ◌++◌, length, drop}
use Rattle.aq_store.specs.Nodes.{runs_at}
use Rattle.aq_store.specs.Means.{MeanPairs}
use Rattle.aq_store.specs.Memos.{memo_at}
use Rattle.aq_store.proofs.RunLemmas.{before}
use Rattle.aq_set_build.specs.Growth.{Grows}
use Rattle.aq_set_build.specs.Budgets.{walk_budget}
use Rattle.aq_set_build.specs.Tensors.{IsHung, IsHangMemo}
use Rattle.aq_set_build.proofs.tensors.+hang.Given as goal

abbrev pub decreases-hang_at : goal.decreases-hang_at
decreases-hang_at l = 2 * (length l.shape.now - l.depth) + 1

abbrev pub decreases-hang_new : goal.decreases-hang_new
decreases-hang_new l = 2 * (length l.shape.now - l.depth)

-- the pairs of the first runs are made
abbrev pub invariant-hang_new-loop-index : goal.invariant-hang_new-loop-index
invariant-hang_new-loop-index l = record {
  grows : Grows (length l.pairs * (2 * walk_budget (walk_budget 1 l.below.shape.items + 1) (drop (l.depth + 1) l.shape))) l.fn.store l.store l.fn.steps l.steps;
  memo : IsHangMemo l.store l.below (memo_at l.memo);
  count : length l.pairs ≡ before (runs_at l.fn.store l.id) l.index;
  each : MeanPairs (IsHung l.fn.store l.below (drop l.depth l.shape) l.id) l.store (drop (l.depth + 1) l.shape ++ l.below.shape.items) l.pairs;
}
