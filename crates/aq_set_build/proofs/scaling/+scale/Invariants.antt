use Rattle.std.proofs.Common.{◌≡◌, ◌+◌, ◌-◌, ◌*◌, length, drop}
use Rattle.aq_store.specs.Nodes.{runs_at}
use Rattle.aq_store.specs.Means.{MeanPairs, of_place}
use Rattle.aq_store.specs.Memos.{memo_at}
use Rattle.aq_store.proofs.RunLemmas.{before}
use Rattle.aq_set_build.specs.Growth.{Grows}
use Rattle.aq_set_build.specs.Budgets.{walk_budget}
use Rattle.aq_set_build.specs.Products.{IsScaled}
use Rattle.aq_set_build.specs.Tensors.{IsScaleMemo}
use Rattle.aq_set_build.proofs.scaling.+scale.Given as goal

abbrev pub decreases-scale_at : goal.decreases-scale_at
decreases-scale_at l = 2 * (length l.shape.now - l.depth) + 1

abbrev pub decreases-scale_node : goal.decreases-scale_node
decreases-scale_node l = 2 * (length l.shape.now - l.depth)

-- the pairs of the first runs are made
abbrev pub invariant-scale_node-loop-index : goal.invariant-scale_node-loop-index
invariant-scale_node-loop-index l = record {
  grows : Grows (length l.pairs * (2 * walk_budget 1 (drop (l.depth + 1) l.shape))) l.fn.store l.store l.fn.steps l.steps;
  memo : IsScaleMemo l.factor l.store (memo_at l.memo);
  count : length l.pairs ≡ before (runs_at l.fn.store l.id) l.index;
  each : MeanPairs (of_place (IsScaled l.factor) l.fn.store l.id) l.store (drop (l.depth + 1) l.shape) l.pairs;
}
