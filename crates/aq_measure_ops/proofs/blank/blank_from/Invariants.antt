use Rattle.std.proofs.Common.{◌≡◌, ◌+◌, ◌≤◌, length, drop}
use Rattle.aq_store.specs.Nodes.{Extends, total_cost}
use Rattle.aq_measure_ops.specs.Budget.{total}
use Rattle.aq_measure_ops.specs.Projection.{IsBlank}
use Rattle.aq_measure_ops.proofs.blank.blank_from.Given as goal

abbrev pub invariant-loop-at : goal.invariant-loop-at
invariant-loop-at g l = record {
  within : l.at ≤ length l.shape;
  above : l.depth ≤ l.at;
  blank : IsBlank g.L.Label.parts l.store (drop l.at l.shape) l.id;
  keeps : Extends l.fn.store l.store;
  paid : total_cost l.store ≤ l.steps.taken;
  limit : l.steps.limit ≡ l.fn.steps.limit;
  cost : l.steps.taken ≤ l.fn.steps.taken + (1 + total (drop l.at l.shape));
}

abbrev pub decreases-loop-at : goal.decreases-loop-at
decreases-loop-at g l = l.at
