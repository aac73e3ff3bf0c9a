use Rattle.std.proofs.Common.{◌≡◌, ◌≤◌, [], length}
use Rattle.aq_store.specs.Nodes.{EachPair, HasShape, Extends, total_cost}
use Rattle.aq_include.proofs.tests.one_level.Given as goal

abbrev pub invariant-loop-vector : goal.invariant-loop-vector
invariant-loop-vector l = record {
  keeps : Extends l.fn.store l.store;
  paid : total_cost l.store ≤ l.steps.taken;
  pairs : EachPair (HasShape l.store []) l.pairs.items;
  count : length l.pairs.items ≡ l.vector-index;
}
