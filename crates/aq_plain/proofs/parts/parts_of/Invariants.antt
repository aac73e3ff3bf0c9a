use Rattle.std.proofs.Common.{◌≡◌, ◌≤◌, All}
use Rattle.aq_sets.specs.Vectors.{united, lists}
use Rattle.aq_plain.specs.Listing.{lists_in_turn, IsPartOf}
use Rattle.aq_plain.proofs.PartLaws.{pending, nodes_in}
use Rattle.aq_plain.proofs.parts.parts_of.Given as goal

abbrev pub invariant-loop-at : goal.invariant-loop-at
invariant-loop-at l = record {
  same : united (lists_in_turn l.exprs l.parts.items) (pending l.exprs l.work.items) ≡ lists l.exprs l.expr;
  each : All (IsPartOf l.exprs l.expr) l.parts.items;
  work : All (λ i. i ≤ l.expr) l.work.items;
}

abbrev pub decreases-loop-at : goal.decreases-loop-at
decreases-loop-at l = nodes_in l.exprs l.work.items
