use Rattle.std.proofs.Common.{◌≡◌, ℕ, ◌+◌, ◌≤◌, []}
use Rattle.aq_set_build.specs.Unions.{IsOpening, nodes_all}
use Rattle.aq_set_build.proofs.unions.parts_of.Given as goal

abbrev pub invariant-loop-at : goal.invariant-loop-at
invariant-loop-at l = record {
  opening : (i : ℕ) → IsOpening l.exprs i [] l.fn.list.items → IsOpening l.exprs i l.parts.items l.rest.items;
  nodes : l.steps.taken + (nodes_all l.exprs l.parts.items + nodes_all l.exprs l.rest.items) ≤ l.fn.steps.taken + nodes_all l.exprs l.fn.list.items;
  limit : l.steps.limit ≡ l.fn.steps.limit;
  later : l.fn.steps.taken ≤ l.steps.taken;
}

abbrev pub decreases-loop-at : goal.decreases-loop-at
decreases-loop-at l = nodes_all l.exprs l.rest.items
