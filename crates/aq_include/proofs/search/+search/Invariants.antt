use Rattle.std.proofs.Common.{◌≡◌, ℕ, ◌+◌, ◌-◌, ◌*◌, ◌≤◌, drop, length, slice_get, Some}
use Rattle.aq_cert.specs.Goals.{goal_rest}
use Rattle.aq_cert.specs.Placed.{AllStand}
use Rattle.aq_cert.specs.declared.cert.Edge.{Edge}
use Rattle.aq_include.specs.Costs.{Takes, weight, turn_budget}
use Rattle.aq_include.specs.Search.{IsTable, TableExtends, Leads, table_size}
use Rattle.aq_include.proofs.search.+search.Given as goal

abbrev pub decreases-visit : goal.decreases-visit
decreases-visit g l = 2 * (length l.left.now.shape.items - l.level) + 1

abbrev pub decreases-follow : goal.decreases-follow
decreases-follow g l = 2 * (length l.left.now.shape.items - l.level)

abbrev pub invariant-visit-loop-choice : goal.invariant-visit-loop-choice
invariant-visit-loop-choice g l = record {
  table : IsTable g.L.Label.parts l.store l.left.shape.items l.goals l.table;
  rows : AllStand l.store l.left l.goals l.table.macros.items;
  keeps : TableExtends l.fn.table l.table;
  upper : (k : ℕ) → k ≤ l.level → slice_get l.table.macros.items k ≡ slice_get l.fn.table.macros.items k;
  count : length l.edges ≡ l.choice;
  leads : (c : ℕ) (e : Edge) → slice_get l.edges c ≡ Some e → Leads l.store l.left.shape.items l.goals l.level c l.fn.here l.table e;
  size : table_size l.table + 2 * l.fn.steps.taken ≤ table_size l.fn.table + 2 * l.steps.taken;
  takes : Takes (l.choice * turn_budget (drop (l.level + 1) l.left.shape.items) (weight (goal_rest l.goals l.level) l.fn.here)) l.fn.steps l.steps;
}
