use Rattle.std.proofs.Common.{◌+◌, ◌*◌, ◌≤◌, length, take, sum_by}
use Rattle.aq_cert.specs.Goals.{goal_rest}
use Rattle.aq_include.specs.Costs.{Takes, rel_weight}
use Rattle.aq_include.specs.Candidates.{AreOfRels}
use Rattle.aq_include.proofs.step.step_rels.Given as goal

abbrev pub invariant-loop-number : goal.invariant-loop-number
invariant-loop-number g l = record {
  candidates : AreOfRels g.L.Label.parts l.store l.choice (goal_rest l.goals l.level) (take l.number l.rels) l.list.items;
  light : sum_by (λ x. rel_weight (goal_rest l.goals (l.level + 1)) x.rel) l.list.items ≤ 2 * sum_by (rel_weight (goal_rest l.goals l.level)) (take l.number l.rels);
  paid : sum_by (λ x. length x.rel.pairs) l.list.items + 2 * l.fn.steps.taken ≤ 2 * l.steps.taken;
  takes : Takes (sum_by (rel_weight (goal_rest l.goals l.level)) (take l.number l.rels)) l.fn.steps l.steps;
}
