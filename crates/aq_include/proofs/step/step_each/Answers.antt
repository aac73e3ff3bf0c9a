use Rattle.std.proofs.Common.{◌+◌}
use Rattle.aq_cert.specs.Goals.{goal_rest}
use Rattle.aq_cert.proofs.HeldLemmas.{goals_below}
use Rattle.aq_include.proofs.StepLemmas.{suffice-each, thinned-size}
use Rattle.aq_include.proofs.step.step_each.Goals as goal

pub returns-clause-suffice : goal.returns-clause-suffice
returns-clause-suffice g c =
    suffice-each g.L.Label.parts c.args.store.now c.args.choice (goal_rest c.args.goals.now c.args.level) (goal_rest c.args.goals.now (c.args.level + 1)) c.args.here.now c.in_ok-list.list.items c.in-Ok.kept.items
    (goals_below c.args.goals.now c.args.level) c.in_ok-list.ensures.candidates c.in-Ok.ensures c.in_ok-list.ensures.light

pub returns-clause-paid : goal.returns-clause-paid
returns-clause-paid g c = thinned-size c.in_ok-list.list.items c.in-Ok.kept.items c.args.steps.now.taken c.step_rels.new.steps.taken c.in-Ok.ensures c.in_ok-list.ensures.paid
