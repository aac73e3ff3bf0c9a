use Rattle.std.proofs.Common.{◌+◌}
use Rattle.std.proofs.lemmas.Result.{IfOk-weaker}
use Rattle.aq_cert.specs.Goals.{goal_rest}
use Rattle.aq_include.proofs.StepLemmas.{enough-all, enough-none}
use Rattle.aq_include.proofs.step.step_needed.Goals as goal

pub returns-clause-enough : goal.returns-clause-enough
returns-clause-enough g c =
    IfOk-weaker c.step_each.result _ _ (λ list h.
    enough-all g.L.Label.parts c.args.store.now c.args.choice (goal_rest c.args.goals.now c.args.level) (goal_rest c.args.goals.now (c.args.level + 1)) c.args.here.now c.args.places.now list.items h)
    c.step_each.ensures.suffice

pub returns-then-are_null-clause-enough : goal.returns-then-are_null-clause-enough
returns-then-are_null-clause-enough g c =
    enough-none g.L.Label.parts c.args.store.now c.args.choice (goal_rest c.args.goals.now c.args.level) (goal_rest c.args.goals.now (c.args.level + 1)) c.args.here.now c.args.places.now
    c.new.result.items (c.are_null.ensures c.if-are_null.true) c.new.ensures.items
