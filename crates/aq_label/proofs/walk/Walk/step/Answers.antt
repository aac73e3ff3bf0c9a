use Rattle.aq_label.proofs.WalkLemmas.{step_later}
use Rattle.aq_label.proofs.walk.Walk.step.Goals as goal

pub returns-in-Some-clause-walked : goal.returns-in-Some-clause-walked
returns-in-Some-clause-walked c = λ u v h. step_later u v c.in-Some.pivot c.args.self c.args.left c.args.right c.step_from.result h c.in-Some.is c.step_from.ensures.step
