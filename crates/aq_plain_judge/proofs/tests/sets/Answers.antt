use Rattle.aq_plain_judge.proofs.ExampleLaws.{valid_sets}
use Rattle.aq_plain_judge.proofs.tests.sets.Goals as goal

pub returns-clause-valid : goal.returns-clause-valid
returns-clause-valid c = valid_sets c.args.amp _ c.in_ok-exprs.ensures c.new.ensures c.new-2.ensures
