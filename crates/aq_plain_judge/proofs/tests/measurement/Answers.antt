use Rattle.aq_plain_judge.proofs.ExampleLaws.{measure_small}
use Rattle.aq_plain_judge.proofs.tests.measurement.Goals as goal

pub returns : goal.returns
returns c = measure_small
