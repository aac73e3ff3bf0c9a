use Rattle.aq_set_parse.proofs.CutLaws as laws
use Rattle.aq_set_parse.proofs.SomeCut as exists
use Rattle.aq_set_parse.proofs.SomeReading.{some_reading}
use Rattle.aq_set_parse.proofs.laws.set_cuts.Goals as goal

pub returns-clause-cut : goal.returns-clause-cut
returns-clause-cut c = laws.one_cut

pub returns-clause-reading : goal.returns-clause-reading
returns-clause-reading c = laws.one_reading

pub returns-clause-slices : goal.returns-clause-slices
returns-clause-slices c = laws.slices

pub returns-clause-some : goal.returns-clause-some
returns-clause-some c = exists.some_cut

pub returns-clause-answer : goal.returns-clause-answer
returns-clause-answer c = some_reading
