use Rattle.aq_elab.proofs.ValidLaws.{elaborated-valid, elaborated-written}
use Rattle.aq_elab.proofs.laws.elaborations.Goals as goal

pub returns-clause-valid : goal.returns-clause-valid
returns-clause-valid c = elaborated-valid

pub returns-clause-written : goal.returns-clause-written
returns-clause-written c = elaborated-written
