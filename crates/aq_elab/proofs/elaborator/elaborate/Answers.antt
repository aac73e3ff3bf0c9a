use Rattle.aq_elab.proofs.ValidLaws.{valid_given, written_given}
use Rattle.aq_elab.proofs.elaborator.elaborate.Goals as goal

pub returns-clause-valid : goal.returns-clause-valid
returns-clause-valid c = valid_given c.program.result c.args.tree.now c.program.ensures

pub returns-clause-written : goal.returns-clause-written
returns-clause-written c = written_given c.program.result c.args.tree.now c.program.ensures
