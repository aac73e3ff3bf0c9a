use Rattle.aq_set_read.proofs.TextsLaws.{tree-valid, text-valid, one_sets, one_fault_of_text, no_fault, some_saying}
use Rattle.aq_set_read.proofs.laws.set_files.Goals as goal

pub returns-clause-sets : goal.returns-clause-sets
returns-clause-sets c = one_sets

pub returns-clause-fault : goal.returns-clause-fault
returns-clause-fault c = one_fault_of_text

pub returns-clause-apart : goal.returns-clause-apart
returns-clause-apart c = no_fault

pub returns-clause-some : goal.returns-clause-some
returns-clause-some c = some_saying

pub returns-clause-valid : goal.returns-clause-valid
returns-clause-valid c = text-valid

pub returns-clause-meaning : goal.returns-clause-meaning
returns-clause-meaning c = tree-valid
