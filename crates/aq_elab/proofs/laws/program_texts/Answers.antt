use Rattle.aq_elab.proofs.TextsLaws.{one_program, one_fault_of_text, no_fault, some_saying, text-valid}
use Rattle.aq_elab.proofs.laws.program_texts.Goals as goal

pub returns-clause-one : goal.returns-clause-one
returns-clause-one c = one_program

pub returns-clause-fault : goal.returns-clause-fault
returns-clause-fault c = one_fault_of_text

pub returns-clause-apart : goal.returns-clause-apart
returns-clause-apart c = no_fault

pub returns-clause-valid : goal.returns-clause-valid
returns-clause-valid c = text-valid

pub returns-clause-some : goal.returns-clause-some
returns-clause-some c = some_saying
