use Rattle.aq_report.proofs.print.print_gave_up.Goals as goal

pub returns-in-Width : goal.returns-in-Width
returns-in-Width g c = rw c.in-Width.is c.put_text.ensures

pub returns-in-Memory : goal.returns-in-Memory
returns-in-Memory g c = rw c.in-Memory.is c.put_text-in-Memory.ensures

pub returns-in-Steps : goal.returns-in-Steps
returns-in-Steps g c = rw c.in-Steps.is c.put_text-in-Steps.ensures
