use Rattle.aq_report.proofs.print.print_head.Goals as goal

pub returns-in-Assert : goal.returns-in-Assert
returns-in-Assert g c = rw c.in-Assert.is c.print_located.ensures

pub returns-in-Entry : goal.returns-in-Entry
returns-in-Entry g c = rw c.in-Entry.is c.print_located-in-Entry.ensures

pub returns-in-Keep : goal.returns-in-Keep
returns-in-Keep g c = rw c.in-Keep.is c.print_located-in-Keep.ensures
