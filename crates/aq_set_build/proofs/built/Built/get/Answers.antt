use Rattle.std.proofs.Common.{sym}
use Rattle.aq_set_build.proofs.built.Built.get.Goals as goal

pub returns-in_ok-copy-in-Some-clause-copy : goal.returns-in_ok-copy-in-Some-clause-copy
returns-in_ok-copy-in-Some-clause-copy c = (c.in-Some.lsta.now, sym c.in-Some.ensures.value, c.in_ok-copy-in-Some.ensures.copy)
