use Rattle.aq_top.proofs.EndsLemmas.{Prints-ends}
use Rattle.aq_top.proofs.say.say_usage.Goals as goal

pub returns : goal.returns
returns g c = Prints-ends _ _ _ _ _ _ _ c.print_usage.ensures c.status_after.ensures
