use Rattle.aq_top.proofs.EndsLemmas.{Prints-ends}
use Rattle.aq_top.proofs.replay.say_end.Goals as goal

pub returns : goal.returns
returns g c = Prints-ends _ _ _ _ _ _ _ c.print_replay.ensures c.status_after.ensures
