use Rattle.std.proofs.Common.{◌∙◌, ap}
use Rattle.aq_top.proofs.EndsLemmas.{Prints-ends}
use Rattle.aq_top.specs.Ends.{status_of}
use Rattle.aq_top.proofs.say.say_refusal.Goals as goal

pub returns : goal.returns
returns g c = Prints-ends _ _ _ _ _ _ _ c.print_refusal.ensures (c.status_after.ensures ∙ ap (status_of c.print_refusal.result) c.refusal_status.ensures)
