use Rattle.std.proofs.Common.{List, ℕ, refl, ap, ◌∙◌, subst}
use Rattle.aq_world.specs.Prints.{Prints}
use Rattle.aq_top.specs.Ends.{status_of}
use Rattle.aq_top.proofs.EndsLemmas.{Prints-ends}
use Rattle.aq_top.proofs.TrialLemmas.{counted_gates, counted_line}
use Rattle.aq_top.proofs.trial.say_trial.Goals as goal

pub returns : goal.returns
returns g c = λ vs h.
    let sink = g.K.Sink.meaning in
    let printed = c.print_line-printed.result in
    let line = counted_line c.args.number _ _ c.args.tally vs refl (counted_gates c.args.number) h in
    let prints = subst (λ (text : List ℕ). Prints sink c.args.out.now c.print_line-printed.new.out printed text) line c.print_line-printed.ensures in
    Prints-ends sink c.args.out.now c.print_line-printed.new.out printed _ c.status_after.result _ prints
    (c.status_after.ensures ∙ ap (status_of printed) (c.tally_status.ensures vs h))
