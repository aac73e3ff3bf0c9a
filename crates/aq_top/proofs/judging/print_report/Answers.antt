use Rattle.std.proofs.Common.{Err, ap, ◌∙◌}
use Rattle.std.proofs.lemmas.Result.{err_from_is_err_and}
use Rattle.aq_top.proofs.ReportLemmas.{counts_behind, counts_stop}
use Rattle.aq_top.proofs.judging.print_report.Goals as goal

pub returns-in_err-tally : goal.returns-in_err-tally
returns-in_err-tally g c =
    let p = err_from_is_err_and c.from_residual.result c.from_residual.ensures.1 in
    let l = c.args.loaded.now in
    counts_stop g.K.Sink.meaning c.args.out.now _ c.args.steps l.program l.sets l.obligations _ c.from_residual.result c.in_err-tally.field-0.0 c.print_verdicts.ensures c.in_err-tally.was
    (p.1 ∙ ap (λ e. Err e) p.2)

pub returns : goal.returns
returns g c =
    let l = c.args.loaded.now in
    counts_behind g.K.Sink.meaning c.args.out.now _ _ c.args.steps l.program l.sets l.obligations _ _ c.in_ok-tally.tally c.print_verdicts.ensures c.in_ok-tally.was
    c.print_counts.ensures.prints c.print_counts.ensures.same
