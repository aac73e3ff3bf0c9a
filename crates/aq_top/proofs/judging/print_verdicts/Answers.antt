use Rattle.std.proofs.Common.{◌<◌, List, Err, ap, ◌∙◌, subst, length, get_or}
use Rattle.std.proofs.lemmas.Result.{err_from_is_err_and}
use Rattle.aq_obligations.specs.declared.bound.Obligation.{Obligation}
use Rattle.aq_top.proofs.ReportLemmas.{so_far_first, so_far_next, so_far_stop, few_so_far}
use Rattle.aq_top.proofs.judging.print_verdicts.Goals as goal

pub loop-index-init : goal.loop-index-init
loop-index-init g c = so_far_first g.K.Sink.meaning c.args.out.now c.args.steps c.args.loaded.now.program c.args.loaded.now.sets c.args.loaded.now.obligations

pub loop-index-preserved : goal.loop-index-preserved
loop-index-preserved g c =
    let l = c.args.loaded.now in
    let os = l.obligations in
    let i = c.loop-index.index in
    let o = c.obligation-item.result in
    let same = c.as_slice-obligation-items.ensures in
    let within = subst (λ (xs : List Obligation). i < length xs) same c.loop-index-test.true in
    let there = c.obligation-item.is ∙ ap (λ (xs : List Obligation). get_or xs i o) same in
    so_far_next g.K.Sink.meaning c.args.out.now c.loop-index.out c.print_verdict.new.out c.args.steps l.program l.sets os i c.loop-index.tally c.counted-tally.result o
    c.verdict_on-verdict.result c.print_verdict.result _ c.loop-index.invariant within there c.verdict_on-verdict.ensures c.print_verdict.ensures c.in_ok-print_verdict.was
    (λ vs e h. c.counted-tally.ensures vs (few_so_far os i vs c.requires.few e) h)

pub returns-in_err-print_verdict : goal.returns-in_err-print_verdict
returns-in_err-print_verdict g c =
    let p = err_from_is_err_and c.from_residual.result c.from_residual.ensures.1 in
    let l = c.args.loaded.now in
    let os = l.obligations in
    let i = c.loop-index.index in
    let o = c.obligation-item.result in
    let same = c.as_slice-obligation-items.ensures in
    let within = subst (λ (xs : List Obligation). i < length xs) same c.loop-index-test.true in
    let there = c.obligation-item.is ∙ ap (λ (xs : List Obligation). get_or xs i o) same in
    so_far_stop g.K.Sink.meaning c.args.out.now c.loop-index.out c.print_verdict.new.out c.args.steps l.program l.sets os i c.loop-index.tally o
    c.verdict_on-verdict.result c.print_verdict.result c.from_residual.result c.in_err-print_verdict.field-0.0 c.loop-index.invariant within there
    c.verdict_on-verdict.ensures c.print_verdict.ensures c.in_err-print_verdict.was (p.1 ∙ ap (λ e. Err e) p.2)
