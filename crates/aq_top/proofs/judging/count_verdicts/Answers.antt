use Rattle.std.proofs.Common.{◌<◌, List, ap, ◌∙◌, subst, length, get_or}
use Rattle.aq_obligations.specs.declared.bound.Obligation.{Obligation}
use Rattle.aq_top.proofs.ReportLemmas.{counted_next, few_so_far}
use Rattle.aq_top.proofs.judging.count_verdicts.Goals as goal

pub loop-owed-preserved : goal.loop-owed-preserved
loop-owed-preserved c =
    let l = c.args.loaded.now in
    let os = l.obligations in
    let i = c.loop-owed.owed-index in
    let o = c.owed-item.result in
    let same = c.as_slice-owed-items.ensures in
    let within = subst (λ (xs : List Obligation). i < length xs) same c.loop-owed-test.true in
    let there = c.owed-item.is ∙ ap (λ (xs : List Obligation). get_or xs i o) same in
    counted_next c.args.limit l.program l.sets os i c.loop-owed.counts c.counted-counts.result o c.verdict_on-verdict.result c.loop-owed.invariant within there
    c.verdict_on-verdict.ensures
    (λ vs e h. c.counted-counts.ensures vs (few_so_far os i vs c.requires.few e) h)
