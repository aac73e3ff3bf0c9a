use Rattle.std.proofs.Common.{◌≡◌, ◌<◌, ◌≤◌, ◌∙◌, List, get_or, length, subst, sym}
use Rattle.aq_obligations.specs.declared.bound.BoundCase.{BoundCase}
use Rattle.aq_plain_judge.proofs.JudgeLaws.{cases_kept, told_kept, told_refuted}
use Rattle.aq_plain_judge.proofs.worlds.judge_cases.Goals as goal

pub returns-then-is_some-clause-ok : goal.returns-then-is_some-clause-ok
returns-then-is_some-clause-ok c =
    let from = c.as_slice-case-items.ensures in
    let i = c.loop-case.case-index in
    let x = c.case-item.result in
    told_refuted c.args.program.now c.args.sets.now c.args.obligation.now i x c.in_ok-shown.shown (subst (λ (l : List BoundCase). i < length l) from c.loop-case-test.true)
    (subst (λ (l : List BoundCase). x ≡ get_or l i x) from c.case-item.is) (sym c.is_some.ensures ∙ c.if-is_some.true) c.in_ok-shown.ensures.ok c.loop-case.invariant

pub loop-case-preserved : goal.loop-case-preserved
loop-case-preserved c =
    let from = c.as_slice-case-items.ensures in
    let i = c.loop-case.case-index in
    let x = c.case-item.result in
    told_kept c.args.program.now c.args.sets.now c.args.obligation.now i x c.in_ok-shown.shown (subst (λ (l : List BoundCase). i < length l) from c.loop-case-test.true)
    (subst (λ (l : List BoundCase). x ≡ get_or l i x) from c.case-item.is) (sym c.is_some.ensures ∙ c.if-is_some.false) c.in_ok-shown.ensures.ok c.loop-case.invariant

pub returns-clause-ok : goal.returns-clause-ok
returns-clause-ok c =
    cases_kept c.args.program.now c.args.sets.now c.args.obligation.now c.loop-case.case-index
    (subst (λ (l : List BoundCase). length l ≤ c.loop-case.case-index) c.as_slice-case-items.ensures c.loop-case-test.false) c.loop-case.invariant
