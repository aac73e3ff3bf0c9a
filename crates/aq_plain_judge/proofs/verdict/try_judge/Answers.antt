use Rattle.std.proofs.Common.{List, subst}
use Rattle.std.proofs.lemmas.Result.{err_from_is_err_and}
use Rattle.aq_obligations.specs.Asking.{meaning_of, products_in}
use Rattle.aq_obligations.specs.Wide.{IsWide}
use Rattle.aq_obligations.specs.Worlds.{worlds}
use Rattle.aq_obligations.specs.declared.bound.BoundCase.{BoundCase}
use Rattle.aq_plain_judge.specs.Listing.{HasWide}
use Rattle.aq_plain_judge.specs.Refuting.{Judges}
use Rattle.aq_plain_judge.proofs.JudgeLaws.{refuted, verified}
use Rattle.aq_plain_judge.proofs.ListingLaws.{stops_too, wide_after}
use Rattle.aq_plain_judge.proofs.verdict.try_judge.Goals as goal

pub returns-in_err-goal-clause-err : goal.returns-in_err-goal-clause-err
returns-in_err-goal-clause-err c =
    let p = err_from_is_err_and c.from_residual.result c.from_residual.ensures.1 in
    let s = c.args.sets.now in
    let o = c.args.obligation.now in
    rw (p.1, p.2)
    (stops_too (HasWide (products_in s c.as_slice-cases.result.now)) (IsWide (meaning_of c.args.program.now s o)) _
    (λ w. wide_after c.args.program.now s o (subst (λ (l : List BoundCase). HasWide (products_in s l)) c.as_slice-cases.ensures w)) c.in_err-goal.ensures.err)

pub returns-in-None-clause-ok : goal.returns-in-None-clause-ok
returns-in-None-clause-ok c = λ limit enough. verified c.args.program.now c.args.sets.now c.args.obligation.now c.requires.asked
    (subst (Judges (meaning_of c.args.program.now c.args.sets.now c.args.obligation.now) (worlds (meaning_of c.args.program.now c.args.sets.now c.args.obligation.now))) c.in-None.is c.in_ok-judge_cases.ensures.ok)

pub returns-clause-ok : goal.returns-clause-ok
returns-clause-ok c = λ limit enough. refuted c.args.program.now c.args.sets.now c.args.obligation.now c.in-Some.refutation c.requires.asked
    (subst (Judges (meaning_of c.args.program.now c.args.sets.now c.args.obligation.now) (worlds (meaning_of c.args.program.now c.args.sets.now c.args.obligation.now))) c.in-Some.is c.in_ok-judge_cases.ensures.ok)
