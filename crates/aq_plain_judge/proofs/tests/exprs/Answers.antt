use Rattle.std.proofs.Common.{◌∙◌, [], ◌∷◌, ◌++◌, ap}
use Rattle.aq_sets.specs.declared.sets.Expr.TheVariants as expr
use Rattle.aq_plain_judge.specs.Examples.{one_ket, both_kets}
use Rattle.aq_plain_judge.proofs.tests.exprs.Goals as goal

pub returns : goal.returns
returns c =
    let a = c.args.amp in
    let first = c.in_ok-first.ensures ∙ ap (λ x. one_ket 0 x) c.one.ensures in
    let third = c.in_ok-third.ensures ∙ ap (λ x. both_kets a x) c.one-2.ensures in
    let fourth = c.in_ok-fourth.ensures ∙ ap (λ x. both_kets x a) c.one-3.ensures in
    let one = c.in_ok-push.ensures.ok ∙ (λ i. c.new-exprs.ensures i ++ first i ∷ []) in
    let two = c.in_ok-push-2.ensures.ok ∙ (λ i. one i ++ c.in_ok-second.ensures i ∷ []) in
    let three = c.in_ok-push-3.ensures.ok ∙ (λ i. two i ++ expr.All 1 ∷ []) in
    let four = c.in_ok-push-4.ensures.ok ∙ (λ i. three i ++ expr.Union 0 1 ∷ []) in
    let five = c.in_ok-push-5.ensures.ok ∙ (λ i. four i ++ third i ∷ []) in
    c.in_ok-push-6.ensures.ok ∙ (λ i. five i ++ fourth i ∷ [])
