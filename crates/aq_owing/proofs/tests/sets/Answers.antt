use Rattle.std.proofs.Common.{◌≡◌, List, [], ◌∷◌, ◌++◌, ◌∙◌}
use Rattle.aq_sets.specs.declared.sets.Expr.TheVariants as expr
use Rattle.aq_owing.proofs.ExampleLaws.{valid_sets, two_pushed}
use Rattle.aq_owing.proofs.tests.sets.Goals as goal

pub returns : goal.returns
returns c = valid_sets c.push-2.new.self c.push-3.new.self c.push-5.new.self c.args.position c.args.when c.new.result c.requires.there c.requires.short c.new.ensures
    (two_pushed c.new-exprs.result c.push.new.self c.push-2.new.self (expr.All 1) (expr.All 2) c.new-exprs.ensures c.in_ok-push.ensures.ok c.in_ok-push-2.ensures.ok)
    (c.in_ok-push-3.ensures.ok ∙ (λ i. c.new-sets.ensures i ++ c.in_ok-set.ensures i ∷ []))
    (two_pushed c.new-claims.result c.push-4.new.self c.push-5.new.self c.in_ok-first.first c.in_ok-second.second c.new-claims.ensures c.in_ok-push-4.ensures.ok c.in_ok-push-5.ensures.ok
    ∙ (λ i. c.in_ok-first.ensures i ∷ c.in_ok-second.ensures i ∷ []))
