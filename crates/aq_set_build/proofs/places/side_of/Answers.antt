use Rattle.std.proofs.Common.{Some, ap, sym, subst, ◌∙◌, List, ℕ}
use Rattle.aq_sets.specs.declared.sets.Expr.TheVariants as expr
use Rattle.aq_sets.proofs.ToldLaws.{expr_at}
use Rattle.aq_set_build.specs.Places.{Enters}
use Rattle.aq_set_build.proofs.PlaceLemmas.{enters_base, no_union_of, power_no_union}
use Rattle.aq_set_build.proofs.places.side_of.Goals as goal
use Rattle.aq_set_build.proofs.places.side_of.Goals.{in_default-via-in-Power+else-times-eq1, in_default-via-in_default}

pub returns-in_ok-same-in-Power-clause-enters : goal.returns-in_ok-same-in-Power-clause-enters
returns-in_ok-same-in-Power-clause-enters c =
    let h = expr_at c.args.exprs.now c.args.expr _ _ c.requires.there c.index-exprs-expr.is c.in-Power.is in
    let one = h ∙ ap (λ n. Some (expr.Power c.in-Power.base n)) c.if-times-eq1.true in
    subst (λ (w : List ℕ). Enters c.args.exprs.now c.args.expr c.args.word.now 0 c.in-Power.base w) (sym c.in_ok-same-in-Power.ensures.items)
    (enters_base c.args.exprs.now c.requires.valid c.args.expr c.in-Power.base c.args.word.now one)

pub returns-in_ok-same-in-Power-clause-earlier : goal.returns-in_ok-same-in-Power-clause-earlier
returns-in_ok-same-in-Power-clause-earlier c =
    let h = expr_at c.args.exprs.now c.args.expr _ _ c.requires.there c.index-exprs-expr.is c.in-Power.is in
    c.requires.valid.each c.args.expr _ h

pub returns-in_default-clause-none : goal.returns-in_default-clause-none
returns-in_default-clause-none c = no_union_of c.args.exprs.now c.args.expr c.index-exprs-expr.result c.index-exprs-expr.is (elim c.in_default.branch [ in_default-via-in-Power+else-times-eq1 w ↦ λ l r. power_no_union c.index-exprs-expr.result w.in-Power.base w.in-Power.times l r w.in-Power.is | in_default-via-in_default w ↦ w.in_default.not-Union ])
