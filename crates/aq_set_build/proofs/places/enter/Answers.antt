use Rattle.std.proofs.Common.{sym, subst, IfSome, List, ℕ}
use Rattle.aq_set_build.specs.Places.{Enters}
use Rattle.aq_set_build.specs.declared.places.Side.{Side}
use Rattle.aq_set_build.proofs.PlaceLemmas.{enters_self, enters_then}
use Rattle.aq_set_build.proofs.places.enter.Goals as goal

pub loop-side-init : goal.loop-side-init
loop-side-init c =
    subst (λ (w : List ℕ). Enters c.args.exprs.now c.args.expr c.args.word.now 0 c.args.expr w) (sym c.in_ok-copy.ensures.items)
    (enters_self c.args.exprs.now c.requires.valid c.args.expr c.args.word.now)

pub loop-side-preserved : goal.loop-side-preserved
loop-side-preserved c =
    let next = c.in-Some.next in
    let found : Enters c.args.exprs.now c.loop-side.side.expr c.as_slice.result.now next.before next.expr next.word.items =
    subst (λ f. IfSome f (λ (s : Side). Enters c.args.exprs.now c.loop-side.side.expr c.as_slice.result.now s.before s.expr s.word.items)) c.in-Some.is c.in_ok-found.ensures.enters in
    let on = subst (λ (w : List ℕ). Enters c.args.exprs.now c.loop-side.side.expr w next.before next.expr next.word.items) c.as_slice.ensures.value found in
    subst (λ k. Enters c.args.exprs.now c.args.expr c.args.word.now k next.expr next.word.items) (sym c.capped_sum.ensures)
    (enters_then c.args.exprs.now c.requires.valid c.args.expr c.loop-side.side.expr next.expr c.loop-side.side.before next.before c.args.word.now c.loop-side.side.word.items next.word.items c.loop-side.invariant on)
