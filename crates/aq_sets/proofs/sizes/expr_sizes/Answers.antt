use Rattle.std.proofs.Common.{◌∙◌, ◌++◌, ◌∷◌, [], ap, take, List, arith}
use Rattle.std.proofs.lemmas.List.{take_all}
use Rattle.aq_sets.specs.Caps.{capped_sizes}
use Rattle.aq_sets.specs.declared.sizes.Size as told
use Rattle.aq_sets.proofs.SizeLaws.{there}
use Rattle.aq_sets.proofs.ToldLaws.{sizes_none, sizes_more}
use Rattle.aq_sets.proofs.sizes.expr_sizes.Goals as goal

pub loop-i-init : goal.loop-i-init
loop-i-init c = c.new-list.ensures ∙ sizes_none

pub loop-i-preserved : goal.loop-i-preserved
loop-i-preserved c =
    let e = there c.args.exprs.now c.loop-i.i (omega arith) in
    c.in_ok-push.ensures.ok ∙ ap (λ (xs : List told.Size). xs ++ c.in_ok-size.size ∷ []) c.loop-i.invariant
    ∙ ap (λ (x : told.Size). capped_sizes (take c.loop-i.i c.args.exprs.now) ++ x ∷ []) c.in_ok-size.ensures
    ∙ sizes_more c.args.exprs.now c.loop-i.i e.0 e.1

pub returns : goal.returns
returns c = c.loop-i.invariant ∙ ap capped_sizes (take_all c.loop-i.i c.args.exprs.now (omega arith))
