use Rattle.std.proofs.Common.{◌∙◌, ◌++◌, ap, add-one}
use Rattle.std.proofs.Common.{List, ℕ, sym}
use Rattle.std.specs.List.{repeat}
use Rattle.aq_sets.proofs.ToldLaws.{repeat_more}
use Rattle.aq_sets.proofs.sizes.repeated.Goals as goal

pub loop-i-preserved : goal.loop-i-preserved
loop-i-preserved c =
    c.in_ok-extend_from_slice.ensures.items ∙ ap (λ (xs : List ℕ). xs ++ c.args.list.now) c.loop-i.invariant
    ∙ repeat_more c.loop-i.i c.args.list.now ∙ ap (λ k. repeat k c.args.list.now) (sym (add-one c.loop-i.i))
