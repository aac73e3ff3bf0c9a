use Rattle.std.proofs.Common.{refl, sym, ap, ◌∙◌, subst}
use Rattle.aq_ring.specs.Quads.{turned, turned_by}
use Rattle.aq_ring.proofs.CodeLemmas.{turned_by-more}
use Rattle.aq_plain.proofs.SmallLaws.{below_turned_by}
use Rattle.aq_plain.specs.Small.{IsBelow}
use Rattle.aq_plain.proofs.numerator.Numerator.turned_slowly.Goals as goal

pub loop-i-init : goal.loop-i-init
unfolding turned_by
loop-i-init c = refl

pub turned-number-requires : goal.turned-number-requires
turned-number-requires c = subst (IsBelow 126) (sym c.loop-i.invariant) (below_turned_by c.loop-i.i 126 c.args.self c.requires)

pub loop-i-preserved : goal.loop-i-preserved
loop-i-preserved c = c.turned-number.ensures ∙ ap turned c.loop-i.invariant ∙ turned_by-more _ _
