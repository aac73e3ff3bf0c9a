use Rattle.std.proofs.Common.{◌/◌, suc, ◌+◌, sym, ap, ◌∙◌, arith, subst}
use Rattle.aq_ring.specs.Quads.{times_root}
use Rattle.aq_plain.proofs.numerator.Numerator.times_roots.Goals as goal
use Rattle.aq_ring.proofs.CodeLemmas.{times_roots-more, times_roots-none}
use Rattle.aq_plain.proofs.SmallLaws.{below_later, below_roots}
use Rattle.aq_plain.specs.Small.{IsBelow}

pub loop-i-init : goal.loop-i-init
loop-i-init c = sym (times_roots-none _)

pub times_root-number-requires : goal.times_root-number-requires
times_root-number-requires c =
    subst (IsBelow 126) (sym c.loop-i.invariant) (below_later (suc (c.loop-i.i / 2 + 62)) 126 _ (omega arith) (below_roots c.loop-i.i 62 c.args.self c.requires.small))

pub loop-i-preserved : goal.loop-i-preserved
loop-i-preserved c = c.times_root-number.ensures ∙ ap times_root c.loop-i.invariant ∙ times_roots-more _ _
