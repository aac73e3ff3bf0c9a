use Rattle.std.proofs.Common.{◌≡◌, ◌-◌, sym, ap, ◌∙◌, arith, rules}
use Rattle.aq_ring.specs.Quads.{quad_zero}
use Rattle.aq_ring.specs.Fractions.{reduced}
use Rattle.aq_ring.specs.Amplitudes.{lowest_form}
use Rattle.aq_ring.proofs.AmplitudeLaws.{lowest_form-zero, same_form}
use Rattle.aq_ring.proofs.CodeLemmas.{reduced-step}
use Rattle.aq_plain.proofs.SmallLaws.{below_over_root}
use Rattle.aq_plain.proofs.numerator.Numerator.over_roots.Goals as goal

pub returns-then-is_zero : goal.returns-then-is_zero
returns-then-is_zero c = let z : c.args.self ≡ quad_zero = search rules in c.zero.ensures ∙ sym (lowest_form-zero c.args.power) ∙ ap (lowest_form c.args.power) (sym z)

pub loop-power-preserved : goal.loop-power-preserved
loop-power-preserved c = (
  ap (reduced (c.loop-power.power - 1)) c.over_root-number.ensures ∙ reduced-step c.loop-power.power c.loop-power.number (omega arith) (sym c.is_divisible.ensures ∙ c.if-is_divisible.true) ∙ c.loop-power.invariant.0,
  rw c.over_root-number.ensures (below_over_root 126 c.loop-power.number c.loop-power.invariant.1),
)

pub returns : goal.returns
returns c = c.in-Some.ensures.1 ∙ ap (lowest_form c.loop-power.power) c.coefficients.ensures ∙ same_form _ _ _ _ c.loop-power.invariant.0
