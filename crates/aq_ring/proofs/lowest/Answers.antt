use Rattle.std.proofs.Common.{◌≡◌, sym, ap, ◌∙◌, arith, rules, ◌-◌}
use Rattle.aq_ring.specs.Quads.{quad_zero}
use Rattle.aq_ring.specs.Fractions.{reduced}
use Rattle.aq_ring.specs.Amplitudes.{lowest_form}
use Rattle.aq_ring.proofs.AmplitudeLaws.{lowest_form-zero}
use Rattle.aq_ring.proofs.CodeLemmas.{reduced-step, lowest-is}
use Rattle.aq_ring.proofs.lowest.Goals as goal

pub returns-then-is_zero : goal.returns-then-is_zero
returns-then-is_zero c = let z : c.args.num ≡ quad_zero = search rules in c.zero.ensures ∙ sym (lowest_form-zero c.args.power) ∙ ap (lowest_form c.args.power) (sym z)

pub loop-power-preserved : goal.loop-power-preserved
loop-power-preserved c =
    ap (reduced (c.loop-power.power - 1)) c.over_root-num.ensures ∙ reduced-step c.loop-power.power c.loop-power.num (omega arith) (sym c.is_divisible.ensures ∙ c.if-is_divisible.true) ∙ c.loop-power.invariant

pub returns : goal.returns
returns c = lowest-is _ _ _ c.loop-power.invariant
