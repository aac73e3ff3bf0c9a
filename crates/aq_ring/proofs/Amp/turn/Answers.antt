use Rattle.std.proofs.Common.{◌≡◌, sym, ap, ◌∙◌, arith}
use Rattle.aq_ring.specs.Quads.{turned, turned_by, is_divisible}
use Rattle.aq_ring.specs.Fractions.{Amplitude}
use Rattle.aq_ring.proofs.ReduceLaws.{is_divisible-turned_by}
use Rattle.aq_ring.proofs.CodeLemmas.{turned_by-more, turn-is}
use Rattle.aq_ring.proofs.Amp.turn.Goals as goal

pub loop-i-init : goal.loop-i-init
unfolding turned_by
loop-i-init c = ap (λ (p : Amplitude). p.num) c.self.view_is

pub loop-i-preserved : goal.loop-i-preserved
loop-i-preserved c = c.turned-num.ensures ∙ ap turned c.loop-i.invariant ∙ turned_by-more _ _

pub invariant_of-result : goal.invariant_of-result
invariant_of-result c = (
  λ h.
      ap is_divisible c.loop-i.invariant ∙ is_divisible-turned_by _ _ ∙ ap (λ (p : Amplitude). is_divisible p.num) (sym c.self.view_is) ∙ c.self.inside.lowest h,
  tt,
)

pub returns : goal.returns
returns c =
    let same : c.loop-i.i ≡ c.args.j = omega arith in
    turn-is c.args.self _ c.args.j (c.loop-i.invariant ∙ ap (λ i. turned_by i c.args.self.num) same) (ap (λ (p : Amplitude). p.power) c.self.view_is)
