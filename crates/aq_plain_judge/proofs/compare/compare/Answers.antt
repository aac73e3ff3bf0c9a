use Rattle.std.proofs.Common.{List, ◌∙◌, ◌^◌, ap, sym, subst}
use Rattle.aq_ring.specs.Fractions.{Amplitude}
use Rattle.aq_label.specs.Ratios.{IsWideBy}
use Rattle.aq_plain_judge.proofs.CompareLaws.{wide_product}
use Rattle.aq_plain_judge.proofs.compare.compare.Goals as goal

pub returns-in-Wide : goal.returns-in-Wide
returns-in-Wide c =
    let l = c.in-Wide.left in
    let r = c.in-Wide.right in
    wide_product c.args.left.now.amps c.args.right.now.amps l r (c.amps.ensures.valid.size ∙ ap (λ n. 2 ^ n) (sym c.requires) ∙ sym c.amps-2.ensures.valid.size)
    (subst (λ (d : List Amplitude × List Amplitude). IsWideBy d.0 d.1 l r) (λ i. (c.amps.ensures.value i, c.amps-2.ensures.value i)) c.in-Wide.ensures.answer)
