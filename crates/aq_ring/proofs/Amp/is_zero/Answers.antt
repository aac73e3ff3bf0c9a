use Rattle.std.proofs.Common.{ap, sym, ◌∙◌}
use Rattle.aq_ring.specs.Fractions.{Amplitude}
use Rattle.aq_ring.proofs.AmplitudeLaws.{lowest_zero}
use Rattle.aq_ring.proofs.Amp.is_zero.Goals as goal

pub returns : goal.returns
returns c =
    let e = ap (λ (p : Amplitude). p.num) c.self.view_is in
    (λ t. lowest_zero _ (sym e ∙ c.is_zero.ensures.0 t), λ z. c.is_zero.ensures.1 (e ∙ ap (λ (p : Amplitude). p.num) z))
