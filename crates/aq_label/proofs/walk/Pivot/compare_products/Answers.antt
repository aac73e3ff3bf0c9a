use Rattle.std.proofs.Common.{sym, ◌∙◌}
use Rattle.aq_ring.proofs.EqualLaws.{equal-amplitudes}
use Rattle.aq_label.proofs.walk.Pivot.compare_products.Goals as goal

pub returns-then-eq : goal.returns-then-eq
returns-then-eq c = record {
  zero_together = (λ z. absurd (c.requires.left_nonzero z), λ z. absurd (c.requires.right_nonzero z));
  fits = λ _ _. (c.in-Some.ensures.0, c.in-Some-product.ensures.0);
  same = sym c.in-Some.ensures.1 ∙ (equal-amplitudes _ _).0 (sym c.eq.ensures ∙ c.if-eq.true) ∙ c.in-Some-product.ensures.1;
}
