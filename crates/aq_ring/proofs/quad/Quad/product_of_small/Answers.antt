use Rattle.aq_ring.proofs.Ints.{neg_mul_ℤ}
use Rattle.aq_ring.proofs.QuadLaws.{same_quad}
use Rattle.aq_ring.proofs.SmallLemmas.{fits_small_product}
use Rattle.aq_ring.specs.Quads.{quad_product}
use Rattle.aq_ring.proofs.quad.Quad.product_of_small.Goals as goal

pub returns-clause-fits : goal.returns-clause-fits
returns-clause-fits c = fits_small_product _ _ c.requires.left c.requires.right

pub returns-clause-value : goal.returns-clause-value
unfolding quad_product
returns-clause-value c =
    rw (← c.self.view_is, ← c.other.view_is)
    (same_quad _ _
    (simp (c.negated-minus_b.ensures, c.negated-minus_c.ensures, c.negated-minus_d.ensures, neg_mul_ℤ) at c.small_row.ensures)
    (simp (c.negated-minus_c.ensures, c.negated-minus_d.ensures, neg_mul_ℤ) at c.small_row-2.ensures)
    (simp (c.negated-minus_d.ensures, neg_mul_ℤ) at c.small_row-3.ensures)
    c.small_row-4.ensures)
