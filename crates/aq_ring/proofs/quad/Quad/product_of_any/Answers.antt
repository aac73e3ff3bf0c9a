use Rattle.aq_ring.proofs.Ints.{neg_mul_ℤ}
use Rattle.aq_ring.proofs.GatheredLemmas.{gathered-product}
use Rattle.aq_ring.proofs.quad.Quad.product_of_any.Goals as goal

pub returns : goal.returns
returns c =
    rw (← c.self.view_is, ← c.other.view_is)
    (gathered-product _ _ _ _ _ _ _
    (simp (c.negated-minus_b.ensures, c.negated-minus_c.ensures, c.negated-minus_d.ensures, neg_mul_ℤ) at c.row.ensures)
    (simp (c.negated-minus_c.ensures, c.negated-minus_d.ensures, neg_mul_ℤ) at c.row-2.ensures)
    (simp (c.negated-minus_d.ensures, neg_mul_ℤ) at c.row-3.ensures)
    c.row-4.ensures c.gather.ensures)
