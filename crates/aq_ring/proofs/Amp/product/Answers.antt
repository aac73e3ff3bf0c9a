use Rattle.aq_ring.proofs.CodeLemmas.{product-is}
use Rattle.aq_ring.proofs.Amp.product.Goals as goal

pub returns : goal.returns
returns c = rw (← c.self.view_is, ← c.other.view_is) (product-is _ _ _ _ _ c.in_ok-power.ensures c.in_ok-product.ensures c.lowest.ensures)
