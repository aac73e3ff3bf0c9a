use Rattle.aq_ring.specs.Quads.{quad_sum}
use Rattle.aq_ring.proofs.GatheredLemmas.{gathered-exact}
use Rattle.aq_ring.proofs.quad.Quad.sum.Goals as goal

pub returns : goal.returns
unfolding quad_sum
returns c = rw (← c.self.view_is, ← c.other.view_is) (gathered-exact _ _ _ _ _ _ _ _ _ c.add.ensures c.add-2.ensures c.add-3.ensures c.add-4.ensures c.gather.ensures)
