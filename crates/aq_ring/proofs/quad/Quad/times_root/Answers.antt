use Rattle.aq_ring.specs.Quads.{times_root}
use Rattle.aq_ring.proofs.GatheredLemmas.{gathered-exact}
use Rattle.aq_ring.proofs.quad.Quad.times_root.Goals as goal

pub returns : goal.returns
unfolding times_root
returns c = rw (← c.self.view_is) (gathered-exact _ _ _ _ _ _ _ _ _ c.subtract.ensures c.add.ensures c.add-2.ensures c.subtract-2.ensures c.gather.ensures)
