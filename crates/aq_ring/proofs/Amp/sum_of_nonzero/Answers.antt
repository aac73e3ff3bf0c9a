use Rattle.aq_ring.proofs.CodeLemmas.{sum-is}
use Rattle.aq_ring.proofs.Amp.sum_of_nonzero.Goals as goal

pub returns : goal.returns
returns c = rw (← c.self.view_is, ← c.other.view_is) (sum-is _ _ _ _ _ _ _ c.max-power.ensures c.in_ok-left.ensures c.in_ok-right.ensures c.in_ok-sum.ensures c.lowest.ensures)
