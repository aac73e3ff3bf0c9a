use Rattle.aq_ring.proofs.CodeLemmas.{none_where, no_quotient, over_root-is}
use Rattle.aq_ring.proofs.Amp.over_root.Goals as goal

pub returns-in_err-checked_add : goal.returns-in_err-checked_add
returns-in_err-checked_add c = none_where _ _ _ c.from_residual.ensures (rw (← c.self.view_is) (no_quotient _ c.in_err-checked_add.ensures))

pub returns : goal.returns
returns c = rw (← c.self.view_is) (over_root-is _ _ _ c.in_ok-checked_add.ensures c.lowest.ensures)
