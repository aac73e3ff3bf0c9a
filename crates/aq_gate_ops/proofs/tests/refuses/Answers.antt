use Rattle.std.proofs.Common.{sym, subst}
use Rattle.aq_store.specs.Nodes.{HasShape}
use Rattle.aq_gate_ops.proofs.tests.refuses.Goals as goal

pub apply-requires-clause-fits : goal.apply-requires-clause-fits
apply-requires-clause-fits c = subst (λ u. HasShape c.above.new.store u c.in_ok-root.root) (sym c.in_ok-vec.ensures.items) c.in_ok-root.ensures.made
