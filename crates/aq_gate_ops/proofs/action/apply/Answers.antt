use Rattle.std.proofs.Common.{length}
use Rattle.aq_gate_ops.proofs.GateLemmas.{acting_new}
use Rattle.aq_gate_ops.proofs.action.apply.Goals as goal

pub apply_with-requires-clause-acting : goal.apply_with-requires-clause-acting
apply_with-requires-clause-acting g c = acting_new g.L.Label.parts g.L.Label.part_count c.args.gate.now (length c.args.lsta.now.shape.items) c.args.store.now c.new-acting.result c.new-acting.ensures
