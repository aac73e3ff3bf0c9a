use Rattle.aq_store.proofs.StopLemmas.{passed_on}
use Rattle.aq_symbolic.proofs.StepLemmas.{gate_leaves, gate_stops}
use Rattle.aq_symbolic.proofs.several.play_gate.Goals as goal

pub returns-in_err-after-clause-err : goal.returns-in_err-after-clause-err
returns-in_err-after-clause-err g c =
    passed_on _ c.from_residual.result c.in_err-after.field-0.0 c.from_residual.ensures
    (gate_stops g.L.Label.parts g.L.Label.part_count c.args.gate.now c.args.store.now c.args.steps.now c.gate.new.steps c.args.world _ c.in_err-after.ensures.refused c.in_err-after.ensures.cause)

pub returns-clause-ok : goal.returns-clause-ok
returns-clause-ok g c =
    let h = c.in_ok-after.ensures in
    gate_leaves g.L.Label.parts g.L.Label.part_count c.args.gate.now c.args.store.now c.gate.new.store c.args.steps.now c.gate.new.steps c.args.world c.in_ok-after.after _ h.fields h.set h.fit h.steps c.in-Ok.ensures
