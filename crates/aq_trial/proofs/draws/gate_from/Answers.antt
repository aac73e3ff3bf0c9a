use Rattle.std.proofs.Common.{◌∙◌}
use Rattle.aq_trial.proofs.DrawLaws.{on_one_else}
use Rattle.aq_trial.proofs.draws.gate_from.Goals as goal

pub returns-else-kind-eq2-clause-step : goal.returns-else-kind-eq2-clause-step
returns-else-kind-eq2-clause-step c =
    let way = on_one_else c.args.qubits c.drawn-kind.result c.next-at.result c.if-kind-eq0.false c.if-kind-eq1.false c.if-kind-eq2.false in
    rw (← c.next-first.ensures.value, ← c.next-at.ensures.value, ← c.drawn-kind.ensures.value)
    (c.on_more.ensures.step ∙ rw c.drawn-a.ensures.value way)
