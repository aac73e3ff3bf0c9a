use Rattle.std.proofs.Common.{rules, arith}
use Rattle.aq_trial.proofs.DrawLaws.{gates_all, gates_more}
use Rattle.aq_trial.proofs.draws.draw.Goals as goal

pub loop-left-preserved : goal.loop-left-preserved
loop-left-preserved c = (
  c.gate_from-step.ensures.range,
  rw c.gate_from-step.ensures.step (gates_more c.args.qubits c.loop-left.left c.loop-left.at c.loop-left.gates _ _ (omega (arith, c.loop-left-test.true)) c.loop-left.invariant.1 (search rules)),
)

pub returns : goal.returns
returns c = gates_all c.args.qubits c.loop-left.left c.loop-left.at _ _ (omega (arith, c.loop-left-test.false)) c.loop-left.invariant.1
