use Rattle.std.proofs.Common.{arith}
use Rattle.aq_plain.proofs.HalfLaws.{IsHalved-all}
use Rattle.aq_plain.proofs.project.keep_half.Goals as goal

pub returns : goal.returns
returns c =
    let size = c.loop-index.invariant.size in
    IsHalved-all c.args.qubits c.args.qubit c.args.outcome c.args.amps.now c.loop-index.amps c.loop-index.index (omega arith) c.loop-index.invariant
