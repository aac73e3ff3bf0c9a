use Rattle.std.proofs.Common.{arith}
use Rattle.aq_plain.proofs.PairLaws.{on_true, small_high, second_below, top_fits, bottom_fits, IsPartly-skip, IsPartly-step, IsPartly-all}
use Rattle.aq_plain.proofs.apply.write_gate.Goals as goal

pub loop-index-preserved-in-Some : goal.loop-index-preserved-in-Some
loop-index-preserved-in-Some c =
    IsPartly-skip c.args.qubits c.args.gate.now c.args.amps.now c.loop-index.amps c.loop-index.index c.in-Some.qubit _ c.requires.valid c.in-Some.ensures c.next_change-index.ensures c.loop-index.invariant

pub write_pair-requires-clause-within : goal.write_pair-requires-clause-within
write_pair-requires-clause-within c =
    let size = c.loop-index.invariant.size in
    rw (c.weight_of-weight.ensures, size) (second_below c.args.qubits c.args.gate.now.target c.loop-index.index _ c.requires.valid.target c.requires.sizes.size (omega arith) c.in-None.ensures.0)

pub write_pair-requires-clause-top : goal.write_pair-requires-clause-top
write_pair-requires-clause-top c =
    let size = c.loop-index.invariant.size in
    rw c.weight_of-weight.ensures (top_fits c.args.qubits c.args.gate.now c.args.amps.now c.loop-index.amps c.loop-index.index c.requires.valid (omega arith) c.requires.fits c.in-None.ensures.0 c.in-None.ensures.1 c.loop-index.invariant)

pub write_pair-requires-clause-bottom : goal.write_pair-requires-clause-bottom
write_pair-requires-clause-bottom c =
    let size = c.loop-index.invariant.size in
    rw c.weight_of-weight.ensures (bottom_fits c.args.qubits c.args.gate.now c.args.amps.now c.loop-index.amps c.loop-index.index c.requires.valid c.requires.sizes.size (omega arith) c.requires.fits c.in-None.ensures.0 c.in-None.ensures.1 c.loop-index.invariant)

pub write_pair-requires-clause-small_high : goal.write_pair-requires-clause-small_high
write_pair-requires-clause-small_high c =
    let size = c.loop-index.invariant.size in
    rw c.weight_of-weight.ensures (on_true c.args.small _ _ (λ all. small_high c.args.qubits c.args.gate.now c.args.amps.now c.loop-index.amps c.loop-index.index all c.requires.valid.target c.requires.sizes.size (omega arith) c.in-None.ensures.0 c.loop-index.invariant) c.requires.small)

pub loop-index-preserved : goal.loop-index-preserved
loop-index-preserved c =
    let size = c.loop-index.invariant.size in
    IsPartly-step c.args.qubits c.args.gate.now c.args.amps.now c.loop-index.amps _ c.loop-index.index c.weight_of-weight.result c.weight_of-weight.ensures c.requires.valid c.requires.sizes.size (omega arith)
    c.in-None.ensures.0 c.in-None.ensures.1 c.loop-index.invariant c.write_pair.ensures

pub returns : goal.returns
returns c =
    let size = c.loop-index.invariant.size in
    IsPartly-all c.args.qubits c.args.gate.now c.args.amps.now c.loop-index.amps c.loop-index.index (omega arith) c.loop-index.invariant
