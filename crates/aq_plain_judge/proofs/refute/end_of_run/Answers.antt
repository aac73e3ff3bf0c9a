use Rattle.aq_plain_judge.proofs.RunLaws.{dead_from, not_looped, wide_from}
use Rattle.aq_plain.specs.Replaying.{start_of}
use Rattle.aq_plain_judge.proofs.refute.end_of_run.Goals as goal

pub unreachable-requires : goal.unreachable-requires
unreachable-requires c =
    let s = c.args.state.now in
    not_looped s.qubits c.args.body.now (start_of c.args.bits.now s.amps c.args.outcomes.now) c.requires.ends (rw c.in-Err-NotLoopFree.field-0-is at c.in-Err-NotLoopFree.ensures)

pub unreachable-requires-in-Err-Impossible : goal.unreachable-requires-in-Err-Impossible
unreachable-requires-in-Err-Impossible c =
    let d = rw c.in-Err-Impossible.field-0-is at c.in-Err-Impossible.ensures in
    dead_from c.args.body.now c.args.bits.now c.args.outcomes.now c.in_ok-start.start c.args.state.now c.in-Err-Impossible.field-0-0 c.in_ok-start.ensures c.requires.ends d.1

pub returns-in-Err-Wide-clause-err : goal.returns-in-Err-Wide-clause-err
returns-in-Err-Wide-clause-err c =
    let w = rw c.in-Err-Wide.field-0-is at c.in-Err-Wide.ensures in
    wide_from c.args.body.now c.args.bits.now c.args.outcomes.now c.in_ok-start.start c.args.state.now c.in-Err-Wide.field-0-0 c.in-Err-Wide.field-0-1 c.in_ok-start.ensures w.0 w.1
