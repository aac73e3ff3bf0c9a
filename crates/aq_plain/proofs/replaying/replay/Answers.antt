use Rattle.std.proofs.Common.{◌<◌, ◌∙◌, sym, refl, length, arith}
use Rattle.aq_plain.specs.Replaying.{state_of}
use Rattle.aq_plain.proofs.PlayLaws.{left_over, stops_so}
use Rattle.aq_plain.proofs.replaying.replay.Goals as goal

pub returns-in-Ok : goal.returns-in-Ok
returns-in-Ok c =
    let left = c.in-Ok.left.now in
    let some : 0 < length left = omega (arith, c.in-Ok.len_at_least) in
    let over = left_over c.args.vector.qubits c.args.body.now c.args.vector.amps c.args.bits.now c.in_ok-bits.bits c.args.outcomes.now left (state_of c.play_all.new.player left) c.in_ok-bits.ensures refl some c.in-Ok.ensures.played in
    (sym c.has_loop.ensures ∙ c.if-has_loop.false, over.0, over.1, over.2)

pub returns-in-Err : goal.returns-in-Err
returns-in-Err c =
    stops_so c.args.vector.qubits c.args.body.now c.args.vector.amps c.args.bits.now c.in_ok-bits.bits c.args.outcomes.now c.in-Err.halt c.stop_of.result c.in_ok-bits.ensures
    (sym c.has_loop.ensures ∙ c.if-has_loop.false) c.in-Err.ensures.halted c.stop_of.ensures
