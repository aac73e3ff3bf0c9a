use Rattle.std.proofs.Common.{◌≡◌, ◌<◌, ◌+◌, ◌*◌, true, false, List, [], sym, ap, ◌∙◌, subst, arith, drop}
use Rattle.std.proofs.lemmas.Result.{err_from_is_err_and}
use Rattle.std.proofs.Math.ListN.{drop_of_length-le}
use Rattle.aq_ring.specs.Fractions.{Amplitude}
use Rattle.aq_prog.specs.Runs.{has_bit}
use Rattle.aq_prog.specs.declared.stmt.Stmt.{Stmt}
use Rattle.aq_plain.specs.Replaying.{start_of, state_of}
use Rattle.aq_plain.proofs.PlayLaws.{gate_valid, measure_valid, reset_valid, yes_playable, no_playable, yes_free, no_free, gate_played, gate_halted, measure_played, measure_halted, reset_played, reset_halted, assume_played, assume_halted, assert_played, branch_plays, branch_halts, ok_gives, err_gives, weight, weight_of, branch_weight, next_free, next_playable, next_weight, same_qubits, same_halts, leads_next, leads_stop, leads_out, LeadsOn}
use Rattle.aq_plain.proofs.player.+playing.Goals as goal

pub play-apply_plain-requires : goal.play-apply_plain-requires
play-apply_plain-requires t c = gate_valid _ _ c.args.stmt.now c.in-Gate.gate c.in-Gate.is c.requires.playable

pub play-measure-requires-clause-qubit : goal.play-measure-requires-clause-qubit
play-measure-requires-clause-qubit t c = (measure_valid _ _ c.args.stmt.now c.in-Measure.qubit c.in-Measure.bit c.in-Measure.is c.requires.playable).0

pub play-measure-requires-clause-bit : goal.play-measure-requires-clause-bit
play-measure-requires-clause-bit t c = (measure_valid _ _ c.args.stmt.now c.in-Measure.qubit c.in-Measure.bit c.in-Measure.is c.requires.playable).1

pub play-reset-requires : goal.play-reset-requires
play-reset-requires t c = record { qubit = reset_valid _ _ c.args.stmt.now c.in-Reset.qubit c.in-Reset.is c.requires.playable }

pub play-returns-in_err-apply_plain-in-Gate-clause-halted : goal.play-returns-in_err-apply_plain-in-Gate-clause-halted
play-returns-in_err-apply_plain-in-Gate-clause-halted t c =
    let p = err_from_is_err_and c.from_residual.result c.from_residual.ensures.1 in
    let s = state_of c.args.player.now c.args.outcomes.now in
    let n = c.args.player.now.vector.qubits in
    rw (p.1, p.2) (gate_halted n c.args.stmt.now c.in-Gate.gate s c.in_err-apply_plain-in-Gate.field-0.0 c.in-Gate.is c.in_err-apply_plain-in-Gate.ensures.wide)

pub play-returns-in_err-assume-in-Assume-clause-halted : goal.play-returns-in_err-assume-in-Assume-clause-halted
play-returns-in_err-assume-in-Assume-clause-halted t c =
    let p = err_from_is_err_and c.from_residual-in_err-assume-in-Assume.result c.from_residual-in_err-assume-in-Assume.ensures.1 in
    let s = state_of c.args.player.now c.args.outcomes.now in
    let n = c.args.player.now.vector.qubits in
    let h = c.in_err-assume-in-Assume.ensures.blocked in
    rw (p.1, p.2) (assume_halted n c.args.stmt.now c.in-Assume.guard s c.in_err-assume-in-Assume.field-0.0 c.in-Assume.is h.0 h.1)

pub play-returns-in_ok-apply_plain-in-Gate-clause-played : goal.play-returns-in_ok-apply_plain-in-Gate-clause-played
play-returns-in_ok-apply_plain-in-Gate-clause-played t c =
    let s = state_of c.args.player.now c.args.outcomes.now in
    let n = c.args.player.now.vector.qubits in
    let made = c.in_ok-apply_plain-in-Gate.ensures in
    gate_played n c.args.stmt.now c.in-Gate.gate s _ c.in-Gate.is made.fits (ap (λ (v : List Amplitude). start_of c.args.player.now.bits v c.args.outcomes.now) made.amps)

pub play-returns-in-Measure-clause-played : goal.play-returns-in-Measure-clause-played
play-returns-in-Measure-clause-played t c =
    let s = state_of c.args.player.now c.args.outcomes.now in
    let n = c.args.player.now.vector.qubits in
    ok_gives c.measure.result c.measure.ensures.played (λ left p. measure_played n c.args.stmt.now c.in-Measure.qubit c.in-Measure.bit s _ c.in-Measure.is p)

pub play-returns-in-Measure-clause-halted : goal.play-returns-in-Measure-clause-halted
play-returns-in-Measure-clause-halted t c =
    let s = state_of c.args.player.now c.args.outcomes.now in
    let n = c.args.player.now.vector.qubits in
    err_gives c.measure.result c.measure.ensures.halted (λ h p. measure_halted n c.args.stmt.now c.in-Measure.qubit c.in-Measure.bit s h c.in-Measure.is p)

pub play-returns-in-Reset-clause-played : goal.play-returns-in-Reset-clause-played
play-returns-in-Reset-clause-played t c =
    let s = state_of c.args.player.now c.args.outcomes.now in
    let n = c.args.player.now.vector.qubits in
    ok_gives c.reset.result c.reset.ensures.played (λ left p. reset_played n c.args.stmt.now c.in-Reset.qubit s _ c.in-Reset.is p)

pub play-returns-in-Reset-clause-halted : goal.play-returns-in-Reset-clause-halted
play-returns-in-Reset-clause-halted t c =
    let s = state_of c.args.player.now c.args.outcomes.now in
    let n = c.args.player.now.vector.qubits in
    err_gives c.reset.result c.reset.ensures.halted (λ h p. reset_halted n c.args.stmt.now c.in-Reset.qubit s h c.in-Reset.is p)

pub play-returns-then-holds-clause-played : goal.play-returns-then-holds-clause-played
play-returns-then-holds-clause-played t c =
    let s = state_of c.args.player.now c.args.outcomes.now in
    let n = c.args.player.now.vector.qubits in
    let bit : true ≡ has_bit c.in-If.guard s.bits = sym c.if-holds.true ∙ c.holds.ensures ∙ ap (has_bit c.in-If.guard) c.as_slice.ensures in
    ok_gives c.play_all.result c.play_all.ensures.played
    (λ left p. branch_plays n c.args.stmt.now c.in-If.guard c.in-If.yes c.in-If.no _ s _ true c.in-If.is bit c.as_slice-then-holds.ensures p)

pub play-returns-then-holds-clause-halted : goal.play-returns-then-holds-clause-halted
play-returns-then-holds-clause-halted t c =
    let s = state_of c.args.player.now c.args.outcomes.now in
    let n = c.args.player.now.vector.qubits in
    let bit : true ≡ has_bit c.in-If.guard s.bits = sym c.if-holds.true ∙ c.holds.ensures ∙ ap (has_bit c.in-If.guard) c.as_slice.ensures in
    err_gives c.play_all.result c.play_all.ensures.halted
    (λ h p. branch_halts n c.args.stmt.now c.in-If.guard c.in-If.yes c.in-If.no _ s h true c.in-If.is bit c.as_slice-then-holds.ensures p)

pub play-returns-else-holds-clause-played : goal.play-returns-else-holds-clause-played
play-returns-else-holds-clause-played t c =
    let s = state_of c.args.player.now c.args.outcomes.now in
    let n = c.args.player.now.vector.qubits in
    let bit : false ≡ has_bit c.in-If.guard s.bits = sym c.if-holds.false ∙ c.holds.ensures ∙ ap (has_bit c.in-If.guard) c.as_slice.ensures in
    ok_gives c.play_all-else-holds.result c.play_all-else-holds.ensures.played
    (λ left p. branch_plays n c.args.stmt.now c.in-If.guard c.in-If.yes c.in-If.no _ s _ false c.in-If.is bit c.as_slice-else-holds.ensures p)

pub play-returns-else-holds-clause-halted : goal.play-returns-else-holds-clause-halted
play-returns-else-holds-clause-halted t c =
    let s = state_of c.args.player.now c.args.outcomes.now in
    let n = c.args.player.now.vector.qubits in
    let bit : false ≡ has_bit c.in-If.guard s.bits = sym c.if-holds.false ∙ c.holds.ensures ∙ ap (has_bit c.in-If.guard) c.as_slice.ensures in
    err_gives c.play_all-else-holds.result c.play_all-else-holds.ensures.halted
    (λ h p. branch_halts n c.args.stmt.now c.in-If.guard c.in-If.yes c.in-If.no _ s h false c.in-If.is bit c.as_slice-else-holds.ensures p)

pub play-returns-in_ok-assume-in-Assume-clause-played : goal.play-returns-in_ok-assume-in-Assume-clause-played
play-returns-in_ok-assume-in-Assume-clause-played t c =
    assume_played c.args.player.now.vector.qubits c.args.stmt.now c.in-Assume.guard (state_of c.args.player.now c.args.outcomes.now) c.in-Assume.is c.in_ok-assume-in-Assume.ensures.holds

pub play-returns-in-Assert-clause-played : goal.play-returns-in-Assert-clause-played
play-returns-in-Assert-clause-played t c =
    assert_played c.args.player.now.vector.qubits c.args.stmt.now c.in-Assert.claim c.in-Assert.line (state_of c.args.player.now c.args.outcomes.now) c.in-Assert.is

pub play-play_all-requires : goal.play-play_all-requires
play-play_all-requires t c =
    let s = c.args.stmt.now in
    let list = c.as_slice-then-holds.ensures in
    let inside = branch_weight s c.in-If.guard c.in-If.yes c.in-If.no c.in-If.is in
    let same = ap weight_of list in
    let less : 2 * weight_of c.as_slice-then-holds.result.now + 1 < t = omega (arith, c.decreases, inside, same) in
    (less, (yes_playable _ _ s c.in-If.guard c.in-If.yes c.in-If.no _ c.in-If.is list c.requires.playable, yes_free s c.in-If.guard c.in-If.yes c.in-If.no _ c.in-If.is list c.requires.loop_free))

pub play-play_all-requires-else-holds : goal.play-play_all-requires-else-holds
play-play_all-requires-else-holds t c =
    let s = c.args.stmt.now in
    let list = c.as_slice-else-holds.ensures in
    let inside = branch_weight s c.in-If.guard c.in-If.yes c.in-If.no c.in-If.is in
    let same = ap weight_of list in
    let less : 2 * weight_of c.as_slice-else-holds.result.now + 1 < t = omega (arith, c.decreases, inside, same) in
    (less, (no_playable _ _ s c.in-If.guard c.in-If.yes c.in-If.no _ c.in-If.is list c.requires.playable, no_free s c.in-If.guard c.in-If.yes c.in-If.no _ c.in-If.is list c.requires.loop_free))

pub play_all-play-requires : goal.play_all-play-requires
play_all-play-requires t c =
    let inv = c.loop-stmt.invariant in
    let i = c.loop-stmt.stmt-index in
    let body = c.args.body.now in
    let x = c.stmt-item.result in
    let below = next_weight i body x x c.loop-stmt-test.true c.stmt-item.is in
    let less : 2 * weight x < t = omega (arith, c.decreases, below) in
    (less, (next_playable _ _ _ _ i body x x c.loop-stmt-test.true c.stmt-item.is inv.qubits inv.bits c.requires.playable, next_free i body x x c.loop-stmt-test.true c.stmt-item.is c.requires.loop_free))

pub play_all-returns-in_err-left-clause-halted : goal.play_all-returns-in_err-left-clause-halted
play_all-returns-in_err-left-clause-halted t c =
    let p = err_from_is_err_and c.from_residual.result c.from_residual.ensures.1 in
    let inv = c.loop-stmt.invariant in
    let n = c.args.player.now.vector.qubits in
    let s = state_of c.args.player.now c.args.outcomes.now in
    let here = state_of c.loop-stmt.player c.loop-stmt.left.now in
    let x = c.stmt-item.result in
    let h = c.in_err-left.field-0.0 in
    rw (p.1, p.2) (leads_stop n c.args.body.now s c.loop-stmt.stmt-index x x here h c.loop-stmt-test.true c.stmt-item.is inv.leads (same_halts _ n x here h inv.qubits c.in_err-left.ensures.halted))

pub play_all-loop-stmt-preserved : goal.play_all-loop-stmt-preserved
play_all-loop-stmt-preserved t c =
    let inv = c.loop-stmt.invariant in
    let n = c.args.player.now.vector.qubits in
    let s = state_of c.args.player.now c.args.outcomes.now in
    let here = state_of c.loop-stmt.player c.loop-stmt.left.now in
    let there = state_of c.play.new.player c.in_ok-left.left.now in
    let x = c.stmt-item.result in
    record {
      qubits = c.in_ok-left.ensures.qubits ∙ inv.qubits;
      bits = c.in_ok-left.ensures.bits ∙ inv.bits;
      leads = leads_next n c.args.body.now s c.loop-stmt.stmt-index x x here there c.loop-stmt-test.true c.stmt-item.is inv.leads (same_qubits _ n x here there inv.qubits c.in_ok-left.ensures.played);
    }

pub play_all-returns-clause-played : goal.play_all-returns-clause-played
play_all-returns-clause-played t c =
    let inv = c.loop-stmt.invariant in
    let n = c.args.player.now.vector.qubits in
    let body = c.args.body.now in
    let s = state_of c.args.player.now c.args.outcomes.now in
    let none : drop c.loop-stmt.stmt-index body ≡ [] = drop_of_length-le body (omega (arith, c.loop-stmt-test.false)) in
    let here = state_of c.loop-stmt.player c.loop-stmt.left.now in
    leads_out n body s here (subst (λ (l : List Stmt). LeadsOn n body s l here) none inv.leads)
