use Rattle.std.proofs.Common.{rules, ◌≡◌, ◌<◌, ◌+◌, ◌*◌, true, false, List, [], ◌∷◌, length, slice_get, sym, ap, refl, ◌∙◌, subst, arith, drop, length-append}
use Rattle.std.specs.Vec.{vec_len}
use Rattle.std.proofs.lemmas.Iterator.Adapters.{YieldsList-from_vec}
use Rattle.std.proofs.lemmas.Iterator.Consumers.{YieldsList-turn, YieldsList-end}
use Rattle.std.proofs.lemmas.Result.{err_from_is_err_and}
use Rattle.std.proofs.Math.ListN.{drop_of_length-le}
use Rattle.aq_prog.specs.declared.stmt.Stmt.{Stmt}
use Rattle.aq_obligations.specs.Covering.{meets}
use Rattle.aq_obligations.specs.Worlds.{spread, measured_world, reset_world, assumed_worlds}
use Rattle.aq_plain.specs.Replaying.{ArePlayable}
use Rattle.aq_plain.proofs.PlayLaws.{ok_gives, err_gives, weight, weight_of, branch_weight, next_weight, branch_valid}
use Rattle.aq_worlds.specs.Playing.{world_of, branch_of, branch_met}
use Rattle.aq_worlds.proofs.SpreadLaws.{LeadsOn, leads_next, leads_stop, leads_out, collect_step, collect_end, unfit_at, leaves_by, spread_gate, spread_measure, spread_reset, spread_assume, branches_leave, branches_unfit, taken_leaves, taken_unfit, yes_uncut, no_uncut, next_uncut}
use Rattle.aq_worlds.proofs.CallLaws.{stops_gives, valid_on_all, measured_qubit, measured_bit, reset_qubit, if_bits, assume_bits, halves_play, stmt_plays, gate_unfit}
use Rattle.aq_worlds.proofs.SameLaws.{leaves_same, met_same, one_leaves, one_unfit}
use Rattle.aq_worlds.proofs.spread.+playing.Goals as goal

-- ---- a statement on a world

pub play_one-play_gate-requires : goal.play_one-play_gate-requires
play_one-play_gate-requires t c = valid_on_all c.args.world c.args.stmt.now c.in-Gate.gate c.in-Gate.is c.requires.playable

pub play_one-measure-requires-clause-qubit : goal.play_one-measure-requires-clause-qubit
play_one-measure-requires-clause-qubit t c = measured_qubit c.args.world c.args.stmt.now c.in-Measure.qubit c.in-Measure.bit c.in-Measure.is c.requires.playable

pub play_one-measure-requires-clause-bit : goal.play_one-measure-requires-clause-bit
play_one-measure-requires-clause-bit t c = measured_bit c.args.world c.args.stmt.now c.in-Measure.qubit c.in-Measure.bit c.in-Measure.is c.requires.playable

pub play_one-reset-requires : goal.play_one-reset-requires
play_one-reset-requires t c = reset_qubit c.args.world c.args.stmt.now c.in-Reset.qubit c.in-Reset.is c.requires.playable

pub play_one-split_world-requires : goal.play_one-split_world-requires
play_one-split_world-requires t c =
    let b = if_bits c.args.world c.args.stmt.now c.in-If.guard c.in-If.yes c.in-If.no c.in-If.is c.requires.playable in
    record { start = b.0; bits = b.1 }

pub play_one-assume-requires : goal.play_one-assume-requires
play_one-assume-requires t c =
    let b = assume_bits c.args.world c.args.stmt.now c.in-Assume.guard c.in-Assume.is c.requires.playable in
    record { start = b.0; bits = b.1 }

pub play_one-play_branches-requires : goal.play_one-play_branches-requires
play_one-play_branches-requires t c =
    let s = c.args.stmt.now in
    let w = c.args.world in
    let p = c.requires.playable in
    let g = c.in-If.guard in
    let halves = c.in_ok-halves-in-If.halves.items in
    let made = c.in_ok-halves-in-If.ensures in
    let inside = branch_valid p.qubits p.bits s g c.in-If.yes c.in-If.no c.in-If.is p.playable in
    let list = c.as_slice.ensures in
    let other = c.as_slice-in-If.ensures in
    let weighs = branch_weight s g c.in-If.yes c.in-If.no c.in-If.is in
    let same = ap weight_of list in
    let same_other = ap weight_of other in
    let less : 5 * (weight_of c.as_slice.result.now + weight_of c.as_slice-in-If.result.now) + 4 < t = omega (arith, c.decreases, weighs, same, same_other) in
    (less, (halves_play w s halves g.bit c.as_slice.result.now made p (subst (ArePlayable p.qubits p.bits) (sym list) inside.0), (halves_play w s halves g.bit c.as_slice-in-If.result.now made p (subst (ArePlayable p.qubits p.bits) (sym other) inside.1), (yes_uncut s g c.in-If.yes c.in-If.no _ c.in-If.is list c.requires.uncut, no_uncut s g c.in-If.yes c.in-If.no _ c.in-If.is other c.requires.uncut))))

pub play_one-returns-in-Gate-clause-ok : goal.play_one-returns-in-Gate-clause-ok
play_one-returns-in-Gate-clause-ok t c =
    ok_gives c.play_gate.result c.play_gate.ensures.ok
    (λ list g. leaves_by c.args.stmt.now c.args.world list.items _ (λ n case. spread_gate n c.args.stmt.now c.in-Gate.gate (world_of case c.args.world) c.in-Gate.is) g)

pub play_one-returns-in-Gate-clause-err : goal.play_one-returns-in-Gate-clause-err
play_one-returns-in-Gate-clause-err t c =
    err_gives c.play_gate.result c.play_gate.ensures.err (λ e p. stops_gives e p (gate_unfit c.args.world c.args.stmt.now c.in-Gate.gate c.in-Gate.is))

pub play_one-returns-in_ok-list-in-Measure-clause-ok : goal.play_one-returns-in_ok-list-in-Measure-clause-ok
play_one-returns-in_ok-list-in-Measure-clause-ok t c =
    let w = c.args.world in
    let m = c.in-Measure in
    leaves_by c.args.stmt.now w c.in_ok-list-in-Measure.list.items (λ n case. measured_world n m.qubit m.bit false (world_of case w) ∷ measured_world n m.qubit m.bit true (world_of case w) ∷ [])
    (λ n case. spread_measure n c.args.stmt.now m.qubit m.bit (world_of case w) m.is) c.in_ok-list-in-Measure.ensures

pub play_one-returns-in_ok-list-in-Reset-clause-ok : goal.play_one-returns-in_ok-list-in-Reset-clause-ok
play_one-returns-in_ok-list-in-Reset-clause-ok t c =
    let w = c.args.world in
    let m = c.in-Reset in
    leaves_by c.args.stmt.now w c.in_ok-list-in-Reset.list.items (λ n case. reset_world n m.qubit false (world_of case w) ∷ reset_world n m.qubit true (world_of case w) ∷ [])
    (λ n case. spread_reset n c.args.stmt.now m.qubit (world_of case w) m.is) c.in_ok-list-in-Reset.ensures

pub play_one-returns-in_ok-list-in-Assume-clause-ok : goal.play_one-returns-in_ok-list-in-Assume-clause-ok
play_one-returns-in_ok-list-in-Assume-clause-ok t c =
    let w = c.args.world in
    let g = c.in-Assume.guard in
    leaves_by c.args.stmt.now w c.in_ok-list-in-Assume.list.items (λ n case. assumed_worlds g (slice_get w.bits g.bit) (world_of case w))
    (λ n case. spread_assume n c.args.stmt.now g (world_of case w) c.in-Assume.is) c.in_ok-list-in-Assume.ensures

pub play_one-returns-in_ok-halves-in-If-clause-ok : goal.play_one-returns-in_ok-halves-in-If-clause-ok
play_one-returns-in_ok-halves-in-If-clause-ok t c =
    let m = c.in-If in
    let a = c.as_slice in
    let b = c.as_slice-in-If in
    ok_gives c.play_branches.result c.play_branches.ensures.ok
    (λ list p. branches_leave c.args.stmt.now m.guard m.yes m.no c.args.world c.in_ok-halves-in-If.halves.items list.items m.is c.in_ok-halves-in-If.ensures
    (leaves_same m.guard a.result.now m.yes b.result.now m.no c.in_ok-halves-in-If.halves.items list.items a.ensures b.ensures p))

pub play_one-returns-in_ok-halves-in-If-clause-err : goal.play_one-returns-in_ok-halves-in-If-clause-err
play_one-returns-in_ok-halves-in-If-clause-err t c =
    let m = c.in-If in
    let a = c.as_slice in
    let b = c.as_slice-in-If in
    err_gives c.play_branches.result c.play_branches.ensures.err
    (λ e p. stops_gives e p (λ u. branches_unfit c.args.stmt.now m.guard m.yes m.no c.args.world c.in_ok-halves-in-If.halves.items m.is c.in_ok-halves-in-If.ensures
    (met_same m.guard a.result.now m.yes b.result.now m.no c.in_ok-halves-in-If.halves.items a.ensures b.ensures u)))

-- ---- the branch that a world takes

pub play_branch-returns-then-holds-clause-ok : goal.play_branch-returns-then-holds-clause-ok
play_branch-returns-then-holds-clause-ok t c =
    let w = c.args.world in
    let g = c.args.guard.now in
    let bit = sym c.holds-holds.ensures ∙ c.if-holds.true in
    ok_gives c.play.result c.play.ensures.ok
    (λ list p. taken_leaves g c.args.yes.now c.args.no.now c.args.yes.now w list.items true bit refl (one_leaves c.args.yes.now w c.in_ok-worlds.worlds.items list.items c.in_ok-worlds.ensures p))

pub play_branch-returns-then-holds-clause-err : goal.play_branch-returns-then-holds-clause-err
play_branch-returns-then-holds-clause-err t c =
    let w = c.args.world in
    let g = c.args.guard.now in
    let bit = sym c.holds-holds.ensures ∙ c.if-holds.true in
    err_gives c.play.result c.play.ensures.err
    (λ e p. stops_gives e p (λ u. taken_unfit g c.args.yes.now c.args.no.now c.args.yes.now w true bit refl (one_unfit c.args.yes.now w c.in_ok-worlds.worlds.items c.in_ok-worlds.ensures u)))

pub play_branch-returns-else-holds-clause-ok : goal.play_branch-returns-else-holds-clause-ok
play_branch-returns-else-holds-clause-ok t c =
    let w = c.args.world in
    let g = c.args.guard.now in
    let bit = sym c.holds-holds.ensures ∙ c.if-holds.false in
    ok_gives c.play-else-holds.result c.play-else-holds.ensures.ok
    (λ list p. taken_leaves g c.args.yes.now c.args.no.now c.args.no.now w list.items false bit refl (one_leaves c.args.no.now w c.in_ok-worlds.worlds.items list.items c.in_ok-worlds.ensures p))

pub play_branch-returns-else-holds-clause-err : goal.play_branch-returns-else-holds-clause-err
play_branch-returns-else-holds-clause-err t c =
    let w = c.args.world in
    let g = c.args.guard.now in
    let bit = sym c.holds-holds.ensures ∙ c.if-holds.false in
    err_gives c.play-else-holds.result c.play-else-holds.ensures.err
    (λ e p. stops_gives e p (λ u. taken_unfit g c.args.yes.now c.args.no.now c.args.no.now w false bit refl (one_unfit c.args.no.now w c.in_ok-worlds.worlds.items c.in_ok-worlds.ensures u)))

-- ---- statements in order

pub play-play_each-requires : goal.play-play_each-requires
play-play_each-requires t c =
    let i = c.loop-stmt.stmt-index in
    let body = c.args.body.now in
    let x = c.stmt-item.result in
    let below = next_weight i body x x c.loop-stmt-test.true c.stmt-item.is in
    let less : 5 * weight x + 1 < t = omega (arith, c.decreases, below) in
    (less, (stmt_plays body c.args.worlds.items i x (drop i body) c.loop-stmt.left.items c.loop-stmt-test.true c.stmt-item.is c.loop-stmt.invariant c.requires.playable, next_uncut i body x x c.loop-stmt-test.true c.stmt-item.is c.requires.uncut))

pub play-returns-in_err-left-clause-err : goal.play-returns-in_err-left-clause-err
play-returns-in_err-left-clause-err t c =
    let p = err_from_is_err_and c.from_residual.result c.from_residual.ensures.1 in
    let x = c.stmt-item.result in
    rw (p.1, p.2) (stops_gives c.in_err-left.field-0.0 c.in_err-left.ensures.err
    (λ u. leads_stop c.args.body.now c.args.worlds.items c.loop-stmt.stmt-index x c.loop-stmt.left.items c.loop-stmt-test.true c.stmt-item.is c.loop-stmt.invariant u))

pub play-loop-stmt-preserved : goal.play-loop-stmt-preserved
play-loop-stmt-preserved t c =
    let x = c.stmt-item.result in
    leads_next c.args.body.now c.args.worlds.items c.loop-stmt.stmt-index x c.loop-stmt.left.items c.in_ok-left.left.items c.loop-stmt-test.true c.stmt-item.is c.loop-stmt.invariant c.in_ok-left.ensures.ok

pub play-returns-clause-ok : goal.play-returns-clause-ok
play-returns-clause-ok t c =
    let body = c.args.body.now in
    let worlds = c.args.worlds.items in
    let none : drop c.loop-stmt.stmt-index body ≡ [] = drop_of_length-le body (omega (arith, c.loop-stmt-test.false)) in
    leads_out body worlds c.loop-stmt.left.items c.in_ok-list.list.items (subst (λ (l : List Stmt). LeadsOn body worlds l c.loop-stmt.left.items) none c.loop-stmt.invariant) c.in_ok-list.ensures

-- ---- world by world

pub play_each-returns-in_err-more-clause-err : goal.play_each-returns-in_err-more-clause-err
play_each-returns-in_err-more-clause-err t c =
    let p = err_from_is_err_and c.from_residual.result c.from_residual.ensures.1 in
    let all = c.args.worlds.items in
    let given = c.into_iter-world-iterator.ensures.into_iter_gives in
    let len : vec_len c.args.worlds ≡ length all = search rules in
    let turn = YieldsList-turn (YieldsList-from_vec all given.0 (given.1 ∙ len)) c.loop-world.yielded c.loop-world.world-iterator c.loop-world.yielded_by c.next.result c.next.new.self c.in-Some.world c.in-Some.is c.next.ensures.steps in
    rw (p.1, p.2) (stops_gives c.in_err-more.field-0.0 c.in_err-more.ensures.err
    (λ u. unfit_at (λ n. meets n c.args.stmt.now) all (length c.loop-world.yielded) c.in-Some.world turn.0 turn.1 u))

pub play_each-loop-world-preserved : goal.play_each-loop-world-preserved
play_each-loop-world-preserved t c =
    let all = c.args.worlds.items in
    let given = c.into_iter-world-iterator.ensures.into_iter_gives in
    let len : vec_len c.args.worlds ≡ length all = search rules in
    let turn = YieldsList-turn (YieldsList-from_vec all given.0 (given.1 ∙ len)) c.loop-world.yielded c.loop-world.world-iterator c.loop-world.yielded_by c.next.result c.next.new.self c.in-Some.world c.in-Some.is c.next.ensures.steps in
    collect_step (λ n. spread n c.args.stmt.now) all (length c.loop-world.yielded) _ c.in-Some.world c.loop-world.list.items c.in_ok-more.more.items _ (length-append c.loop-world.yielded (c.in-Some.world ∷ [])) c.in_ok-append.ensures.items turn.0 turn.1
    c.loop-world.invariant c.in_ok-more.ensures.ok

pub play_each-returns-clause-ok : goal.play_each-returns-clause-ok
play_each-returns-clause-ok t c =
    let all = c.args.worlds.items in
    let given = c.into_iter-world-iterator.ensures.into_iter_gives in
    let len : vec_len c.args.worlds ≡ length all = search rules in
    let end = YieldsList-end (YieldsList-from_vec all given.0 (given.1 ∙ len)) c.loop-world.yielded c.loop-world.world-iterator c.loop-world.yielded_by c.next.result c.next.new.self c.in-None.is c.next.ensures.steps in
    collect_end (λ n. spread n c.args.stmt.now) all c.loop-world.list.items (length c.loop-world.yielded) end.1 c.loop-world.invariant

pub play_branches-returns-in_err-more-clause-err : goal.play_branches-returns-in_err-more-clause-err
play_branches-returns-in_err-more-clause-err t c =
    let p = err_from_is_err_and c.from_residual.result c.from_residual.ensures.1 in
    let all = c.args.worlds.items in
    let given = c.into_iter-world-iterator.ensures.into_iter_gives in
    let len : vec_len c.args.worlds ≡ length all = search rules in
    let turn = YieldsList-turn (YieldsList-from_vec all given.0 (given.1 ∙ len)) c.loop-world.yielded c.loop-world.world-iterator c.loop-world.yielded_by c.next.result c.next.new.self c.in-Some.world c.in-Some.is c.next.ensures.steps in
    rw (p.1, p.2) (stops_gives c.in_err-more.field-0.0 c.in_err-more.ensures.err
    (λ u. unfit_at (branch_met c.args.guard.now c.args.yes.now c.args.no.now) all (length c.loop-world.yielded) c.in-Some.world turn.0 turn.1 u))

pub play_branches-loop-world-preserved : goal.play_branches-loop-world-preserved
play_branches-loop-world-preserved t c =
    let all = c.args.worlds.items in
    let given = c.into_iter-world-iterator.ensures.into_iter_gives in
    let len : vec_len c.args.worlds ≡ length all = search rules in
    let turn = YieldsList-turn (YieldsList-from_vec all given.0 (given.1 ∙ len)) c.loop-world.yielded c.loop-world.world-iterator c.loop-world.yielded_by c.next.result c.next.new.self c.in-Some.world c.in-Some.is c.next.ensures.steps in
    collect_step (branch_of c.args.guard.now c.args.yes.now c.args.no.now) all (length c.loop-world.yielded) _ c.in-Some.world c.loop-world.list.items c.in_ok-more.more.items _ (length-append c.loop-world.yielded (c.in-Some.world ∷ [])) c.in_ok-append.ensures.items turn.0 turn.1
    c.loop-world.invariant c.in_ok-more.ensures.ok

pub play_branches-returns-clause-ok : goal.play_branches-returns-clause-ok
play_branches-returns-clause-ok t c =
    let all = c.args.worlds.items in
    let given = c.into_iter-world-iterator.ensures.into_iter_gives in
    let len : vec_len c.args.worlds ≡ length all = search rules in
    let end = YieldsList-end (YieldsList-from_vec all given.0 (given.1 ∙ len)) c.loop-world.yielded c.loop-world.world-iterator c.loop-world.yielded_by c.next.result c.next.new.self c.in-None.is c.next.ensures.steps in
    collect_end (branch_of c.args.guard.now c.args.yes.now c.args.no.now) all c.loop-world.list.items (length c.loop-world.yielded) end.1 c.loop-world.invariant
