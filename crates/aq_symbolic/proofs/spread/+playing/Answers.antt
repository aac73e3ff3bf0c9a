use Rattle.std.proofs.Common.{rules, ◌≡◌, ◌<◌, ◌≤◌, ◌+◌, ◌*◌, ◌∙◌, true, false, List, [], ◌∷◌, length, drop, refl, sym, ap, subst, arith, length-append}
use Rattle.std.specs.Vec.{vec_len}
use Rattle.std.proofs.Math.ListN.{drop_of_length-le}
use Rattle.std.proofs.lemmas.Iterator.Adapters.{YieldsList-from_vec}
use Rattle.std.proofs.lemmas.Iterator.Consumers.{YieldsList-turn, YieldsList-end}
use Rattle.aq_prog.specs.declared.stmt.Stmt.{Stmt}
use Rattle.aq_prog.specs.declared.stmt.Stmt.TheOpen.{Stmt-F}
use Rattle.aq_plain.proofs.PlayLaws.{ok_gives, err_gives, weight, weight_of, branch_weight, next_weight}
use Rattle.aq_store.specs.Nodes.{total_cost}
use Rattle.aq_store.proofs.StopLemmas.{passed_on}
use Rattle.aq_symbolic.specs.Memos.{AreMemos}
use Rattle.aq_symbolic.specs.Moves.{of_branch, of_stmt, of_gate, of_measurement, of_reset, of_assumption}
use Rattle.aq_symbolic.specs.Playing.{Collects, Leaves, Stops}
use Rattle.aq_symbolic.specs.declared.kept.World.{World}
use Rattle.aq_symbolic.proofs.BranchLemmas.{if_leaves, if_stops, if_unpaid, leaves_as, stops_as, taken_leaves, taken_stops}
use Rattle.aq_symbolic.proofs.CallLemmas.{assume_bits, assume_start, assumed_leaves, fits_call, gate_call, if_bits, if_start, measure_bit, measure_qubit, memory_at, memory_done, next_plays, next_uncut, no_plays, no_uncut, one_plays, one_stmt_plays, reset_qubit, yes_plays, yes_uncut}
use Rattle.aq_symbolic.proofs.CollectLemmas.{collect_end, collect_none, collect_step, stop_at}
use Rattle.aq_symbolic.proofs.LeadLemmas.{leads_next, leads_out, leads_start, stop_next}
use Rattle.aq_symbolic.proofs.MemoLemmas.{assume_out, gate_out, if_out, measure_out, memos_in, memos_out, ok_always, ok_then, reset_out}
use Rattle.aq_symbolic.proofs.StockLemmas.{levels_same, stock_later, stock_put, stock_taken, memos_taken}
use Rattle.aq_symbolic.proofs.MoveLemmas.{of_if, assume_move, gate_move, if_move, measure_move, reset_move}
use Rattle.aq_symbolic.proofs.StopLemmas.{keeps_none, keeps_then}
use Rattle.aq_symbolic.proofs.spread.+playing.Goals as goal

-- ---- a statement on a world

pub play_one-play_gate-requires-clause-fits : goal.play_one-play_gate-requires-clause-fits
play_one-play_gate-requires-clause-fits g t c = fits_call c.args.store.now c.args.world c.args.stmt.now c.requires.playable

pub play_one-play_gate-requires-clause-valid : goal.play_one-play_gate-requires-clause-valid
play_one-play_gate-requires-clause-valid g t c = gate_call c.args.store.now c.args.world c.args.stmt.now c.in-Gate.gate c.in-Gate.is c.requires.playable

pub play_one-measure-requires-clause-fits : goal.play_one-measure-requires-clause-fits
play_one-measure-requires-clause-fits g t c = fits_call c.args.store.now c.args.world c.args.stmt.now c.requires.playable

pub play_one-measure-requires-clause-qubit : goal.play_one-measure-requires-clause-qubit
play_one-measure-requires-clause-qubit g t c = measure_qubit c.args.store.now c.args.world c.args.stmt.now c.in-Measure.qubit c.in-Measure.bit c.in-Measure.is c.requires.playable

pub play_one-measure-requires-clause-bit : goal.play_one-measure-requires-clause-bit
play_one-measure-requires-clause-bit g t c = measure_bit c.args.store.now c.args.world c.args.stmt.now c.in-Measure.qubit c.in-Measure.bit c.in-Measure.is c.requires.playable

pub play_one-reset-requires-clause-fits : goal.play_one-reset-requires-clause-fits
play_one-reset-requires-clause-fits g t c = fits_call c.args.store.now c.args.world c.args.stmt.now c.requires.playable

pub play_one-reset-requires-clause-qubit : goal.play_one-reset-requires-clause-qubit
play_one-reset-requires-clause-qubit g t c = reset_qubit c.args.store.now c.args.world c.args.stmt.now c.in-Reset.qubit c.in-Reset.is c.requires.playable

pub play_one-split_paid-requires-clause-start : goal.play_one-split_paid-requires-clause-start
play_one-split_paid-requires-clause-start g t c = if_start c.args.store.now c.args.world c.args.stmt.now c.in-If.guard c.in-If.yes c.in-If.no c.in-If.is c.requires.playable

pub play_one-split_paid-requires-clause-bits : goal.play_one-split_paid-requires-clause-bits
play_one-split_paid-requires-clause-bits g t c = if_bits c.args.store.now c.args.world c.args.stmt.now c.in-If.guard c.in-If.yes c.in-If.no c.in-If.is c.requires.playable

pub play_one-assume-requires-clause-start : goal.play_one-assume-requires-clause-start
play_one-assume-requires-clause-start g t c = assume_start c.args.store.now c.args.world c.args.stmt.now c.in-Assume.guard c.in-Assume.is c.requires.playable

pub play_one-assume-requires-clause-bits : goal.play_one-assume-requires-clause-bits
play_one-assume-requires-clause-bits g t c = assume_bits c.args.store.now c.args.world c.args.stmt.now c.in-Assume.guard c.in-Assume.is c.requires.playable

pub play_one-play_branches-requires : goal.play_one-play_branches-requires
play_one-play_branches-requires g t c κs within =
    let s = c.args.stmt.now in
    let m = c.in-If in
    let halves = c.in_ok-halves-in-If.halves.items in
    let split = c.in_ok-halves-in-If.ensures.split in
    let later = c.split_paid.ensures.later in
    let paid : total_cost c.args.store.now ≤ c.split_paid.new.steps.taken = omega (arith, c.requires.paid, later) in
    let first = c.as_slice in
    let second = c.as_slice-in-If in
    let weighs = branch_weight s m.guard m.yes m.no m.is in
    let same = ap weight_of first.ensures in
    let same_other = ap weight_of second.ensures in
    let less : 5 * (weight_of first.result.now + weight_of second.result.now) + 4 < t = omega (arith, c.decreases, weighs, same, same_other) in
    let yes = yes_plays c.args.store.now c.args.world s m.guard m.yes m.no first.result.now halves m.is first.ensures split c.requires.playable in
    let no = no_plays c.args.store.now c.args.world s m.guard m.yes m.no second.result.now halves m.is second.ensures split c.requires.playable in
    let yes_free = yes_uncut s m.guard m.yes m.no first.result.now m.is first.ensures c.requires.uncut in
    let no_free = no_uncut s m.guard m.yes m.no second.result.now m.is second.ensures c.requires.uncut in
    search rules

-- the memos of the statement

pub play_one-play_gate-requires-clause-memos : goal.play_one-play_gate-requires-clause-memos
play_one-play_gate-requires-clause-memos g t c =
    memos_in g.L.Label.parts g.L.Label.part_count (length c.args.world.lsta.shape.items) c.args.store.now c.args.memos.now c.args.stmt.now (Stmt-F.Gate c.in-Gate.gate) (gate_out c.args.stmt.now c.in-Gate.gate c.in-Gate.is) c.requires.memos

pub play_one-measure-requires-clause-memos : goal.play_one-measure-requires-clause-memos
play_one-measure-requires-clause-memos g t c =
    memos_in g.L.Label.parts g.L.Label.part_count (length c.args.world.lsta.shape.items) c.args.store.now c.args.memos.now c.args.stmt.now (Stmt-F.Measure c.in-Measure.qubit c.in-Measure.bit) (measure_out c.args.stmt.now c.in-Measure.qubit c.in-Measure.bit c.in-Measure.is) c.requires.memos

pub play_one-reset-requires-clause-memos : goal.play_one-reset-requires-clause-memos
play_one-reset-requires-clause-memos g t c =
    memos_in g.L.Label.parts g.L.Label.part_count (length c.args.world.lsta.shape.items) c.args.store.now c.args.memos.now c.args.stmt.now (Stmt-F.Reset c.in-Reset.qubit) (reset_out c.args.stmt.now c.in-Reset.qubit c.in-Reset.is) c.requires.memos

pub play_one-returns-in-Gate-clause-memos : goal.play_one-returns-in-Gate-clause-memos
play_one-returns-in-Gate-clause-memos g t c =
    ok_then c.play_gate.result
    (memos_out g.L.Label.parts g.L.Label.part_count (length c.args.world.lsta.shape.items) c.play_gate.new.store c.play_gate.new.memos c.args.stmt.now (Stmt-F.Gate c.in-Gate.gate) (gate_out c.args.stmt.now c.in-Gate.gate c.in-Gate.is))
    c.play_gate.ensures.memos

pub play_one-returns-in-Measure-clause-memos : goal.play_one-returns-in-Measure-clause-memos
play_one-returns-in-Measure-clause-memos g t c =
    ok_then c.measure.result
    (memos_out g.L.Label.parts g.L.Label.part_count (length c.args.world.lsta.shape.items) c.measure.new.store c.measure.new.memos c.args.stmt.now (Stmt-F.Measure c.in-Measure.qubit c.in-Measure.bit) (measure_out c.args.stmt.now c.in-Measure.qubit c.in-Measure.bit c.in-Measure.is))
    c.measure.ensures.memos

pub play_one-returns-in-Reset-clause-memos : goal.play_one-returns-in-Reset-clause-memos
play_one-returns-in-Reset-clause-memos g t c =
    ok_then c.reset.result
    (memos_out g.L.Label.parts g.L.Label.part_count (length c.args.world.lsta.shape.items) c.reset.new.store c.reset.new.memos c.args.stmt.now (Stmt-F.Reset c.in-Reset.qubit) (reset_out c.args.stmt.now c.in-Reset.qubit c.in-Reset.is))
    c.reset.ensures.memos

pub play_one-returns-in_ok-halves-in-If-clause-memos : goal.play_one-returns-in_ok-halves-in-If-clause-memos
play_one-returns-in_ok-halves-in-If-clause-memos g t c =
    ok_always c.play_branches.result
    (memos_out g.L.Label.parts g.L.Label.part_count (length c.args.world.lsta.shape.items) c.play_branches.new.store c.args.memos.now c.args.stmt.now (Stmt-F.If c.in-If.guard c.in-If.yes c.in-If.no) (if_out c.args.stmt.now c.in-If.guard c.in-If.yes c.in-If.no c.in-If.is) tt)

pub play_one-returns-in-Ok-clause-memos : goal.play_one-returns-in-Ok-clause-memos
play_one-returns-in-Ok-clause-memos g t c =
    memos_out g.L.Label.parts g.L.Label.part_count (length c.args.world.lsta.shape.items) c.args.store.now c.args.memos.now c.args.stmt.now (Stmt-F.Assume c.in-Assume.guard) (assume_out c.args.stmt.now c.in-Assume.guard c.in-Assume.is) tt

-- what is kept

pub play_one-returns-in-Gate-clause-stock : goal.play_one-returns-in-Gate-clause-stock
play_one-returns-in-Gate-clause-stock g t c =
    ok_always c.play_gate.result (stock_later g.L.Label.parts g.L.Label.part_count c.args.store.now c.play_gate.new.store c.play_gate.ensures.keeps.table c.args.stock.now.entries.items c.requires.stock)

pub play_one-returns-in-Measure-clause-stock : goal.play_one-returns-in-Measure-clause-stock
play_one-returns-in-Measure-clause-stock g t c =
    ok_always c.measure.result (stock_later g.L.Label.parts g.L.Label.part_count c.args.store.now c.measure.new.store c.measure.ensures.keeps.table c.args.stock.now.entries.items c.requires.stock)

pub play_one-returns-in-Reset-clause-stock : goal.play_one-returns-in-Reset-clause-stock
play_one-returns-in-Reset-clause-stock g t c =
    ok_always c.reset.result (stock_later g.L.Label.parts g.L.Label.part_count c.args.store.now c.reset.new.store c.reset.ensures.keeps.table c.args.stock.now.entries.items c.requires.stock)

pub play_one-returns-in-Gate-clause-ok : goal.play_one-returns-in-Gate-clause-ok
play_one-returns-in-Gate-clause-ok g t c =
    ok_gives c.play_gate.result c.play_gate.ensures.ok
    (λ list p. leaves_as g.L.Label.parts g.L.Label.part_count (of_stmt c.args.stmt.now) (of_gate c.in-Gate.gate) c.args.store.now c.play_gate.new.store c.args.steps.now c.play_gate.new.steps (c.args.world ∷ []) list.items
    (gate_move c.args.stmt.now c.in-Gate.gate c.in-Gate.is) p)

pub play_one-returns-in-Gate-clause-err : goal.play_one-returns-in-Gate-clause-err
play_one-returns-in-Gate-clause-err g t c =
    err_gives c.play_gate.result c.play_gate.ensures.err
    (λ why p. stops_as g.L.Label.parts g.L.Label.part_count (of_stmt c.args.stmt.now) (of_gate c.in-Gate.gate) c.args.store.now c.args.steps.now c.play_gate.new.steps (c.args.world ∷ []) why
    (gate_move c.args.stmt.now c.in-Gate.gate c.in-Gate.is) p)

pub play_one-returns-in-Measure-clause-ok : goal.play_one-returns-in-Measure-clause-ok
play_one-returns-in-Measure-clause-ok g t c =
    ok_gives c.measure.result c.measure.ensures.ok
    (λ list p. leaves_as g.L.Label.parts g.L.Label.part_count (of_stmt c.args.stmt.now) (of_measurement c.in-Measure.qubit c.in-Measure.bit) c.args.store.now c.measure.new.store c.args.steps.now c.measure.new.steps (c.args.world ∷ []) list.items
    (measure_move c.args.stmt.now c.in-Measure.qubit c.in-Measure.bit c.in-Measure.is) p)

pub play_one-returns-in-Measure-clause-err : goal.play_one-returns-in-Measure-clause-err
play_one-returns-in-Measure-clause-err g t c =
    err_gives c.measure.result c.measure.ensures.err
    (λ why p. stops_as g.L.Label.parts g.L.Label.part_count (of_stmt c.args.stmt.now) (of_measurement c.in-Measure.qubit c.in-Measure.bit) c.args.store.now c.args.steps.now c.measure.new.steps (c.args.world ∷ []) why
    (measure_move c.args.stmt.now c.in-Measure.qubit c.in-Measure.bit c.in-Measure.is) p)

pub play_one-returns-in-Reset-clause-ok : goal.play_one-returns-in-Reset-clause-ok
play_one-returns-in-Reset-clause-ok g t c =
    ok_gives c.reset.result c.reset.ensures.ok
    (λ list p. leaves_as g.L.Label.parts g.L.Label.part_count (of_stmt c.args.stmt.now) (of_reset c.in-Reset.qubit) c.args.store.now c.reset.new.store c.args.steps.now c.reset.new.steps (c.args.world ∷ []) list.items
    (reset_move c.args.stmt.now c.in-Reset.qubit c.in-Reset.is) p)

pub play_one-returns-in-Reset-clause-err : goal.play_one-returns-in-Reset-clause-err
play_one-returns-in-Reset-clause-err g t c =
    err_gives c.reset.result c.reset.ensures.err
    (λ why p. stops_as g.L.Label.parts g.L.Label.part_count (of_stmt c.args.stmt.now) (of_reset c.in-Reset.qubit) c.args.store.now c.args.steps.now c.reset.new.steps (c.args.world ∷ []) why
    (reset_move c.args.stmt.now c.in-Reset.qubit c.in-Reset.is) p)

pub play_one-returns-in_err-halves-in-If-clause-err : goal.play_one-returns-in_err-halves-in-If-clause-err
play_one-returns-in_err-halves-in-If-clause-err g t c =
    let m = c.in-If in
    let fits = fits_call c.args.store.now c.args.world c.args.stmt.now c.requires.playable in
    passed_on _ c.from_residual.result c.in_err-halves-in-If.field-0.0 c.from_residual.ensures
    (stops_as g.L.Label.parts g.L.Label.part_count (of_stmt c.args.stmt.now) (of_if m.guard m.yes m.no) c.args.store.now c.args.steps.now c.split_paid.new.steps (c.args.world ∷ []) c.in_err-halves-in-If.field-0.0 (if_move c.args.stmt.now m.guard m.yes m.no m.is)
    (if_unpaid g.L.Label.parts g.L.Label.part_count m.guard m.yes m.no c.args.store.now c.args.steps.now c.split_paid.new.steps c.args.world c.in_err-halves-in-If.field-0.0 fits c.split_paid.ensures.cheap c.in_err-halves-in-If.ensures.refused))

pub play_one-returns-in_ok-halves-in-If-clause-ok : goal.play_one-returns-in_ok-halves-in-If-clause-ok
play_one-returns-in_ok-halves-in-If-clause-ok g t c =
    let m = c.in-If in
    let first = c.as_slice in
    let second = c.as_slice-in-If in
    let fits = fits_call c.args.store.now c.args.world c.args.stmt.now c.requires.playable in
    let halves = c.in_ok-halves-in-If.halves.items in
    let c1 = c.split_paid.new.steps in
    ok_gives c.play_branches.result c.play_branches.ensures.ok
    (λ list p. leaves_as g.L.Label.parts g.L.Label.part_count (of_stmt c.args.stmt.now) (of_if m.guard m.yes m.no) c.args.store.now c.play_branches.new.store c.args.steps.now c.play_branches.new.steps (c.args.world ∷ []) list.items (if_move c.args.stmt.now m.guard m.yes m.no m.is)
    (if_leaves g.L.Label.parts g.L.Label.part_count m.guard m.yes m.no c.args.store.now c.play_branches.new.store c.args.steps.now c1 c.play_branches.new.steps c.args.world halves list.items fits c.in_ok-halves-in-If.ensures.split c.split_paid.ensures.cheap
    (subst (λ (l : List Stmt). Leaves g.L.Label.parts g.L.Label.part_count (of_branch m.guard m.yes l) c.args.store.now c.play_branches.new.store c1 c.play_branches.new.steps halves list.items) second.ensures
    (subst (λ (l : List Stmt). Leaves g.L.Label.parts g.L.Label.part_count (of_branch m.guard l second.result.now) c.args.store.now c.play_branches.new.store c1 c.play_branches.new.steps halves list.items) first.ensures p))))

pub play_one-returns-in_ok-halves-in-If-clause-err : goal.play_one-returns-in_ok-halves-in-If-clause-err
play_one-returns-in_ok-halves-in-If-clause-err g t c =
    let m = c.in-If in
    let first = c.as_slice in
    let second = c.as_slice-in-If in
    let fits = fits_call c.args.store.now c.args.world c.args.stmt.now c.requires.playable in
    let halves = c.in_ok-halves-in-If.halves.items in
    let c1 = c.split_paid.new.steps in
    err_gives c.play_branches.result c.play_branches.ensures.err
    (λ why p. stops_as g.L.Label.parts g.L.Label.part_count (of_stmt c.args.stmt.now) (of_if m.guard m.yes m.no) c.args.store.now c.args.steps.now c.play_branches.new.steps (c.args.world ∷ []) why (if_move c.args.stmt.now m.guard m.yes m.no m.is)
    (if_stops g.L.Label.parts g.L.Label.part_count m.guard m.yes m.no c.args.store.now c.args.steps.now c1 c.play_branches.new.steps c.args.world halves why fits c.in_ok-halves-in-If.ensures.split c.split_paid.ensures.cheap c.split_paid.ensures.limit
    (subst (λ (l : List Stmt). Stops g.L.Label.parts g.L.Label.part_count (of_branch m.guard m.yes l) c.args.store.now halves c1 c.play_branches.new.steps why) second.ensures
    (subst (λ (l : List Stmt). Stops g.L.Label.parts g.L.Label.part_count (of_branch m.guard l second.result.now) c.args.store.now halves c1 c.play_branches.new.steps why) first.ensures p))))

pub play_one-returns-in-Ok-clause-ok : goal.play_one-returns-in-Ok-clause-ok
play_one-returns-in-Ok-clause-ok g t c =
    leaves_as g.L.Label.parts g.L.Label.part_count (of_stmt c.args.stmt.now) (of_assumption c.in-Assume.guard) c.args.store.now c.args.store.now c.args.steps.now c.args.steps.now (c.args.world ∷ []) c.in-Ok.list.items (assume_move c.args.stmt.now c.in-Assume.guard c.in-Assume.is)
    (assumed_leaves g.L.Label.parts g.L.Label.part_count c.in-Assume.guard c.args.store.now c.args.steps.now c.args.world c.in-Ok.list.items (c.in-Ok.ensures))

-- ---- the branch that a world takes

pub play_branch-returns-then-holds-clause-ok : goal.play_branch-returns-then-holds-clause-ok
play_branch-returns-then-holds-clause-ok g t c =
    let bit = sym c.holds-holds.ensures ∙ c.if-holds.true in
    ok_gives c.play_inside.result c.play_inside.ensures.ok
    (λ list p. taken_leaves g.L.Label.parts g.L.Label.part_count c.args.guard.now c.args.yes.now c.args.no.now c.args.yes.now true c.args.store.now c.play_inside.new.store c.args.steps.now c.play_inside.new.steps c.args.world c.in-Ok.worlds.items list.items bit c.in-Ok.ensures refl p)

pub play_branch-returns-then-holds-clause-err : goal.play_branch-returns-then-holds-clause-err
play_branch-returns-then-holds-clause-err g t c =
    let bit = sym c.holds-holds.ensures ∙ c.if-holds.true in
    err_gives c.play_inside.result c.play_inside.ensures.err
    (λ why p. taken_stops g.L.Label.parts g.L.Label.part_count c.args.guard.now c.args.yes.now c.args.no.now c.args.yes.now true c.args.store.now c.args.steps.now c.play_inside.new.steps c.args.world c.in-Ok.worlds.items why bit c.in-Ok.ensures refl p)

pub play_branch-returns-else-holds-clause-ok : goal.play_branch-returns-else-holds-clause-ok
play_branch-returns-else-holds-clause-ok g t c =
    let bit = sym c.holds-holds.ensures ∙ c.if-holds.false in
    ok_gives c.play_inside-else-holds.result c.play_inside-else-holds.ensures.ok
    (λ list p. taken_leaves g.L.Label.parts g.L.Label.part_count c.args.guard.now c.args.yes.now c.args.no.now c.args.no.now false c.args.store.now c.play_inside-else-holds.new.store c.args.steps.now c.play_inside-else-holds.new.steps c.args.world c.in-Ok.worlds.items list.items bit c.in-Ok.ensures refl p)

pub play_branch-returns-else-holds-clause-err : goal.play_branch-returns-else-holds-clause-err
play_branch-returns-else-holds-clause-err g t c =
    let bit = sym c.holds-holds.ensures ∙ c.if-holds.false in
    err_gives c.play_inside-else-holds.result c.play_inside-else-holds.ensures.err
    (λ why p. taken_stops g.L.Label.parts g.L.Label.part_count c.args.guard.now c.args.yes.now c.args.no.now c.args.no.now false c.args.store.now c.args.steps.now c.play_inside-else-holds.new.steps c.args.world c.in-Ok.worlds.items why bit c.in-Ok.ensures refl p)

-- ---- world by world

pub play_branches-play_branch-requires : goal.play_branches-play_branch-requires
play_branches-play_branch-requires g t c κs within =
    let all = c.args.worlds.items in
    let given = c.into_iter-world-iterator.ensures.into_iter_gives in
    let len : vec_len c.args.worlds ≡ length all = search rules in
    let turn = YieldsList-turn (YieldsList-from_vec all given.0 (given.1 ∙ len)) c.loop-world.yielded c.loop-world.world-iterator c.loop-world.yielded_by c.next.result c.next.new.self c.in-Some.world c.in-Some.is c.next.ensures.steps in
    let yes = one_plays c.args.store.now c.loop-world.store all (length c.loop-world.yielded) c.in-Some.world c.args.yes.now turn.0 turn.1 c.loop-world.invariant.keeps.table c.requires.yes in
    let no = one_plays c.args.store.now c.loop-world.store all (length c.loop-world.yielded) c.in-Some.world c.args.no.now turn.0 turn.1 c.loop-world.invariant.keeps.table c.requires.no in
    let paid = c.loop-world.invariant.keeps.paid in
    let stock = c.loop-world.invariant.stock in
    let less : 5 * (weight_of c.args.yes.now + weight_of c.args.no.now) + 3 < t = omega (arith, c.decreases) in
    search rules

pub play_branches-returns-in_err-more-clause-err : goal.play_branches-returns-in_err-more-clause-err
play_branches-returns-in_err-more-clause-err g t c =
    let all = c.args.worlds.items in
    let given = c.into_iter-world-iterator.ensures.into_iter_gives in
    let len : vec_len c.args.worlds ≡ length all = search rules in
    let turn = YieldsList-turn (YieldsList-from_vec all given.0 (given.1 ∙ len)) c.loop-world.yielded c.loop-world.world-iterator c.loop-world.yielded_by c.next.result c.next.new.self c.in-Some.world c.in-Some.is c.next.ensures.steps in
    passed_on _ c.from_residual.result c.in_err-more.field-0.0 c.from_residual.ensures
    (stop_at g.L.Label.parts g.L.Label.part_count (of_branch c.args.guard.now c.args.yes.now c.args.no.now) c.args.store.now c.loop-world.store c.play_branch.new.store c.args.steps.now c.loop-world.steps c.play_branch.new.steps all (length c.loop-world.yielded) c.in-Some.world c.loop-world.list.items c.in_err-more.field-0.0 turn.0 turn.1
    c.loop-world.invariant.keeps c.loop-world.invariant.made c.in_err-more.ensures.err)

pub play_branches-returns-in_default-clause-err : goal.play_branches-returns-in_default-clause-err
play_branches-returns-in_default-clause-err g t c =
    let all = c.args.worlds.items in
    let given = c.into_iter-world-iterator.ensures.into_iter_gives in
    let len : vec_len c.args.worlds ≡ length all = search rules in
    let turn = YieldsList-turn (YieldsList-from_vec all given.0 (given.1 ∙ len)) c.loop-world.yielded c.loop-world.world-iterator c.loop-world.yielded_by c.next.result c.next.new.self c.in-Some.world c.in-Some.is c.next.ensures.steps in
    memory_at g.L.Label.parts g.L.Label.part_count (of_branch c.args.guard.now c.args.yes.now c.args.no.now) c.args.store.now c.loop-world.store c.play_branch.new.store c.args.steps.now c.loop-world.steps c.play_branch.new.steps all (length c.loop-world.yielded) c.in-Some.world c.loop-world.list.items c.in_ok-more.more.items turn.0 turn.1
    c.loop-world.invariant.keeps.table c.play_branch.ensures.keeps.table c.loop-world.invariant.made c.in_ok-more.ensures.ok

pub play_branches-loop-world-preserved : goal.play_branches-loop-world-preserved
play_branches-loop-world-preserved g t c =
    let all = c.args.worlds.items in
    let given = c.into_iter-world-iterator.ensures.into_iter_gives in
    let len : vec_len c.args.worlds ≡ length all = search rules in
    let turn = YieldsList-turn (YieldsList-from_vec all given.0 (given.1 ∙ len)) c.loop-world.yielded c.loop-world.world-iterator c.loop-world.yielded_by c.next.result c.next.new.self c.in-Some.world c.in-Some.is c.next.ensures.steps in
    record {
      stock = c.in_ok-more.ensures.stock;
      keeps = keeps_then c.args.store.now c.loop-world.store c.play_branch.new.store c.args.steps.now c.loop-world.steps c.play_branch.new.steps c.loop-world.invariant.keeps c.play_branch.ensures.keeps;
      made = collect_step g.L.Label.parts g.L.Label.part_count (of_branch c.args.guard.now c.args.yes.now c.args.no.now) c.args.store.now c.loop-world.store c.play_branch.new.store c.args.steps.now c.loop-world.steps c.play_branch.new.steps all (length c.loop-world.yielded) _ c.in-Some.world c.loop-world.list.items c.in_ok-more.more.items _
          (length-append c.loop-world.yielded (c.in-Some.world ∷ [])) c.in-Ok.ensures.items turn.0 turn.1 c.loop-world.invariant.keeps.table c.play_branch.ensures.keeps.table c.loop-world.invariant.made c.in_ok-more.ensures.ok;
    }

pub play_each-play_one-requires : goal.play_each-play_one-requires
play_each-play_one-requires g t c κs within =
    let all = c.args.worlds.items in
    let given = c.into_iter-world-iterator.ensures.into_iter_gives in
    let len : vec_len c.args.worlds ≡ length all = search rules in
    let turn = YieldsList-turn (YieldsList-from_vec all given.0 (given.1 ∙ len)) c.loop-world.yielded c.loop-world.world-iterator c.loop-world.yielded_by c.next.result c.next.new.self c.in-Some.world c.in-Some.is c.next.ensures.steps in
    let playable = one_stmt_plays c.args.store.now c.loop-world.store all (length c.loop-world.yielded) c.in-Some.world c.args.stmt.now turn.0 turn.1 c.loop-world.invariant.keeps.table c.requires.playable in
    let p = c.requires.playable in
    let same = levels_same p.qubits p.bits c.args.store.now all c.deref.result.now (length c.loop-world.yielded) c.in-Some.world c.levels_of-levels.result turn.0 turn.1 p.sized c.deref.ensures.value c.levels_of-levels.ensures in
    let memos = subst (λ k. AreMemos g.L.Label.parts g.L.Label.part_count k c.loop-world.store c.loop-world.memos c.args.stmt.now) same c.loop-world.invariant.memos in
    let stock = c.loop-world.invariant.stock in
    let paid = c.loop-world.invariant.keeps.paid in
    let less : 5 * weight c.args.stmt.now < t = omega (arith, c.decreases) in
    search rules

pub play_each-returns-in_err-more-clause-err : goal.play_each-returns-in_err-more-clause-err
play_each-returns-in_err-more-clause-err g t c =
    let all = c.args.worlds.items in
    let given = c.into_iter-world-iterator.ensures.into_iter_gives in
    let len : vec_len c.args.worlds ≡ length all = search rules in
    let turn = YieldsList-turn (YieldsList-from_vec all given.0 (given.1 ∙ len)) c.loop-world.yielded c.loop-world.world-iterator c.loop-world.yielded_by c.next.result c.next.new.self c.in-Some.world c.in-Some.is c.next.ensures.steps in
    passed_on _ c.from_residual.result c.in_err-more.field-0.0 c.from_residual.ensures
    (stop_at g.L.Label.parts g.L.Label.part_count (of_stmt c.args.stmt.now) c.args.store.now c.loop-world.store c.play_one.new.store c.args.steps.now c.loop-world.steps c.play_one.new.steps all (length c.loop-world.yielded) c.in-Some.world c.loop-world.list.items c.in_err-more.field-0.0 turn.0 turn.1
    c.loop-world.invariant.keeps c.loop-world.invariant.made c.in_err-more.ensures.err)

pub play_each-returns-in_default-clause-err : goal.play_each-returns-in_default-clause-err
play_each-returns-in_default-clause-err g t c =
    let all = c.args.worlds.items in
    let given = c.into_iter-world-iterator.ensures.into_iter_gives in
    let len : vec_len c.args.worlds ≡ length all = search rules in
    let turn = YieldsList-turn (YieldsList-from_vec all given.0 (given.1 ∙ len)) c.loop-world.yielded c.loop-world.world-iterator c.loop-world.yielded_by c.next.result c.next.new.self c.in-Some.world c.in-Some.is c.next.ensures.steps in
    memory_at g.L.Label.parts g.L.Label.part_count (of_stmt c.args.stmt.now) c.args.store.now c.loop-world.store c.play_one.new.store c.args.steps.now c.loop-world.steps c.play_one.new.steps all (length c.loop-world.yielded) c.in-Some.world c.loop-world.list.items c.in_ok-more.more.items turn.0 turn.1
    c.loop-world.invariant.keeps.table c.play_one.ensures.keeps.table c.loop-world.invariant.made c.in_ok-more.ensures.ok

pub play_each-loop-world-init : goal.play_each-loop-world-init
play_each-loop-world-init g t c =
    let empty : c.new-list.result.items ≡ [] = search rules in
    record {
      keeps = keeps_none c.args.store.now c.args.steps.now c.requires.paid;
      made = subst (λ (l : List World). Collects g.L.Label.parts g.L.Label.part_count (of_stmt c.args.stmt.now) c.args.store.now c.args.store.now c.args.steps.now c.args.steps.now c.args.worlds.items [] l) (sym empty)
          (collect_none g.L.Label.parts g.L.Label.part_count (of_stmt c.args.stmt.now) c.args.store.now c.args.steps.now c.args.worlds.items);
      stock = stock_taken g.L.Label.parts g.L.Label.part_count c.args.store.now c.args.stmt.now c.levels_of-levels.result c.args.stock.now.entries.items c.take-memos.new.self.entries.items c.take-memos.result c.take-memos.ensures c.requires.stock;
      memos = memos_taken g.L.Label.parts g.L.Label.part_count c.args.store.now c.args.stmt.now c.levels_of-levels.result c.args.stock.now.entries.items c.take-memos.new.self.entries.items c.take-memos.result c.take-memos.ensures c.requires.stock;
    }

pub play_each-loop-world-preserved : goal.play_each-loop-world-preserved
play_each-loop-world-preserved g t c =
    let all = c.args.worlds.items in
    let given = c.into_iter-world-iterator.ensures.into_iter_gives in
    let len : vec_len c.args.worlds ≡ length all = search rules in
    let turn = YieldsList-turn (YieldsList-from_vec all given.0 (given.1 ∙ len)) c.loop-world.yielded c.loop-world.world-iterator c.loop-world.yielded_by c.next.result c.next.new.self c.in-Some.world c.in-Some.is c.next.ensures.steps in
    record {
      stock = c.in_ok-more.ensures.stock;
      keeps = keeps_then c.args.store.now c.loop-world.store c.play_one.new.store c.args.steps.now c.loop-world.steps c.play_one.new.steps c.loop-world.invariant.keeps c.play_one.ensures.keeps;
      made = collect_step g.L.Label.parts g.L.Label.part_count (of_stmt c.args.stmt.now) c.args.store.now c.loop-world.store c.play_one.new.store c.args.steps.now c.loop-world.steps c.play_one.new.steps all (length c.loop-world.yielded) _ c.in-Some.world c.loop-world.list.items c.in_ok-more.more.items _
          (length-append c.loop-world.yielded (c.in-Some.world ∷ [])) c.in-Ok.ensures.items turn.0 turn.1 c.loop-world.invariant.keeps.table c.play_one.ensures.keeps.table c.loop-world.invariant.made c.in_ok-more.ensures.ok;
      memos =
          let p = c.requires.playable in
          let same = levels_same p.qubits p.bits c.args.store.now all c.deref.result.now (length c.loop-world.yielded) c.in-Some.world c.levels_of-levels.result turn.0 turn.1 p.sized c.deref.ensures.value c.levels_of-levels.ensures in
          subst (λ k. AreMemos g.L.Label.parts g.L.Label.part_count k c.play_one.new.store c.play_one.new.memos c.args.stmt.now) (sym same) c.in_ok-more.ensures.memos;
    }

pub play_each-returns-in_err-more-clause-keeps : goal.play_each-returns-in_err-more-clause-keeps
play_each-returns-in_err-more-clause-keeps g t c = keeps_then c.args.store.now c.loop-world.store c.play_one.new.store c.args.steps.now c.loop-world.steps c.play_one.new.steps c.loop-world.invariant.keeps c.play_one.ensures.keeps

pub play_each-returns-in_default-put-clause-err : goal.play_each-returns-in_default-put-clause-err
play_each-returns-in_default-put-clause-err g t c =
    let all = c.args.worlds.items in
    let given = c.into_iter-world-iterator.ensures.into_iter_gives in
    let len : vec_len c.args.worlds ≡ length all = search rules in
    let end = YieldsList-end (YieldsList-from_vec all given.0 (given.1 ∙ len)) c.loop-world.yielded c.loop-world.world-iterator c.loop-world.yielded_by c.next.result c.next.new.self c.in-None.is c.next.ensures.steps in
    memory_done g.L.Label.parts g.L.Label.part_count (of_stmt c.args.stmt.now) c.args.store.now c.loop-world.store c.args.steps.now c.loop-world.steps all c.loop-world.list.items
    (collect_end g.L.Label.parts g.L.Label.part_count (of_stmt c.args.stmt.now) c.args.store.now c.loop-world.store c.args.steps.now c.loop-world.steps all c.loop-world.list.items (length c.loop-world.yielded) end.1 c.loop-world.invariant.made)

pub play_each-returns-clause-stock : goal.play_each-returns-clause-stock
play_each-returns-clause-stock g t c =
    stock_put g.L.Label.parts g.L.Label.part_count c.loop-world.store c.args.stmt.now c.levels_of-levels.result c.loop-world.memos c.loop-world.stock.entries.items c.put.new.self.entries.items c.in-Ok-put.ensures c.loop-world.invariant.memos c.loop-world.invariant.stock

pub play_each-returns-clause-ok : goal.play_each-returns-clause-ok
play_each-returns-clause-ok g t c =
    let all = c.args.worlds.items in
    let given = c.into_iter-world-iterator.ensures.into_iter_gives in
    let len : vec_len c.args.worlds ≡ length all = search rules in
    let end = YieldsList-end (YieldsList-from_vec all given.0 (given.1 ∙ len)) c.loop-world.yielded c.loop-world.world-iterator c.loop-world.yielded_by c.next.result c.next.new.self c.in-None.is c.next.ensures.steps in
    collect_end g.L.Label.parts g.L.Label.part_count (of_stmt c.args.stmt.now) c.args.store.now c.loop-world.store c.args.steps.now c.loop-world.steps all c.loop-world.list.items (length c.loop-world.yielded) end.1 c.loop-world.invariant.made

-- ---- the statements of a branch in order

pub play_inside-loop-stmt-init : goal.play_inside-loop-stmt-init
play_inside-loop-stmt-init g t c = record {
  keeps = keeps_none c.args.store.now c.args.steps.now c.requires.paid;
  stock = c.requires.stock;
  leads = leads_start g.L.Label.parts g.L.Label.part_count c.args.body.now c.args.store.now c.args.steps.now c.args.worlds.items;
}

pub play_inside-play_each-requires : goal.play_inside-play_each-requires
play_inside-play_each-requires g t c κs within =
    let i = c.loop-stmt.stmt-index in
    let body = c.args.body.now in
    let x = c.stmt-item.result in
    let below = next_weight i body x x c.loop-stmt-test.true c.stmt-item.is in
    let less : 5 * weight x + 1 < t = omega (arith, c.decreases, below) in
    let playable = next_plays g.L.Label.parts g.L.Label.part_count body c.args.store.now c.loop-stmt.store c.args.steps.now c.loop-stmt.steps c.args.worlds.items i x (drop i body) c.loop-stmt.left.items c.loop-stmt-test.true c.stmt-item.is c.loop-stmt.invariant.leads c.requires.playable in
    let free = next_uncut i body x x c.loop-stmt-test.true c.stmt-item.is c.requires.uncut in
    let paid = c.loop-stmt.invariant.keeps.paid in
    let stock = c.loop-stmt.invariant.stock in
    search rules

pub play_inside-returns-in_err-left-clause-err : goal.play_inside-returns-in_err-left-clause-err
play_inside-returns-in_err-left-clause-err g t c =
    passed_on _ c.from_residual.result c.in_err-left.field-0.0 c.from_residual.ensures
    (stop_next g.L.Label.parts g.L.Label.part_count c.args.body.now c.args.store.now c.loop-stmt.store c.args.steps.now c.loop-stmt.steps c.play_each.new.steps c.args.worlds.items c.loop-stmt.stmt-index c.stmt-item.result c.loop-stmt.left.items c.in_err-left.field-0.0
    c.loop-stmt-test.true c.stmt-item.is c.loop-stmt.invariant.keeps.limit c.loop-stmt.invariant.leads c.in_err-left.ensures.err)

pub play_inside-loop-stmt-preserved : goal.play_inside-loop-stmt-preserved
play_inside-loop-stmt-preserved g t c =
    record {
      keeps = keeps_then c.args.store.now c.loop-stmt.store c.play_each.new.store c.args.steps.now c.loop-stmt.steps c.play_each.new.steps c.loop-stmt.invariant.keeps c.play_each.ensures.keeps;
      stock = c.in_ok-left.ensures.stock;
      leads = leads_next g.L.Label.parts g.L.Label.part_count c.args.body.now c.args.store.now c.loop-stmt.store c.play_each.new.store c.args.steps.now c.loop-stmt.steps c.play_each.new.steps c.args.worlds.items c.loop-stmt.stmt-index c.stmt-item.result c.loop-stmt.left.items c.in_ok-left.left.items
          c.loop-stmt-test.true c.stmt-item.is c.loop-stmt.invariant.leads c.in_ok-left.ensures.ok;
    }

pub play_inside-returns-clause-ok : goal.play_inside-returns-clause-ok
play_inside-returns-clause-ok g t c =
    let body = c.args.body.now in
    let none : drop c.loop-stmt.stmt-index body ≡ [] = drop_of_length-le body (omega (arith, c.loop-stmt-test.false)) in
    leads_out g.L.Label.parts g.L.Label.part_count body c.args.store.now c.loop-stmt.store c.args.steps.now c.loop-stmt.steps c.args.worlds.items c.loop-stmt.left.items (drop c.loop-stmt.stmt-index body) none c.loop-stmt.invariant.leads
