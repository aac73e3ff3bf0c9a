use Rattle.std.proofs.Common.{suc, nat_eq, ◌≡◌, ◌+◌, ◌-◌, ◌*◌, ◌<◌, ◌≤◌, length, drop, get_or, slice_get, Some, refl, sym, ap, ap₂, subst, ◌∙◌, rules, arith}
use Rattle.std.specs.List.{list_any}
use Rattle.std.proofs.lemmas.List.{length-append}
use Rattle.aq_store.specs.Nodes.{HasShape, pairs_at, runs_at}
use Rattle.aq_store.specs.Runs.{copies, run_of, compress}
use Rattle.aq_store.specs.Means.{of_place}
use Rattle.aq_store.specs.Memos.{memo_at, pair_memo_at}
use Rattle.aq_store.proofs.TableLemmas.{HasShape-Extends, Extends-trans, Extends-refl}
use Rattle.aq_store.proofs.RunLemmas.{before, run_choice, run_next, run_within, before-start, before-end, length-copies}
use Rattle.aq_store.proofs.MeansLemmas.{pairs_at-kept, opened, means_heights, place_step, place_done, MeanPairs-none}
use Rattle.aq_store.proofs.OwedLemmas.{split_shape}
use Rattle.std.proofs.Common.{is_some}
use Rattle.aq_store.specs.Owed.{owed, rest_of}
use Rattle.aq_store.proofs.StopLemmas.{passed_on, adds_limit}
use Rattle.aq_gate_ops.specs.Action.{IsActed}
use Rattle.aq_gate_ops.specs.Accounts.{anew, anew_at, is_made, row_prices, gate_owed}
use Rattle.aq_gate_ops.proofs.CauseLemmas.{cause_map, alone_cause, act_cause_kept, act_cause_choice, act_cause_target, act_cause_low, act_cause_high}
use Rattle.aq_gate_ops.proofs.GateAccounts.{AreGateLevels-Extends, gate_pair, key_held, both_held, place_paid, target_paid, side_paid, place_more, target_more, side_more, place_put}
use Rattle.aq_gate_ops.proofs.RowAccounts.{paid_product, pays_then, pays_nothing}
use Rattle.aq_gate_ops.proofs.ZeroLemmas.{place_zero}
use Rattle.aq_gate_ops.proofs.StoppedLemmas.{stopped_within, stopped_memory, stopped_put, stopped_add, added_besides}
use Rattle.aq_gate_ops.proofs.GateLemmas.{act_found, act_target, act_both, act_off, acted_none, IsActMemo-Extends, IsActMemo-put, IsRowMemo-Extends}
use Rattle.aq_gate_ops.proofs.action.+act.Goals as goal

pub act_at-returns-then-is_zero-clause-image : goal.act_at-returns-then-is_zero-clause-image
act_at-returns-then-is_zero-clause-image g t c =
    place_zero g.L.Label.parts g.L.Label.part_count c.args.gate.now c.args.shape.now c.args.depth c.args.store.now c.args.id c.requires.shape c.if-is_zero.ensures.null

pub act_at-returns-then-is_zero-clause-steps : goal.act_at-returns-then-is_zero-clause-steps
act_at-returns-then-is_zero-clause-steps g t c =
    λ levels pairs h. pays_nothing _ _ _ c.args.store.now c.args.steps.now

pub act_at-returns-in-Some-clause-image : goal.act_at-returns-in-Some-clause-image
act_at-returns-in-Some-clause-image g t c = act_found g.L.Label.parts g.L.Label.part_count c.args.gate.now c.args.shape.now c.args.store.now (memo_at c.args.memo.now) c.args.depth c.args.id c.in-Some.made c.requires.memo (omega (arith, c.requires.deep, c.requires.valid.target)) c.requires.shape (sym c.in-Some.ensures)

pub act_at-run_count-index-end-requires : goal.act_at-run_count-index-end-requires
act_at-run_count-index-end-requires g t c =
    let lt : c.args.depth < length c.args.shape.now = omega (arith, c.requires.deep, c.requires.valid.target) in
    let split = split_shape c.args.shape.now c.args.depth lt in
    let o = opened c.args.store.now (get_or c.args.shape.now c.args.depth 0) (drop (c.args.depth + 1) c.args.shape.now) c.args.id (subst (λ u. HasShape c.args.store.now u c.args.id) split c.requires.shape) in
    omega (arith, o.1, o.2)

pub act_at-loop-index-init : goal.act_at-loop-index-init
act_at-loop-index-init g t c = record {
  keeps = Extends-refl c.args.store.now;
  paid = c.requires.paid;
  limit = refl;
  done = λ q h. h;
  rows_done = λ q h. h;
  cost = λ levels pairs h. pays_nothing _ _ _ c.args.store.now c.args.steps.now;
  memo = c.requires.memo;
  rows = c.requires.rows;
  count = ap length c.new-pairs.ensures ∙ sym (before-start (pairs_at c.args.store.now c.args.id));
  each = MeanPairs-none (of_place (IsActed g.L.Label.parts g.L.Label.part_count (length c.args.shape.now) c.args.gate.now c.args.depth) c.args.store.now c.args.id) c.args.store.now (drop (c.args.depth + 1) c.args.shape.now) c.new-pairs.result c.new-pairs.ensures;
}

pub act_at-run-pair-requires : goal.act_at-run-pair-requires
act_at-run-pair-requires g t c = omega (arith, c.loop-index-test.true, ap (λ ps. length (compress ps)) (pairs_at-kept c.args.store.now c.loop-index.store c.loop-index.invariant.keeps (drop c.args.depth c.args.shape.now) c.args.id c.requires.shape))

pub act_at-act_pair-requires : goal.act_at-act_pair-requires
act_at-act_pair-requires g t c κs within =
    let lt : c.args.depth < length c.args.shape.now = omega (arith, c.requires.deep, c.requires.valid.target) in
    let split = split_shape c.args.shape.now c.args.depth lt in
    let o = opened c.args.store.now (get_or c.args.shape.now c.args.depth 0) (drop (c.args.depth + 1) c.args.shape.now) c.args.id (subst (λ u. HasShape c.args.store.now u c.args.id) split c.requires.shape) in
    let here : slice_get (runs_at c.args.store.now c.args.id) c.loop-index.index ≡ Some (run_of c.run-pair.result.0 c.run-pair.result.1) = ap (λ ps. slice_get (compress ps) c.loop-index.index) (sym (pairs_at-kept c.args.store.now c.loop-index.store c.loop-index.invariant.keeps (drop c.args.depth c.args.shape.now) c.args.id c.requires.shape)) ∙ c.run-pair.ensures.run in
    let first = run_choice (pairs_at c.args.store.now c.args.id) c.loop-index.index c.run-pair.result.1 (before (runs_at c.args.store.now c.args.id) c.loop-index.index) c.run-pair.result.0 here (omega arith) (omega (arith, c.run-pair.ensures.some)) in
    let left = HasShape-Extends c.args.store.now c.loop-index.store c.loop-index.invariant.keeps (drop (c.args.depth + 1) c.args.shape.now) c.run-pair.result.0.0 (o.3.left (before (runs_at c.args.store.now c.args.id) c.loop-index.index) c.run-pair.result.0 first) in
    let right = HasShape-Extends c.args.store.now c.loop-index.store c.loop-index.invariant.keeps (drop (c.args.depth + 1) c.args.shape.now) c.run-pair.result.0.1 (o.3.right (before (runs_at c.args.store.now c.args.id) c.loop-index.index) c.run-pair.result.0 first) in
    search rules

pub act_at-push-requires-clause-room : goal.act_at-push-requires-clause-room
act_at-push-requires-clause-room g t c =
    let here : slice_get (runs_at c.args.store.now c.args.id) c.loop-index.index ≡ Some (run_of c.run-pair.result.0 c.run-pair.result.1) = ap (λ ps. slice_get (compress ps) c.loop-index.index) (sym (pairs_at-kept c.args.store.now c.loop-index.store c.loop-index.invariant.keeps (drop c.args.depth c.args.shape.now) c.args.id c.requires.shape)) ∙ c.run-pair.ensures.run in
    let a = run_within (pairs_at c.args.store.now c.args.id) c.loop-index.index c.run-pair.result.1 c.run-pair.result.0 here in
    omega (arith, ap length (pairs_at-kept c.args.store.now c.loop-index.store c.loop-index.invariant.keeps (drop c.args.depth c.args.shape.now) c.args.id c.requires.shape), c.run-pair.ensures.most, c.loop-index.invariant.count)

pub act_at-loop-index-preserved : goal.act_at-loop-index-preserved
act_at-loop-index-preserved g t c =
    let lt : c.args.depth < length c.args.shape.now = omega (arith, c.requires.deep, c.requires.valid.target) in
    let split = split_shape c.args.shape.now c.args.depth lt in
    let here : slice_get (runs_at c.args.store.now c.args.id) c.loop-index.index ≡ Some (run_of c.run-pair.result.0 c.run-pair.result.1) = ap (λ ps. slice_get (compress ps) c.loop-index.index) (sym (pairs_at-kept c.args.store.now c.loop-index.store c.loop-index.invariant.keeps (drop c.args.depth c.args.shape.now) c.args.id c.requires.shape)) ∙ c.run-pair.ensures.run in
    let long : length c.push.new.self ≡ length c.loop-index.pairs + c.run-pair.result.1 = ap length c.in-Ok.ensures ∙ length-append c.loop-index.pairs (copies c.run-pair.result.1 c.in_ok-made.made) ∙ ap (λ y. length c.loop-index.pairs + y) (length-copies c.run-pair.result.1 c.in_ok-made.made) in
    record {
      keeps = Extends-trans _ _ _ c.loop-index.invariant.keeps c.act_pair.ensures.keeps;
      paid = c.act_pair.ensures.paid;
      limit = c.act_pair.ensures.limit ∙ c.loop-index.invariant.limit;
      done = λ q h. c.act_pair.ensures.done q (c.loop-index.invariant.done q h);
      rows_done = λ q h. c.act_pair.ensures.rows_done q (c.loop-index.invariant.rows_done q h);
      cost = λ levels pairs h. pays_then _ _ _ _ _ _ (anew_at (c.args.gate.now.target - c.args.depth) (drop (c.args.depth + 1) c.args.shape.now) * length c.loop-index.pairs) (anew_at (c.args.gate.now.target - c.args.depth) (drop (c.args.depth + 1) c.args.shape.now)) _ c.args.store.now c.loop-index.store c.act_pair.new.store c.args.steps.now c.loop-index.steps c.act_pair.new.steps (paid_product (anew_at (c.args.gate.now.target - c.args.depth) (drop (c.args.depth + 1) c.args.shape.now)) (length c.loop-index.pairs) (length c.push.new.self) (omega (arith, long, c.run-pair.ensures.some))) (c.loop-index.invariant.cost levels pairs h)
          (c.in_ok-made.ensures.steps (rest_of levels) pairs (gate_pair c.args.gate.now c.args.store.now c.loop-index.store c.loop-index.invariant.keeps (drop c.args.depth c.args.shape.now) (drop (c.args.depth + 1) c.args.shape.now) (c.args.gate.now.target - c.args.depth) (get_or c.args.shape.now c.args.depth 0) split c.args.id c.loop-index.index c.run-pair.result.1 c.run-pair.result.0 levels pairs c.requires.shape h c.run-pair.ensures.run c.run-pair.ensures.some));
      memo = c.in_ok-made.ensures.memo;
      rows = c.in_ok-made.ensures.rows;
      count = ap length c.in-Ok.ensures ∙ length-append c.loop-index.pairs (copies c.run-pair.result.1 c.in_ok-made.made) ∙ ap₂ (λ x y. x + y) c.loop-index.invariant.count (length-copies c.run-pair.result.1 c.in_ok-made.made)
          ∙ sym (run_next (pairs_at c.args.store.now c.args.id) c.loop-index.index c.run-pair.result.1 c.run-pair.result.0 here);
      each = place_step (IsActed g.L.Label.parts g.L.Label.part_count (length c.args.shape.now) c.args.gate.now c.args.depth) c.args.store.now c.loop-index.store c.act_pair.new.store c.loop-index.invariant.keeps c.act_pair.ensures.keeps (drop c.args.depth c.args.shape.now) (drop (c.args.depth + 1) c.args.shape.now) (get_or c.args.shape.now c.args.depth 0) c.args.id c.loop-index.index c.run-pair.result.1 c.loop-index.pairs c.push.new.self c.run-pair.result.0 c.in_ok-made.made split c.requires.shape
          c.run-pair.ensures.run c.loop-index.invariant.count c.loop-index.invariant.each c.in_ok-made.ensures.image c.in-Ok.ensures;
    }

pub act_at-node_of-requires-clause-some : goal.act_at-node_of-requires-clause-some
act_at-node_of-requires-clause-some g t c =
    let lt : c.args.depth < length c.args.shape.now = omega (arith, c.requires.deep, c.requires.valid.target) in
    let split = split_shape c.args.shape.now c.args.depth lt in
    let o = opened c.args.store.now (get_or c.args.shape.now c.args.depth 0) (drop (c.args.depth + 1) c.args.shape.now) c.args.id (subst (λ u. HasShape c.args.store.now u c.args.id) split c.requires.shape) in
    let e = before-end (pairs_at c.args.store.now c.args.id) c.loop-index.index (omega (arith, c.loop-index-test.false)) in
    omega (arith, c.loop-index.invariant.count, o.1, o.2)

pub act_at-node_of-requires-clause-heights : goal.act_at-node_of-requires-clause-heights
act_at-node_of-requires-clause-heights g t c = means_heights (of_place (IsActed g.L.Label.parts g.L.Label.part_count (length c.args.shape.now) c.args.gate.now c.args.depth) c.args.store.now c.args.id) c.loop-index.store (drop (c.args.depth + 1) c.args.shape.now) c.loop-index.pairs c.loop-index.invariant.each

pub act_at-returns-clause-image : goal.act_at-returns-clause-image
act_at-returns-clause-image g t c =
    let lt : c.args.depth < length c.args.shape.now = omega (arith, c.requires.deep, c.requires.valid.target) in
    let split = split_shape c.args.shape.now c.args.depth lt in
    place_done (IsActed g.L.Label.parts g.L.Label.part_count (length c.args.shape.now) c.args.gate.now c.args.depth) (acted_none g.L.Label.parts g.L.Label.part_count c.args.gate.now (length c.args.shape.now) c.args.depth) c.args.store.now c.loop-index.store c.node_of.new.self c.loop-index.invariant.keeps c.node_of.ensures.keeps (drop c.args.depth c.args.shape.now) (drop (c.args.depth + 1) c.args.shape.now) (get_or c.args.shape.now c.args.depth 0) c.args.id c.in_ok-made-2.made c.loop-index.index c.loop-index.pairs split c.requires.shape c.loop-index.invariant.count (omega (arith, c.loop-index-test.false)) c.loop-index.invariant.each c.in_ok-made-2.ensures.adds.here

pub act_at-returns-clause-memo : goal.act_at-returns-clause-memo
act_at-returns-clause-memo g t c =
    let lt : c.args.depth < length c.args.shape.now = omega (arith, c.requires.deep, c.requires.valid.target) in
    let split = split_shape c.args.shape.now c.args.depth lt in
    let image = place_done (IsActed g.L.Label.parts g.L.Label.part_count (length c.args.shape.now) c.args.gate.now c.args.depth) (acted_none g.L.Label.parts g.L.Label.part_count c.args.gate.now (length c.args.shape.now) c.args.depth) c.args.store.now c.loop-index.store c.node_of.new.self c.loop-index.invariant.keeps c.node_of.ensures.keeps (drop c.args.depth c.args.shape.now) (drop (c.args.depth + 1) c.args.shape.now) (get_or c.args.shape.now c.args.depth 0) c.args.id c.in_ok-made-2.made c.loop-index.index c.loop-index.pairs split c.requires.shape c.loop-index.invariant.count (omega (arith, c.loop-index-test.false)) c.loop-index.invariant.each c.in_ok-made-2.ensures.adds.here in
    IsActMemo-put g.L.Label.parts g.L.Label.part_count c.args.gate.now c.args.shape.now c.args.store.now c.node_of.new.self (Extends-trans _ _ _ c.loop-index.invariant.keeps c.node_of.ensures.keeps) (memo_at c.loop-index.memo) (memo_at c.put.new.self) c.args.depth c.args.id c.in_ok-made-2.made (omega arith) c.requires.shape
    (IsActMemo-Extends g.L.Label.parts g.L.Label.part_count c.args.gate.now c.args.shape.now c.loop-index.store c.node_of.new.self c.node_of.ensures.keeps (memo_at c.loop-index.memo) c.loop-index.invariant.memo) image c.in_ok-put.ensures.ok

pub act_at-returns-clause-rows : goal.act_at-returns-clause-rows
act_at-returns-clause-rows g t c = IsRowMemo-Extends g.L.Label.parts g.L.Label.part_count c.args.gate.now c.args.shape.now c.loop-index.store c.node_of.new.self c.node_of.ensures.keeps (pair_memo_at c.loop-index.rows) c.loop-index.invariant.rows

pub act_pair-returns-then-depth-gate-clause-image : goal.act_pair-returns-then-depth-gate-clause-image
act_pair-returns-then-depth-gate-clause-image g t c =
    act_target g.L.Label.parts g.L.Label.part_count c.args.gate.now c.args.store.now c.mix_sides.new.store c.args.shape.now c.args.depth c.args.pair (c.in_ok-first.first, c.in_ok-first.second) c.if-depth-gate.true c.requires.valid c.requires.left c.requires.right c.in_ok-first.ensures.rows.first c.in_ok-first.ensures.rows.second

pub act_pair-returns-then-depth-gate-clause-memo : goal.act_pair-returns-then-depth-gate-clause-memo
act_pair-returns-then-depth-gate-clause-memo g t c = IsActMemo-Extends g.L.Label.parts g.L.Label.part_count c.args.gate.now c.args.shape.now c.args.store.now c.mix_sides.new.store c.mix_sides.ensures.keeps (memo_at c.args.memo.now) c.requires.memo

pub act_pair-returns-then-is_control-clause-image : goal.act_pair-returns-then-is_control-clause-image
act_pair-returns-then-is_control-clause-image g t c =
    let one = sym (c.is_control.ensures ∙ ap (list_any (nat_eq c.args.depth)) c.as_slice.ensures) ∙ c.if-is_control.true in
    act_off g.L.Label.parts g.L.Label.part_count c.args.gate.now c.args.store.now c.act_at.new.store c.act_at.ensures.keeps c.args.shape.now c.args.depth c.in_ok-high.high c.args.pair c.requires.deep c.if-depth-gate.false c.requires.valid one c.requires.left c.requires.right c.in_ok-high.ensures.image

pub act_pair-act_at-requires-2 : goal.act_pair-act_at-requires-2
act_pair-act_at-requires-2 g t c κs within =
    let left = HasShape-Extends c.args.store.now c.act_at.new.store c.act_at.ensures.keeps (drop (c.args.depth + 1) c.args.shape.now) c.args.pair.0 c.requires.left in
    search rules

pub act_pair-returns-clause-image : goal.act_pair-returns-clause-image
act_pair-returns-clause-image g t c =
    let none = sym (c.is_control.ensures ∙ ap (list_any (nat_eq c.args.depth)) c.as_slice.ensures) ∙ c.if-is_control.false in
    act_both g.L.Label.parts g.L.Label.part_count c.args.gate.now c.args.store.now c.act_at.new.store c.act_at-2.new.store c.act_at.ensures.keeps c.act_at-2.ensures.keeps c.args.shape.now c.args.depth c.in_ok-high.high c.in_ok-low.low c.args.pair c.requires.deep c.if-depth-gate.false c.requires.valid none c.requires.left c.requires.right
    c.in_ok-high.ensures.image c.in_ok-low.ensures.image

pub act_at-returns-in-Some-clause-steps : goal.act_at-returns-in-Some-clause-steps
act_at-returns-in-Some-clause-steps g t c =
    λ levels pairs h. pays_nothing _ _ _ c.args.store.now c.args.steps.now

pub act_at-returns-in_err-made-clause-refused : goal.act_at-returns-in_err-made-clause-refused
act_at-returns-in_err-made-clause-refused g t c =
    let lt : c.args.depth < length c.args.shape.now = omega (arith, c.requires.deep, c.requires.valid.target) in
    let split = split_shape c.args.shape.now c.args.depth lt in
    let o = opened c.args.store.now (get_or c.args.shape.now c.args.depth 0) (drop (c.args.depth + 1) c.args.shape.now) c.args.id (subst (λ u. HasShape c.args.store.now u c.args.id) split c.requires.shape) in
    let here : slice_get (runs_at c.args.store.now c.args.id) c.loop-index.index ≡ Some (run_of c.run-pair.result.0 c.run-pair.result.1) = ap (λ ps. slice_get (compress ps) c.loop-index.index) (sym (pairs_at-kept c.args.store.now c.loop-index.store c.loop-index.invariant.keeps (drop c.args.depth c.args.shape.now) c.args.id c.requires.shape)) ∙ c.run-pair.ensures.run in
    let within = run_within (pairs_at c.args.store.now c.args.id) c.loop-index.index c.run-pair.result.1 c.run-pair.result.0 here in
    let few : length c.loop-index.pairs + 1 ≤ get_or c.args.shape.now c.args.depth 0 = omega (arith, within, o.1, c.loop-index.invariant.count, c.run-pair.ensures.some) in
    passed_on _ c.from_residual.result c.in_err-made.field-0.0 c.from_residual.ensures
    (λ levels pairs h.
    let most = place_more (drop c.args.depth c.args.shape.now) (drop (c.args.depth + 1) c.args.shape.now) (c.args.gate.now.target - c.args.depth) (get_or c.args.shape.now c.args.depth 0) split c.args.memo.now c.args.rows.now levels pairs c.args.id h.here (ap is_some (sym c.in_default.ensures)) in
    let cost = (c.loop-index.invariant.cost levels pairs h).all in
    stopped_within c.args.steps.now c.loop-index.steps c.act_pair.new.steps (gate_owed (c.args.gate.now.target - c.args.depth) (drop (c.args.depth + 1) c.args.shape.now) c.loop-index.memo c.loop-index.rows (rest_of levels) pairs + anew_at (c.args.gate.now.target - c.args.depth) (drop (c.args.depth + 1) c.args.shape.now)) (gate_owed (suc (c.args.gate.now.target - c.args.depth)) (drop c.args.depth c.args.shape.now) c.args.memo.now c.args.rows.now levels pairs + 0) _ c.loop-index.invariant.limit (omega (arith, paid_product (anew_at (c.args.gate.now.target - c.args.depth) (drop (c.args.depth + 1) c.args.shape.now)) (length c.loop-index.pairs) (get_or c.args.shape.now c.args.depth 0) few))
    (c.in_err-made.ensures.refused (rest_of levels) pairs (gate_pair c.args.gate.now c.args.store.now c.loop-index.store c.loop-index.invariant.keeps (drop c.args.depth c.args.shape.now) (drop (c.args.depth + 1) c.args.shape.now) (c.args.gate.now.target - c.args.depth) (get_or c.args.shape.now c.args.depth 0) split c.args.id c.loop-index.index c.run-pair.result.1 c.run-pair.result.0 levels pairs c.requires.shape h c.run-pair.ensures.run c.run-pair.ensures.some)))

pub act_at-returns-in_err-made-clause-cause : goal.act_at-returns-in_err-made-clause-cause
act_at-returns-in_err-made-clause-cause g t c =
    let here : slice_get (runs_at c.loop-index.store c.args.id) c.loop-index.index ≡ Some (run_of c.run-pair.result.0 c.run-pair.result.1) = c.run-pair.ensures.run in
    let first = run_choice (pairs_at c.loop-index.store c.args.id) c.loop-index.index c.run-pair.result.1 (before (runs_at c.loop-index.store c.args.id) c.loop-index.index) c.run-pair.result.0 here (omega arith) (omega (arith, c.run-pair.ensures.some)) in
    passed_on _ c.from_residual.result c.in_err-made.field-0.0 c.from_residual.ensures
    (cause_map _ _ (act_cause_choice g.L.Label.parts g.L.Label.part_count c.args.gate.now c.args.shape.now c.args.depth c.args.store.now c.loop-index.store c.loop-index.invariant.keeps (drop c.args.depth c.args.shape.now) c.args.id (before (runs_at c.loop-index.store c.args.id) c.loop-index.index) c.run-pair.result.0 c.requires.shape first) _ c.in_err-made.ensures.cause)

pub act_at-returns-in_default-push-clause-refused : goal.act_at-returns-in_default-push-clause-refused
act_at-returns-in_default-push-clause-refused g t c =
    let lt : c.args.depth < length c.args.shape.now = omega (arith, c.requires.deep, c.requires.valid.target) in
    let split = split_shape c.args.shape.now c.args.depth lt in
    let o = opened c.args.store.now (get_or c.args.shape.now c.args.depth 0) (drop (c.args.depth + 1) c.args.shape.now) c.args.id (subst (λ u. HasShape c.args.store.now u c.args.id) split c.requires.shape) in
    let here : slice_get (runs_at c.args.store.now c.args.id) c.loop-index.index ≡ Some (run_of c.run-pair.result.0 c.run-pair.result.1) = ap (λ ps. slice_get (compress ps) c.loop-index.index) (sym (pairs_at-kept c.args.store.now c.loop-index.store c.loop-index.invariant.keeps (drop c.args.depth c.args.shape.now) c.args.id c.requires.shape)) ∙ c.run-pair.ensures.run in
    let within = run_within (pairs_at c.args.store.now c.args.id) c.loop-index.index c.run-pair.result.1 c.run-pair.result.0 here in
    let few : length c.loop-index.pairs + 1 ≤ get_or c.args.shape.now c.args.depth 0 = omega (arith, within, o.1, c.loop-index.invariant.count, c.run-pair.ensures.some) in
    λ levels pairs h.
    let most = place_more (drop c.args.depth c.args.shape.now) (drop (c.args.depth + 1) c.args.shape.now) (c.args.gate.now.target - c.args.depth) (get_or c.args.shape.now c.args.depth 0) split c.args.memo.now c.args.rows.now levels pairs c.args.id h.here (ap is_some (sym c.in_default.ensures)) in
    let cost = (c.loop-index.invariant.cost levels pairs h).all in
    let inner = (c.in_ok-made.ensures.steps (rest_of levels) pairs (gate_pair c.args.gate.now c.args.store.now c.loop-index.store c.loop-index.invariant.keeps (drop c.args.depth c.args.shape.now) (drop (c.args.depth + 1) c.args.shape.now) (c.args.gate.now.target - c.args.depth) (get_or c.args.shape.now c.args.depth 0) split c.args.id c.loop-index.index c.run-pair.result.1 c.run-pair.result.0 levels pairs c.requires.shape h c.run-pair.ensures.run c.run-pair.ensures.some)).all in
    stopped_memory c.args.steps.now c.act_pair.new.steps (gate_owed (suc (c.args.gate.now.target - c.args.depth)) (drop c.args.depth c.args.shape.now) c.args.memo.now c.args.rows.now levels pairs + 0) _ (omega (arith, paid_product (anew_at (c.args.gate.now.target - c.args.depth) (drop (c.args.depth + 1) c.args.shape.now)) (length c.loop-index.pairs) (get_or c.args.shape.now c.args.depth 0) few)) refl

pub act_at-returns-in_err-made-2-clause-refused : goal.act_at-returns-in_err-made-2-clause-refused
act_at-returns-in_err-made-2-clause-refused g t c =
    let lt : c.args.depth < length c.args.shape.now = omega (arith, c.requires.deep, c.requires.valid.target) in
    let split = split_shape c.args.shape.now c.args.depth lt in
    let o = opened c.args.store.now (get_or c.args.shape.now c.args.depth 0) (drop (c.args.depth + 1) c.args.shape.now) c.args.id (subst (λ u. HasShape c.args.store.now u c.args.id) split c.requires.shape) in
    let e = before-end (pairs_at c.args.store.now c.args.id) c.loop-index.index (omega (arith, c.loop-index-test.false)) in
    let long : length c.loop-index.pairs ≡ (get_or c.args.shape.now c.args.depth 0) = c.loop-index.invariant.count ∙ e ∙ o.1 in
    let filled = ap (λ k. anew_at (c.args.gate.now.target - c.args.depth) (drop (c.args.depth + 1) c.args.shape.now) * k) long in
    passed_on _ c.from_residual-in_err-made-2.result c.in_err-made-2.field-0.0 c.from_residual-in_err-made-2.ensures
    (λ levels pairs h.
    let most = place_more (drop c.args.depth c.args.shape.now) (drop (c.args.depth + 1) c.args.shape.now) (c.args.gate.now.target - c.args.depth) (get_or c.args.shape.now c.args.depth 0) split c.args.memo.now c.args.rows.now levels pairs c.args.id h.here (ap is_some (sym c.in_default.ensures)) in
    let cost = (c.loop-index.invariant.cost levels pairs h).all in
    stopped_within c.args.steps.now c.loop-index.steps c.node_of.new.steps (length c.loop-index.pairs) (gate_owed (suc (c.args.gate.now.target - c.args.depth)) (drop c.args.depth c.args.shape.now) c.args.memo.now c.args.rows.now levels pairs + 0) _ c.loop-index.invariant.limit (omega (arith, filled))
    (stopped_add _ _ _ _ _ _ c.in_err-made-2.ensures.adds))

pub act_at-returns-in_err-made-2-clause-cause : goal.act_at-returns-in_err-made-2-clause-cause
act_at-returns-in_err-made-2-clause-cause g t c =
    passed_on _ c.from_residual-in_err-made-2.result c.in_err-made-2.field-0.0 c.from_residual-in_err-made-2.ensures
    (alone_cause _ _ c.in_err-made-2.ensures.adds.alone)

pub act_at-returns-in_err-put-clause-refused : goal.act_at-returns-in_err-put-clause-refused
act_at-returns-in_err-put-clause-refused g t c =
    let lt : c.args.depth < length c.args.shape.now = omega (arith, c.requires.deep, c.requires.valid.target) in
    let split = split_shape c.args.shape.now c.args.depth lt in
    let o = opened c.args.store.now (get_or c.args.shape.now c.args.depth 0) (drop (c.args.depth + 1) c.args.shape.now) c.args.id (subst (λ u. HasShape c.args.store.now u c.args.id) split c.requires.shape) in
    let e = before-end (pairs_at c.args.store.now c.args.id) c.loop-index.index (omega (arith, c.loop-index-test.false)) in
    let long : length c.loop-index.pairs ≡ (get_or c.args.shape.now c.args.depth 0) = c.loop-index.invariant.count ∙ e ∙ o.1 in
    let filled = ap (λ k. anew_at (c.args.gate.now.target - c.args.depth) (drop (c.args.depth + 1) c.args.shape.now) * k) long in
    passed_on _ c.from_residual-in_err-put.result c.in_err-put.field-0.0 c.from_residual-in_err-put.ensures
    (λ levels pairs h.
    let most = place_more (drop c.args.depth c.args.shape.now) (drop (c.args.depth + 1) c.args.shape.now) (c.args.gate.now.target - c.args.depth) (get_or c.args.shape.now c.args.depth 0) split c.args.memo.now c.args.rows.now levels pairs c.args.id h.here (ap is_some (sym c.in_default.ensures)) in
    let cost = (c.loop-index.invariant.cost levels pairs h).all in
    stopped_within c.args.steps.now c.node_of.new.steps c.put.new.steps 1 (gate_owed (suc (c.args.gate.now.target - c.args.depth)) (drop c.args.depth c.args.shape.now) c.args.memo.now c.args.rows.now levels pairs + 0) _ (adds_limit _ _ _ _ _ _ c.node_of.ensures.adds ∙ c.loop-index.invariant.limit) (omega (arith, filled, c.node_of.ensures.cheap))
    (stopped_put _ _ 1 _ c.put.ensures.cheap c.in_err-put.ensures.refused))

pub act_at-returns-in_err-put-clause-cause : goal.act_at-returns-in_err-put-clause-cause
act_at-returns-in_err-put-clause-cause g t c =
    passed_on _ c.from_residual-in_err-put.result c.in_err-put.field-0.0 c.from_residual-in_err-put.ensures
    (alone_cause _ _ c.in_err-put.ensures.refused.alone)

pub act_at-returns-clause-steps : goal.act_at-returns-clause-steps
act_at-returns-clause-steps g t c =
    let lt : c.args.depth < length c.args.shape.now = omega (arith, c.requires.deep, c.requires.valid.target) in
    let split = split_shape c.args.shape.now c.args.depth lt in
    let o = opened c.args.store.now (get_or c.args.shape.now c.args.depth 0) (drop (c.args.depth + 1) c.args.shape.now) c.args.id (subst (λ u. HasShape c.args.store.now u c.args.id) split c.requires.shape) in
    let e = before-end (pairs_at c.args.store.now c.args.id) c.loop-index.index (omega (arith, c.loop-index-test.false)) in
    let long : length c.loop-index.pairs ≡ (get_or c.args.shape.now c.args.depth 0) = c.loop-index.invariant.count ∙ e ∙ o.1 in
    let filled = ap (λ k. anew_at (c.args.gate.now.target - c.args.depth) (drop (c.args.depth + 1) c.args.shape.now) * k) long in
    λ levels pairs h. place_paid (drop c.args.depth c.args.shape.now) (drop (c.args.depth + 1) c.args.shape.now) (c.args.gate.now.target - c.args.depth) (get_or c.args.shape.now c.args.depth 0) split c.args.memo.now c.loop-index.memo c.put.new.self c.args.rows.now c.loop-index.rows c.loop-index.invariant.done c.put.ensures.done levels pairs c.args.id (anew_at (c.args.gate.now.target - c.args.depth) (drop (c.args.depth + 1) c.args.shape.now) * length c.loop-index.pairs)
    c.args.store.now c.loop-index.store c.node_of.new.self c.args.steps.now c.loop-index.steps c.node_of.new.steps c.put.new.steps (omega (arith, filled)) h.here (ap is_some (sym c.in_default.ensures))
    (place_put (memo_at c.loop-index.memo) (memo_at c.put.new.self) c.args.id c.in_ok-made-2.made c.in_ok-put.ensures.ok) (c.loop-index.invariant.cost levels pairs h)
    (omega (arith, c.node_of.ensures.cheap)) (added_besides _ _ _ _ _ _ c.in_ok-made-2.ensures.adds) (omega (arith, c.put.ensures.cheap))

pub act_pair-returns-in_err-first-clause-refused : goal.act_pair-returns-in_err-first-clause-refused
act_pair-returns-in_err-first-clause-refused g t c =
    let zero : (c.args.gate.now.target - c.args.depth) ≡ 0 = omega (arith, c.if-depth-gate.true) in
    passed_on _ c.from_residual.result c.in_err-first.field-0.0 c.from_residual.ensures
    (λ levels pairs h.
    stopped_within c.args.steps.now c.args.steps.now c.mix_sides.new.steps (owed (row_prices (drop (c.args.depth + 1) c.args.shape.now)) (is_made c.args.rows.now) pairs + anew (drop (c.args.depth + 1) c.args.shape.now)) (gate_owed (c.args.gate.now.target - c.args.depth) (drop (c.args.depth + 1) c.args.shape.now) c.args.memo.now c.args.rows.now levels pairs + anew_at (c.args.gate.now.target - c.args.depth) (drop (c.args.depth + 1) c.args.shape.now)) _ refl (omega (arith, target_more (c.args.gate.now.target - c.args.depth) zero (drop (c.args.depth + 1) c.args.shape.now) c.args.memo.now c.args.rows.now levels pairs))
    (c.in_err-first.ensures.refused pairs (key_held c.args.gate.now c.args.store.now (c.args.gate.now.target - c.args.depth) zero (drop (c.args.depth + 1) c.args.shape.now) c.args.pair levels pairs h)))

pub act_pair-returns-in_err-first-clause-cause : goal.act_pair-returns-in_err-first-clause-cause
act_pair-returns-in_err-first-clause-cause g t c =
    passed_on _ c.from_residual.result c.in_err-first.field-0.0 c.from_residual.ensures
    (cause_map _ _ (act_cause_target g.L.Label.parts g.L.Label.part_count c.args.gate.now c.args.shape.now c.args.depth c.args.store.now c.args.pair c.if-depth-gate.true c.requires.valid c.requires.left c.requires.right) _ c.in_err-first.ensures.cause)

pub act_pair-returns-then-depth-gate-clause-steps : goal.act_pair-returns-then-depth-gate-clause-steps
act_pair-returns-then-depth-gate-clause-steps g t c =
    let zero : (c.args.gate.now.target - c.args.depth) ≡ 0 = omega (arith, c.if-depth-gate.true) in
    λ levels pairs h. target_paid (c.args.gate.now.target - c.args.depth) zero (drop (c.args.depth + 1) c.args.shape.now) c.args.memo.now c.args.rows.now c.mix_sides.new.memo levels pairs c.args.store.now c.mix_sides.new.store c.args.steps.now c.mix_sides.new.steps (c.in_ok-first.ensures.steps pairs (key_held c.args.gate.now c.args.store.now (c.args.gate.now.target - c.args.depth) zero (drop (c.args.depth + 1) c.args.shape.now) c.args.pair levels pairs h))

pub act_pair-returns-in_err-high-clause-refused : goal.act_pair-returns-in_err-high-clause-refused
act_pair-returns-in_err-high-clause-refused g t c =
    let next : (c.args.gate.now.target - c.args.depth) ≡ suc (c.args.gate.now.target - (c.args.depth + 1)) = omega (arith, c.requires.deep, c.if-depth-gate.false) in
    let above : c.args.depth < c.args.gate.now.target = omega (arith, c.requires.deep, c.if-depth-gate.false) in
    passed_on _ c.from_residual-in_err-high.result c.in_err-high.field-0.0 c.from_residual-in_err-high.ensures
    (λ levels pairs h.
    let s = both_held c.args.gate.now c.args.store.now (c.args.gate.now.target - c.args.depth) (c.args.gate.now.target - (c.args.depth + 1)) next (drop (c.args.depth + 1) c.args.shape.now) c.args.pair levels pairs h in
    stopped_within c.args.steps.now c.args.steps.now c.act_at.new.steps (gate_owed (suc (c.args.gate.now.target - (c.args.depth + 1))) (drop (c.args.depth + 1) c.args.shape.now) c.args.memo.now c.args.rows.now levels pairs + 0) (gate_owed (c.args.gate.now.target - c.args.depth) (drop (c.args.depth + 1) c.args.shape.now) c.args.memo.now c.args.rows.now levels pairs + anew_at (c.args.gate.now.target - c.args.depth) (drop (c.args.depth + 1) c.args.shape.now)) _ refl (omega (arith, side_more (c.args.gate.now.target - c.args.depth) (suc (c.args.gate.now.target - (c.args.depth + 1))) next (drop (c.args.depth + 1) c.args.shape.now) c.args.memo.now c.args.rows.now levels pairs))
    (c.in_err-high.ensures.refused levels pairs (record { closed = s.closed; here = s.right })))

pub act_pair-returns-in_err-high-clause-cause : goal.act_pair-returns-in_err-high-clause-cause
act_pair-returns-in_err-high-clause-cause g t c =
    let next : (c.args.gate.now.target - c.args.depth) ≡ suc (c.args.gate.now.target - (c.args.depth + 1)) = omega (arith, c.requires.deep, c.if-depth-gate.false) in
    let above : c.args.depth < c.args.gate.now.target = omega (arith, c.requires.deep, c.if-depth-gate.false) in
    passed_on _ c.from_residual-in_err-high.result c.in_err-high.field-0.0 c.from_residual-in_err-high.ensures
    (cause_map _ _ (act_cause_high g.L.Label.parts g.L.Label.part_count c.args.gate.now c.args.shape.now c.args.depth c.args.store.now c.args.pair above c.requires.valid c.requires.left c.requires.right) _ c.in_err-high.ensures.cause)

pub act_pair-returns-then-is_control-clause-steps : goal.act_pair-returns-then-is_control-clause-steps
act_pair-returns-then-is_control-clause-steps g t c =
    let next : (c.args.gate.now.target - c.args.depth) ≡ suc (c.args.gate.now.target - (c.args.depth + 1)) = omega (arith, c.requires.deep, c.if-depth-gate.false) in
    let above : c.args.depth < c.args.gate.now.target = omega (arith, c.requires.deep, c.if-depth-gate.false) in
    λ levels pairs h.
    let s = both_held c.args.gate.now c.args.store.now (c.args.gate.now.target - c.args.depth) (c.args.gate.now.target - (c.args.depth + 1)) next (drop (c.args.depth + 1) c.args.shape.now) c.args.pair levels pairs h in
    side_paid (c.args.gate.now.target - c.args.depth) (suc (c.args.gate.now.target - (c.args.depth + 1))) next (drop (c.args.depth + 1) c.args.shape.now) c.args.memo.now c.act_at.new.memo c.args.rows.now c.act_at.new.rows levels pairs c.args.store.now c.act_at.new.store c.args.steps.now c.act_at.new.steps (c.in_ok-high.ensures.steps levels pairs (record { closed = s.closed; here = s.right }))

pub act_pair-returns-in_err-low-clause-refused : goal.act_pair-returns-in_err-low-clause-refused
act_pair-returns-in_err-low-clause-refused g t c =
    let next : (c.args.gate.now.target - c.args.depth) ≡ suc (c.args.gate.now.target - (c.args.depth + 1)) = omega (arith, c.requires.deep, c.if-depth-gate.false) in
    let above : c.args.depth < c.args.gate.now.target = omega (arith, c.requires.deep, c.if-depth-gate.false) in
    passed_on _ c.from_residual-in_err-low.result c.in_err-low.field-0.0 c.from_residual-in_err-low.ensures
    (λ levels pairs h.
    let s = both_held c.args.gate.now c.args.store.now (c.args.gate.now.target - c.args.depth) (c.args.gate.now.target - (c.args.depth + 1)) next (drop (c.args.depth + 1) c.args.shape.now) c.args.pair levels pairs h in
    let first = (c.in_ok-high.ensures.steps levels pairs (record { closed = s.closed; here = s.right })).all in
    stopped_within c.args.steps.now c.act_at.new.steps c.act_at-2.new.steps (gate_owed (suc (c.args.gate.now.target - (c.args.depth + 1))) (drop (c.args.depth + 1) c.args.shape.now) c.act_at.new.memo c.act_at.new.rows levels pairs + 0) (gate_owed (c.args.gate.now.target - c.args.depth) (drop (c.args.depth + 1) c.args.shape.now) c.args.memo.now c.args.rows.now levels pairs + anew_at (c.args.gate.now.target - c.args.depth) (drop (c.args.depth + 1) c.args.shape.now)) _ c.act_at.ensures.limit (omega (arith, side_more (c.args.gate.now.target - c.args.depth) (suc (c.args.gate.now.target - (c.args.depth + 1))) next (drop (c.args.depth + 1) c.args.shape.now) c.args.memo.now c.args.rows.now levels pairs))
    (c.in_err-low.ensures.refused levels pairs (record { closed = AreGateLevels-Extends c.args.gate.now c.args.store.now c.act_at.new.store c.act_at.ensures.keeps (c.args.gate.now.target - (c.args.depth + 1)) (drop (c.args.depth + 1) c.args.shape.now) levels pairs s.closed; here = s.left })))

pub act_pair-returns-in_err-low-clause-cause : goal.act_pair-returns-in_err-low-clause-cause
act_pair-returns-in_err-low-clause-cause g t c =
    let next : (c.args.gate.now.target - c.args.depth) ≡ suc (c.args.gate.now.target - (c.args.depth + 1)) = omega (arith, c.requires.deep, c.if-depth-gate.false) in
    let above : c.args.depth < c.args.gate.now.target = omega (arith, c.requires.deep, c.if-depth-gate.false) in
    let none = sym (c.is_control.ensures ∙ ap (list_any (nat_eq c.args.depth)) c.as_slice.ensures) ∙ c.if-is_control.false in
    passed_on _ c.from_residual-in_err-low.result c.in_err-low.field-0.0 c.from_residual-in_err-low.ensures
    (cause_map _ _ (λ l r w. act_cause_low g.L.Label.parts g.L.Label.part_count c.args.gate.now c.args.shape.now c.args.depth c.args.store.now c.args.pair above c.requires.valid none c.requires.left l r (act_cause_kept g.L.Label.parts g.L.Label.part_count c.args.gate.now c.args.shape.now (c.args.depth + 1) c.args.store.now c.act_at.new.store c.act_at.ensures.keeps (drop (c.args.depth + 1) c.args.shape.now) c.args.pair.0 c.requires.left l r w)) _ c.in_err-low.ensures.cause)

pub act_pair-returns-clause-steps : goal.act_pair-returns-clause-steps
act_pair-returns-clause-steps g t c =
    let next : (c.args.gate.now.target - c.args.depth) ≡ suc (c.args.gate.now.target - (c.args.depth + 1)) = omega (arith, c.requires.deep, c.if-depth-gate.false) in
    let above : c.args.depth < c.args.gate.now.target = omega (arith, c.requires.deep, c.if-depth-gate.false) in
    λ levels pairs h.
    let s = both_held c.args.gate.now c.args.store.now (c.args.gate.now.target - c.args.depth) (c.args.gate.now.target - (c.args.depth + 1)) next (drop (c.args.depth + 1) c.args.shape.now) c.args.pair levels pairs h in
    side_paid (c.args.gate.now.target - c.args.depth) (suc (c.args.gate.now.target - (c.args.depth + 1))) next (drop (c.args.depth + 1) c.args.shape.now) c.args.memo.now c.act_at-2.new.memo c.args.rows.now c.act_at-2.new.rows levels pairs c.args.store.now c.act_at-2.new.store c.args.steps.now c.act_at-2.new.steps
    (pays_then _ _ _ _ _ _ 0 0 0 c.args.store.now c.act_at.new.store c.act_at-2.new.store c.args.steps.now c.act_at.new.steps c.act_at-2.new.steps (omega arith) (c.in_ok-high.ensures.steps levels pairs (record { closed = s.closed; here = s.right })) (c.in_ok-low.ensures.steps levels pairs (record { closed = AreGateLevels-Extends c.args.gate.now c.args.store.now c.act_at.new.store c.act_at.ensures.keeps (c.args.gate.now.target - (c.args.depth + 1)) (drop (c.args.depth + 1) c.args.shape.now) levels pairs s.closed; here = s.left })))
