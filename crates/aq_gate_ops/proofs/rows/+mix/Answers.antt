use Rattle.std.proofs.Common.{ℕ, ◌+◌, ◌<◌, ◌≤◌, length, drop, get_or, refl, sym, ap, ap₂, subst, ◌∙◌, rules, arith}
use Rattle.std.proofs.Common.{nat_eq}
use Rattle.std.specs.List.{list_any}
use Rattle.std.proofs.Math.ListN.{drop_of_length-le}
use Rattle.std.proofs.Math.Nat.{mul-le-mul_left}
use Rattle.std.proofs.lemmas.List.{length-append}
use Rattle.aq_store.specs.Runs.{copies}
use Rattle.aq_store.proofs.RunLemmas.{length-copies}
use Rattle.aq_store.specs.Nodes.{HasShape}
use Rattle.aq_store.specs.Means.{of_places}
use Rattle.aq_store.specs.Memos.{pair_memo_at}
use Rattle.aq_store.proofs.TableLemmas.{HasShape-Extends, Extends-trans, Extends-refl}
use Rattle.aq_store.proofs.MeansLemmas.{MeanPairs-none, pairs_at-kept, opened, means_heights, places_step, places_done}
use Rattle.aq_store.proofs.OwedLemmas.{split_shape}
use Rattle.aq_gate_ops.specs.Action.{IsRow}
use Rattle.aq_gate_ops.specs.Accounts.{anew, is_made, row_prices}
use Rattle.aq_store.specs.Owed.{owed, rest_of}
use Rattle.aq_store.proofs.StopLemmas.{passed_on}
use Rattle.std.proofs.Common.{◌*◌, is_some}
use Rattle.aq_gate_ops.proofs.CauseLemmas.{cause_map, alone_cause, row_cause_leaf, rows_cause_kept, row_cause_low, row_cause_high, row_cause_choice}
use Rattle.aq_gate_ops.proofs.RowAccounts.{paid_product, pays_then, pays_nodes, pays_nothing, pays_more, leaves_paid, low_paid, low_more, row_paid, row_more, pair_put, ArePairLevels-Extends, key_below, two_held}
use Rattle.aq_gate_ops.proofs.ExchangeLemmas.{rows_exchanged}
use Rattle.aq_gate_ops.proofs.ZeroLemmas.{rows_zero}
use Rattle.aq_gate_ops.proofs.StoppedLemmas.{stopped_within, stopped_memory, stopped_put}
use Rattle.aq_gate_ops.proofs.GateLemmas.{rows_found, leaf_shape, row_leaf, row_pair, row_pair_off, row_none, below_all, IsRowMemo-Extends, IsRowMemo-put}
use Rattle.aq_gate_ops.proofs.rows.+mix.Goals as goal

pub mix_at-returns-then-only_exchanges-clause-rows : goal.mix_at-returns-then-only_exchanges-clause-rows
mix_at-returns-then-only_exchanges-clause-rows g t c = rows_exchanged g.L.Label.parts g.L.Label.part_count c.args.gate.now c.args.shape.now c.args.depth c.if-only_exchanges.ensures c.args.store.now c.args.left c.args.right c.requires.left c.requires.right

pub mix_at-returns-then-are_zero-clause-rows : goal.mix_at-returns-then-are_zero-clause-rows
mix_at-returns-then-are_zero-clause-rows g t c =
    rows_zero g.L.Label.parts g.L.Label.part_count c.args.gate.now c.args.shape.now c.args.depth c.args.store.now c.args.left c.args.right c.requires.left c.requires.right c.if-are_zero.ensures.left c.if-are_zero.ensures.right

pub mix_at-returns-then-are_zero-clause-steps : goal.mix_at-returns-then-are_zero-clause-steps
mix_at-returns-then-are_zero-clause-steps g t c =
    λ levels h. pays_nothing _ _ _ c.args.store.now c.args.steps.now

pub mix_at-returns-in-Some-clause-rows : goal.mix_at-returns-in-Some-clause-rows
mix_at-returns-in-Some-clause-rows g t c = record {
  first =
      (rows_found g.L.Label.parts g.L.Label.part_count c.args.gate.now c.args.shape.now c.args.store.now (pair_memo_at c.args.memo.now) c.args.depth (c.args.left, c.args.right) c.in-Some.made c.requires.memo c.requires.deep c.requires.left (sym c.in-Some.ensures)).0;
  second =
      (rows_found g.L.Label.parts g.L.Label.part_count c.args.gate.now c.args.shape.now c.args.store.now (pair_memo_at c.args.memo.now) c.args.depth (c.args.left, c.args.right) c.in-Some.made c.requires.memo c.requires.deep c.requires.left (sym c.in-Some.ensures)).1;
}

pub mix_at-mix_leaves-requires-clause-left : goal.mix_at-mix_leaves-requires-clause-left
unfolding HasShape
mix_at-mix_leaves-requires-clause-left g t c = leaf_shape g.L.Label.parts g.L.Label.part_count c.args.gate.now c.args.store.now c.args.shape.now c.args.depth c.args.left (omega arith) c.requires.left

pub mix_at-mix_leaves-requires-clause-right : goal.mix_at-mix_leaves-requires-clause-right
unfolding HasShape
mix_at-mix_leaves-requires-clause-right g t c = leaf_shape g.L.Label.parts g.L.Label.part_count c.args.gate.now c.args.store.now c.args.shape.now c.args.depth c.args.right (omega arith) c.requires.right

pub mix_inner-run_from-lefts-requires : goal.mix_inner-run_from-lefts-requires
mix_inner-run_from-lefts-requires g t c =
    let split = split_shape c.args.shape.now c.args.depth c.requires.deep in
    let o = opened c.args.store.now (get_or c.args.shape.now c.args.depth 0) (drop (c.args.depth + 1) c.args.shape.now) c.args.left (subst (λ u. HasShape c.args.store.now u c.args.left) split c.requires.left) in
    let kept = pairs_at-kept c.args.store.now c.loop-choice.store c.loop-choice.invariant.keeps (drop c.args.depth c.args.shape.now) c.args.left c.requires.left in
    omega (arith, ap length kept, o.1, c.loop-choice-test.true)

pub mix_inner-run_from-rights-requires : goal.mix_inner-run_from-rights-requires
mix_inner-run_from-rights-requires g t c =
    let split = split_shape c.args.shape.now c.args.depth c.requires.deep in
    let o = opened c.args.store.now (get_or c.args.shape.now c.args.depth 0) (drop (c.args.depth + 1) c.args.shape.now) c.args.right (subst (λ u. HasShape c.args.store.now u c.args.right) split c.requires.right) in
    let kept = pairs_at-kept c.args.store.now c.loop-choice.store c.loop-choice.invariant.keeps (drop c.args.depth c.args.shape.now) c.args.right c.requires.right in
    omega (arith, ap length kept, o.1, c.loop-choice-test.true)

pub mix_inner-both_nodes-requires-clause-some : goal.mix_inner-both_nodes-requires-clause-some
mix_inner-both_nodes-requires-clause-some g t c =
    let split = split_shape c.args.shape.now c.args.depth c.requires.deep in
    let o = opened c.args.store.now (get_or c.args.shape.now c.args.depth 0) (drop (c.args.depth + 1) c.args.shape.now) c.args.left (subst (λ u. HasShape c.args.store.now u c.args.left) split c.requires.left) in
    omega (arith, c.loop-choice.invariant.first_count, c.loop-choice-test.false, o.2)

pub mix_inner-both_nodes-requires-clause-first : goal.mix_inner-both_nodes-requires-clause-first
mix_inner-both_nodes-requires-clause-first g t c =
    means_heights (of_places (IsRow g.L.Label.parts g.L.Label.part_count (length c.args.shape.now) c.args.gate.now 0 c.args.depth) c.args.store.now (c.args.left, c.args.right)) c.loop-choice.store (drop (c.args.depth + 1) c.args.shape.now) c.loop-choice.firsts c.loop-choice.invariant.first

pub mix_inner-both_nodes-requires-clause-second : goal.mix_inner-both_nodes-requires-clause-second
mix_inner-both_nodes-requires-clause-second g t c =
    means_heights (of_places (IsRow g.L.Label.parts g.L.Label.part_count (length c.args.shape.now) c.args.gate.now 1 c.args.depth) c.args.store.now (c.args.left, c.args.right)) c.loop-choice.store (drop (c.args.depth + 1) c.args.shape.now) c.loop-choice.seconds c.loop-choice.invariant.second

pub mix_at-returns-then-depth-shape-clause-rows : goal.mix_at-returns-then-depth-shape-clause-rows
mix_at-returns-then-depth-shape-clause-rows g t c = record {
  first =
      let r = c.in_ok-first.ensures.rows in
      row_leaf g.L.Label.parts g.L.Label.part_count c.args.gate.now c.args.store.now c.mix_leaves.new.store c.args.shape.now 0 c.args.depth c.in_ok-first.first (c.args.left, c.args.right) r.first r.second r.top (omega arith) (below_all (length c.args.shape.now) c.args.gate.now.target c.args.gate.now.controls c.requires.valid.controls) c.requires.left c.requires.right r.left_at r.right_at r.top_at r.top_is;
  second =
      let r = c.in_ok-first.ensures.rows in
      row_leaf g.L.Label.parts g.L.Label.part_count c.args.gate.now c.args.store.now c.mix_leaves.new.store c.args.shape.now 1 c.args.depth c.in_ok-first.second (c.args.left, c.args.right) r.first r.second r.bottom (omega arith) (below_all (length c.args.shape.now) c.args.gate.now.target c.args.gate.now.controls c.requires.valid.controls) c.requires.left c.requires.right r.left_at r.right_at r.bottom_at r.bottom_is;
}

pub mix_at-returns-then-depth-shape-clause-memo : goal.mix_at-returns-then-depth-shape-clause-memo
mix_at-returns-then-depth-shape-clause-memo g t c =
    IsRowMemo-Extends g.L.Label.parts g.L.Label.part_count c.args.gate.now c.args.shape.now c.args.store.now c.mix_leaves.new.store c.mix_leaves.ensures.keeps (pair_memo_at c.args.memo.now) c.requires.memo

pub mix_at-returns-clause-memo : goal.mix_at-returns-clause-memo
mix_at-returns-clause-memo g t c =
    IsRowMemo-put g.L.Label.parts g.L.Label.part_count c.args.gate.now c.args.shape.now c.args.store.now c.mix_inner-2.new.store c.mix_inner-2.ensures.keeps (pair_memo_at c.mix_inner-2.new.memo) (pair_memo_at c.put.new.self) c.args.depth (c.args.left, c.args.right) (c.in_ok-first-3.first, c.in_ok-first-3.second) c.requires.deep c.requires.left c.requires.right
    c.in_ok-first-3.ensures.memo c.in_ok-first-3.ensures.rows.first c.in_ok-first-3.ensures.rows.second c.in_ok-put.ensures.ok

pub mix_inner-mix_pair-requires : goal.mix_inner-mix_pair-requires
mix_inner-mix_pair-requires g t c κs within =
    let split = split_shape c.args.shape.now c.args.depth c.requires.deep in
    let a = opened c.loop-choice.store (get_or c.args.shape.now c.args.depth 0) (drop (c.args.depth + 1) c.args.shape.now) c.args.left (subst (λ u. HasShape c.loop-choice.store u c.args.left) split (HasShape-Extends c.args.store.now c.loop-choice.store c.loop-choice.invariant.keeps (drop c.args.depth c.args.shape.now) c.args.left c.requires.left)) in
    let b = opened c.loop-choice.store (get_or c.args.shape.now c.args.depth 0) (drop (c.args.depth + 1) c.args.shape.now) c.args.right (subst (λ u. HasShape c.loop-choice.store u c.args.right) split (HasShape-Extends c.args.store.now c.loop-choice.store c.loop-choice.invariant.keeps (drop c.args.depth c.args.shape.now) c.args.right c.requires.right)) in
    let first = c.run_from-lefts.ensures.same 0 c.run_from-lefts.ensures.some in
    let second = c.run_from-rights.ensures.same 0 c.run_from-rights.ensures.some in
    let l0 = a.3.left (c.loop-choice.choice + 0) c.run_from-lefts.result.0 first in
    let l1 = a.3.right (c.loop-choice.choice + 0) c.run_from-lefts.result.0 first in
    let r0 = b.3.left (c.loop-choice.choice + 0) c.run_from-rights.result.0 second in
    let r1 = b.3.right (c.loop-choice.choice + 0) c.run_from-rights.result.0 second in
    search rules

pub mix_inner-loop-choice-preserved : goal.mix_inner-loop-choice-preserved
mix_inner-loop-choice-preserved g t c =
    let split = split_shape c.args.shape.now c.args.depth c.requires.deep in
    let first = c.push_both.ensures.first c.if-not-push_both.false in
    let second = c.push_both.ensures.second c.if-not-push_both.false in
    let count = c.least-count.result in
    record {
      keeps = Extends-trans _ _ _ c.loop-choice.invariant.keeps c.mix_pair.ensures.keeps;
      paid = c.mix_pair.ensures.paid;
      limit = c.mix_pair.ensures.limit ∙ c.loop-choice.invariant.limit;
      done = λ q h. c.mix_pair.ensures.done q (c.loop-choice.invariant.done q h);
      cost = λ levels h. pays_then _ _ _ _ _ _ (2 * anew (drop (c.args.depth + 1) c.args.shape.now) * c.loop-choice.choice) (2 * anew (drop (c.args.depth + 1) c.args.shape.now)) _ c.args.store.now c.loop-choice.store c.mix_pair.new.store c.args.steps.now c.loop-choice.steps c.mix_pair.new.steps (paid_product (2 * anew (drop (c.args.depth + 1) c.args.shape.now)) c.loop-choice.choice (c.loop-choice.choice + c.least-count.result) (omega (arith, c.least-count.ensures.some (c.least-most.ensures.some c.run_from-lefts.ensures.some c.run_from-rights.ensures.some) (omega (arith, c.loop-choice-test.true)))))
          (c.loop-choice.invariant.cost levels h) (c.in_ok-made.ensures.steps levels (two_held c.args.store.now c.loop-choice.store c.loop-choice.invariant.keeps (drop c.args.depth c.args.shape.now) (drop (c.args.depth + 1) c.args.shape.now)
          (c.args.left, c.args.right) c.run_from-lefts.result.0 c.run_from-rights.result.0 (c.loop-choice.choice + 0) levels c.requires.left c.requires.right h
          (c.run_from-lefts.ensures.same 0 c.run_from-lefts.ensures.some) (c.run_from-rights.ensures.same 0 c.run_from-rights.ensures.some)));
      memo = c.in_ok-made.ensures.memo;
      within = omega (arith, c.least-count.ensures.right, c.loop-choice-test.true);
      first_count = ap length first ∙ length-append c.loop-choice.firsts (copies c.least-count.result c.in_ok-made.made.0) ∙ ap₂ (λ x y. x + y) c.loop-choice.invariant.first_count (length-copies {A = ℕ × ℕ} c.least-count.result c.in_ok-made.made.0);
      second_count = ap length second ∙ length-append c.loop-choice.seconds (copies c.least-count.result c.in_ok-made.made.1) ∙ ap₂ (λ x y. x + y) c.loop-choice.invariant.second_count (length-copies {A = ℕ × ℕ} c.least-count.result c.in_ok-made.made.1);
      first = places_step (IsRow g.L.Label.parts g.L.Label.part_count (length c.args.shape.now) c.args.gate.now 0 c.args.depth) c.args.store.now c.loop-choice.store c.mix_pair.new.store c.loop-choice.invariant.keeps c.mix_pair.ensures.keeps (drop c.args.depth c.args.shape.now) (drop (c.args.depth + 1) c.args.shape.now) (get_or c.args.shape.now c.args.depth 0) c.loop-choice.choice c.least-count.result c.loop-choice.firsts c.push_both.new.firsts
          (c.args.left, c.args.right) c.run_from-lefts.result.0 c.run_from-rights.result.0 c.in_ok-made.made.0 split c.requires.left c.requires.right c.loop-choice.invariant.first_count
          (λ k lt. c.run_from-lefts.ensures.same k (omega (arith, c.least-count.ensures.left, c.least-most.ensures.left))) (λ k lt. c.run_from-rights.ensures.same k (omega (arith, c.least-count.ensures.left, c.least-most.ensures.right)))
          c.loop-choice.invariant.first c.in_ok-made.ensures.rows.first first;
      second = places_step (IsRow g.L.Label.parts g.L.Label.part_count (length c.args.shape.now) c.args.gate.now 1 c.args.depth) c.args.store.now c.loop-choice.store c.mix_pair.new.store c.loop-choice.invariant.keeps c.mix_pair.ensures.keeps (drop c.args.depth c.args.shape.now) (drop (c.args.depth + 1) c.args.shape.now) (get_or c.args.shape.now c.args.depth 0) c.loop-choice.choice c.least-count.result c.loop-choice.seconds c.push_both.new.seconds
          (c.args.left, c.args.right) c.run_from-lefts.result.0 c.run_from-rights.result.0 c.in_ok-made.made.1 split c.requires.left c.requires.right c.loop-choice.invariant.second_count
          (λ k lt. c.run_from-lefts.ensures.same k (omega (arith, c.least-count.ensures.left, c.least-most.ensures.left))) (λ k lt. c.run_from-rights.ensures.same k (omega (arith, c.least-count.ensures.left, c.least-most.ensures.right)))
          c.loop-choice.invariant.second c.in_ok-made.ensures.rows.second second;
    }

pub mix_inner-returns-clause-rows : goal.mix_inner-returns-clause-rows
mix_inner-returns-clause-rows g t c = record {
  first =
      let split = split_shape c.args.shape.now c.args.depth c.requires.deep in
      places_done (IsRow g.L.Label.parts g.L.Label.part_count (length c.args.shape.now) c.args.gate.now 0 c.args.depth) (row_none g.L.Label.parts g.L.Label.part_count c.args.gate.now (length c.args.shape.now) 0 c.args.depth) c.args.store.now c.loop-choice.store c.both_nodes.new.store c.loop-choice.invariant.keeps c.both_nodes.ensures.keeps (drop c.args.depth c.args.shape.now) (drop (c.args.depth + 1) c.args.shape.now) (get_or c.args.shape.now c.args.depth 0) c.in_ok-first.first c.loop-choice.firsts
      (c.args.left, c.args.right) split c.requires.left c.requires.right (omega (arith, c.loop-choice.invariant.first_count, c.loop-choice.invariant.within, c.loop-choice-test.false)) c.loop-choice.invariant.first c.in_ok-first.ensures.first;
  second =
      let split = split_shape c.args.shape.now c.args.depth c.requires.deep in
      places_done (IsRow g.L.Label.parts g.L.Label.part_count (length c.args.shape.now) c.args.gate.now 1 c.args.depth) (row_none g.L.Label.parts g.L.Label.part_count c.args.gate.now (length c.args.shape.now) 1 c.args.depth) c.args.store.now c.loop-choice.store c.both_nodes.new.store c.loop-choice.invariant.keeps c.both_nodes.ensures.keeps (drop c.args.depth c.args.shape.now) (drop (c.args.depth + 1) c.args.shape.now) (get_or c.args.shape.now c.args.depth 0) c.in_ok-first.second c.loop-choice.seconds
      (c.args.left, c.args.right) split c.requires.left c.requires.right (omega (arith, c.loop-choice.invariant.second_count, c.loop-choice.invariant.within, c.loop-choice-test.false)) c.loop-choice.invariant.second c.in_ok-first.ensures.second;
}

pub mix_inner-returns-clause-memo : goal.mix_inner-returns-clause-memo
mix_inner-returns-clause-memo g t c = IsRowMemo-Extends g.L.Label.parts g.L.Label.part_count c.args.gate.now c.args.shape.now c.loop-choice.store c.both_nodes.new.store c.both_nodes.ensures.keeps (pair_memo_at c.loop-choice.memo) c.loop-choice.invariant.memo

pub mix_pair-mix_at-requires-2 : goal.mix_pair-mix_at-requires-2
mix_pair-mix_at-requires-2 g t c κs within =
    let left = HasShape-Extends c.args.store.now c.mix_at.new.store c.mix_at.ensures.keeps (drop (c.args.depth + 1) c.args.shape.now) c.args.lefts.0 c.requires.low_left in
    let right = HasShape-Extends c.args.store.now c.mix_at.new.store c.mix_at.ensures.keeps (drop (c.args.depth + 1) c.args.shape.now) c.args.rights.0 c.requires.low_right in
    search rules

pub mix_pair-returns-then-is_control-clause-rows : goal.mix_pair-returns-then-is_control-clause-rows
mix_pair-returns-then-is_control-clause-rows g t c = record {
  first =
      let one = sym (c.is_control.ensures ∙ ap (list_any (nat_eq c.args.depth)) c.as_slice.ensures) ∙ c.if-is_control.true in
      row_pair_off g.L.Label.parts g.L.Label.part_count c.args.gate.now c.args.store.now c.mix_at.new.store c.mix_at.ensures.keeps c.args.shape.now 0 c.args.depth c.in_ok-high.high.0 c.args.lefts c.args.rights c.requires.deep (below_all (length c.args.shape.now) c.args.gate.now.target c.args.gate.now.controls c.requires.valid.controls) one
      c.requires.low_left c.requires.high_left c.requires.low_right c.requires.high_right c.in_ok-high.ensures.rows.first;
  second =
      let one = sym (c.is_control.ensures ∙ ap (list_any (nat_eq c.args.depth)) c.as_slice.ensures) ∙ c.if-is_control.true in
      row_pair_off g.L.Label.parts g.L.Label.part_count c.args.gate.now c.args.store.now c.mix_at.new.store c.mix_at.ensures.keeps c.args.shape.now 1 c.args.depth c.in_ok-high.high.1 c.args.lefts c.args.rights c.requires.deep (below_all (length c.args.shape.now) c.args.gate.now.target c.args.gate.now.controls c.requires.valid.controls) one
      c.requires.low_left c.requires.high_left c.requires.low_right c.requires.high_right c.in_ok-high.ensures.rows.second;
}

pub mix_pair-returns-clause-rows : goal.mix_pair-returns-clause-rows
mix_pair-returns-clause-rows g t c = record {
  first =
      let none = sym (c.is_control.ensures ∙ ap (list_any (nat_eq c.args.depth)) c.as_slice.ensures) ∙ c.if-is_control.false in
      row_pair g.L.Label.parts g.L.Label.part_count c.args.gate.now c.args.store.now c.mix_at.new.store c.mix_at-2.new.store c.mix_at.ensures.keeps c.mix_at-2.ensures.keeps c.args.shape.now 0 c.args.depth c.in_ok-high.high.0 c.in_ok-low.low.0 c.args.lefts c.args.rights c.requires.deep (below_all (length c.args.shape.now) c.args.gate.now.target c.args.gate.now.controls c.requires.valid.controls) none
      c.requires.low_left c.requires.high_left c.requires.low_right c.requires.high_right c.in_ok-high.ensures.rows.first c.in_ok-low.ensures.rows.first;
  second =
      let none = sym (c.is_control.ensures ∙ ap (list_any (nat_eq c.args.depth)) c.as_slice.ensures) ∙ c.if-is_control.false in
      row_pair g.L.Label.parts g.L.Label.part_count c.args.gate.now c.args.store.now c.mix_at.new.store c.mix_at-2.new.store c.mix_at.ensures.keeps c.mix_at-2.ensures.keeps c.args.shape.now 1 c.args.depth c.in_ok-high.high.1 c.in_ok-low.low.1 c.args.lefts c.args.rights c.requires.deep (below_all (length c.args.shape.now) c.args.gate.now.target c.args.gate.now.controls c.requires.valid.controls) none
      c.requires.low_left c.requires.high_left c.requires.low_right c.requires.high_right c.in_ok-high.ensures.rows.second c.in_ok-low.ensures.rows.second;
}

pub mix_at-returns-in-Some-clause-steps : goal.mix_at-returns-in-Some-clause-steps
mix_at-returns-in-Some-clause-steps g t c =
    λ levels h. pays_nothing _ _ _ c.args.store.now c.args.steps.now

pub mix_at-returns-then-only_exchanges-clause-steps : goal.mix_at-returns-then-only_exchanges-clause-steps
mix_at-returns-then-only_exchanges-clause-steps g t c =
    λ levels h. pays_nothing _ _ _ c.args.store.now c.args.steps.now

pub mix_at-returns-in_err-first-clause-refused : goal.mix_at-returns-in_err-first-clause-refused
mix_at-returns-in_err-first-clause-refused g t c =
    passed_on _ c.from_residual.result c.in_err-first.field-0.0 c.from_residual.ensures
    (λ levels h. stopped_within c.args.steps.now c.args.steps.now c.mix_leaves.new.steps 2 (owed (row_prices (drop c.args.depth c.args.shape.now)) (is_made c.args.memo.now) levels + anew (drop c.args.depth c.args.shape.now)) _ refl (omega (arith, ap anew (drop_of_length-le c.args.shape.now (let k : length c.args.shape.now ≤ c.args.depth = omega arith in k)))) c.in_err-first.ensures.refused)

pub mix_at-returns-in_err-first-clause-cause : goal.mix_at-returns-in_err-first-clause-cause
mix_at-returns-in_err-first-clause-cause g t c =
    passed_on _ c.from_residual.result c.in_err-first.field-0.0 c.from_residual.ensures
    (cause_map _ _ (row_cause_leaf g.L.Label.parts g.L.Label.part_count c.args.gate.now c.args.shape.now c.args.depth c.args.store.now c.args.left c.args.right (omega arith) (below_all (length c.args.shape.now) c.args.gate.now.target c.args.gate.now.controls c.requires.valid.controls)) _ c.in_err-first.ensures.cause)

pub mix_at-returns-then-depth-shape-clause-steps : goal.mix_at-returns-then-depth-shape-clause-steps
mix_at-returns-then-depth-shape-clause-steps g t c =
    λ levels h. leaves_paid (drop c.args.depth c.args.shape.now) (drop_of_length-le c.args.shape.now (let k : length c.args.shape.now ≤ c.args.depth = omega arith in k)) (is_made c.args.memo.now) levels c.args.store.now c.mix_leaves.new.store c.args.steps.now c.mix_leaves.new.steps c.mix_leaves.ensures.cheap c.in_ok-first.ensures.besides

pub mix_at-returns-in_err-first-3-clause-refused : goal.mix_at-returns-in_err-first-3-clause-refused
mix_at-returns-in_err-first-3-clause-refused g t c =
    let lt : c.args.depth < length c.args.shape.now = omega (arith, c.requires.deep) in
    let split = split_shape c.args.shape.now c.args.depth lt in
    let none = ap is_some (sym c.in_default.ensures) in
    passed_on _ c.from_residual-in_err-first-3.result c.in_err-first-3.field-0.0 c.from_residual-in_err-first-3.ensures
    (λ levels h.
    let most = row_more (drop c.args.depth c.args.shape.now) (drop (c.args.depth + 1) c.args.shape.now) (get_or c.args.shape.now c.args.depth 0) split (sym c.has_no_entry.ensures ∙ c.if-has_no_entry.false) (is_made c.args.memo.now) levels (c.args.left, c.args.right) h.here none in
    stopped_within c.args.steps.now c.args.steps.now c.mix_inner-2.new.steps (owed (row_prices (drop (c.args.depth + 1) c.args.shape.now)) (is_made c.args.memo.now) (rest_of levels) + (2 * (get_or c.args.shape.now c.args.depth 0) + (get_or c.args.shape.now c.args.depth 0) * (2 * anew (drop (c.args.depth + 1) c.args.shape.now)))) (owed (row_prices (drop c.args.depth c.args.shape.now)) (is_made c.args.memo.now) levels + anew (drop c.args.depth c.args.shape.now)) _ refl (omega arith) (c.in_err-first-3.ensures.refused (rest_of levels) (key_below c.args.store.now (drop c.args.depth c.args.shape.now) (drop (c.args.depth + 1) c.args.shape.now) (get_or c.args.shape.now c.args.depth 0) split (c.args.left, c.args.right) levels h)))

pub mix_at-returns-in_err-first-3-clause-cause : goal.mix_at-returns-in_err-first-3-clause-cause
mix_at-returns-in_err-first-3-clause-cause g t c =
    passed_on _ c.from_residual-in_err-first-3.result c.in_err-first-3.field-0.0 c.from_residual-in_err-first-3.ensures
    (c.in_err-first-3.ensures.cause)

pub mix_at-returns-in_err-put-clause-refused : goal.mix_at-returns-in_err-put-clause-refused
mix_at-returns-in_err-put-clause-refused g t c =
    let lt : c.args.depth < length c.args.shape.now = omega (arith, c.requires.deep) in
    let split = split_shape c.args.shape.now c.args.depth lt in
    let none = ap is_some (sym c.in_default.ensures) in
    passed_on _ c.from_residual-in_err-put.result c.in_err-put.field-0.0 c.from_residual-in_err-put.ensures
    (λ levels h.
    let most = row_more (drop c.args.depth c.args.shape.now) (drop (c.args.depth + 1) c.args.shape.now) (get_or c.args.shape.now c.args.depth 0) split (sym c.has_no_entry.ensures ∙ c.if-has_no_entry.false) (is_made c.args.memo.now) levels (c.args.left, c.args.right) h.here none in
    let inner = (c.in_ok-first-3.ensures.steps (rest_of levels) (key_below c.args.store.now (drop c.args.depth c.args.shape.now) (drop (c.args.depth + 1) c.args.shape.now) (get_or c.args.shape.now c.args.depth 0) split (c.args.left, c.args.right) levels h)).all in
    stopped_within c.args.steps.now c.mix_inner-2.new.steps c.put.new.steps 1 (owed (row_prices (drop c.args.depth c.args.shape.now)) (is_made c.args.memo.now) levels + anew (drop c.args.depth c.args.shape.now)) _ c.mix_inner-2.ensures.limit (omega arith) (stopped_put _ _ 1 _ c.put.ensures.cheap c.in_err-put.ensures.refused))

pub mix_at-returns-in_err-put-clause-cause : goal.mix_at-returns-in_err-put-clause-cause
mix_at-returns-in_err-put-clause-cause g t c =
    passed_on _ c.from_residual-in_err-put.result c.in_err-put.field-0.0 c.from_residual-in_err-put.ensures
    (alone_cause _ _ c.in_err-put.ensures.refused.alone)

pub mix_at-returns-clause-steps : goal.mix_at-returns-clause-steps
mix_at-returns-clause-steps g t c =
    let lt : c.args.depth < length c.args.shape.now = omega (arith, c.requires.deep) in
    let split = split_shape c.args.shape.now c.args.depth lt in
    let none = ap is_some (sym c.in_default.ensures) in
    λ levels h. row_paid (drop c.args.depth c.args.shape.now) (drop (c.args.depth + 1) c.args.shape.now) (get_or c.args.shape.now c.args.depth 0) split (sym c.has_no_entry.ensures ∙ c.if-has_no_entry.false) (is_made c.args.memo.now) (is_made c.mix_inner-2.new.memo) (is_made c.put.new.self) c.mix_inner-2.ensures.done c.put.ensures.done levels (c.args.left, c.args.right) c.args.store.now c.mix_inner-2.new.store c.args.steps.now c.mix_inner-2.new.steps c.put.new.steps h.here none
    (pair_put c.mix_inner-2.new.memo c.put.new.self (c.args.left, c.args.right) (c.in_ok-first-3.first, c.in_ok-first-3.second) c.in_ok-put.ensures.ok) (omega (arith, c.put.ensures.cheap)) (c.in_ok-first-3.ensures.steps (rest_of levels) (key_below c.args.store.now (drop c.args.depth c.args.shape.now) (drop (c.args.depth + 1) c.args.shape.now) (get_or c.args.shape.now c.args.depth 0) split (c.args.left, c.args.right) levels h))

pub mix_inner-loop-choice-init : goal.mix_inner-loop-choice-init
mix_inner-loop-choice-init g t c =
    record {
      keeps = Extends-refl c.args.store.now;
      paid = c.requires.paid;
      limit = refl;
      done = λ q h. h;
      cost = λ levels h. pays_nothing _ _ _ c.args.store.now c.args.steps.now;
      memo = c.requires.memo;
      within = omega arith;
      first_count = ap length c.new-firsts.ensures;
      second_count = ap length c.new-seconds.ensures;
      first = MeanPairs-none (of_places (IsRow g.L.Label.parts g.L.Label.part_count (length c.args.shape.now) c.args.gate.now 0 c.args.depth) c.args.store.now (c.args.left, c.args.right)) c.args.store.now (drop (c.args.depth + 1) c.args.shape.now) c.new-firsts.result c.new-firsts.ensures;
      second = MeanPairs-none (of_places (IsRow g.L.Label.parts g.L.Label.part_count (length c.args.shape.now) c.args.gate.now 1 c.args.depth) c.args.store.now (c.args.left, c.args.right)) c.args.store.now (drop (c.args.depth + 1) c.args.shape.now) c.new-seconds.result c.new-seconds.ensures;
    }

pub mix_inner-returns-in_err-made-clause-refused : goal.mix_inner-returns-in_err-made-clause-refused
mix_inner-returns-in_err-made-clause-refused g t c =
    passed_on _ c.from_residual.result c.in_err-made.field-0.0 c.from_residual.ensures
    (λ levels h.
    let cost = (c.loop-choice.invariant.cost levels h).all in
    stopped_within c.args.steps.now c.loop-choice.steps c.mix_pair.new.steps (owed (row_prices (drop (c.args.depth + 1) c.args.shape.now)) (is_made c.loop-choice.memo) levels + 2 * anew (drop (c.args.depth + 1) c.args.shape.now)) (owed (row_prices (drop (c.args.depth + 1) c.args.shape.now)) (is_made c.args.memo.now) levels + (2 * (get_or c.args.shape.now c.args.depth 0) + (get_or c.args.shape.now c.args.depth 0) * (2 * anew (drop (c.args.depth + 1) c.args.shape.now)))) _ c.loop-choice.invariant.limit (omega (arith, paid_product (2 * anew (drop (c.args.depth + 1) c.args.shape.now)) c.loop-choice.choice (get_or c.args.shape.now c.args.depth 0) (omega (arith, c.loop-choice-test.true)))) (c.in_err-made.ensures.refused levels (two_held c.args.store.now c.loop-choice.store c.loop-choice.invariant.keeps (drop c.args.depth c.args.shape.now) (drop (c.args.depth + 1) c.args.shape.now) (c.args.left, c.args.right) c.run_from-lefts.result.0 c.run_from-rights.result.0 (c.loop-choice.choice + 0) levels c.requires.left c.requires.right h (c.run_from-lefts.ensures.same 0 c.run_from-lefts.ensures.some) (c.run_from-rights.ensures.same 0 c.run_from-rights.ensures.some))))

pub mix_inner-returns-in_err-made-clause-cause : goal.mix_inner-returns-in_err-made-clause-cause
mix_inner-returns-in_err-made-clause-cause g t c =
    passed_on _ c.from_residual.result c.in_err-made.field-0.0 c.from_residual.ensures
    (cause_map _ _ (row_cause_choice g.L.Label.parts g.L.Label.part_count c.args.gate.now c.args.shape.now c.args.depth c.args.store.now c.loop-choice.store c.loop-choice.invariant.keeps (drop c.args.depth c.args.shape.now) (drop (c.args.depth + 1) c.args.shape.now) (c.args.left, c.args.right) c.run_from-lefts.result.0 c.run_from-rights.result.0 (c.loop-choice.choice + 0) c.requires.left c.requires.right (c.run_from-lefts.ensures.same 0 c.run_from-lefts.ensures.some) (c.run_from-rights.ensures.same 0 c.run_from-rights.ensures.some)) _ c.in_err-made.ensures.cause)

pub mix_inner-returns-then-not-push_both-clause-refused : goal.mix_inner-returns-then-not-push_both-clause-refused
mix_inner-returns-then-not-push_both-clause-refused g t c =
    λ levels h.
    let cost = (c.loop-choice.invariant.cost levels h).all in
    let inner = (c.in_ok-made.ensures.steps levels (two_held c.args.store.now c.loop-choice.store c.loop-choice.invariant.keeps (drop c.args.depth c.args.shape.now) (drop (c.args.depth + 1) c.args.shape.now) (c.args.left, c.args.right) c.run_from-lefts.result.0 c.run_from-rights.result.0 (c.loop-choice.choice + 0) levels c.requires.left c.requires.right h (c.run_from-lefts.ensures.same 0 c.run_from-lefts.ensures.some) (c.run_from-rights.ensures.same 0 c.run_from-rights.ensures.some))).all in
    stopped_memory c.args.steps.now c.mix_pair.new.steps (owed (row_prices (drop (c.args.depth + 1) c.args.shape.now)) (is_made c.args.memo.now) levels + (2 * (get_or c.args.shape.now c.args.depth 0) + (get_or c.args.shape.now c.args.depth 0) * (2 * anew (drop (c.args.depth + 1) c.args.shape.now)))) _ (omega (arith, paid_product (2 * anew (drop (c.args.depth + 1) c.args.shape.now)) c.loop-choice.choice (get_or c.args.shape.now c.args.depth 0) (omega (arith, c.loop-choice-test.true)))) refl

pub mix_inner-returns-in_err-first-clause-refused : goal.mix_inner-returns-in_err-first-clause-refused
mix_inner-returns-in_err-first-clause-refused g t c =
    let split = split_shape c.args.shape.now c.args.depth c.requires.deep in
    passed_on _ c.from_residual-in_err-first.result c.in_err-first.field-0.0 c.from_residual-in_err-first.ensures
    (λ levels h.
    let cost = (c.loop-choice.invariant.cost levels h).all in
    stopped_within c.args.steps.now c.loop-choice.steps c.both_nodes.new.steps (2 * length c.loop-choice.firsts) (owed (row_prices (drop (c.args.depth + 1) c.args.shape.now)) (is_made c.args.memo.now) levels + (2 * (get_or c.args.shape.now c.args.depth 0) + (get_or c.args.shape.now c.args.depth 0) * (2 * anew (drop (c.args.depth + 1) c.args.shape.now)))) _ c.loop-choice.invariant.limit (omega (arith, c.loop-choice.invariant.first_count, c.loop-choice.invariant.within, mul-le-mul_left (2 * anew (drop (c.args.depth + 1) c.args.shape.now)) c.loop-choice.invariant.within)) c.in_err-first.ensures.refused)

pub mix_inner-returns-in_err-first-clause-cause : goal.mix_inner-returns-in_err-first-clause-cause
mix_inner-returns-in_err-first-clause-cause g t c =
    passed_on _ c.from_residual-in_err-first.result c.in_err-first.field-0.0 c.from_residual-in_err-first.ensures
    (cause_map _ _ (λ l r h. absurd h) _ c.in_err-first.ensures.narrow)

pub mix_inner-returns-clause-steps : goal.mix_inner-returns-clause-steps
mix_inner-returns-clause-steps g t c =
    λ levels h. pays_nodes _ _ _ _ (2 * anew (drop (c.args.depth + 1) c.args.shape.now) * c.loop-choice.choice) (2 * (get_or c.args.shape.now c.args.depth 0)) _ c.args.store.now c.loop-choice.store c.both_nodes.new.store c.args.steps.now c.loop-choice.steps c.both_nodes.new.steps (omega (arith, mul-le-mul_left (2 * anew (drop (c.args.depth + 1) c.args.shape.now)) c.loop-choice.invariant.within)) (c.loop-choice.invariant.cost levels h) (omega (arith, c.both_nodes.ensures.cheap, c.loop-choice.invariant.first_count, c.loop-choice.invariant.within)) c.in_ok-first.ensures.besides

pub mix_pair-returns-in_err-high-clause-refused : goal.mix_pair-returns-in_err-high-clause-refused
mix_pair-returns-in_err-high-clause-refused g t c =
    passed_on _ c.from_residual.result c.in_err-high.field-0.0 c.from_residual.ensures
    (λ levels h. stopped_within c.args.steps.now c.args.steps.now c.mix_at.new.steps (owed (row_prices (drop (c.args.depth + 1) c.args.shape.now)) (is_made c.args.memo.now) levels + anew (drop (c.args.depth + 1) c.args.shape.now)) (owed (row_prices (drop (c.args.depth + 1) c.args.shape.now)) (is_made c.args.memo.now) levels + 2 * anew (drop (c.args.depth + 1) c.args.shape.now)) _ refl (omega arith)
    (c.in_err-high.ensures.refused levels (record { closed = h.closed; here = h.high })))

pub mix_pair-returns-in_err-high-clause-cause : goal.mix_pair-returns-in_err-high-clause-cause
mix_pair-returns-in_err-high-clause-cause g t c =
    passed_on _ c.from_residual.result c.in_err-high.field-0.0 c.from_residual.ensures
    (cause_map _ _ (row_cause_high g.L.Label.parts g.L.Label.part_count c.args.gate.now c.args.shape.now c.args.depth c.args.store.now c.args.lefts c.args.rights c.requires.deep (below_all (length c.args.shape.now) c.args.gate.now.target c.args.gate.now.controls c.requires.valid.controls) c.requires.low_left c.requires.high_left c.requires.low_right c.requires.high_right) _ c.in_err-high.ensures.cause)

pub mix_pair-returns-then-is_control-clause-steps : goal.mix_pair-returns-then-is_control-clause-steps
mix_pair-returns-then-is_control-clause-steps g t c =
    λ levels h. pays_more _ _ _ _ (anew (drop (c.args.depth + 1) c.args.shape.now)) (2 * anew (drop (c.args.depth + 1) c.args.shape.now)) c.args.store.now c.mix_at.new.store c.args.steps.now c.mix_at.new.steps (omega arith) (c.in_ok-high.ensures.steps levels (record { closed = h.closed; here = h.high }))

pub mix_pair-returns-in_err-low-clause-refused : goal.mix_pair-returns-in_err-low-clause-refused
mix_pair-returns-in_err-low-clause-refused g t c =
    passed_on _ c.from_residual-in_err-low.result c.in_err-low.field-0.0 c.from_residual-in_err-low.ensures
    (λ levels h.
    let first = (c.in_ok-high.ensures.steps levels (record { closed = h.closed; here = h.high })).all in
    stopped_within c.args.steps.now c.mix_at.new.steps c.mix_at-2.new.steps (owed (row_prices (drop (c.args.depth + 1) c.args.shape.now)) (is_made c.mix_at.new.memo) levels + anew (drop (c.args.depth + 1) c.args.shape.now)) (owed (row_prices (drop (c.args.depth + 1) c.args.shape.now)) (is_made c.args.memo.now) levels + 2 * anew (drop (c.args.depth + 1) c.args.shape.now)) _ c.mix_at.ensures.limit (omega arith) (c.in_err-low.ensures.refused levels (record { closed = ArePairLevels-Extends c.args.store.now c.mix_at.new.store c.mix_at.ensures.keeps (drop (c.args.depth + 1) c.args.shape.now) levels h.closed; here = h.low })))

pub mix_pair-returns-in_err-low-clause-cause : goal.mix_pair-returns-in_err-low-clause-cause
mix_pair-returns-in_err-low-clause-cause g t c =
    let none = sym (c.is_control.ensures ∙ ap (list_any (nat_eq c.args.depth)) c.as_slice.ensures) ∙ c.if-is_control.false in
    passed_on _ c.from_residual-in_err-low.result c.in_err-low.field-0.0 c.from_residual-in_err-low.ensures
    (cause_map _ _ (λ l r w. row_cause_low g.L.Label.parts g.L.Label.part_count c.args.gate.now c.args.shape.now c.args.depth c.args.store.now c.args.lefts c.args.rights none l r (rows_cause_kept g.L.Label.parts g.L.Label.part_count c.args.gate.now c.args.shape.now (c.args.depth + 1) c.args.store.now c.mix_at.new.store c.mix_at.ensures.keeps (drop (c.args.depth + 1) c.args.shape.now) (c.args.lefts.0, c.args.rights.0) c.requires.low_left c.requires.low_right l r w)) _ c.in_err-low.ensures.cause)

pub mix_pair-returns-clause-steps : goal.mix_pair-returns-clause-steps
mix_pair-returns-clause-steps g t c =
    λ levels h. pays_then _ _ _ _ _ _ (anew (drop (c.args.depth + 1) c.args.shape.now)) (anew (drop (c.args.depth + 1) c.args.shape.now)) (2 * anew (drop (c.args.depth + 1) c.args.shape.now)) c.args.store.now c.mix_at.new.store c.mix_at-2.new.store c.args.steps.now c.mix_at.new.steps c.mix_at-2.new.steps (omega arith) (c.in_ok-high.ensures.steps levels (record { closed = h.closed; here = h.high })) (c.in_ok-low.ensures.steps levels (record { closed = ArePairLevels-Extends c.args.store.now c.mix_at.new.store c.mix_at.ensures.keeps (drop (c.args.depth + 1) c.args.shape.now) levels h.closed; here = h.low }))

pub mix_at-returns-in_err-first-2-clause-refused : goal.mix_at-returns-in_err-first-2-clause-refused
mix_at-returns-in_err-first-2-clause-refused g t c =
    let lt : c.args.depth < length c.args.shape.now = omega (arith, c.requires.deep) in
    let split = split_shape c.args.shape.now c.args.depth lt in
    let low = sym c.has_no_entry.ensures ∙ c.if-has_no_entry.true in
    passed_on _ c.from_residual-in_err-first-2.result c.in_err-first-2.field-0.0 c.from_residual-in_err-first-2.ensures
    (λ levels h.
    stopped_within c.args.steps.now c.args.steps.now c.mix_inner.new.steps (owed (row_prices (drop (c.args.depth + 1) c.args.shape.now)) (is_made c.args.memo.now) (rest_of levels) + (2 * (get_or c.args.shape.now c.args.depth 0) + (get_or c.args.shape.now c.args.depth 0) * (2 * anew (drop (c.args.depth + 1) c.args.shape.now)))) (owed (row_prices (drop c.args.depth c.args.shape.now)) (is_made c.args.memo.now) levels + anew (drop c.args.depth c.args.shape.now)) _ refl
    (omega (arith, low_more (drop c.args.depth c.args.shape.now) (drop (c.args.depth + 1) c.args.shape.now) (get_or c.args.shape.now c.args.depth 0) split low (is_made c.args.memo.now) levels)) (c.in_err-first-2.ensures.refused (rest_of levels) (key_below c.args.store.now (drop c.args.depth c.args.shape.now) (drop (c.args.depth + 1) c.args.shape.now) (get_or c.args.shape.now c.args.depth 0) split (c.args.left, c.args.right) levels h)))

pub mix_at-returns-in_err-first-2-clause-cause : goal.mix_at-returns-in_err-first-2-clause-cause
mix_at-returns-in_err-first-2-clause-cause g t c =
    passed_on _ c.from_residual-in_err-first-2.result c.in_err-first-2.field-0.0 c.from_residual-in_err-first-2.ensures
    (c.in_err-first-2.ensures.cause)

pub mix_at-returns-then-has_no_entry-clause-steps : goal.mix_at-returns-then-has_no_entry-clause-steps
mix_at-returns-then-has_no_entry-clause-steps g t c =
    let lt : c.args.depth < length c.args.shape.now = omega (arith, c.requires.deep) in
    let split = split_shape c.args.shape.now c.args.depth lt in
    let low = sym c.has_no_entry.ensures ∙ c.if-has_no_entry.true in
    λ levels h. low_paid (drop c.args.depth c.args.shape.now) (drop (c.args.depth + 1) c.args.shape.now) (get_or c.args.shape.now c.args.depth 0) split low (is_made c.args.memo.now) (is_made c.mix_inner.new.memo) levels c.args.store.now c.mix_inner.new.store c.args.steps.now c.mix_inner.new.steps
    (c.in_ok-first-2.ensures.steps (rest_of levels) (key_below c.args.store.now (drop c.args.depth c.args.shape.now) (drop (c.args.depth + 1) c.args.shape.now) (get_or c.args.shape.now c.args.depth 0) split (c.args.left, c.args.right) levels h))
