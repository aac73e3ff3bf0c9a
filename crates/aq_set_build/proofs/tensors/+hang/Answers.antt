use Rattle.std.proofs.Common.{◌≡◌, ℕ, ◌+◌, ◌-◌, ◌*◌, ◌<◌, ◌≤◌, ◌++◌, length, drop, get_or, sym, ap, subst, ◌∙◌, arith, rules}
use Rattle.aq_store.specs.Nodes.{pairs_at}
use Rattle.aq_store.specs.Memos.{memo_at}
use Rattle.aq_store.proofs.TableLemmas.{Extends-trans, HasShape-Extends}
use Rattle.aq_store.proofs.RunLemmas.{before-start, before-end}
use Rattle.aq_store.proofs.MeansLemmas.{means_heights, MeanPairs-none}
use Rattle.aq_store.proofs.StopLemmas.{passed_on}
use Rattle.aq_store.proofs.OwedLemmas.{split_shape}
use Rattle.aq_set_build.specs.Budgets.{walk_budget}
use Rattle.aq_set_build.specs.Tensors.{IsHung, IsHangCause}
use Rattle.aq_set_build.proofs.GrowthLemmas.{grows_none, grows_then, grows_within, grows_adds, grows_steps, stops_then, stops_within, stops_gives_up, stops_refused}
use Rattle.aq_set_build.proofs.WalkLemmas.{leaf_shape, no_levels, budget_leaf, budget_node, budget_some, one_more, on_the_way, at_the_end, run_at_place, inner_place, runs_kept, pairs_kept, pushed_count}
use Rattle.aq_set_build.proofs.HangLemmas.{hung_last, hang_pair, hang_step, hang_done, hang_cause_left, hang_cause_right, hang_memo-Extends, hang_memo_found, hang_memo-put}
use Rattle.aq_set_build.proofs.tensors.+hang.Goals as goal

pub hang_at-returns-in-Some-clause-made : goal.hang_at-returns-in-Some-clause-made
hang_at-returns-in-Some-clause-made t c =
    hang_memo_found c.args.below.now c.args.store.now (memo_at c.args.memo.now) (drop c.args.depth c.args.shape.now) c.args.id c.in-Some.made c.requires.memo c.requires.shape
    (sym c.in-Some.ensures)

pub hang_at-returns-in_err-made-clause-grows : goal.hang_at-returns-in_err-made-clause-grows
hang_at-returns-in_err-made-clause-grows t c = grows_within _ _ _ _ _ _ c.hang_new.ensures.grows (omega arith)

pub hang_at-returns-in_err-made-clause-stops : goal.hang_at-returns-in_err-made-clause-stops
hang_at-returns-in_err-made-clause-stops t c =
    let most = walk_budget (walk_budget 1 c.args.below.now.shape.items + 1) (drop c.args.depth c.args.shape.now) in
    let P = IsHangCause c.args.store.now c.args.below.now c.args.id in
    passed_on _ c.from_residual.result c.in_err-made.field-0.0 c.from_residual.ensures
    (stops_within P P (most - 1) most c.args.steps.now c.hang_new.new.steps c.in_err-made.field-0.0 (omega arith) (λ l r h. h) c.in_err-made.ensures.stops)

pub hang_at-returns-in_err-put-clause-grows : goal.hang_at-returns-in_err-put-clause-grows
hang_at-returns-in_err-put-clause-grows t c =
    let most = walk_budget (walk_budget 1 c.args.below.now.shape.items + 1) (drop c.args.depth c.args.shape.now) in
    let some = budget_some (walk_budget 1 c.args.below.now.shape.items) c.args.shape.now c.args.depth c.requires.deep in
    grows_then (most - 1) 1 most _ _ _ _ _ _ c.hang_new.ensures.grows
    (grows_steps 1 c.hang_new.new.store c.hang_new.new.steps c.put.new.steps c.hang_new.ensures.grows.paid c.put.ensures.later c.put.ensures.limit c.put.ensures.cheap) (omega arith)

pub hang_at-returns-in_err-put-clause-stops : goal.hang_at-returns-in_err-put-clause-stops
hang_at-returns-in_err-put-clause-stops t c =
    let most = walk_budget (walk_budget 1 c.args.below.now.shape.items + 1) (drop c.args.depth c.args.shape.now) in
    let some = budget_some (walk_budget 1 c.args.below.now.shape.items) c.args.shape.now c.args.depth c.requires.deep in
    let P = IsHangCause c.args.store.now c.args.below.now c.args.id in
    passed_on _ c.from_residual-in_err-put.result c.in_err-put.field-0.0 c.from_residual-in_err-put.ensures
    (stops_then P P (most - 1) 1 most _ _ _ _ _ c.in_err-put.field-0.0
    c.hang_new.ensures.grows (omega arith) (λ l r h. h)
    (stops_gives_up P 1 c.hang_new.new.steps c.put.new.steps c.in_err-put.field-0.0 c.in_err-put.ensures.refused))

pub hang_at-returns-clause-memo : goal.hang_at-returns-clause-memo
hang_at-returns-clause-memo t c =
    hang_memo-put c.args.below.now c.args.store.now c.hang_new.new.store c.hang_new.ensures.grows.keeps c.requires.below (memo_at c.hang_new.new.memo) (memo_at c.put.new.self)
    (drop c.args.depth c.args.shape.now) c.args.id c.in_ok-made.made c.requires.shape c.in_ok-made.ensures.memo c.in_ok-made.ensures.made c.in_ok-put.ensures.ok

pub hang_at-returns-clause-grows : goal.hang_at-returns-clause-grows
hang_at-returns-clause-grows t c =
    let most = walk_budget (walk_budget 1 c.args.below.now.shape.items + 1) (drop c.args.depth c.args.shape.now) in
    let some = budget_some (walk_budget 1 c.args.below.now.shape.items) c.args.shape.now c.args.depth c.requires.deep in
    grows_then (most - 1) 1 most _ _ _ _ _ _ c.hang_new.ensures.grows
    (grows_steps 1 c.hang_new.new.store c.hang_new.new.steps c.put.new.steps c.hang_new.ensures.grows.paid c.put.ensures.later c.put.ensures.limit c.put.ensures.cheap) (omega arith)

-- ---- at the last level

pub hang_new-hang_leaf-requires-clause-leaf : goal.hang_new-hang_leaf-requires-clause-leaf
hang_new-hang_leaf-requires-clause-leaf t c = leaf_shape c.args.store.now c.args.shape.now c.args.depth c.args.id c.if-depth-shape.true c.requires.shape

pub hang_new-returns-in_err-made-clause-grows : goal.hang_new-returns-in_err-made-clause-grows
hang_new-returns-in_err-made-clause-grows t c =
    let e = budget_leaf (walk_budget 1 c.args.below.now.shape.items + 1) c.args.shape.now c.args.depth c.if-depth-shape.true in
    grows_within _ _ _ _ _ _ c.hang_leaf.ensures.grows (omega arith)

pub hang_new-returns-in_err-made-clause-stops : goal.hang_new-returns-in_err-made-clause-stops
hang_new-returns-in_err-made-clause-stops t c =
    let e = budget_leaf (walk_budget 1 c.args.below.now.shape.items + 1) c.args.shape.now c.args.depth c.if-depth-shape.true in
    let P = IsHangCause c.args.store.now c.args.below.now c.args.id in
    passed_on _ c.from_residual.result c.in_err-made.field-0.0 c.from_residual.ensures
    (stops_within P P (walk_budget 1 c.args.below.now.shape.items) (walk_budget (walk_budget 1 c.args.below.now.shape.items + 1) (drop c.args.depth c.args.shape.now) - 1)
    c.args.steps.now c.hang_leaf.new.steps c.in_err-made.field-0.0 (omega arith) (λ l r h. h) c.in_err-made.ensures.stops)

pub hang_new-returns-then-depth-shape-clause-made : goal.hang_new-returns-then-depth-shape-clause-made
hang_new-returns-then-depth-shape-clause-made t c =
    hung_last c.args.below.now c.args.store.now c.hang_leaf.new.store (drop c.args.depth c.args.shape.now) c.args.id c.in_ok-made.made
    (no_levels c.args.shape.now c.args.depth c.if-depth-shape.true) c.in_ok-made.ensures.made

pub hang_new-returns-then-depth-shape-clause-memo : goal.hang_new-returns-then-depth-shape-clause-memo
hang_new-returns-then-depth-shape-clause-memo t c =
    hang_memo-Extends c.args.below.now c.args.store.now c.hang_leaf.new.store c.hang_leaf.ensures.grows.keeps c.requires.below (memo_at c.args.memo.now) c.requires.memo

pub hang_new-returns-then-depth-shape-clause-grows : goal.hang_new-returns-then-depth-shape-clause-grows
hang_new-returns-then-depth-shape-clause-grows t c =
    let e = budget_leaf (walk_budget 1 c.args.below.now.shape.items + 1) c.args.shape.now c.args.depth c.if-depth-shape.true in
    grows_within _ _ _ _ _ _ c.hang_leaf.ensures.grows (omega arith)

-- ---- the loop

pub hang_new-run_count-index-end-requires : goal.hang_new-run_count-index-end-requires
hang_new-run_count-index-end-requires t c =
    let deep : c.args.depth < length c.args.shape.now = omega (arith, c.requires.deep, c.if-depth-shape.false) in
    let e0 = walk_budget 1 c.args.below.now.shape.items + 1 in
    let o = inner_place c.args.store.now c.args.shape.now c.args.depth c.args.id deep c.requires.shape in
    omega (arith, o.0, o.1)

pub hang_new-loop-index-init : goal.hang_new-loop-index-init
hang_new-loop-index-init t c =
    let deep : c.args.depth < length c.args.shape.now = omega (arith, c.requires.deep, c.if-depth-shape.false) in
    let e0 = walk_budget 1 c.args.below.now.shape.items + 1 in
    let none : length c.new-pairs.result ≡ 0 = ap length c.new-pairs.ensures in
    record {
      grows = grows_within 0 _ _ _ _ _ (grows_none c.args.store.now c.args.steps.now c.requires.paid) (omega arith);
      memo = c.requires.memo;
      count = none ∙ sym (before-start (pairs_at c.args.store.now c.args.id));
      each = MeanPairs-none (IsHung c.args.store.now c.args.below.now (drop c.args.depth c.args.shape.now) c.args.id) c.args.store.now (drop (c.args.depth + 1) c.args.shape.now ++ c.args.below.now.shape.items) c.new-pairs.result c.new-pairs.ensures;
    }

pub hang_new-run-left-requires : goal.hang_new-run-left-requires
hang_new-run-left-requires t c =
    let deep : c.args.depth < length c.args.shape.now = omega (arith, c.requires.deep, c.if-depth-shape.false) in
    let e0 = walk_budget 1 c.args.below.now.shape.items + 1 in
    omega (arith, c.loop-index-test.true, runs_kept c.args.store.now c.loop-index.store c.loop-index.invariant.grows.keeps c.args.shape.now c.args.depth c.args.id c.requires.shape)

pub hang_new-hang_at-requires : goal.hang_new-hang_at-requires
hang_new-hang_at-requires t c =
    let below = HasShape-Extends c.args.store.now c.loop-index.store c.loop-index.invariant.grows.keeps c.args.below.now.shape.items c.args.below.now.root c.requires.below in
    let deep : c.args.depth < length c.args.shape.now = omega (arith, c.requires.deep, c.if-depth-shape.false) in
    let e0 = walk_budget 1 c.args.below.now.shape.items + 1 in
    let r = run_at_place c.args.store.now c.loop-index.store c.loop-index.invariant.grows.keeps c.args.shape.now c.args.depth c.args.id c.loop-index.index
    c.run-left.result.1 c.run-left.result.0 deep c.requires.shape c.run-left.ensures.run c.run-left.ensures.some in
    search rules

pub hang_new-returns-in_err-first-clause-grows : goal.hang_new-returns-in_err-first-clause-grows
hang_new-returns-in_err-first-clause-grows t c =
    let deep : c.args.depth < length c.args.shape.now = omega (arith, c.requires.deep, c.if-depth-shape.false) in
    let e0 = walk_budget 1 c.args.below.now.shape.items + 1 in
    let r = run_at_place c.args.store.now c.loop-index.store c.loop-index.invariant.grows.keeps c.args.shape.now c.args.depth c.args.id c.loop-index.index
    c.run-left.result.1 c.run-left.result.0 deep c.requires.shape c.run-left.ensures.run c.run-left.ensures.some in
    let b = walk_budget e0 (drop (c.args.depth + 1) c.args.shape.now) in
    let e = budget_node e0 c.args.shape.now c.args.depth deep in
    let way = on_the_way (length c.loop-index.pairs) c.run-left.result.1 (get_or c.args.shape.now c.args.depth 0) b (walk_budget e0 (drop c.args.depth c.args.shape.now)) e
    c.run-left.ensures.some (omega (arith, r.room, c.loop-index.invariant.count)) in
    grows_then (length c.loop-index.pairs * (2 * b)) b _ _ _ _ _ _ _ c.loop-index.invariant.grows c.hang_at.ensures.grows (omega arith)

pub hang_new-returns-in_err-first-clause-stops : goal.hang_new-returns-in_err-first-clause-stops
hang_new-returns-in_err-first-clause-stops t c =
    let deep : c.args.depth < length c.args.shape.now = omega (arith, c.requires.deep, c.if-depth-shape.false) in
    let e0 = walk_budget 1 c.args.below.now.shape.items + 1 in
    let r = run_at_place c.args.store.now c.loop-index.store c.loop-index.invariant.grows.keeps c.args.shape.now c.args.depth c.args.id c.loop-index.index
    c.run-left.result.1 c.run-left.result.0 deep c.requires.shape c.run-left.ensures.run c.run-left.ensures.some in
    let b = walk_budget e0 (drop (c.args.depth + 1) c.args.shape.now) in
    let e = budget_node e0 c.args.shape.now c.args.depth deep in
    let way = on_the_way (length c.loop-index.pairs) c.run-left.result.1 (get_or c.args.shape.now c.args.depth 0) b (walk_budget e0 (drop c.args.depth c.args.shape.now)) e
    c.run-left.ensures.some (omega (arith, r.room, c.loop-index.invariant.count)) in
    passed_on _ c.from_residual-in_err-first.result c.in_err-first.field-0.0 c.from_residual-in_err-first.ensures
    (stops_then (IsHangCause c.loop-index.store c.args.below.now c.run-left.result.0.0) (IsHangCause c.args.store.now c.args.below.now c.args.id) (length c.loop-index.pairs * (2 * b)) b
    (walk_budget e0 (drop c.args.depth c.args.shape.now) - 1) _ _ _ _ _ c.in_err-first.field-0.0 c.loop-index.invariant.grows (omega arith)
    (hang_cause_left c.args.below.now c.args.store.now c.loop-index.store c.loop-index.invariant.grows.keeps (drop c.args.depth c.args.shape.now) c.args.id c.loop-index.index c.run-left.result.1
    c.run-left.result.0 c.requires.shape c.requires.below c.run-left.ensures.run c.run-left.ensures.some)
    c.in_err-first.ensures.stops)

pub hang_new-hang_at-requires-in-loop-index : goal.hang_new-hang_at-requires-in-loop-index
hang_new-hang_at-requires-in-loop-index t c =
    let deep : c.args.depth < length c.args.shape.now = omega (arith, c.requires.deep, c.if-depth-shape.false) in
    let e0 = walk_budget 1 c.args.below.now.shape.items + 1 in
    let r = run_at_place c.args.store.now c.loop-index.store c.loop-index.invariant.grows.keeps c.args.shape.now c.args.depth c.args.id c.loop-index.index
    c.run-left.result.1 c.run-left.result.0 deep c.requires.shape c.run-left.ensures.run c.run-left.ensures.some in
    let below = HasShape-Extends c.args.store.now c.hang_at.new.store (Extends-trans _ _ _ c.loop-index.invariant.grows.keeps c.hang_at.ensures.grows.keeps) c.args.below.now.shape.items c.args.below.now.root c.requires.below in
    let right = HasShape-Extends c.loop-index.store c.hang_at.new.store c.hang_at.ensures.grows.keeps (drop (c.args.depth + 1) c.args.shape.now) c.run-left.result.0.1 r.right in
    search rules

pub hang_new-returns-in_err-second-clause-grows : goal.hang_new-returns-in_err-second-clause-grows
hang_new-returns-in_err-second-clause-grows t c =
    let deep : c.args.depth < length c.args.shape.now = omega (arith, c.requires.deep, c.if-depth-shape.false) in
    let e0 = walk_budget 1 c.args.below.now.shape.items + 1 in
    let r = run_at_place c.args.store.now c.loop-index.store c.loop-index.invariant.grows.keeps c.args.shape.now c.args.depth c.args.id c.loop-index.index
    c.run-left.result.1 c.run-left.result.0 deep c.requires.shape c.run-left.ensures.run c.run-left.ensures.some in
    let b = walk_budget e0 (drop (c.args.depth + 1) c.args.shape.now) in
    let e = budget_node e0 c.args.shape.now c.args.depth deep in
    let way = on_the_way (length c.loop-index.pairs) c.run-left.result.1 (get_or c.args.shape.now c.args.depth 0) b (walk_budget e0 (drop c.args.depth c.args.shape.now)) e
    c.run-left.ensures.some (omega (arith, r.room, c.loop-index.invariant.count)) in
    let two = grows_then (length c.loop-index.pairs * (2 * b)) b (length c.loop-index.pairs * (2 * b) + b) _ _ _ _ _ _ c.loop-index.invariant.grows c.hang_at.ensures.grows (omega arith) in
    grows_then (length c.loop-index.pairs * (2 * b) + b) b _ _ _ _ _ _ _ two c.hang_at-in-loop-index.ensures.grows way

pub hang_new-returns-in_err-second-clause-stops : goal.hang_new-returns-in_err-second-clause-stops
hang_new-returns-in_err-second-clause-stops t c =
    let deep : c.args.depth < length c.args.shape.now = omega (arith, c.requires.deep, c.if-depth-shape.false) in
    let e0 = walk_budget 1 c.args.below.now.shape.items + 1 in
    let r = run_at_place c.args.store.now c.loop-index.store c.loop-index.invariant.grows.keeps c.args.shape.now c.args.depth c.args.id c.loop-index.index
    c.run-left.result.1 c.run-left.result.0 deep c.requires.shape c.run-left.ensures.run c.run-left.ensures.some in
    let b = walk_budget e0 (drop (c.args.depth + 1) c.args.shape.now) in
    let e = budget_node e0 c.args.shape.now c.args.depth deep in
    let way = on_the_way (length c.loop-index.pairs) c.run-left.result.1 (get_or c.args.shape.now c.args.depth 0) b (walk_budget e0 (drop c.args.depth c.args.shape.now)) e
    c.run-left.ensures.some (omega (arith, r.room, c.loop-index.invariant.count)) in
    let two = grows_then (length c.loop-index.pairs * (2 * b)) b (length c.loop-index.pairs * (2 * b) + b) _ _ _ _ _ _ c.loop-index.invariant.grows c.hang_at.ensures.grows (omega arith) in
    passed_on _ c.from_residual-in_err-second.result c.in_err-second.field-0.0 c.from_residual-in_err-second.ensures
    (stops_then (IsHangCause c.hang_at.new.store c.args.below.now c.run-left.result.0.1) (IsHangCause c.args.store.now c.args.below.now c.args.id) (length c.loop-index.pairs * (2 * b) + b) b
    (walk_budget e0 (drop c.args.depth c.args.shape.now) - 1) _ _ _ _ _ c.in_err-second.field-0.0 two way
    (hang_cause_right c.args.below.now c.args.store.now c.loop-index.store c.hang_at.new.store c.loop-index.invariant.grows.keeps c.hang_at.ensures.grows.keeps
    (drop c.args.depth c.args.shape.now) (drop (c.args.depth + 1) c.args.shape.now) c.args.id c.loop-index.index c.run-left.result.1
    c.run-left.result.0 c.requires.shape r.right c.requires.below
    (HasShape-Extends c.args.store.now c.loop-index.store c.loop-index.invariant.grows.keeps c.args.below.now.shape.items c.args.below.now.root c.requires.below)
    c.run-left.ensures.run c.run-left.ensures.some)
    c.in_err-second.ensures.stops)

pub hang_new-push-requires-clause-room : goal.hang_new-push-requires-clause-room
hang_new-push-requires-clause-room t c =
    let deep : c.args.depth < length c.args.shape.now = omega (arith, c.requires.deep, c.if-depth-shape.false) in
    let e0 = walk_budget 1 c.args.below.now.shape.items + 1 in
    let r = run_at_place c.args.store.now c.loop-index.store c.loop-index.invariant.grows.keeps c.args.shape.now c.args.depth c.args.id c.loop-index.index
    c.run-left.result.1 c.run-left.result.0 deep c.requires.shape c.run-left.ensures.run c.run-left.ensures.some in
    let o = inner_place c.args.store.now c.args.shape.now c.args.depth c.args.id deep c.requires.shape in
    let k = pairs_kept c.args.store.now c.loop-index.store c.loop-index.invariant.grows.keeps c.args.shape.now c.args.depth c.args.id c.requires.shape in
    omega (arith, r.room, o.0, k, c.run-left.ensures.most, c.loop-index.invariant.count)

pub hang_new-returns-in_default-clause-grows : goal.hang_new-returns-in_default-clause-grows
hang_new-returns-in_default-clause-grows t c =
    let deep : c.args.depth < length c.args.shape.now = omega (arith, c.requires.deep, c.if-depth-shape.false) in
    let e0 = walk_budget 1 c.args.below.now.shape.items + 1 in
    let r = run_at_place c.args.store.now c.loop-index.store c.loop-index.invariant.grows.keeps c.args.shape.now c.args.depth c.args.id c.loop-index.index
    c.run-left.result.1 c.run-left.result.0 deep c.requires.shape c.run-left.ensures.run c.run-left.ensures.some in
    let b = walk_budget e0 (drop (c.args.depth + 1) c.args.shape.now) in
    let e = budget_node e0 c.args.shape.now c.args.depth deep in
    let way = on_the_way (length c.loop-index.pairs) c.run-left.result.1 (get_or c.args.shape.now c.args.depth 0) b (walk_budget e0 (drop c.args.depth c.args.shape.now)) e
    c.run-left.ensures.some (omega (arith, r.room, c.loop-index.invariant.count)) in
    let two = grows_then (length c.loop-index.pairs * (2 * b)) b (length c.loop-index.pairs * (2 * b) + b) _ _ _ _ _ _ c.loop-index.invariant.grows c.hang_at.ensures.grows (omega arith) in
    grows_then (length c.loop-index.pairs * (2 * b) + b) b _ _ _ _ _ _ _ two c.hang_at-in-loop-index.ensures.grows way

pub hang_new-loop-index-preserved : goal.hang_new-loop-index-preserved
hang_new-loop-index-preserved t c =
    let deep : c.args.depth < length c.args.shape.now = omega (arith, c.requires.deep, c.if-depth-shape.false) in
    let e0 = walk_budget 1 c.args.below.now.shape.items + 1 in
    let r = run_at_place c.args.store.now c.loop-index.store c.loop-index.invariant.grows.keeps c.args.shape.now c.args.depth c.args.id c.loop-index.index
    c.run-left.result.1 c.run-left.result.0 deep c.requires.shape c.run-left.ensures.run c.run-left.ensures.some in
    let b = walk_budget e0 (drop (c.args.depth + 1) c.args.shape.now) in
    let two = grows_then (length c.loop-index.pairs * (2 * b)) b (length c.loop-index.pairs * (2 * b) + b) _ _ _ _ _ _ c.loop-index.invariant.grows c.hang_at.ensures.grows (omega arith) in
    let q : ℕ × ℕ = (c.in_ok-first.first, c.in_ok-second.second) in
    let count = pushed_count c.loop-index.pairs c.push.new.self c.run-left.result.1 _ _ q c.in-Ok.ensures c.loop-index.invariant.count r.next in
    let more = one_more (length c.loop-index.pairs) c.run-left.result.1 b c.run-left.ensures.some in
    let long : length c.push.new.self ≡ length c.loop-index.pairs + c.run-left.result.1 = omega (arith, count, r.next, c.loop-index.invariant.count) in
    record {
      grows = grows_then (length c.loop-index.pairs * (2 * b) + b) b (length c.push.new.self * (2 * b)) _ _ _ _ _ _ two c.hang_at-in-loop-index.ensures.grows
          (subst (λ k. length c.loop-index.pairs * (2 * b) + b + b ≤ k * (2 * b)) (sym long) more);
      memo = c.in_ok-second.ensures.memo;
      count = count;
      each = hang_step c.args.below.now c.args.store.now c.loop-index.store c.hang_at-in-loop-index.new.store
          c.loop-index.invariant.grows.keeps (Extends-trans _ _ _ c.hang_at.ensures.grows.keeps c.hang_at-in-loop-index.ensures.grows.keeps)
          (drop c.args.depth c.args.shape.now) (drop (c.args.depth + 1) c.args.shape.now) (get_or c.args.shape.now c.args.depth 0) c.args.id c.loop-index.index c.run-left.result.1
          c.loop-index.pairs c.push.new.self c.run-left.result.0 q (split_shape c.args.shape.now c.args.depth deep) c.requires.shape c.requires.below
          c.run-left.ensures.run c.loop-index.invariant.count c.loop-index.invariant.each
          (hang_pair c.args.below.now c.loop-index.store c.hang_at.new.store c.hang_at-in-loop-index.new.store c.hang_at.ensures.grows.keeps c.hang_at-in-loop-index.ensures.grows.keeps
          (drop (c.args.depth + 1) c.args.shape.now) c.run-left.result.0.0 c.run-left.result.0.1 c.in_ok-first.first c.in_ok-second.second r.right
          (HasShape-Extends c.args.store.now c.loop-index.store c.loop-index.invariant.grows.keeps c.args.below.now.shape.items c.args.below.now.root c.requires.below) c.in_ok-first.ensures.made c.in_ok-second.ensures.made)
          c.in-Ok.ensures;
    }

pub hang_new-node_of-requires-clause-some : goal.hang_new-node_of-requires-clause-some
hang_new-node_of-requires-clause-some t c =
    let deep : c.args.depth < length c.args.shape.now = omega (arith, c.requires.deep, c.if-depth-shape.false) in
    let e0 = walk_budget 1 c.args.below.now.shape.items + 1 in
    let o = inner_place c.args.store.now c.args.shape.now c.args.depth c.args.id deep c.requires.shape in
    let e = before-end (pairs_at c.args.store.now c.args.id) c.loop-index.index (omega (arith, c.loop-index-test.false)) in
    omega (arith, c.loop-index.invariant.count, o.0, o.1)

pub hang_new-node_of-requires-clause-heights : goal.hang_new-node_of-requires-clause-heights
hang_new-node_of-requires-clause-heights t c =
    let deep : c.args.depth < length c.args.shape.now = omega (arith, c.requires.deep, c.if-depth-shape.false) in
    let e0 = walk_budget 1 c.args.below.now.shape.items + 1 in
    means_heights (IsHung c.args.store.now c.args.below.now (drop c.args.depth c.args.shape.now) c.args.id) c.loop-index.store
    (drop (c.args.depth + 1) c.args.shape.now ++ c.args.below.now.shape.items) c.loop-index.pairs c.loop-index.invariant.each

pub hang_new-returns-in_err-made-2-clause-grows : goal.hang_new-returns-in_err-made-2-clause-grows
hang_new-returns-in_err-made-2-clause-grows t c =
    let deep : c.args.depth < length c.args.shape.now = omega (arith, c.requires.deep, c.if-depth-shape.false) in
    let e0 = walk_budget 1 c.args.below.now.shape.items + 1 in
    let o = inner_place c.args.store.now c.args.shape.now c.args.depth c.args.id deep c.requires.shape in
    let n = before-end (pairs_at c.args.store.now c.args.id) c.loop-index.index (omega (arith, c.loop-index-test.false)) in
    let b = walk_budget e0 (drop (c.args.depth + 1) c.args.shape.now) in
    let e = budget_node e0 c.args.shape.now c.args.depth deep in
    let last = at_the_end (length c.loop-index.pairs) (get_or c.args.shape.now c.args.depth 0) b (walk_budget e0 (drop c.args.depth c.args.shape.now)) e (c.loop-index.invariant.count ∙ n ∙ o.0) in
    grows_then (length c.loop-index.pairs * (2 * b)) (length c.loop-index.pairs) _ _ _ _ _ _ _ c.loop-index.invariant.grows
    (grows_adds _ (length c.loop-index.pairs) _ _ _ _ _ c.node_of.ensures.adds c.node_of.ensures.paid c.node_of.ensures.keeps c.node_of.ensures.cheap) last

pub hang_new-returns-in_err-made-2-clause-stops : goal.hang_new-returns-in_err-made-2-clause-stops
hang_new-returns-in_err-made-2-clause-stops t c =
    let deep : c.args.depth < length c.args.shape.now = omega (arith, c.requires.deep, c.if-depth-shape.false) in
    let e0 = walk_budget 1 c.args.below.now.shape.items + 1 in
    let o = inner_place c.args.store.now c.args.shape.now c.args.depth c.args.id deep c.requires.shape in
    let n = before-end (pairs_at c.args.store.now c.args.id) c.loop-index.index (omega (arith, c.loop-index-test.false)) in
    let b = walk_budget e0 (drop (c.args.depth + 1) c.args.shape.now) in
    let e = budget_node e0 c.args.shape.now c.args.depth deep in
    let last = at_the_end (length c.loop-index.pairs) (get_or c.args.shape.now c.args.depth 0) b (walk_budget e0 (drop c.args.depth c.args.shape.now)) e (c.loop-index.invariant.count ∙ n ∙ o.0) in
    let P = IsHangCause c.args.store.now c.args.below.now c.args.id in
    passed_on _ c.from_residual-in_err-made-2.result c.in_err-made-2.field-0.0 c.from_residual-in_err-made-2.ensures
    (stops_then P P (length c.loop-index.pairs * (2 * b)) (length c.loop-index.pairs) (walk_budget e0 (drop c.args.depth c.args.shape.now) - 1) _ _ _ _ _ c.in_err-made-2.field-0.0
    c.loop-index.invariant.grows last (λ l r h. h) (stops_refused P _ _ _ _ _ c.in_err-made-2.field-0.0 c.in_err-made-2.ensures.adds))

pub hang_new-returns-clause-made : goal.hang_new-returns-clause-made
hang_new-returns-clause-made t c =
    let deep : c.args.depth < length c.args.shape.now = omega (arith, c.requires.deep, c.if-depth-shape.false) in
    let e0 = walk_budget 1 c.args.below.now.shape.items + 1 in
    hang_done c.args.below.now c.args.store.now c.loop-index.store c.node_of.new.self c.loop-index.invariant.grows.keeps c.node_of.ensures.keeps
    (drop c.args.depth c.args.shape.now) (drop (c.args.depth + 1) c.args.shape.now) (get_or c.args.shape.now c.args.depth 0) c.args.id c.in_ok-made-2.made c.loop-index.index
    c.loop-index.pairs (split_shape c.args.shape.now c.args.depth deep) c.requires.shape c.loop-index.invariant.count (omega (arith, c.loop-index-test.false)) c.loop-index.invariant.each
    c.in_ok-made-2.ensures.adds.here

pub hang_new-returns-clause-memo : goal.hang_new-returns-clause-memo
hang_new-returns-clause-memo t c =
    let deep : c.args.depth < length c.args.shape.now = omega (arith, c.requires.deep, c.if-depth-shape.false) in
    let e0 = walk_budget 1 c.args.below.now.shape.items + 1 in
    hang_memo-Extends c.args.below.now c.loop-index.store c.node_of.new.self c.node_of.ensures.keeps
    (HasShape-Extends c.args.store.now c.loop-index.store c.loop-index.invariant.grows.keeps c.args.below.now.shape.items c.args.below.now.root c.requires.below) (memo_at c.loop-index.memo) c.loop-index.invariant.memo

pub hang_new-returns-clause-grows : goal.hang_new-returns-clause-grows
hang_new-returns-clause-grows t c =
    let deep : c.args.depth < length c.args.shape.now = omega (arith, c.requires.deep, c.if-depth-shape.false) in
    let e0 = walk_budget 1 c.args.below.now.shape.items + 1 in
    let o = inner_place c.args.store.now c.args.shape.now c.args.depth c.args.id deep c.requires.shape in
    let n = before-end (pairs_at c.args.store.now c.args.id) c.loop-index.index (omega (arith, c.loop-index-test.false)) in
    let b = walk_budget e0 (drop (c.args.depth + 1) c.args.shape.now) in
    let e = budget_node e0 c.args.shape.now c.args.depth deep in
    let last = at_the_end (length c.loop-index.pairs) (get_or c.args.shape.now c.args.depth 0) b (walk_budget e0 (drop c.args.depth c.args.shape.now)) e (c.loop-index.invariant.count ∙ n ∙ o.0) in
    grows_then (length c.loop-index.pairs * (2 * b)) (length c.loop-index.pairs) _ _ _ _ _ _ _ c.loop-index.invariant.grows
    (grows_adds _ (length c.loop-index.pairs) _ _ _ _ _ c.node_of.ensures.adds c.node_of.ensures.paid c.node_of.ensures.keeps c.node_of.ensures.cheap) last
