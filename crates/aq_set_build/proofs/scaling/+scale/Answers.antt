use Rattle.std.proofs.Common.{◌≡◌, ℕ, ◌+◌, ◌-◌, ◌*◌, ◌<◌, ◌≤◌, length, drop, get_or, sym, ap, subst, ◌∙◌, arith, rules}
use Rattle.aq_store.specs.Nodes.{pairs_at}
use Rattle.aq_store.specs.Means.{Means, of_place}
use Rattle.aq_store.specs.Memos.{memo_at}
use Rattle.aq_store.proofs.TableLemmas.{Extends-trans, HasShape-Extends}
use Rattle.aq_store.proofs.RunLemmas.{before-start, before-end}
use Rattle.aq_store.proofs.MeansLemmas.{place_step, place_done, means_heights, MeanPairs-none}
use Rattle.aq_store.proofs.StopLemmas.{passed_on}
use Rattle.aq_store.proofs.OwedLemmas.{split_shape}
use Rattle.aq_set_build.specs.Budgets.{walk_budget}
use Rattle.aq_set_build.specs.Products.{IsScaled}
use Rattle.aq_set_build.specs.Tensors.{IsScaleCause}
use Rattle.aq_set_build.proofs.GrowthLemmas.{grows_none, grows_then, grows_within, grows_adds, grows_steps, stops_then, stops_within, stops_gives_up, stops_refused}
use Rattle.aq_set_build.proofs.WalkLemmas.{leaf_shape, no_levels, budget_leaf, budget_node, one_more, on_the_way, at_the_end, run_at_place, inner_place, runs_kept, pairs_kept, pushed_count}
use Rattle.aq_set_build.proofs.ProductLemmas.{scaled_none}
use Rattle.aq_set_build.proofs.ScaleLemmas.{scale_pair, scale_cause_place_left, scale_cause_place_right, scale_memo-Extends, scale_memo_found, scale_memo-put}
use Rattle.aq_set_build.proofs.scaling.+scale.Goals as goal

pub scale_at-scale_leaf-requires-clause-leaf : goal.scale_at-scale_leaf-requires-clause-leaf
scale_at-scale_leaf-requires-clause-leaf t c = leaf_shape c.args.store.now c.args.shape.now c.args.depth c.args.id c.if-depth-shape.true c.requires.shape

pub scale_at-returns-in_err-made-clause-grows : goal.scale_at-returns-in_err-made-clause-grows
scale_at-returns-in_err-made-clause-grows t c =
    let e = budget_leaf 1 c.args.shape.now c.args.depth c.if-depth-shape.true in
    grows_within 1 _ _ _ _ _ c.scale_leaf.ensures.grows (omega arith)

pub scale_at-returns-in_err-made-clause-stops : goal.scale_at-returns-in_err-made-clause-stops
scale_at-returns-in_err-made-clause-stops t c =
    let e = budget_leaf 1 c.args.shape.now c.args.depth c.if-depth-shape.true in
    passed_on _ c.from_residual.result c.in_err-made.field-0.0 c.from_residual.ensures
    (stops_within (IsScaleCause c.args.factor c.args.store.now c.args.id) (IsScaleCause c.args.factor c.args.store.now c.args.id) 1
    (walk_budget 1 (drop c.args.depth c.args.shape.now)) c.args.steps.now c.scale_leaf.new.steps c.in_err-made.field-0.0 (omega arith) (λ l r h. h) c.in_err-made.ensures.stops)

pub scale_at-returns-then-depth-shape-clause-made : goal.scale_at-returns-then-depth-shape-clause-made
scale_at-returns-then-depth-shape-clause-made t c =
    subst (λ u. Means (of_place (IsScaled c.args.factor) c.args.store.now c.args.id) c.scale_leaf.new.store u c.in_ok-made.made)
    (sym (no_levels c.args.shape.now c.args.depth c.if-depth-shape.true)) c.in_ok-made.ensures.made

pub scale_at-returns-then-depth-shape-clause-memo : goal.scale_at-returns-then-depth-shape-clause-memo
scale_at-returns-then-depth-shape-clause-memo t c =
    scale_memo-Extends c.args.factor c.args.store.now c.scale_leaf.new.store c.scale_leaf.ensures.grows.keeps (memo_at c.args.memo.now) c.requires.memo

pub scale_at-returns-then-depth-shape-clause-grows : goal.scale_at-returns-then-depth-shape-clause-grows
scale_at-returns-then-depth-shape-clause-grows t c =
    let e = budget_leaf 1 c.args.shape.now c.args.depth c.if-depth-shape.true in
    grows_within 1 _ _ _ _ _ c.scale_leaf.ensures.grows (omega arith)

pub scale_at-returns-in-Some-clause-made : goal.scale_at-returns-in-Some-clause-made
scale_at-returns-in-Some-clause-made t c =
    scale_memo_found c.args.factor c.args.store.now (memo_at c.args.memo.now) (drop c.args.depth c.args.shape.now) c.args.id c.in-Some.made c.requires.memo c.requires.shape
    (sym c.in-Some.ensures)

pub scale_at-returns-in_err-put-clause-grows : goal.scale_at-returns-in_err-put-clause-grows
scale_at-returns-in_err-put-clause-grows t c =
    let lt : c.args.depth < length c.args.shape.now = omega (arith, c.requires.deep, c.if-depth-shape.false) in
    let e = budget_node 1 c.args.shape.now c.args.depth lt in
    grows_then (walk_budget 1 (drop c.args.depth c.args.shape.now) - 1) 1 _ _ _ _ _ _ _ c.scale_node.ensures.grows
    (grows_steps 1 c.scale_node.new.store c.scale_node.new.steps c.put.new.steps c.scale_node.ensures.grows.paid c.put.ensures.later c.put.ensures.limit c.put.ensures.cheap) (omega arith)

pub scale_at-returns-in_err-put-clause-stops : goal.scale_at-returns-in_err-put-clause-stops
scale_at-returns-in_err-put-clause-stops t c =
    let lt : c.args.depth < length c.args.shape.now = omega (arith, c.requires.deep, c.if-depth-shape.false) in
    let e = budget_node 1 c.args.shape.now c.args.depth lt in
    let P = IsScaleCause c.args.factor c.args.store.now c.args.id in
    passed_on _ c.from_residual-in_err-put.result c.in_err-put.field-0.0 c.from_residual-in_err-put.ensures
    (stops_then P P (walk_budget 1 (drop c.args.depth c.args.shape.now) - 1) 1 (walk_budget 1 (drop c.args.depth c.args.shape.now)) _ _ _ _ _ c.in_err-put.field-0.0
    c.scale_node.ensures.grows (omega arith) (λ l r h. h)
    (stops_gives_up P 1 c.scale_node.new.steps c.put.new.steps c.in_err-put.field-0.0 c.in_err-put.ensures.refused))

pub scale_at-returns-clause-memo : goal.scale_at-returns-clause-memo
scale_at-returns-clause-memo t c =
    scale_memo-put c.args.factor c.args.store.now c.scale_node.new.store c.scale_node.ensures.grows.keeps (memo_at c.scale_node.new.memo) (memo_at c.put.new.self)
    (drop c.args.depth c.args.shape.now) c.args.id c.in_ok-made-2.made c.requires.shape c.in_ok-made-2.ensures.memo c.in_ok-made-2.ensures.made c.in_ok-put.ensures.ok

pub scale_at-returns-clause-grows : goal.scale_at-returns-clause-grows
scale_at-returns-clause-grows t c =
    let lt : c.args.depth < length c.args.shape.now = omega (arith, c.requires.deep, c.if-depth-shape.false) in
    let e = budget_node 1 c.args.shape.now c.args.depth lt in
    grows_then (walk_budget 1 (drop c.args.depth c.args.shape.now) - 1) 1 _ _ _ _ _ _ _ c.scale_node.ensures.grows
    (grows_steps 1 c.scale_node.new.store c.scale_node.new.steps c.put.new.steps c.scale_node.ensures.grows.paid c.put.ensures.later c.put.ensures.limit c.put.ensures.cheap) (omega arith)

-- ---- the loop

pub scale_node-run_count-index-end-requires : goal.scale_node-run_count-index-end-requires
scale_node-run_count-index-end-requires t c =
    let o = inner_place c.args.store.now c.args.shape.now c.args.depth c.args.id c.requires.deep c.requires.shape in
    omega (arith, o.0, o.1)

pub scale_node-loop-index-init : goal.scale_node-loop-index-init
scale_node-loop-index-init t c =
    let none : length c.new-pairs.result ≡ 0 = ap length c.new-pairs.ensures in
    record {
      grows = grows_within 0 _ _ _ _ _ (grows_none c.args.store.now c.args.steps.now c.requires.paid) (omega arith);
      memo = c.requires.memo;
      count = none ∙ sym (before-start (pairs_at c.args.store.now c.args.id));
      each = MeanPairs-none (of_place (IsScaled c.args.factor) c.args.store.now c.args.id) c.args.store.now (drop (c.args.depth + 1) c.args.shape.now) c.new-pairs.result c.new-pairs.ensures;
    }

pub scale_node-run-left-requires : goal.scale_node-run-left-requires
scale_node-run-left-requires t c =
    omega (arith, c.loop-index-test.true, runs_kept c.args.store.now c.loop-index.store c.loop-index.invariant.grows.keeps c.args.shape.now c.args.depth c.args.id c.requires.shape)

pub scale_node-scale_at-requires : goal.scale_node-scale_at-requires
scale_node-scale_at-requires t c =
    let r = run_at_place c.args.store.now c.loop-index.store c.loop-index.invariant.grows.keeps c.args.shape.now c.args.depth c.args.id c.loop-index.index
    c.run-left.result.1 c.run-left.result.0 c.requires.deep c.requires.shape c.run-left.ensures.run c.run-left.ensures.some in
    let deep = c.requires.deep in
    search rules

pub scale_node-returns-in_err-first-clause-grows : goal.scale_node-returns-in_err-first-clause-grows
scale_node-returns-in_err-first-clause-grows t c =
    let r = run_at_place c.args.store.now c.loop-index.store c.loop-index.invariant.grows.keeps c.args.shape.now c.args.depth c.args.id c.loop-index.index
    c.run-left.result.1 c.run-left.result.0 c.requires.deep c.requires.shape c.run-left.ensures.run c.run-left.ensures.some in
    let b = walk_budget 1 (drop (c.args.depth + 1) c.args.shape.now) in
    let e = budget_node 1 c.args.shape.now c.args.depth c.requires.deep in
    let way = on_the_way (length c.loop-index.pairs) c.run-left.result.1 (get_or c.args.shape.now c.args.depth 0) b (walk_budget 1 (drop c.args.depth c.args.shape.now)) e
    c.run-left.ensures.some (omega (arith, r.room, c.loop-index.invariant.count)) in
    grows_then (length c.loop-index.pairs * (2 * b)) b _ _ _ _ _ _ _ c.loop-index.invariant.grows c.scale_at.ensures.grows (omega arith)

pub scale_node-returns-in_err-first-clause-stops : goal.scale_node-returns-in_err-first-clause-stops
scale_node-returns-in_err-first-clause-stops t c =
    let r = run_at_place c.args.store.now c.loop-index.store c.loop-index.invariant.grows.keeps c.args.shape.now c.args.depth c.args.id c.loop-index.index
    c.run-left.result.1 c.run-left.result.0 c.requires.deep c.requires.shape c.run-left.ensures.run c.run-left.ensures.some in
    let b = walk_budget 1 (drop (c.args.depth + 1) c.args.shape.now) in
    let e = budget_node 1 c.args.shape.now c.args.depth c.requires.deep in
    let way = on_the_way (length c.loop-index.pairs) c.run-left.result.1 (get_or c.args.shape.now c.args.depth 0) b (walk_budget 1 (drop c.args.depth c.args.shape.now)) e
    c.run-left.ensures.some (omega (arith, r.room, c.loop-index.invariant.count)) in
    passed_on _ c.from_residual.result c.in_err-first.field-0.0 c.from_residual.ensures
    (stops_then (IsScaleCause c.args.factor c.loop-index.store c.run-left.result.0.0) (IsScaleCause c.args.factor c.args.store.now c.args.id) (length c.loop-index.pairs * (2 * b)) b
    (walk_budget 1 (drop c.args.depth c.args.shape.now) - 1) _ _ _ _ _ c.in_err-first.field-0.0 c.loop-index.invariant.grows (omega arith)
    (scale_cause_place_left c.args.factor c.args.store.now c.loop-index.store c.loop-index.invariant.grows.keeps (drop c.args.depth c.args.shape.now) c.args.id c.loop-index.index c.run-left.result.1
    c.run-left.result.0 c.requires.shape c.run-left.ensures.run c.run-left.ensures.some)
    c.in_err-first.ensures.stops)

pub scale_node-scale_at-requires-in-loop-index : goal.scale_node-scale_at-requires-in-loop-index
scale_node-scale_at-requires-in-loop-index t c =
    let r = run_at_place c.args.store.now c.loop-index.store c.loop-index.invariant.grows.keeps c.args.shape.now c.args.depth c.args.id c.loop-index.index
    c.run-left.result.1 c.run-left.result.0 c.requires.deep c.requires.shape c.run-left.ensures.run c.run-left.ensures.some in
    let right = HasShape-Extends c.loop-index.store c.scale_at.new.store c.scale_at.ensures.grows.keeps (drop (c.args.depth + 1) c.args.shape.now) c.run-left.result.0.1 r.right in
    let deep = c.requires.deep in
    search rules

pub scale_node-returns-in_err-second-clause-grows : goal.scale_node-returns-in_err-second-clause-grows
scale_node-returns-in_err-second-clause-grows t c =
    let r = run_at_place c.args.store.now c.loop-index.store c.loop-index.invariant.grows.keeps c.args.shape.now c.args.depth c.args.id c.loop-index.index
    c.run-left.result.1 c.run-left.result.0 c.requires.deep c.requires.shape c.run-left.ensures.run c.run-left.ensures.some in
    let b = walk_budget 1 (drop (c.args.depth + 1) c.args.shape.now) in
    let e = budget_node 1 c.args.shape.now c.args.depth c.requires.deep in
    let way = on_the_way (length c.loop-index.pairs) c.run-left.result.1 (get_or c.args.shape.now c.args.depth 0) b (walk_budget 1 (drop c.args.depth c.args.shape.now)) e
    c.run-left.ensures.some (omega (arith, r.room, c.loop-index.invariant.count)) in
    let two = grows_then (length c.loop-index.pairs * (2 * b)) b (length c.loop-index.pairs * (2 * b) + b) _ _ _ _ _ _ c.loop-index.invariant.grows c.scale_at.ensures.grows (omega arith) in
    grows_then (length c.loop-index.pairs * (2 * b) + b) b _ _ _ _ _ _ _ two c.scale_at-in-loop-index.ensures.grows way

pub scale_node-returns-in_err-second-clause-stops : goal.scale_node-returns-in_err-second-clause-stops
scale_node-returns-in_err-second-clause-stops t c =
    let r = run_at_place c.args.store.now c.loop-index.store c.loop-index.invariant.grows.keeps c.args.shape.now c.args.depth c.args.id c.loop-index.index
    c.run-left.result.1 c.run-left.result.0 c.requires.deep c.requires.shape c.run-left.ensures.run c.run-left.ensures.some in
    let b = walk_budget 1 (drop (c.args.depth + 1) c.args.shape.now) in
    let e = budget_node 1 c.args.shape.now c.args.depth c.requires.deep in
    let way = on_the_way (length c.loop-index.pairs) c.run-left.result.1 (get_or c.args.shape.now c.args.depth 0) b (walk_budget 1 (drop c.args.depth c.args.shape.now)) e
    c.run-left.ensures.some (omega (arith, r.room, c.loop-index.invariant.count)) in
    let two = grows_then (length c.loop-index.pairs * (2 * b)) b (length c.loop-index.pairs * (2 * b) + b) _ _ _ _ _ _ c.loop-index.invariant.grows c.scale_at.ensures.grows (omega arith) in
    passed_on _ c.from_residual-in_err-second.result c.in_err-second.field-0.0 c.from_residual-in_err-second.ensures
    (stops_then (IsScaleCause c.args.factor c.scale_at.new.store c.run-left.result.0.1) (IsScaleCause c.args.factor c.args.store.now c.args.id) (length c.loop-index.pairs * (2 * b) + b) b
    (walk_budget 1 (drop c.args.depth c.args.shape.now) - 1) _ _ _ _ _ c.in_err-second.field-0.0 two way
    (scale_cause_place_right c.args.factor c.args.store.now c.loop-index.store c.scale_at.new.store c.loop-index.invariant.grows.keeps c.scale_at.ensures.grows.keeps
    (drop c.args.depth c.args.shape.now) (drop (c.args.depth + 1) c.args.shape.now) c.args.id c.loop-index.index c.run-left.result.1
    c.run-left.result.0 c.requires.shape r.right c.run-left.ensures.run c.run-left.ensures.some)
    c.in_err-second.ensures.stops)

pub scale_node-push-requires-clause-room : goal.scale_node-push-requires-clause-room
scale_node-push-requires-clause-room t c =
    let r = run_at_place c.args.store.now c.loop-index.store c.loop-index.invariant.grows.keeps c.args.shape.now c.args.depth c.args.id c.loop-index.index
    c.run-left.result.1 c.run-left.result.0 c.requires.deep c.requires.shape c.run-left.ensures.run c.run-left.ensures.some in
    let o = inner_place c.args.store.now c.args.shape.now c.args.depth c.args.id c.requires.deep c.requires.shape in
    let k = pairs_kept c.args.store.now c.loop-index.store c.loop-index.invariant.grows.keeps c.args.shape.now c.args.depth c.args.id c.requires.shape in
    omega (arith, r.room, o.0, k, c.run-left.ensures.most, c.loop-index.invariant.count)

pub scale_node-returns-in_default-clause-grows : goal.scale_node-returns-in_default-clause-grows
scale_node-returns-in_default-clause-grows t c =
    let r = run_at_place c.args.store.now c.loop-index.store c.loop-index.invariant.grows.keeps c.args.shape.now c.args.depth c.args.id c.loop-index.index
    c.run-left.result.1 c.run-left.result.0 c.requires.deep c.requires.shape c.run-left.ensures.run c.run-left.ensures.some in
    let b = walk_budget 1 (drop (c.args.depth + 1) c.args.shape.now) in
    let e = budget_node 1 c.args.shape.now c.args.depth c.requires.deep in
    let way = on_the_way (length c.loop-index.pairs) c.run-left.result.1 (get_or c.args.shape.now c.args.depth 0) b (walk_budget 1 (drop c.args.depth c.args.shape.now)) e
    c.run-left.ensures.some (omega (arith, r.room, c.loop-index.invariant.count)) in
    let two = grows_then (length c.loop-index.pairs * (2 * b)) b (length c.loop-index.pairs * (2 * b) + b) _ _ _ _ _ _ c.loop-index.invariant.grows c.scale_at.ensures.grows (omega arith) in
    grows_then (length c.loop-index.pairs * (2 * b) + b) b _ _ _ _ _ _ _ two c.scale_at-in-loop-index.ensures.grows way

pub scale_node-loop-index-preserved : goal.scale_node-loop-index-preserved
scale_node-loop-index-preserved t c =
    let r = run_at_place c.args.store.now c.loop-index.store c.loop-index.invariant.grows.keeps c.args.shape.now c.args.depth c.args.id c.loop-index.index
    c.run-left.result.1 c.run-left.result.0 c.requires.deep c.requires.shape c.run-left.ensures.run c.run-left.ensures.some in
    let b = walk_budget 1 (drop (c.args.depth + 1) c.args.shape.now) in
    let two = grows_then (length c.loop-index.pairs * (2 * b)) b (length c.loop-index.pairs * (2 * b) + b) _ _ _ _ _ _ c.loop-index.invariant.grows c.scale_at.ensures.grows (omega arith) in
    let q : ℕ × ℕ = (c.in_ok-first.first, c.in_ok-second.second) in
    let count = pushed_count c.loop-index.pairs c.push.new.self c.run-left.result.1 _ _ q c.in-Ok.ensures c.loop-index.invariant.count r.next in
    let more = one_more (length c.loop-index.pairs) c.run-left.result.1 b c.run-left.ensures.some in
    let long : length c.push.new.self ≡ length c.loop-index.pairs + c.run-left.result.1 = omega (arith, count, r.next, c.loop-index.invariant.count) in
    record {
      grows = grows_then (length c.loop-index.pairs * (2 * b) + b) b (length c.push.new.self * (2 * b)) _ _ _ _ _ _ two c.scale_at-in-loop-index.ensures.grows
          (subst (λ k. length c.loop-index.pairs * (2 * b) + b + b ≤ k * (2 * b)) (sym long) more);
      memo = c.in_ok-second.ensures.memo;
      count = count;
      each = place_step (IsScaled c.args.factor) c.args.store.now c.loop-index.store c.scale_at-in-loop-index.new.store
          c.loop-index.invariant.grows.keeps (Extends-trans _ _ _ c.scale_at.ensures.grows.keeps c.scale_at-in-loop-index.ensures.grows.keeps)
          (drop c.args.depth c.args.shape.now) (drop (c.args.depth + 1) c.args.shape.now) (get_or c.args.shape.now c.args.depth 0) c.args.id c.loop-index.index c.run-left.result.1
          c.loop-index.pairs c.push.new.self c.run-left.result.0 q (split_shape c.args.shape.now c.args.depth c.requires.deep) c.requires.shape
          c.run-left.ensures.run c.loop-index.invariant.count c.loop-index.invariant.each
          (scale_pair c.args.factor c.loop-index.store c.scale_at.new.store c.scale_at-in-loop-index.new.store c.scale_at.ensures.grows.keeps c.scale_at-in-loop-index.ensures.grows.keeps
          (drop (c.args.depth + 1) c.args.shape.now) c.run-left.result.0.0 c.run-left.result.0.1 c.in_ok-first.first c.in_ok-second.second r.right c.in_ok-first.ensures.made c.in_ok-second.ensures.made)
          c.in-Ok.ensures;
    }

pub scale_node-node_of-requires-clause-some : goal.scale_node-node_of-requires-clause-some
scale_node-node_of-requires-clause-some t c =
    let o = inner_place c.args.store.now c.args.shape.now c.args.depth c.args.id c.requires.deep c.requires.shape in
    let e = before-end (pairs_at c.args.store.now c.args.id) c.loop-index.index (omega (arith, c.loop-index-test.false)) in
    omega (arith, c.loop-index.invariant.count, o.0, o.1)

pub scale_node-node_of-requires-clause-heights : goal.scale_node-node_of-requires-clause-heights
scale_node-node_of-requires-clause-heights t c =
    means_heights (of_place (IsScaled c.args.factor) c.args.store.now c.args.id) c.loop-index.store (drop (c.args.depth + 1) c.args.shape.now) c.loop-index.pairs c.loop-index.invariant.each

pub scale_node-returns-in_err-made-clause-grows : goal.scale_node-returns-in_err-made-clause-grows
scale_node-returns-in_err-made-clause-grows t c =
    let o = inner_place c.args.store.now c.args.shape.now c.args.depth c.args.id c.requires.deep c.requires.shape in
    let n = before-end (pairs_at c.args.store.now c.args.id) c.loop-index.index (omega (arith, c.loop-index-test.false)) in
    let b = walk_budget 1 (drop (c.args.depth + 1) c.args.shape.now) in
    let e = budget_node 1 c.args.shape.now c.args.depth c.requires.deep in
    let last = at_the_end (length c.loop-index.pairs) (get_or c.args.shape.now c.args.depth 0) b (walk_budget 1 (drop c.args.depth c.args.shape.now)) e (c.loop-index.invariant.count ∙ n ∙ o.0) in
    grows_then (length c.loop-index.pairs * (2 * b)) (length c.loop-index.pairs) _ _ _ _ _ _ _ c.loop-index.invariant.grows
    (grows_adds _ (length c.loop-index.pairs) _ _ _ _ _ c.node_of.ensures.adds c.node_of.ensures.paid c.node_of.ensures.keeps c.node_of.ensures.cheap) last

pub scale_node-returns-in_err-made-clause-stops : goal.scale_node-returns-in_err-made-clause-stops
scale_node-returns-in_err-made-clause-stops t c =
    let o = inner_place c.args.store.now c.args.shape.now c.args.depth c.args.id c.requires.deep c.requires.shape in
    let n = before-end (pairs_at c.args.store.now c.args.id) c.loop-index.index (omega (arith, c.loop-index-test.false)) in
    let b = walk_budget 1 (drop (c.args.depth + 1) c.args.shape.now) in
    let e = budget_node 1 c.args.shape.now c.args.depth c.requires.deep in
    let last = at_the_end (length c.loop-index.pairs) (get_or c.args.shape.now c.args.depth 0) b (walk_budget 1 (drop c.args.depth c.args.shape.now)) e (c.loop-index.invariant.count ∙ n ∙ o.0) in
    let P = IsScaleCause c.args.factor c.args.store.now c.args.id in
    passed_on _ c.from_residual-in_err-made.result c.in_err-made.field-0.0 c.from_residual-in_err-made.ensures
    (stops_then P P (length c.loop-index.pairs * (2 * b)) (length c.loop-index.pairs) (walk_budget 1 (drop c.args.depth c.args.shape.now) - 1) _ _ _ _ _ c.in_err-made.field-0.0
    c.loop-index.invariant.grows last (λ l r h. h) (stops_refused P _ _ _ _ _ c.in_err-made.field-0.0 c.in_err-made.ensures.adds))

pub scale_node-returns-clause-made : goal.scale_node-returns-clause-made
scale_node-returns-clause-made t c =
    place_done (IsScaled c.args.factor) (scaled_none c.args.factor) c.args.store.now c.loop-index.store c.node_of.new.self c.loop-index.invariant.grows.keeps c.node_of.ensures.keeps
    (drop c.args.depth c.args.shape.now) (drop (c.args.depth + 1) c.args.shape.now) (get_or c.args.shape.now c.args.depth 0) c.args.id c.in_ok-made.made c.loop-index.index
    c.loop-index.pairs (split_shape c.args.shape.now c.args.depth c.requires.deep) c.requires.shape c.loop-index.invariant.count (omega (arith, c.loop-index-test.false)) c.loop-index.invariant.each
    c.in_ok-made.ensures.adds.here

pub scale_node-returns-clause-memo : goal.scale_node-returns-clause-memo
scale_node-returns-clause-memo t c =
    scale_memo-Extends c.args.factor c.loop-index.store c.node_of.new.self c.node_of.ensures.keeps (memo_at c.loop-index.memo) c.loop-index.invariant.memo

pub scale_node-returns-clause-grows : goal.scale_node-returns-clause-grows
scale_node-returns-clause-grows t c =
    let o = inner_place c.args.store.now c.args.shape.now c.args.depth c.args.id c.requires.deep c.requires.shape in
    let n = before-end (pairs_at c.args.store.now c.args.id) c.loop-index.index (omega (arith, c.loop-index-test.false)) in
    let b = walk_budget 1 (drop (c.args.depth + 1) c.args.shape.now) in
    let e = budget_node 1 c.args.shape.now c.args.depth c.requires.deep in
    let last = at_the_end (length c.loop-index.pairs) (get_or c.args.shape.now c.args.depth 0) b (walk_budget 1 (drop c.args.depth c.args.shape.now)) e (c.loop-index.invariant.count ∙ n ∙ o.0) in
    grows_then (length c.loop-index.pairs * (2 * b)) (length c.loop-index.pairs) _ _ _ _ _ _ _ c.loop-index.invariant.grows
    (grows_adds _ (length c.loop-index.pairs) _ _ _ _ _ c.node_of.ensures.adds c.node_of.ensures.paid c.node_of.ensures.keeps c.node_of.ensures.cheap) last
