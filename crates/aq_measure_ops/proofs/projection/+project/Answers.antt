use Rattle.std.proofs.Common.{◌*◌, lit≤, rules, arith, refl, sym, ap, ◌∙◌, cond, ◌≡◌, ℕ, ◌+◌, ◌-◌, ◌<◌, ◌≤◌, length, drop, get_or, IfOk, OnOk, ◌++◌}
use Rattle.std.proofs.Common.{[], ◌∷◌, false, true, Some, slice_get, subst, ap₂, is_some}
use Rattle.std.proofs.lemmas.List.{length-append}
use Rattle.aq_store.specs.Nodes.{Extends, HasShape, total_cost, pairs_at, runs_at}
use Rattle.aq_store.specs.Runs.{copies, run_of, compress}
use Rattle.aq_store.specs.Means.{Means, MeansPair, of_place, of_pair}
use Rattle.aq_store.specs.Memos.{memo_at, is_done}
use Rattle.aq_store.specs.Owed.{AreLevels, IsIn, first_of, rest_of, owed, prices_of}
use Rattle.aq_store.proofs.TableLemmas.{HasShape-Extends, Extends-trans, Extends-refl}
use Rattle.aq_store.proofs.RunLemmas.{before, run_choice, length-copies, run_within, run_next, before-start, before-end}
use Rattle.aq_store.proofs.MeansLemmas.{place_step, place_done, means_heights, MeanPairs-none, Means-Extends, pairs_at-kept, opened}
use Rattle.aq_store.proofs.StopLemmas.{adds_limit, GivesUp-within, refused_gives_up, passed_on}
use Rattle.aq_store.proofs.OwedLemmas.{split_shape, paid_done, paid_failed, failed_within, pair_levels, AreLevels-Extends}
use Rattle.aq_measure_ops.specs.Projection.{Projects, Blank, IsBlank, IsMemo}
use Rattle.aq_measure_ops.proofs.ProjectionLemmas.{memo_image, projects-nothing, IsMemo-Extends, IsMemo-put, just_put, cut_here, cut_below}
use Rattle.aq_measure_ops.proofs.projection.+project.Goals as goal
use Rattle.aq_measure_ops.proofs.projection.+project.Goals.{project_pair-then-outcome, project_pair-else-outcome}

pub project_at-returns-in-Some-clause-image : goal.project_at-returns-in-Some-clause-image
project_at-returns-in-Some-clause-image g t c =
    memo_image g.L.Label.parts c.args.outcome c.args.shape.now c.args.qubit c.args.store.now (memo_at c.args.memo.now) c.args.depth c.args.id c.in-Some.made c.requires.memo
    c.requires.shape (sym c.in-Some.ensures)

pub project_at-run_count-index-end-requires : goal.project_at-run_count-index-end-requires
project_at-run_count-index-end-requires g t c =
    let lt : c.args.depth < length c.args.shape.now = omega (arith, c.requires.deep, c.requires.qubit) in
    let o = opened c.args.store.now (get_or c.args.shape.now c.args.depth 0) (drop (c.args.depth + 1) c.args.shape.now) c.args.id (subst
    (λ u. HasShape c.args.store.now u c.args.id) (split_shape c.args.shape.now c.args.depth lt) c.requires.shape) in
    omega (arith, o.1, o.2)

pub project_at-loop-index-init : goal.project_at-loop-index-init
project_at-loop-index-init g t c = record {
  keeps = Extends-refl c.args.store.now;
  paid = c.requires.paid;
  memo = c.requires.memo;
  done = λ q h. h;
  limit = refl;
  cost = λ levels h. omega arith;
  count = ap length c.new-pairs.ensures ∙ sym (before-start (pairs_at c.args.store.now c.args.id));
  each = MeanPairs-none (of_place (Projects g.L.Label.parts (length c.args.shape.now) c.args.qubit c.args.outcome) c.args.store.now c.args.id) c.args.store.now (drop
      (c.args.depth + 1) c.args.shape.now) c.new-pairs.result c.new-pairs.ensures;
}

pub project_at-run-pair-requires : goal.project_at-run-pair-requires
project_at-run-pair-requires g t c =
    omega (
      arith,
      c.loop-index-test.true,
      ap (λ ps. length (compress ps)) (pairs_at-kept c.args.store.now c.loop-index.store c.loop-index.invariant.keeps
          (drop c.args.depth c.args.shape.now) c.args.id c.requires.shape),
    )

pub project_at-project_pair-requires : goal.project_at-project_pair-requires
project_at-project_pair-requires g t c κs within =
    let lt : c.args.depth < length c.args.shape.now = omega (arith, c.requires.deep, c.requires.qubit) in
    let split = split_shape c.args.shape.now c.args.depth lt in
    let o = opened c.args.store.now (get_or c.args.shape.now c.args.depth 0) (drop (c.args.depth + 1) c.args.shape.now) c.args.id (subst
    (λ u. HasShape c.args.store.now u c.args.id) split c.requires.shape) in
    let here : slice_get (runs_at c.args.store.now c.args.id) c.loop-index.index ≡ Some (run_of c.run-pair.result.0 c.run-pair.result.1) = ap (λ ps. slice_get
    (compress ps) c.loop-index.index) (sym (pairs_at-kept c.args.store.now c.loop-index.store c.loop-index.invariant.keeps
    (drop c.args.depth c.args.shape.now) c.args.id c.requires.shape)) ∙ c.run-pair.ensures.run in
    let first = run_choice (pairs_at c.args.store.now c.args.id) c.loop-index.index c.run-pair.result.1 (before
    (runs_at c.args.store.now c.args.id) c.loop-index.index) c.run-pair.result.0 here (omega arith) (omega (arith, c.run-pair.ensures.some)) in
    let left = HasShape-Extends c.args.store.now c.loop-index.store c.loop-index.invariant.keeps (drop (c.args.depth + 1) c.args.shape.now) c.run-pair.result.0.0 (o.3.left
    (before (runs_at c.args.store.now c.args.id) c.loop-index.index) c.run-pair.result.0 first) in
    let right = HasShape-Extends c.args.store.now c.loop-index.store c.loop-index.invariant.keeps (drop (c.args.depth + 1) c.args.shape.now) c.run-pair.result.0.1 (o.3.right
    (before (runs_at c.args.store.now c.args.id) c.loop-index.index) c.run-pair.result.0 first) in
    let zero = Means-Extends (λ word v. Blank g.L.Label.parts v) c.args.store.now c.loop-index.store c.loop-index.invariant.keeps (drop
    (c.args.qubit + 1) c.args.shape.now) c.args.zero c.requires.zero in
    search rules

pub project_at-returns-in_err-made-clause-cheap : goal.project_at-returns-in_err-made-clause-cheap
project_at-returns-in_err-made-clause-cheap g t c = λ levels h.
    let closed = h.closed in
    let at = h.here in
    let lt : c.args.depth < length c.args.shape.now = omega (arith, c.requires.deep, c.requires.qubit) in
    let split = split_shape c.args.shape.now c.args.depth lt in
    let l = pair_levels c.args.store.now c.loop-index.store c.loop-index.invariant.keeps (drop c.args.depth c.args.shape.now) (drop (c.args.depth + 1) c.args.shape.now)
    (get_or c.args.shape.now c.args.depth 0) split c.args.id c.loop-index.index c.run-pair.result.1 c.run-pair.result.0 levels c.requires.shape closed at
    c.run-pair.ensures.run c.run-pair.ensures.some in
    let a = c.project_pair.ensures.cheap (rest_of levels) (record { closed = l.0; left = l.1; right = l.2 }) in
    let b = c.loop-index.invariant.cost levels h in
    failed_within (drop c.args.depth c.args.shape.now) (drop (c.args.depth + 1) c.args.shape.now) (get_or c.args.shape.now c.args.depth 0) split (is_done
    (memo_at c.args.memo.now)) levels c.args.id c.args.steps.now.taken c.project_pair.new.steps.taken at (ap is_some (sym c.in_default.ensures)) (omega arith)

pub project_at-returns-in_default-push-clause-cheap : goal.project_at-returns-in_default-push-clause-cheap
project_at-returns-in_default-push-clause-cheap g t c = λ levels h.
    let closed = h.closed in
    let at = h.here in
    let lt : c.args.depth < length c.args.shape.now = omega (arith, c.requires.deep, c.requires.qubit) in
    let split = split_shape c.args.shape.now c.args.depth lt in
    let l = pair_levels c.args.store.now c.loop-index.store c.loop-index.invariant.keeps (drop c.args.depth c.args.shape.now) (drop (c.args.depth + 1) c.args.shape.now)
    (get_or c.args.shape.now c.args.depth 0) split c.args.id c.loop-index.index c.run-pair.result.1 c.run-pair.result.0 levels c.requires.shape closed at
    c.run-pair.ensures.run c.run-pair.ensures.some in
    let a = c.project_pair.ensures.cheap (rest_of levels) (record { closed = l.0; left = l.1; right = l.2 }) in
    let b = c.loop-index.invariant.cost levels h in
    failed_within (drop c.args.depth c.args.shape.now) (drop (c.args.depth + 1) c.args.shape.now) (get_or c.args.shape.now c.args.depth 0) split (is_done
    (memo_at c.args.memo.now)) levels c.args.id c.args.steps.now.taken c.project_pair.new.steps.taken at (ap is_some (sym c.in_default.ensures)) (omega arith)

pub project_at-push-requires-clause-room : goal.project_at-push-requires-clause-room
project_at-push-requires-clause-room g t c =
    let kept = pairs_at-kept c.args.store.now c.loop-index.store c.loop-index.invariant.keeps (drop c.args.depth c.args.shape.now) c.args.id c.requires.shape in
    let here : slice_get (runs_at c.args.store.now c.args.id) c.loop-index.index ≡ Some (run_of c.run-pair.result.0 c.run-pair.result.1) = ap (λ ps. slice_get
    (compress ps) c.loop-index.index) (sym kept) ∙ c.run-pair.ensures.run in
    let a = run_within (pairs_at c.args.store.now c.args.id) c.loop-index.index c.run-pair.result.1 c.run-pair.result.0 here in
    omega (arith, ap length kept, c.run-pair.ensures.most, c.loop-index.invariant.count)

pub project_at-loop-index-preserved : goal.project_at-loop-index-preserved
project_at-loop-index-preserved g t c =
    let lt : c.args.depth < length c.args.shape.now = omega (arith, c.requires.deep, c.requires.qubit) in
    let split = split_shape c.args.shape.now c.args.depth lt in
    let here : slice_get (runs_at c.args.store.now c.args.id) c.loop-index.index ≡ Some (run_of c.run-pair.result.0 c.run-pair.result.1) = ap (λ ps. slice_get
    (compress ps) c.loop-index.index) (sym (pairs_at-kept c.args.store.now c.loop-index.store c.loop-index.invariant.keeps
    (drop c.args.depth c.args.shape.now) c.args.id c.requires.shape)) ∙ c.run-pair.ensures.run in
    record {
      keeps = Extends-trans _ _ _ c.loop-index.invariant.keeps c.project_pair.ensures.keeps;
      paid = c.project_pair.ensures.paid;
      memo = c.in_ok-made.ensures.memo;
      done = λ q h. c.project_pair.ensures.done q (c.loop-index.invariant.done q h);
      limit = c.project_pair.ensures.limit ∙ c.loop-index.invariant.limit;
      cost = λ levels h.
          let closed = h.closed in
          let at = h.here in
          let l = pair_levels c.args.store.now c.loop-index.store c.loop-index.invariant.keeps (drop c.args.depth c.args.shape.now) (drop (c.args.depth + 1) c.args.shape.now)
          (get_or c.args.shape.now c.args.depth 0) split c.args.id c.loop-index.index c.run-pair.result.1 c.run-pair.result.0 levels c.requires.shape closed at
          c.run-pair.ensures.run c.run-pair.ensures.some in
          let a = c.in_ok-made.ensures.steps (rest_of levels) (record { closed = l.0; left = l.1; right = l.2 }) in
          let b = c.loop-index.invariant.cost levels h in
          omega arith;
      count = ap length c.in-Ok.ensures ∙ length-append c.loop-index.pairs (copies c.run-pair.result.1 c.in_ok-made.made)
          ∙ ap₂ (λ m n. m + n) c.loop-index.invariant.count (length-copies c.run-pair.result.1 c.in_ok-made.made)
          ∙ sym (run_next (pairs_at c.args.store.now c.args.id) c.loop-index.index c.run-pair.result.1 c.run-pair.result.0 here);
      each = place_step (Projects g.L.Label.parts (length c.args.shape.now) c.args.qubit c.args.outcome) c.args.store.now c.loop-index.store c.project_pair.new.store
          c.loop-index.invariant.keeps c.project_pair.ensures.keeps
          (drop c.args.depth c.args.shape.now) (drop (c.args.depth + 1) c.args.shape.now) (get_or c.args.shape.now c.args.depth 0) c.args.id c.loop-index.index c.run-pair.result.1
          c.loop-index.pairs c.push.new.self c.run-pair.result.0 c.in_ok-made.made split c.requires.shape
          c.run-pair.ensures.run c.loop-index.invariant.count c.loop-index.invariant.each c.in_ok-made.ensures.image c.in-Ok.ensures;
    }

pub project_at-node_of-requires-clause-some : goal.project_at-node_of-requires-clause-some
project_at-node_of-requires-clause-some g t c =
    let lt : c.args.depth < length c.args.shape.now = omega (arith, c.requires.deep, c.requires.qubit) in
    let split = split_shape c.args.shape.now c.args.depth lt in
    let o = opened c.args.store.now (get_or c.args.shape.now c.args.depth 0) (drop (c.args.depth + 1) c.args.shape.now) c.args.id (subst
    (λ u. HasShape c.args.store.now u c.args.id) split c.requires.shape) in
    let e = before-end (pairs_at c.args.store.now c.args.id) c.loop-index.index (omega (arith, c.loop-index-test.false)) in
    omega (arith, c.loop-index.invariant.count, o.1, o.2)

pub project_at-node_of-requires-clause-heights : goal.project_at-node_of-requires-clause-heights
project_at-node_of-requires-clause-heights g t c =
    means_heights (of_place (Projects g.L.Label.parts (length c.args.shape.now) c.args.qubit c.args.outcome) c.args.store.now c.args.id) c.loop-index.store (drop
    (c.args.depth + 1) c.args.shape.now) c.loop-index.pairs c.loop-index.invariant.each

pub project_at-returns-clause-image : goal.project_at-returns-clause-image
project_at-returns-clause-image g t c =
    let lt : c.args.depth < length c.args.shape.now = omega (arith, c.requires.deep, c.requires.qubit) in
    let split = split_shape c.args.shape.now c.args.depth lt in
    place_done (Projects g.L.Label.parts (length c.args.shape.now) c.args.qubit c.args.outcome) (projects-nothing g.L.Label.parts
    (length c.args.shape.now) c.args.qubit c.args.outcome) c.args.store.now c.loop-index.store c.node_of.new.self c.loop-index.invariant.keeps c.node_of.ensures.keeps
    (drop c.args.depth c.args.shape.now) (drop (c.args.depth + 1) c.args.shape.now) (get_or c.args.shape.now c.args.depth 0) c.args.id c.in_ok-made-2.made c.loop-index.index
    c.loop-index.pairs split c.requires.shape c.loop-index.invariant.count (omega (arith, c.loop-index-test.false)) c.loop-index.invariant.each c.in_ok-made-2.ensures.adds.here

pub project_at-returns-clause-memo : goal.project_at-returns-clause-memo
project_at-returns-clause-memo g t c =
    let lt : c.args.depth < length c.args.shape.now = omega (arith, c.requires.deep, c.requires.qubit) in
    let split = split_shape c.args.shape.now c.args.depth lt in
    let image = place_done (Projects g.L.Label.parts (length c.args.shape.now) c.args.qubit c.args.outcome) (projects-nothing g.L.Label.parts
    (length c.args.shape.now) c.args.qubit c.args.outcome) c.args.store.now c.loop-index.store c.node_of.new.self c.loop-index.invariant.keeps c.node_of.ensures.keeps
    (drop c.args.depth c.args.shape.now) (drop (c.args.depth + 1) c.args.shape.now) (get_or c.args.shape.now c.args.depth 0) c.args.id c.in_ok-made-2.made c.loop-index.index
    c.loop-index.pairs split c.requires.shape c.loop-index.invariant.count (omega (arith, c.loop-index-test.false)) c.loop-index.invariant.each
    c.in_ok-made-2.ensures.adds.here in
    IsMemo-put g.L.Label.parts c.args.outcome c.args.shape.now c.args.qubit c.args.store.now c.node_of.new.self
    (Extends-trans _ _ _ c.loop-index.invariant.keeps c.node_of.ensures.keeps) (memo_at c.loop-index.memo)
    (memo_at c.put.new.self) c.args.depth c.args.id c.in_ok-made-2.made c.requires.shape
    (IsMemo-Extends g.L.Label.parts c.args.outcome c.args.shape.now c.args.qubit c.loop-index.store c.node_of.new.self c.node_of.ensures.keeps
    (memo_at c.loop-index.memo) c.loop-index.invariant.memo) image c.in_ok-put.ensures.ok

pub project_at-returns-in_err-made-2-clause-cheap : goal.project_at-returns-in_err-made-2-clause-cheap
project_at-returns-in_err-made-2-clause-cheap g t c = λ levels h.
    let closed = h.closed in
    let at = h.here in
    let lt : c.args.depth < length c.args.shape.now = omega (arith, c.requires.deep, c.requires.qubit) in
    let split = split_shape c.args.shape.now c.args.depth lt in
    let o = opened c.args.store.now (get_or c.args.shape.now c.args.depth 0) (drop (c.args.depth + 1) c.args.shape.now) c.args.id (subst
    (λ u. HasShape c.args.store.now u c.args.id) split c.requires.shape) in
    let e = before-end (pairs_at c.args.store.now c.args.id) c.loop-index.index (omega (arith, c.loop-index-test.false)) in
    let b = c.loop-index.invariant.cost levels h in
    paid_failed (drop c.args.depth c.args.shape.now) (drop (c.args.depth + 1) c.args.shape.now) (get_or c.args.shape.now c.args.depth 0) split (is_done
    (memo_at c.args.memo.now)) levels c.args.id c.args.steps.now.taken c.node_of.new.steps.taken at (ap is_some (sym c.in_default.ensures)) (omega
    (arith, c.node_of.ensures.cheap, c.loop-index.invariant.count, o.1))

pub project_at-returns-in_err-put-clause-cheap : goal.project_at-returns-in_err-put-clause-cheap
project_at-returns-in_err-put-clause-cheap g t c = λ levels h.
    let closed = h.closed in
    let at = h.here in
    let lt : c.args.depth < length c.args.shape.now = omega (arith, c.requires.deep, c.requires.qubit) in
    let split = split_shape c.args.shape.now c.args.depth lt in
    let o = opened c.args.store.now (get_or c.args.shape.now c.args.depth 0) (drop (c.args.depth + 1) c.args.shape.now) c.args.id (subst
    (λ u. HasShape c.args.store.now u c.args.id) split c.requires.shape) in
    let e = before-end (pairs_at c.args.store.now c.args.id) c.loop-index.index (omega (arith, c.loop-index-test.false)) in
    let b = c.loop-index.invariant.cost levels h in
    paid_failed (drop c.args.depth c.args.shape.now) (drop (c.args.depth + 1) c.args.shape.now) (get_or c.args.shape.now c.args.depth 0) split (is_done
    (memo_at c.args.memo.now)) levels c.args.id c.args.steps.now.taken c.put.new.steps.taken at (ap is_some (sym c.in_default.ensures)) (omega
    (arith, c.node_of.ensures.cheap, c.put.ensures.cheap, c.loop-index.invariant.count, o.1))

pub project_at-returns-clause-cheap : goal.project_at-returns-clause-cheap
project_at-returns-clause-cheap g t c = λ levels h.
    let closed = h.closed in
    let at = h.here in
    let lt : c.args.depth < length c.args.shape.now = omega (arith, c.requires.deep, c.requires.qubit) in
    let split = split_shape c.args.shape.now c.args.depth lt in
    let o = opened c.args.store.now (get_or c.args.shape.now c.args.depth 0) (drop (c.args.depth + 1) c.args.shape.now) c.args.id (subst
    (λ u. HasShape c.args.store.now u c.args.id) split c.requires.shape) in
    let e = before-end (pairs_at c.args.store.now c.args.id) c.loop-index.index (omega (arith, c.loop-index-test.false)) in
    let b = c.loop-index.invariant.cost levels h in
    paid_failed (drop c.args.depth c.args.shape.now) (drop (c.args.depth + 1) c.args.shape.now) (get_or c.args.shape.now c.args.depth 0) split (is_done
    (memo_at c.args.memo.now)) levels c.args.id c.args.steps.now.taken c.put.new.steps.taken at (ap is_some (sym c.in_default.ensures)) (omega
    (arith, c.node_of.ensures.cheap, c.put.ensures.cheap, c.loop-index.invariant.count, o.1))

pub project_at-returns-clause-steps : goal.project_at-returns-clause-steps
project_at-returns-clause-steps g t c = λ levels h.
    let closed = h.closed in
    let at = h.here in
    let lt : c.args.depth < length c.args.shape.now = omega (arith, c.requires.deep, c.requires.qubit) in
    let split = split_shape c.args.shape.now c.args.depth lt in
    let o = opened c.args.store.now (get_or c.args.shape.now c.args.depth 0) (drop (c.args.depth + 1) c.args.shape.now) c.args.id (subst
    (λ u. HasShape c.args.store.now u c.args.id) split c.requires.shape) in
    let e = before-end (pairs_at c.args.store.now c.args.id) c.loop-index.index (omega (arith, c.loop-index-test.false)) in
    let b = c.loop-index.invariant.cost levels h in
    let here = c.in_ok-put.ensures.ok c.args.id in
    paid_done (drop c.args.depth c.args.shape.now) (drop (c.args.depth + 1) c.args.shape.now) (get_or c.args.shape.now c.args.depth 0) split (is_done (memo_at c.args.memo.now))
    (is_done (memo_at c.loop-index.memo)) (is_done (memo_at c.put.new.self)) c.loop-index.invariant.done c.put.ensures.done levels c.args.id c.args.steps.now.taken
    c.loop-index.steps.taken c.put.new.steps.taken
    at (ap is_some (sym c.in_default.ensures)) (just_put c.args.id c.in_ok-made-2.made (memo_at c.loop-index.memo) (memo_at c.put.new.self) c.in_ok-put.ensures.ok) b (omega
    (arith, c.node_of.ensures.cheap, c.put.ensures.cheap, c.loop-index.invariant.count, o.1))

pub project_pair-returns-then-depth-qubit-clause-image : goal.project_pair-returns-then-depth-qubit-clause-image
project_pair-returns-then-depth-qubit-clause-image g t c =
    cut_here g.L.Label.parts c.args.store.now c.args.shape.now c.args.outcome c.args.depth c.args.qubit c.args.zero c.args.pair c.if-outcome.result c.if-depth-qubit.true
    c.requires.qubit c.requires.left c.requires.right c.requires.zero
    (elim c.if-outcome.branch [
      | project_pair-then-outcome w ↦ w.result-is ∙ sym (ap (λ b. cond b (c.args.zero, c.args.pair.1) (c.args.pair.0, c.args.zero)) w.if-outcome.true)
      | project_pair-else-outcome w ↦ w.result-is ∙ sym (ap (λ b. cond b (c.args.zero, c.args.pair.1) (c.args.pair.0, c.args.zero)) w.if-outcome.false)
    ])

pub project_pair-project_at-requires-2 : goal.project_pair-project_at-requires-2
project_pair-project_at-requires-2 g t c κs within =
    let right = HasShape-Extends c.args.store.now c.project_at.new.store c.project_at.ensures.keeps (drop (c.args.depth + 1) c.args.shape.now) c.args.pair.1 c.requires.right in
    let zero = Means-Extends (λ word v. Blank g.L.Label.parts v) c.args.store.now c.project_at.new.store c.project_at.ensures.keeps (drop
    (c.args.qubit + 1) c.args.shape.now) c.args.zero c.requires.zero in
    search rules

pub project_pair-returns-clause-image : goal.project_pair-returns-clause-image
project_pair-returns-clause-image g t c =
    cut_below g.L.Label.parts c.args.store.now c.project_at.new.store c.project_at-2.new.store c.project_at.ensures.keeps c.project_at-2.ensures.keeps c.args.shape.now
    c.args.outcome c.args.depth c.args.qubit c.args.pair (c.in_ok-first.first, c.in_ok-second.second)
    c.requires.deep c.if-depth-qubit.false c.requires.qubit c.requires.left c.requires.right c.in_ok-first.ensures.image c.in_ok-second.ensures.image

pub project_pair-returns-in_err-second-clause-cheap : goal.project_pair-returns-in_err-second-clause-cheap
project_pair-returns-in_err-second-clause-cheap g t c = λ levels h.
    let closed = h.closed in
    let left = h.left in
    let right = h.right in
    let a = c.in_ok-first.ensures.steps levels (record { closed = closed; here = left }) in
    let b = c.project_at-2.ensures.cheap levels (record {
      closed = AreLevels-Extends c.args.store.now c.project_at.new.store c.project_at.ensures.keeps (drop
          (c.args.depth + 1) c.args.shape.now) levels closed;
      here = right;
    }) in
    omega arith

pub project_pair-returns-clause-steps : goal.project_pair-returns-clause-steps
project_pair-returns-clause-steps g t c = λ levels h.
    let closed = h.closed in
    let left = h.left in
    let right = h.right in
    let a = c.in_ok-first.ensures.steps levels (record { closed = closed; here = left }) in
    let b = c.in_ok-second.ensures.steps levels (record {
      closed = AreLevels-Extends c.args.store.now c.project_at.new.store c.project_at.ensures.keeps (drop
          (c.args.depth + 1) c.args.shape.now) levels closed;
      here = right;
    }) in
    omega arith

pub project_pair-returns-clause-cheap : goal.project_pair-returns-clause-cheap
project_pair-returns-clause-cheap g t c = λ levels h.
    let closed = h.closed in
    let left = h.left in
    let right = h.right in
    let a = c.in_ok-first.ensures.steps levels (record { closed = closed; here = left }) in
    let b = c.in_ok-second.ensures.steps levels (record {
      closed = AreLevels-Extends c.args.store.now c.project_at.new.store c.project_at.ensures.keeps (drop
          (c.args.depth + 1) c.args.shape.now) levels closed;
      here = right;
    }) in
    omega arith

pub project_at-returns-in_err-made-clause-refused : goal.project_at-returns-in_err-made-clause-refused
project_at-returns-in_err-made-clause-refused g t c =
    let lt : c.args.depth < length c.args.shape.now = omega (arith, c.requires.deep, c.requires.qubit) in
    let split = split_shape c.args.shape.now c.args.depth lt in
    let o = opened c.args.store.now (get_or c.args.shape.now c.args.depth 0) (drop (c.args.depth + 1) c.args.shape.now) c.args.id (subst
    (λ u. HasShape c.args.store.now u c.args.id) split c.requires.shape) in
    passed_on _ c.from_residual.result c.in_err-made.field-0.0 c.from_residual.ensures
    (λ levels h.
    let l = pair_levels c.args.store.now c.loop-index.store c.loop-index.invariant.keeps (drop c.args.depth c.args.shape.now) (drop (c.args.depth + 1) c.args.shape.now)
    (get_or c.args.shape.now c.args.depth 0) split c.args.id c.loop-index.index c.run-pair.result.1 c.run-pair.result.0 levels c.requires.shape h.closed h.here
    c.run-pair.ensures.run c.run-pair.ensures.some in
    let b = c.loop-index.invariant.cost levels h in
    let rest = owed (prices_of (drop (c.args.depth + 1) c.args.shape.now)) (is_done (memo_at c.loop-index.memo)) (rest_of levels) in
    GivesUp-within c.args.steps.now c.loop-index.steps c.project_pair.new.steps rest (owed (prices_of (drop c.args.depth c.args.shape.now)) (is_done
    (memo_at c.args.memo.now)) levels) _ c.loop-index.invariant.limit
    (failed_within (drop c.args.depth c.args.shape.now) (drop (c.args.depth + 1) c.args.shape.now) (get_or c.args.shape.now c.args.depth 0) split (is_done
    (memo_at c.args.memo.now)) levels c.args.id c.args.steps.now.taken (c.loop-index.steps.taken + rest) h.here (ap is_some (sym c.in_default.ensures)) b)
    (c.in_err-made.ensures.refused (rest_of levels) (record { closed = l.0; left = l.1; right = l.2 })))

pub project_at-returns-in_err-made-2-clause-refused : goal.project_at-returns-in_err-made-2-clause-refused
project_at-returns-in_err-made-2-clause-refused g t c =
    let lt : c.args.depth < length c.args.shape.now = omega (arith, c.requires.deep, c.requires.qubit) in
    let split = split_shape c.args.shape.now c.args.depth lt in
    let o = opened c.args.store.now (get_or c.args.shape.now c.args.depth 0) (drop (c.args.depth + 1) c.args.shape.now) c.args.id (subst
    (λ u. HasShape c.args.store.now u c.args.id) split c.requires.shape) in
    let e = before-end (pairs_at c.args.store.now c.args.id) c.loop-index.index (omega (arith, c.loop-index-test.false)) in
    passed_on _ c.from_residual-in_err-made-2.result c.in_err-made-2.field-0.0 c.from_residual-in_err-made-2.ensures
    (λ levels h.
    let b = c.loop-index.invariant.cost levels h in
    GivesUp-within c.args.steps.now c.loop-index.steps c.node_of.new.steps (length c.loop-index.pairs) (owed (prices_of (drop c.args.depth c.args.shape.now)) (is_done
    (memo_at c.args.memo.now)) levels) _ c.loop-index.invariant.limit
    (paid_failed (drop c.args.depth c.args.shape.now) (drop (c.args.depth + 1) c.args.shape.now) (get_or c.args.shape.now c.args.depth 0) split (is_done
    (memo_at c.args.memo.now)) levels c.args.id c.args.steps.now.taken (c.loop-index.steps.taken + length c.loop-index.pairs) h.here (ap is_some (sym c.in_default.ensures))
    (omega (arith, b, c.loop-index.invariant.count, o.1)))
    (refused_gives_up _ _ _ _ _ _ c.in_err-made-2.ensures.adds))

pub project_at-returns-in_err-put-clause-refused : goal.project_at-returns-in_err-put-clause-refused
project_at-returns-in_err-put-clause-refused g t c =
    let lt : c.args.depth < length c.args.shape.now = omega (arith, c.requires.deep, c.requires.qubit) in
    let split = split_shape c.args.shape.now c.args.depth lt in
    let o = opened c.args.store.now (get_or c.args.shape.now c.args.depth 0) (drop (c.args.depth + 1) c.args.shape.now) c.args.id (subst
    (λ u. HasShape c.args.store.now u c.args.id) split c.requires.shape) in
    let e = before-end (pairs_at c.args.store.now c.args.id) c.loop-index.index (omega (arith, c.loop-index-test.false)) in
    passed_on _ c.from_residual-in_err-put.result c.in_err-put.field-0.0 c.from_residual-in_err-put.ensures
    (λ levels h.
    let b = c.loop-index.invariant.cost levels h in
    GivesUp-within c.args.steps.now c.node_of.new.steps c.put.new.steps 1 (owed (prices_of (drop c.args.depth c.args.shape.now)) (is_done (memo_at c.args.memo.now)) levels) _
    (adds_limit _ _ _ _ _ _ c.node_of.ensures.adds ∙ c.loop-index.invariant.limit)
    (paid_failed (drop c.args.depth c.args.shape.now) (drop (c.args.depth + 1) c.args.shape.now) (get_or c.args.shape.now c.args.depth 0) split (is_done
    (memo_at c.args.memo.now)) levels c.args.id c.args.steps.now.taken (c.node_of.new.steps.taken + 1) h.here (ap is_some (sym c.in_default.ensures)) (omega
    (arith, b, c.node_of.ensures.cheap, c.loop-index.invariant.count, o.1)))
    c.in_err-put.ensures.refused)

pub project_pair-returns-in_err-second-clause-refused : goal.project_pair-returns-in_err-second-clause-refused
project_pair-returns-in_err-second-clause-refused g t c =
    let below = drop (c.args.depth + 1) c.args.shape.now in
    passed_on _ c.from_residual-in_err-second.result c.in_err-second.field-0.0 c.from_residual-in_err-second.ensures
    (λ levels h.
    GivesUp-within c.args.steps.now c.project_at.new.steps c.project_at-2.new.steps (owed (prices_of below) (is_done (memo_at c.project_at.new.memo)) levels) (owed
    (prices_of below) (is_done (memo_at c.args.memo.now)) levels) _
    c.project_at.ensures.limit (c.in_ok-first.ensures.steps levels (record { closed = h.closed; here = h.left }))
    (c.in_err-second.ensures.refused levels (record { closed = AreLevels-Extends c.args.store.now c.project_at.new.store c.project_at.ensures.keeps below levels h.closed; here = h.right })))
