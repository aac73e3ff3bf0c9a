use Rattle.std.proofs.Common.{◌*◌, lit≤, rules, arith, refl, sym, ap, ◌∙◌, cond, ◌≡◌, ℕ, ◌+◌, ◌-◌, ◌<◌, ◌≤◌, List, length, drop, get_or, nat_eq, IfOk}
use Rattle.std.proofs.Common.{OnOk, ◌++◌, [], ◌∷◌, false, true, Some, slice_get, subst, ap₂, is_some}
use Rattle.std.proofs.lemmas.List.{length-append}
use Rattle.std.proofs.lemmas.Option.{slice_get_within}
use Rattle.aq_store.specs.Nodes.{Extends, HasShape, HasHeight, EachPair, total_cost, pairs_at, runs_at}
use Rattle.aq_store.specs.Runs.{copies, run_of, compress}
use Rattle.aq_store.specs.Means.{Means, MeansPair, MeanPairs}
use Rattle.aq_store.specs.Memos.{memo_at, is_done}
use Rattle.aq_store.specs.Owed.{rest_of, owed, prices_of}
use Rattle.aq_store.specs.Accounts.{HoldPlace, HoldPair, HoldPairs}
use Rattle.aq_store.proofs.TableLemmas.{HasShape-Extends, Extends-trans, Extends-refl}
use Rattle.aq_store.proofs.RunLemmas.{before, run_choice, length-copies, run_within}
use Rattle.aq_store.proofs.MeansLemmas.{means_heights, pairs_at-kept, opened}
use Rattle.aq_store.proofs.OwedLemmas.{split_shape, paid_done, paid_failed, failed_within, AreLevels-Extends}
use Rattle.aq_store.proofs.StopLemmas.{adds_limit, GivesUp-within, refused_gives_up, passed_on}
use Rattle.aq_measure_ops.specs.Padding.{Padded, PaddedPair, Appends, IsPadMemo}
use Rattle.aq_measure_ops.proofs.HoldLemmas.{pairs_held, run_held, HoldPair-Extends}
use Rattle.aq_measure_ops.proofs.ProjectionLemmas.{just_put}
use Rattle.aq_measure_ops.proofs.PaddingLemmas.{wider-length, wider-at, padded_same, padded_found, padded_node, padded_both, made_none, made_step}
use Rattle.aq_measure_ops.proofs.PaddingLemmas.{made_all, lengthened_most, IsPadMemo-Extends, IsPadMemo-put}
use Rattle.aq_measure_ops.proofs.padding.+pad.Goals as goal

pub pad_at-returns-then-depth-same-clause-image : goal.pad_at-returns-then-depth-same-clause-image
pad_at-returns-then-depth-same-clause-image g t c =
    padded_same c.args.store.now (drop c.args.depth c.args.from.now) (drop c.args.depth c.args.to.now) c.args.id (c.requires.same c.args.depth c.if-depth-same.true) c.requires.shape

pub pad_at-returns-in-Some-clause-image : goal.pad_at-returns-in-Some-clause-image
pad_at-returns-in-Some-clause-image g t c =
    padded_found c.args.store.now c.args.to.now (memo_at c.args.memo.now) c.args.from.now c.args.depth c.args.id c.in-Some.made c.requires.memo
    (wider-length c.args.from.now c.args.to.now c.requires.wider) c.requires.deep c.requires.shape (sym c.in-Some.ensures)

pub pad_at-bounds-to-depth : goal.pad_at-bounds-to-depth
pad_at-bounds-to-depth g t c =
    omega (arith, c.if-depth-same.false, c.requires.within, wider-length c.args.from.now c.args.to.now c.requires.wider)

pub pad_at-overflow_sub-more : goal.pad_at-overflow_sub-more
pad_at-overflow_sub-more g t c =
    wider-at c.args.from.now c.args.to.now c.args.depth c.requires.wider

pub pad_at-returns-in_err-pad_runs-clause-cheap : goal.pad_at-returns-in_err-pad_runs-clause-cheap
pad_at-returns-in_err-pad_runs-clause-cheap g t c =
    λ levels h.
    let lt : c.args.depth < length c.args.from.now = omega (arith, c.if-depth-same.false, c.requires.within) in
    let same = wider-length c.args.from.now c.args.to.now c.requires.wider in
    let split = split_shape c.args.from.now c.args.depth lt in
    let split_to = split_shape c.args.to.now c.args.depth (omega (arith, lt, same)) in
    let more = wider-at c.args.from.now c.args.to.now c.args.depth c.requires.wider in
    let o = opened c.args.store.now (get_or c.args.from.now c.args.depth 0) (drop (c.args.depth + 1) c.args.from.now) c.args.id (subst
    (λ u. HasShape c.args.store.now u c.args.id) split c.requires.shape) in
    failed_within (drop c.args.depth c.args.to.now) (drop (c.args.depth + 1) c.args.to.now) (get_or c.args.to.now c.args.depth 0) split_to (is_done
    (memo_at c.args.memo.now)) levels c.args.id c.args.steps.now.taken c.pad_runs.new.steps.taken h.here (ap is_some (sym c.in_default.ensures)) (c.pad_runs.ensures.cheap
    (rest_of levels) (pairs_held c.args.store.now (drop c.args.depth c.args.from.now) (drop (c.args.depth + 1) c.args.from.now)
    (get_or c.args.from.now c.args.depth 0) c.args.id levels split h))

pub pad_at-returns-in_err-pad_runs-clause-refused : goal.pad_at-returns-in_err-pad_runs-clause-refused
pad_at-returns-in_err-pad_runs-clause-refused g t c =
    let lt : c.args.depth < length c.args.from.now = omega (arith, c.if-depth-same.false, c.requires.within) in
    let same = wider-length c.args.from.now c.args.to.now c.requires.wider in
    let split = split_shape c.args.from.now c.args.depth lt in
    let split_to = split_shape c.args.to.now c.args.depth (omega (arith, lt, same)) in
    let more = wider-at c.args.from.now c.args.to.now c.args.depth c.requires.wider in
    let o = opened c.args.store.now (get_or c.args.from.now c.args.depth 0) (drop (c.args.depth + 1) c.args.from.now) c.args.id (subst
    (λ u. HasShape c.args.store.now u c.args.id) split c.requires.shape) in
    passed_on _ c.from_residual.result c.in_err-pad_runs.field-0.0 c.from_residual.ensures
    (λ levels h.
    let rest = owed (prices_of (drop (c.args.depth + 1) c.args.to.now)) (is_done (memo_at c.args.memo.now)) (rest_of levels) in
    GivesUp-within c.args.steps.now c.args.steps.now c.pad_runs.new.steps rest (owed (prices_of (drop c.args.depth c.args.to.now)) (is_done (memo_at c.args.memo.now)) levels) _ refl
    (failed_within (drop c.args.depth c.args.to.now) (drop (c.args.depth + 1) c.args.to.now) (get_or c.args.to.now c.args.depth 0) split_to (is_done
    (memo_at c.args.memo.now)) levels c.args.id c.args.steps.now.taken (c.args.steps.now.taken + rest) h.here (ap is_some (sym c.in_default.ensures)) (omega arith))
    (c.in_err-pad_runs.ensures.refused (rest_of levels) (pairs_held c.args.store.now (drop c.args.depth c.args.from.now) (drop (c.args.depth + 1) c.args.from.now)
    (get_or c.args.from.now c.args.depth 0) c.args.id levels split h)))

pub pad_at-node_of-requires-clause-some : goal.pad_at-node_of-requires-clause-some
pad_at-node_of-requires-clause-some g t c =
    let lt : c.args.depth < length c.args.from.now = omega (arith, c.if-depth-same.false, c.requires.within) in
    let same = wider-length c.args.from.now c.args.to.now c.requires.wider in
    let split = split_shape c.args.from.now c.args.depth lt in
    let split_to = split_shape c.args.to.now c.args.depth (omega (arith, lt, same)) in
    let more = wider-at c.args.from.now c.args.to.now c.args.depth c.requires.wider in
    let o = opened c.args.store.now (get_or c.args.from.now c.args.depth 0) (drop (c.args.depth + 1) c.args.from.now) c.args.id (subst
    (λ u. HasShape c.args.store.now u c.args.id) split c.requires.shape) in
    let made = subst (λ l. Appends (Padded c.args.store.now (drop c.args.depth c.args.from.now) ((get_or c.args.from.now c.args.depth 0 +
    (get_or c.args.to.now c.args.depth 0 - get_or c.args.from.now c.args.depth 0)) ∷ drop (c.args.depth + 1) c.args.to.now) c.args.id) c.pad_runs.new.store (drop
    (c.args.depth + 1) c.args.to.now) (get_or c.args.from.now c.args.depth 0 + (get_or c.args.to.now c.args.depth 0 - get_or c.args.from.now c.args.depth 0)) l
    c.pad_runs.new.pairs) c.new-pairs.ensures c.in_ok-pad_runs.ensures.pairs in
    omega (arith, ap length made.is, made.long, o.2)

pub pad_at-node_of-requires-clause-heights : goal.pad_at-node_of-requires-clause-heights
pad_at-node_of-requires-clause-heights g t c =
    let lt : c.args.depth < length c.args.from.now = omega (arith, c.if-depth-same.false, c.requires.within) in
    let same = wider-length c.args.from.now c.args.to.now c.requires.wider in
    let split = split_shape c.args.from.now c.args.depth lt in
    let split_to = split_shape c.args.to.now c.args.depth (omega (arith, lt, same)) in
    let more = wider-at c.args.from.now c.args.to.now c.args.depth c.requires.wider in
    let o = opened c.args.store.now (get_or c.args.from.now c.args.depth 0) (drop (c.args.depth + 1) c.args.from.now) c.args.id (subst
    (λ u. HasShape c.args.store.now u c.args.id) split c.requires.shape) in
    let made = subst (λ l. Appends (Padded c.args.store.now (drop c.args.depth c.args.from.now) ((get_or c.args.from.now c.args.depth 0 +
    (get_or c.args.to.now c.args.depth 0 - get_or c.args.from.now c.args.depth 0)) ∷ drop (c.args.depth + 1) c.args.to.now) c.args.id) c.pad_runs.new.store (drop
    (c.args.depth + 1) c.args.to.now) (get_or c.args.from.now c.args.depth 0 + (get_or c.args.to.now c.args.depth 0 - get_or c.args.from.now c.args.depth 0)) l
    c.pad_runs.new.pairs) c.new-pairs.ensures c.in_ok-pad_runs.ensures.pairs in
    subst (λ l. (h : ℕ) × EachPair (HasHeight c.pad_runs.new.store h) l) (sym made.is) (means_heights (Padded c.args.store.now (drop c.args.depth c.args.from.now)
    ((get_or c.args.from.now c.args.depth 0 + (get_or c.args.to.now c.args.depth 0 - get_or c.args.from.now c.args.depth 0)) ∷ drop
    (c.args.depth + 1) c.args.to.now) c.args.id) c.pad_runs.new.store (drop (c.args.depth + 1) c.args.to.now) made.added made.mean)

pub pad_at-returns-in_err-made-clause-cheap : goal.pad_at-returns-in_err-made-clause-cheap
pad_at-returns-in_err-made-clause-cheap g t c =
    λ levels h.
    let lt : c.args.depth < length c.args.from.now = omega (arith, c.if-depth-same.false, c.requires.within) in
    let same = wider-length c.args.from.now c.args.to.now c.requires.wider in
    let split = split_shape c.args.from.now c.args.depth lt in
    let split_to = split_shape c.args.to.now c.args.depth (omega (arith, lt, same)) in
    let more = wider-at c.args.from.now c.args.to.now c.args.depth c.requires.wider in
    let o = opened c.args.store.now (get_or c.args.from.now c.args.depth 0) (drop (c.args.depth + 1) c.args.from.now) c.args.id (subst
    (λ u. HasShape c.args.store.now u c.args.id) split c.requires.shape) in
    let made = subst (λ l. Appends (Padded c.args.store.now (drop c.args.depth c.args.from.now) ((get_or c.args.from.now c.args.depth 0 +
    (get_or c.args.to.now c.args.depth 0 - get_or c.args.from.now c.args.depth 0)) ∷ drop (c.args.depth + 1) c.args.to.now) c.args.id) c.pad_runs.new.store (drop
    (c.args.depth + 1) c.args.to.now) (get_or c.args.from.now c.args.depth 0 + (get_or c.args.to.now c.args.depth 0 - get_or c.args.from.now c.args.depth 0)) l
    c.pad_runs.new.pairs) c.new-pairs.ensures c.in_ok-pad_runs.ensures.pairs in
    let b = c.in_ok-pad_runs.ensures.steps (rest_of levels) (pairs_held c.args.store.now (drop c.args.depth c.args.from.now) (drop (c.args.depth + 1) c.args.from.now)
    (get_or c.args.from.now c.args.depth 0) c.args.id levels split h) in
    paid_failed (drop c.args.depth c.args.to.now) (drop (c.args.depth + 1) c.args.to.now) (get_or c.args.to.now c.args.depth 0) split_to (is_done
    (memo_at c.args.memo.now)) levels c.args.id c.args.steps.now.taken c.node_of.new.steps.taken h.here (ap is_some (sym c.in_default.ensures)) (omega
    (arith, b, c.node_of.ensures.cheap, ap length made.is, made.long, more))

pub pad_at-returns-in_err-made-clause-refused : goal.pad_at-returns-in_err-made-clause-refused
pad_at-returns-in_err-made-clause-refused g t c =
    let lt : c.args.depth < length c.args.from.now = omega (arith, c.if-depth-same.false, c.requires.within) in
    let same = wider-length c.args.from.now c.args.to.now c.requires.wider in
    let split = split_shape c.args.from.now c.args.depth lt in
    let split_to = split_shape c.args.to.now c.args.depth (omega (arith, lt, same)) in
    let more = wider-at c.args.from.now c.args.to.now c.args.depth c.requires.wider in
    let o = opened c.args.store.now (get_or c.args.from.now c.args.depth 0) (drop (c.args.depth + 1) c.args.from.now) c.args.id (subst
    (λ u. HasShape c.args.store.now u c.args.id) split c.requires.shape) in
    let made = subst (λ l. Appends (Padded c.args.store.now (drop c.args.depth c.args.from.now) ((get_or c.args.from.now c.args.depth 0 +
    (get_or c.args.to.now c.args.depth 0 - get_or c.args.from.now c.args.depth 0)) ∷ drop (c.args.depth + 1) c.args.to.now) c.args.id) c.pad_runs.new.store (drop
    (c.args.depth + 1) c.args.to.now) (get_or c.args.from.now c.args.depth 0 + (get_or c.args.to.now c.args.depth 0 - get_or c.args.from.now c.args.depth 0)) l
    c.pad_runs.new.pairs) c.new-pairs.ensures c.in_ok-pad_runs.ensures.pairs in
    passed_on _ c.from_residual-in_err-made.result c.in_err-made.field-0.0 c.from_residual-in_err-made.ensures
    (λ levels h.
    let b = c.in_ok-pad_runs.ensures.steps (rest_of levels) (pairs_held c.args.store.now (drop c.args.depth c.args.from.now) (drop (c.args.depth + 1) c.args.from.now)
    (get_or c.args.from.now c.args.depth 0) c.args.id levels split h) in
    GivesUp-within c.args.steps.now c.pad_runs.new.steps c.node_of.new.steps (length c.pad_runs.new.pairs) (owed (prices_of (drop c.args.depth c.args.to.now)) (is_done
    (memo_at c.args.memo.now)) levels) _ c.pad_runs.ensures.limit
    (paid_failed (drop c.args.depth c.args.to.now) (drop (c.args.depth + 1) c.args.to.now) (get_or c.args.to.now c.args.depth 0) split_to (is_done
    (memo_at c.args.memo.now)) levels c.args.id c.args.steps.now.taken (c.pad_runs.new.steps.taken + length c.pad_runs.new.pairs) h.here (ap is_some
    (sym c.in_default.ensures)) (omega (arith, b, ap length made.is, made.long, more)))
    (refused_gives_up _ _ _ _ _ _ c.in_err-made.ensures.adds))

pub pad_at-returns-in_err-put-clause-cheap : goal.pad_at-returns-in_err-put-clause-cheap
pad_at-returns-in_err-put-clause-cheap g t c =
    λ levels h.
    let lt : c.args.depth < length c.args.from.now = omega (arith, c.if-depth-same.false, c.requires.within) in
    let same = wider-length c.args.from.now c.args.to.now c.requires.wider in
    let split = split_shape c.args.from.now c.args.depth lt in
    let split_to = split_shape c.args.to.now c.args.depth (omega (arith, lt, same)) in
    let more = wider-at c.args.from.now c.args.to.now c.args.depth c.requires.wider in
    let o = opened c.args.store.now (get_or c.args.from.now c.args.depth 0) (drop (c.args.depth + 1) c.args.from.now) c.args.id (subst
    (λ u. HasShape c.args.store.now u c.args.id) split c.requires.shape) in
    let made = subst (λ l. Appends (Padded c.args.store.now (drop c.args.depth c.args.from.now) ((get_or c.args.from.now c.args.depth 0 +
    (get_or c.args.to.now c.args.depth 0 - get_or c.args.from.now c.args.depth 0)) ∷ drop (c.args.depth + 1) c.args.to.now) c.args.id) c.pad_runs.new.store (drop
    (c.args.depth + 1) c.args.to.now) (get_or c.args.from.now c.args.depth 0 + (get_or c.args.to.now c.args.depth 0 - get_or c.args.from.now c.args.depth 0)) l
    c.pad_runs.new.pairs) c.new-pairs.ensures c.in_ok-pad_runs.ensures.pairs in
    let b = c.in_ok-pad_runs.ensures.steps (rest_of levels) (pairs_held c.args.store.now (drop c.args.depth c.args.from.now) (drop (c.args.depth + 1) c.args.from.now)
    (get_or c.args.from.now c.args.depth 0) c.args.id levels split h) in
    paid_failed (drop c.args.depth c.args.to.now) (drop (c.args.depth + 1) c.args.to.now) (get_or c.args.to.now c.args.depth 0) split_to (is_done
    (memo_at c.args.memo.now)) levels c.args.id c.args.steps.now.taken c.put.new.steps.taken h.here (ap is_some (sym c.in_default.ensures)) (omega
    (arith, b, c.node_of.ensures.cheap, c.put.ensures.cheap, ap length made.is, made.long, more))

pub pad_at-returns-in_err-put-clause-refused : goal.pad_at-returns-in_err-put-clause-refused
pad_at-returns-in_err-put-clause-refused g t c =
    let lt : c.args.depth < length c.args.from.now = omega (arith, c.if-depth-same.false, c.requires.within) in
    let same = wider-length c.args.from.now c.args.to.now c.requires.wider in
    let split = split_shape c.args.from.now c.args.depth lt in
    let split_to = split_shape c.args.to.now c.args.depth (omega (arith, lt, same)) in
    let more = wider-at c.args.from.now c.args.to.now c.args.depth c.requires.wider in
    let o = opened c.args.store.now (get_or c.args.from.now c.args.depth 0) (drop (c.args.depth + 1) c.args.from.now) c.args.id (subst
    (λ u. HasShape c.args.store.now u c.args.id) split c.requires.shape) in
    let made = subst (λ l. Appends (Padded c.args.store.now (drop c.args.depth c.args.from.now) ((get_or c.args.from.now c.args.depth 0 +
    (get_or c.args.to.now c.args.depth 0 - get_or c.args.from.now c.args.depth 0)) ∷ drop (c.args.depth + 1) c.args.to.now) c.args.id) c.pad_runs.new.store (drop
    (c.args.depth + 1) c.args.to.now) (get_or c.args.from.now c.args.depth 0 + (get_or c.args.to.now c.args.depth 0 - get_or c.args.from.now c.args.depth 0)) l
    c.pad_runs.new.pairs) c.new-pairs.ensures c.in_ok-pad_runs.ensures.pairs in
    passed_on _ c.from_residual-in_err-put.result c.in_err-put.field-0.0 c.from_residual-in_err-put.ensures
    (λ levels h.
    let b = c.in_ok-pad_runs.ensures.steps (rest_of levels) (pairs_held c.args.store.now (drop c.args.depth c.args.from.now) (drop (c.args.depth + 1) c.args.from.now)
    (get_or c.args.from.now c.args.depth 0) c.args.id levels split h) in
    GivesUp-within c.args.steps.now c.node_of.new.steps c.put.new.steps 1 (owed (prices_of (drop c.args.depth c.args.to.now)) (is_done (memo_at c.args.memo.now)) levels) _
    (adds_limit _ _ _ _ _ _ c.node_of.ensures.adds ∙ c.pad_runs.ensures.limit)
    (paid_failed (drop c.args.depth c.args.to.now) (drop (c.args.depth + 1) c.args.to.now) (get_or c.args.to.now c.args.depth 0) split_to (is_done
    (memo_at c.args.memo.now)) levels c.args.id c.args.steps.now.taken (c.node_of.new.steps.taken + 1) h.here (ap is_some (sym c.in_default.ensures)) (omega
    (arith, b, c.node_of.ensures.cheap, ap length made.is, made.long, more)))
    c.in_err-put.ensures.refused)

pub pad_at-returns-clause-image : goal.pad_at-returns-clause-image
pad_at-returns-clause-image g t c =
    let lt : c.args.depth < length c.args.from.now = omega (arith, c.if-depth-same.false, c.requires.within) in
    let same = wider-length c.args.from.now c.args.to.now c.requires.wider in
    let split = split_shape c.args.from.now c.args.depth lt in
    let split_to = split_shape c.args.to.now c.args.depth (omega (arith, lt, same)) in
    let more = wider-at c.args.from.now c.args.to.now c.args.depth c.requires.wider in
    let o = opened c.args.store.now (get_or c.args.from.now c.args.depth 0) (drop (c.args.depth + 1) c.args.from.now) c.args.id (subst
    (λ u. HasShape c.args.store.now u c.args.id) split c.requires.shape) in
    let made = subst (λ l. Appends (Padded c.args.store.now (drop c.args.depth c.args.from.now) ((get_or c.args.from.now c.args.depth 0 +
    (get_or c.args.to.now c.args.depth 0 - get_or c.args.from.now c.args.depth 0)) ∷ drop (c.args.depth + 1) c.args.to.now) c.args.id) c.pad_runs.new.store (drop
    (c.args.depth + 1) c.args.to.now) (get_or c.args.from.now c.args.depth 0 + (get_or c.args.to.now c.args.depth 0 - get_or c.args.from.now c.args.depth 0)) l
    c.pad_runs.new.pairs) c.new-pairs.ensures c.in_ok-pad_runs.ensures.pairs in
    padded_node c.args.store.now c.pad_runs.new.store c.node_of.new.self c.node_of.ensures.keeps (drop c.args.depth c.args.from.now) (drop c.args.depth c.args.to.now) (drop
    (c.args.depth + 1) c.args.to.now) (get_or c.args.to.now c.args.depth 0) (get_or c.args.from.now c.args.depth 0 +
    (get_or c.args.to.now c.args.depth 0 - get_or c.args.from.now c.args.depth 0)) c.args.id c.in_ok-made.made c.pad_runs.new.pairs split_to (omega (arith, more)) (omega
    (arith, o.2, more))
    made c.in_ok-made.ensures.adds.here

pub pad_at-returns-clause-memo : goal.pad_at-returns-clause-memo
pad_at-returns-clause-memo g t c =
    let lt : c.args.depth < length c.args.from.now = omega (arith, c.if-depth-same.false, c.requires.within) in
    let same = wider-length c.args.from.now c.args.to.now c.requires.wider in
    let split = split_shape c.args.from.now c.args.depth lt in
    let split_to = split_shape c.args.to.now c.args.depth (omega (arith, lt, same)) in
    let more = wider-at c.args.from.now c.args.to.now c.args.depth c.requires.wider in
    let o = opened c.args.store.now (get_or c.args.from.now c.args.depth 0) (drop (c.args.depth + 1) c.args.from.now) c.args.id (subst
    (λ u. HasShape c.args.store.now u c.args.id) split c.requires.shape) in
    let made = subst (λ l. Appends (Padded c.args.store.now (drop c.args.depth c.args.from.now) ((get_or c.args.from.now c.args.depth 0 +
    (get_or c.args.to.now c.args.depth 0 - get_or c.args.from.now c.args.depth 0)) ∷ drop (c.args.depth + 1) c.args.to.now) c.args.id) c.pad_runs.new.store (drop
    (c.args.depth + 1) c.args.to.now) (get_or c.args.from.now c.args.depth 0 + (get_or c.args.to.now c.args.depth 0 - get_or c.args.from.now c.args.depth 0)) l
    c.pad_runs.new.pairs) c.new-pairs.ensures c.in_ok-pad_runs.ensures.pairs in
    let image = padded_node c.args.store.now c.pad_runs.new.store c.node_of.new.self c.node_of.ensures.keeps (drop c.args.depth c.args.from.now) (drop c.args.depth c.args.to.now)
    (drop (c.args.depth + 1) c.args.to.now) (get_or c.args.to.now c.args.depth 0) (get_or c.args.from.now c.args.depth 0 +
    (get_or c.args.to.now c.args.depth 0 - get_or c.args.from.now c.args.depth 0)) c.args.id c.in_ok-made.made c.pad_runs.new.pairs split_to (omega (arith, more)) (omega
    (arith, o.2, more))
    made c.in_ok-made.ensures.adds.here in
    IsPadMemo-put c.args.store.now c.node_of.new.self (Extends-trans _ _ _ c.pad_runs.ensures.keeps c.node_of.ensures.keeps) c.args.to.now (memo_at c.pad_runs.new.memo)
    (memo_at c.put.new.self) c.args.from.now c.args.depth c.args.id c.in_ok-made.made same c.requires.deep c.requires.shape
    (IsPadMemo-Extends c.pad_runs.new.store c.node_of.new.self c.node_of.ensures.keeps c.args.to.now (memo_at c.pad_runs.new.memo) c.in_ok-pad_runs.ensures.memo) image c.in_ok-put.ensures.ok

pub pad_at-returns-clause-cheap : goal.pad_at-returns-clause-cheap
pad_at-returns-clause-cheap g t c =
    λ levels h.
    let lt : c.args.depth < length c.args.from.now = omega (arith, c.if-depth-same.false, c.requires.within) in
    let same = wider-length c.args.from.now c.args.to.now c.requires.wider in
    let split = split_shape c.args.from.now c.args.depth lt in
    let split_to = split_shape c.args.to.now c.args.depth (omega (arith, lt, same)) in
    let more = wider-at c.args.from.now c.args.to.now c.args.depth c.requires.wider in
    let o = opened c.args.store.now (get_or c.args.from.now c.args.depth 0) (drop (c.args.depth + 1) c.args.from.now) c.args.id (subst
    (λ u. HasShape c.args.store.now u c.args.id) split c.requires.shape) in
    let made = subst (λ l. Appends (Padded c.args.store.now (drop c.args.depth c.args.from.now) ((get_or c.args.from.now c.args.depth 0 +
    (get_or c.args.to.now c.args.depth 0 - get_or c.args.from.now c.args.depth 0)) ∷ drop (c.args.depth + 1) c.args.to.now) c.args.id) c.pad_runs.new.store (drop
    (c.args.depth + 1) c.args.to.now) (get_or c.args.from.now c.args.depth 0 + (get_or c.args.to.now c.args.depth 0 - get_or c.args.from.now c.args.depth 0)) l
    c.pad_runs.new.pairs) c.new-pairs.ensures c.in_ok-pad_runs.ensures.pairs in
    let b = c.in_ok-pad_runs.ensures.steps (rest_of levels) (pairs_held c.args.store.now (drop c.args.depth c.args.from.now) (drop (c.args.depth + 1) c.args.from.now)
    (get_or c.args.from.now c.args.depth 0) c.args.id levels split h) in
    paid_failed (drop c.args.depth c.args.to.now) (drop (c.args.depth + 1) c.args.to.now) (get_or c.args.to.now c.args.depth 0) split_to (is_done
    (memo_at c.args.memo.now)) levels c.args.id c.args.steps.now.taken c.put.new.steps.taken h.here (ap is_some (sym c.in_default.ensures)) (omega
    (arith, b, c.node_of.ensures.cheap, c.put.ensures.cheap, ap length made.is, made.long, more))

pub pad_at-returns-clause-steps : goal.pad_at-returns-clause-steps
pad_at-returns-clause-steps g t c =
    λ levels h.
    let lt : c.args.depth < length c.args.from.now = omega (arith, c.if-depth-same.false, c.requires.within) in
    let same = wider-length c.args.from.now c.args.to.now c.requires.wider in
    let split = split_shape c.args.from.now c.args.depth lt in
    let split_to = split_shape c.args.to.now c.args.depth (omega (arith, lt, same)) in
    let more = wider-at c.args.from.now c.args.to.now c.args.depth c.requires.wider in
    let o = opened c.args.store.now (get_or c.args.from.now c.args.depth 0) (drop (c.args.depth + 1) c.args.from.now) c.args.id (subst
    (λ u. HasShape c.args.store.now u c.args.id) split c.requires.shape) in
    let made = subst (λ l. Appends (Padded c.args.store.now (drop c.args.depth c.args.from.now) ((get_or c.args.from.now c.args.depth 0 +
    (get_or c.args.to.now c.args.depth 0 - get_or c.args.from.now c.args.depth 0)) ∷ drop (c.args.depth + 1) c.args.to.now) c.args.id) c.pad_runs.new.store (drop
    (c.args.depth + 1) c.args.to.now) (get_or c.args.from.now c.args.depth 0 + (get_or c.args.to.now c.args.depth 0 - get_or c.args.from.now c.args.depth 0)) l
    c.pad_runs.new.pairs) c.new-pairs.ensures c.in_ok-pad_runs.ensures.pairs in
    let b = c.in_ok-pad_runs.ensures.steps (rest_of levels) (pairs_held c.args.store.now (drop c.args.depth c.args.from.now) (drop (c.args.depth + 1) c.args.from.now)
    (get_or c.args.from.now c.args.depth 0) c.args.id levels split h) in
    paid_done (drop c.args.depth c.args.to.now) (drop (c.args.depth + 1) c.args.to.now) (get_or c.args.to.now c.args.depth 0) split_to (is_done (memo_at c.args.memo.now))
    (is_done (memo_at c.pad_runs.new.memo)) (is_done (memo_at c.put.new.self)) c.pad_runs.ensures.done c.put.ensures.done levels c.args.id c.args.steps.now.taken
    c.pad_runs.new.steps.taken c.put.new.steps.taken
    h.here (ap is_some (sym c.in_default.ensures)) (just_put c.args.id c.in_ok-made.made (memo_at c.pad_runs.new.memo) (memo_at c.put.new.self) c.in_ok-put.ensures.ok) b (omega
    (arith, c.node_of.ensures.cheap, c.put.ensures.cheap, ap length made.is, made.long, more))

pub pad_pair-pad_at-requires-2 : goal.pad_pair-pad_at-requires-2
pad_pair-pad_at-requires-2 g t c κs within =
    let right = HasShape-Extends c.args.store.now c.pad_at.new.store c.pad_at.ensures.keeps (drop c.args.depth c.args.from.now) c.args.pair.1 c.requires.right in
    search rules

pub pad_pair-returns-clause-image : goal.pad_pair-returns-clause-image
pad_pair-returns-clause-image g t c =
    padded_both c.args.store.now c.pad_at.new.store c.pad_at-2.new.store c.pad_at.ensures.keeps c.pad_at-2.ensures.keeps (drop c.args.depth c.args.from.now)
    (drop c.args.depth c.args.to.now) c.args.pair (c.in_ok-first.first, c.in_ok-second.second) c.requires.right c.in_ok-first.ensures.image c.in_ok-second.ensures.image

pub pad_pair-returns-in_err-second-clause-cheap : goal.pad_pair-returns-in_err-second-clause-cheap
pad_pair-returns-in_err-second-clause-cheap g t c =
    λ levels h.
    let a = c.in_ok-first.ensures.steps levels (record { closed = h.closed; here = h.left }) in
    let b = c.pad_at-2.ensures.cheap levels (record {
      closed = AreLevels-Extends c.args.store.now c.pad_at.new.store c.pad_at.ensures.keeps
          (drop c.args.depth c.args.from.now) levels h.closed;
      here = h.right;
    }) in
    omega arith

pub pad_pair-returns-clause-cheap : goal.pad_pair-returns-clause-cheap
pad_pair-returns-clause-cheap g t c =
    λ levels h.
    let a = c.in_ok-first.ensures.steps levels (record { closed = h.closed; here = h.left }) in
    let b = c.in_ok-second.ensures.steps levels (record {
      closed = AreLevels-Extends c.args.store.now c.pad_at.new.store c.pad_at.ensures.keeps
          (drop c.args.depth c.args.from.now) levels h.closed;
      here = h.right;
    }) in
    omega arith

pub pad_pair-returns-clause-steps : goal.pad_pair-returns-clause-steps
pad_pair-returns-clause-steps g t c =
    λ levels h.
    let a = c.in_ok-first.ensures.steps levels (record { closed = h.closed; here = h.left }) in
    let b = c.in_ok-second.ensures.steps levels (record {
      closed = AreLevels-Extends c.args.store.now c.pad_at.new.store c.pad_at.ensures.keeps
          (drop c.args.depth c.args.from.now) levels h.closed;
      here = h.right;
    }) in
    omega arith

pub pad_pair-returns-in_err-second-clause-refused : goal.pad_pair-returns-in_err-second-clause-refused
pad_pair-returns-in_err-second-clause-refused g t c =
    passed_on _ c.from_residual-in_err-second.result c.in_err-second.field-0.0 c.from_residual-in_err-second.ensures
    (λ levels h.
    GivesUp-within c.args.steps.now c.pad_at.new.steps c.pad_at-2.new.steps (owed (prices_of (drop c.args.depth c.args.to.now)) (is_done (memo_at c.pad_at.new.memo)) levels)
    (owed (prices_of (drop c.args.depth c.args.to.now)) (is_done (memo_at c.args.memo.now)) levels) _
    c.pad_at.ensures.limit (c.in_ok-first.ensures.steps levels (record { closed = h.closed; here = h.left })) (c.in_err-second.ensures.refused levels
    (record { closed = AreLevels-Extends c.args.store.now c.pad_at.new.store c.pad_at.ensures.keeps (drop c.args.depth c.args.from.now) levels h.closed; here = h.right })))

pub pad_runs-run_count-runs-requires : goal.pad_runs-run_count-runs-requires
pad_runs-run_count-runs-requires g t c =
    let split = split_shape c.args.from.now c.args.depth c.requires.deep in
    let o = opened c.args.store.now (get_or c.args.from.now c.args.depth 0) (drop (c.args.depth + 1) c.args.from.now) c.args.id (subst
    (λ u. HasShape c.args.store.now u c.args.id) split c.requires.shape) in
    omega (arith, o.1, o.2)

pub pad_runs-loop-index-init : goal.pad_runs-loop-index-init
pad_runs-loop-index-init g t c =
    let split = split_shape c.args.from.now c.args.depth c.requires.deep in
    let o = opened c.args.store.now (get_or c.args.from.now c.args.depth 0) (drop (c.args.depth + 1) c.args.from.now) c.args.id (subst
    (λ u. HasShape c.args.store.now u c.args.id) split c.requires.shape) in
    record {
      keeps = Extends-refl c.args.store.now;
      paid = c.requires.paid;
      limit = refl;
      memo = c.requires.memo;
      done = λ q h. h;
      cost = λ levels h. omega arith;
      made = made_none (Padded c.args.store.now (drop c.args.depth c.args.from.now) ((get_or c.args.from.now c.args.depth 0 + c.args.more) ∷ (drop
          (c.args.depth + 1) c.args.to.now)) c.args.id) c.args.store.now c.args.store.now (drop (c.args.depth + 1) c.args.to.now) c.args.id
          (get_or c.args.from.now c.args.depth 0) c.args.more c.args.pairs.now (omega (arith, o.1, o.2));
    }

pub pad_runs-run-pair-requires : goal.pad_runs-run-pair-requires
pad_runs-run-pair-requires g t c =
    omega (
      arith,
      c.loop-index-test.true,
      c.run_count-runs.ensures,
      ap (λ ps. length (compress ps)) (pairs_at-kept c.args.store.now c.loop-index.store c.loop-index.invariant.keeps
          (drop c.args.depth c.args.from.now) c.args.id c.requires.shape),
    )

pub pad_runs-pad_pair-requires : goal.pad_runs-pad_pair-requires
pad_runs-pad_pair-requires g t c κs within =
    let split = split_shape c.args.from.now c.args.depth c.requires.deep in
    let o = opened c.args.store.now (get_or c.args.from.now c.args.depth 0) (drop (c.args.depth + 1) c.args.from.now) c.args.id (subst
    (λ u. HasShape c.args.store.now u c.args.id) split c.requires.shape) in
    let here : slice_get (runs_at c.args.store.now c.args.id) c.loop-index.index ≡ Some (run_of c.run-pair.result.0 c.run-pair.result.1) = ap (λ ps. slice_get
    (compress ps) c.loop-index.index) (sym (pairs_at-kept c.args.store.now c.loop-index.store c.loop-index.invariant.keeps
    (drop c.args.depth c.args.from.now) c.args.id c.requires.shape)) ∙ c.run-pair.ensures.run in
    let place = before (runs_at c.args.store.now c.args.id) c.loop-index.index in
    let first = run_choice (pairs_at c.args.store.now c.args.id) c.loop-index.index c.run-pair.result.1 (before
    (runs_at c.args.store.now c.args.id) c.loop-index.index) c.run-pair.result.0 here (omega arith) (omega (arith, c.run-pair.ensures.some)) in
    let left = HasShape-Extends c.args.store.now c.loop-index.store c.loop-index.invariant.keeps (drop (c.args.depth + 1) c.args.from.now) c.run-pair.result.0.0
    (o.3.left place c.run-pair.result.0 first) in
    let right = HasShape-Extends c.args.store.now c.loop-index.store c.loop-index.invariant.keeps (drop (c.args.depth + 1) c.args.from.now) c.run-pair.result.0.1
    (o.3.right place c.run-pair.result.0 first) in
    search rules

pub pad_runs-returns-in_err-made-clause-cheap : goal.pad_runs-returns-in_err-made-clause-cheap
pad_runs-returns-in_err-made-clause-cheap g t c =
    λ levels h.
    let a = c.pad_pair.ensures.cheap levels (run_held c.args.store.now c.loop-index.store c.loop-index.invariant.keeps (drop c.args.depth c.args.from.now) (drop
    (c.args.depth + 1) c.args.from.now) c.args.id c.loop-index.index c.run-pair.result.1 c.run-pair.result.0 levels c.requires.shape h c.run-pair.ensures.run
    c.run-pair.ensures.some) in
    let b = c.loop-index.invariant.cost levels h in
    omega arith

pub pad_runs-returns-in_default-clause-cheap : goal.pad_runs-returns-in_default-clause-cheap
pad_runs-returns-in_default-clause-cheap g t c =
    λ levels h.
    let a = c.pad_pair.ensures.cheap levels (run_held c.args.store.now c.loop-index.store c.loop-index.invariant.keeps (drop c.args.depth c.args.from.now) (drop
    (c.args.depth + 1) c.args.from.now) c.args.id c.loop-index.index c.run-pair.result.1 c.run-pair.result.0 levels c.requires.shape h c.run-pair.ensures.run
    c.run-pair.ensures.some) in
    let b = c.loop-index.invariant.cost levels h in
    omega arith

pub pad_runs-returns-in_err-made-clause-refused : goal.pad_runs-returns-in_err-made-clause-refused
pad_runs-returns-in_err-made-clause-refused g t c =
    passed_on _ c.from_residual.result c.in_err-made.field-0.0 c.from_residual.ensures
    (λ levels h.
    GivesUp-within c.args.steps.now c.loop-index.steps c.pad_pair.new.steps (owed (prices_of (drop (c.args.depth + 1) c.args.to.now)) (is_done
    (memo_at c.loop-index.memo)) levels) (owed (prices_of (drop (c.args.depth + 1) c.args.to.now)) (is_done (memo_at c.args.memo.now)) levels) _
    c.loop-index.invariant.limit (c.loop-index.invariant.cost levels h) (c.in_err-made.ensures.refused levels
    (run_held c.args.store.now c.loop-index.store c.loop-index.invariant.keeps (drop c.args.depth c.args.from.now) (drop
    (c.args.depth + 1) c.args.from.now) c.args.id c.loop-index.index c.run-pair.result.1 c.run-pair.result.0 levels c.requires.shape h c.run-pair.ensures.run
    c.run-pair.ensures.some)))

pub pad_runs-lengthened-count-requires : goal.pad_runs-lengthened-count-requires
pad_runs-lengthened-count-requires g t c =
    let split = split_shape c.args.from.now c.args.depth c.requires.deep in
    let o = opened c.args.store.now (get_or c.args.from.now c.args.depth 0) (drop (c.args.depth + 1) c.args.from.now) c.args.id (subst
    (λ u. HasShape c.args.store.now u c.args.id) split c.requires.shape) in
    let here : slice_get (runs_at c.args.store.now c.args.id) c.loop-index.index ≡ Some (run_of c.run-pair.result.0 c.run-pair.result.1) = ap (λ ps. slice_get
    (compress ps) c.loop-index.index) (sym (pairs_at-kept c.args.store.now c.loop-index.store c.loop-index.invariant.keeps
    (drop c.args.depth c.args.from.now) c.args.id c.requires.shape)) ∙ c.run-pair.ensures.run in
    let fits = run_within (pairs_at c.args.store.now c.args.id) c.loop-index.index c.run-pair.result.1 c.run-pair.result.0 here in
    omega (arith, fits, o.1, c.requires.room)

pub pad_runs-push-requires-clause-room : goal.pad_runs-push-requires-clause-room
pad_runs-push-requires-clause-room g t c =
    let split = split_shape c.args.from.now c.args.depth c.requires.deep in
    let o = opened c.args.store.now (get_or c.args.from.now c.args.depth 0) (drop (c.args.depth + 1) c.args.from.now) c.args.id (subst
    (λ u. HasShape c.args.store.now u c.args.id) split c.requires.shape) in
    let here : slice_get (runs_at c.args.store.now c.args.id) c.loop-index.index ≡ Some (run_of c.run-pair.result.0 c.run-pair.result.1) = ap (λ ps. slice_get
    (compress ps) c.loop-index.index) (sym (pairs_at-kept c.args.store.now c.loop-index.store c.loop-index.invariant.keeps
    (drop c.args.depth c.args.from.now) c.args.id c.requires.shape)) ∙ c.run-pair.ensures.run in
    let fits = run_within (pairs_at c.args.store.now c.args.id) c.loop-index.index c.run-pair.result.1 c.run-pair.result.0 here in
    let in_runs = slice_get_within (runs_at c.args.store.now c.args.id) c.loop-index.index (run_of c.run-pair.result.0 c.run-pair.result.1) here in
    let made = c.loop-index.invariant.made in
    let long = made.open_at in_runs in
    omega (
      arith,
      fits,
      o.1,
      c.requires.room,
      ap length made.is,
      length-append c.args.pairs.now made.added,
      long,
      lengthened_most c.lengthened-count.result c.run-pair.result.1
          c.args.more _ c.lengthened-count.ensures,
    )

pub pad_runs-loop-index-preserved : goal.pad_runs-loop-index-preserved
pad_runs-loop-index-preserved g t c =
    let split = split_shape c.args.from.now c.args.depth c.requires.deep in
    let o = opened c.args.store.now (get_or c.args.from.now c.args.depth 0) (drop (c.args.depth + 1) c.args.from.now) c.args.id (subst
    (λ u. HasShape c.args.store.now u c.args.id) split c.requires.shape) in
    record {
      keeps = Extends-trans _ _ _ c.loop-index.invariant.keeps c.pad_pair.ensures.keeps;
      paid = c.pad_pair.ensures.paid;
      limit = c.pad_pair.ensures.limit ∙ c.loop-index.invariant.limit;
      memo = c.in_ok-made.ensures.memo;
      done = λ q h. c.pad_pair.ensures.done q (c.loop-index.invariant.done q h);
      cost = λ levels h.
          let a = c.in_ok-made.ensures.steps levels (run_held c.args.store.now c.loop-index.store c.loop-index.invariant.keeps (drop c.args.depth c.args.from.now) (drop
          (c.args.depth + 1) c.args.from.now) c.args.id c.loop-index.index c.run-pair.result.1 c.run-pair.result.0 levels c.requires.shape h c.run-pair.ensures.run
          c.run-pair.ensures.some) in
          let b = c.loop-index.invariant.cost levels h in
          omega arith;
      made = made_step c.args.store.now c.loop-index.store c.pad_pair.new.store c.loop-index.invariant.keeps c.pad_pair.ensures.keeps (drop c.args.depth c.args.from.now) (drop
          (c.args.depth + 1) c.args.from.now) (drop (c.args.depth + 1) c.args.to.now) (get_or c.args.from.now c.args.depth 0)
          (get_or c.args.from.now c.args.depth 0 + c.args.more) c.args.more c.args.id c.loop-index.index c.run-pair.result.1 c.lengthened-count.result
          c.run-pair.result.0 c.in_ok-made.made c.args.pairs.now c.loop-index.pairs c.push.new.self split c.requires.shape c.run-pair.ensures.run c.run-pair.ensures.some
          (c.lengthened-count.ensures ∙ ap (λ n. cond (nat_eq (c.loop-index.index + 1) n) (c.run-pair.result.1 + c.args.more) c.run-pair.result.1) c.run_count-runs.ensures)
          c.loop-index.invariant.made c.in_ok-made.ensures.image c.in-Ok.ensures;
    }
