use Rattle.std.proofs.Common.{◌≡◌, ℕ, ◌+◌, ◌-◌, ◌*◌, ◌^◌, ◌<◌, ◌≤◌, [], ◌∷◌, ◌++◌, length, take, map, get_or, sum_by, arith, rules, ap, subst, sym, ◌∙◌, refl, Some}
use Rattle.std.proofs.lemmas.List.{length-append}
use Rattle.std.proofs.lemmas.Option.{slice_get_read}
use Rattle.aq_store.specs.Count.{Count}
use Rattle.aq_store.specs.Memos.{memo_at, is_done}
use Rattle.aq_store.specs.Nodes.{HasShape, FitsStore}
use Rattle.aq_store.specs.Owed.{owed, prices_of}
use Rattle.aq_store.specs.Words.{IsWider, words, first_number, lower, united_shape, united_shapes}
use Rattle.aq_store.proofs.TableLemmas.{HasShape-Extends, Extends-refl, Extends-trans}
use Rattle.aq_store.proofs.StopLemmas.{adds_limit, GivesUp-within, refused_gives_up, passed_on}
use Rattle.aq_measure_ops.specs.Joining.{shape_of, first_choices, HasPart}
use Rattle.aq_measure_ops.proofs.BudgetLemmas.{budget}
use Rattle.aq_measure_ops.proofs.PaddingLemmas.{IsPadMemo-none}
use Rattle.aq_measure_ops.proofs.UnitedLemmas.{part_wider, parts_first, first_at, front_more, front_sum, take_all}
use Rattle.aq_measure_ops.proofs.JoiningLemmas.{IsJoined, join_none, join_step, joined_heights, joined_root, joined_part, loop_most, loop_step}
use Rattle.aq_measure_ops.proofs.JoiningLemmas.{loop_end, one_sum, two_sum, two_levels, two_fit, union_first, union_bound, united_levels, part_owed}
use Rattle.aq_measure_ops.proofs.joining.union_of.Goals as goal

pub returns-in_err-shape-clause-steps : goal.returns-in_err-shape-clause-steps
returns-in_err-shape-clause-steps g c =
    let n = c.requires.levels.0 in
    let levels = c.requires.levels.2 in
    let most = union_bound c.args.store.now n c.args.parts.now c.requires.levels.1 c.requires.some c.requires.fits levels in
    omega (arith, most, c.united_all.ensures.cheap, parts_first n c.args.parts.now levels)

pub returns-in_err-shape-clause-refused : goal.returns-in_err-shape-clause-refused
returns-in_err-shape-clause-refused g c =
    let n = c.requires.levels.0 in
    let levels = c.requires.levels.2 in
    let most = union_bound c.args.store.now n c.args.parts.now c.requires.levels.1 c.requires.some c.requires.fits levels in
    passed_on _ c.from_residual.result c.in_err-shape.field-0.0 c.from_residual.ensures
    (GivesUp-within c.args.steps.now c.args.steps.now c.united_all.new.steps (first_number (united_shapes (map shape_of c.args.parts.now))) (2 * words (united_shapes
    (map shape_of c.args.parts.now)) * 2 ^ (length (united_shapes (map shape_of c.args.parts.now)) + 1)) _ refl (omega
    (arith, most, parts_first n c.args.parts.now levels)) c.in_err-shape.ensures.refused)

pub join_part-requires-clause-fits : goal.join_part-requires-clause-fits
join_part-requires-clause-fits g c =
    let at = slice_get_read c.args.parts.now (length c.args.parts.now) c.loop-part.part-index c.part-item.result refl c.loop-part-test.true c.part-item.is in
    let k = c.loop-part.part-index in
    let part = c.part-item.result in
    HasShape-Extends c.args.store.now c.loop-part.store c.loop-part.invariant.keeps part.shape.items part.root (c.requires.fits.each k part at)

pub join_part-requires-clause-some : goal.join_part-requires-clause-some
join_part-requires-clause-some g c =
    let at = slice_get_read c.args.parts.now (length c.args.parts.now) c.loop-part.part-index c.part-item.result refl c.loop-part-test.true c.part-item.is in
    let k = c.loop-part.part-index in
    let part = c.part-item.result in
    omega (arith, c.requires.levels.2.each k part at, c.requires.levels.1)

pub join_part-requires-clause-wider : goal.join_part-requires-clause-wider
join_part-requires-clause-wider g c =
    let n = c.requires.levels.0 in
    let levels = c.requires.levels.2 in
    let is = c.as_slice-wide.ensures.value ∙ c.in_ok-shape.ensures.ok in
    let at = slice_get_read c.args.parts.now (length c.args.parts.now) c.loop-part.part-index c.part-item.result refl c.loop-part-test.true c.part-item.is in
    let k = c.loop-part.part-index in
    let part = c.part-item.result in
    subst (IsWider part.shape.items) (sym is) (part_wider n c.args.parts.now k part levels at)

pub join_part-requires-clause-room : goal.join_part-requires-clause-room
join_part-requires-clause-room g c =
    let n = c.requires.levels.0 in
    let levels = c.requires.levels.2 in
    let is = c.as_slice-wide.ensures.value ∙ c.in_ok-shape.ensures.ok in
    let at = slice_get_read c.args.parts.now (length c.args.parts.now) c.loop-part.part-index c.part-item.result refl c.loop-part-test.true c.part-item.is in
    let k = c.loop-part.part-index in
    let part = c.part-item.result in
    let front = front_sum c.args.parts.now k part at in
    let long = c.loop-part.invariant.joined.long in
    omega (arith, front, long, parts_first n c.args.parts.now levels, ap first_number is, first_at c.as_slice-wide.result.now, c.type_inv.wide 0)

pub returns-in_err-join_part-clause-steps : goal.returns-in_err-join_part-clause-steps
returns-in_err-join_part-clause-steps g c =
    let n = c.requires.levels.0 in
    let levels = c.requires.levels.2 in
    let most = union_bound c.args.store.now n c.args.parts.now c.requires.levels.1 c.requires.some c.requires.fits levels in
    let is = c.as_slice-wide.ensures.value ∙ c.in_ok-shape.ensures.ok in
    let at = slice_get_read c.args.parts.now (length c.args.parts.now) c.loop-part.part-index c.part-item.result refl c.loop-part-test.true c.part-item.is in
    let k = c.loop-part.part-index in
    let part = c.part-item.result in
    let fits = HasShape-Extends c.args.store.now c.loop-part.store c.loop-part.invariant.keeps part.shape.items part.root (c.requires.fits.each k part at) in
    let wider = subst (IsWider part.shape.items) (sym is) (part_wider n c.args.parts.now k part levels at) in
    let some : 0 < length part.shape.items = omega (arith, levels.each k part at, c.requires.levels.1) in
    let r = part_owed c.loop-part.store (memo_at c.loop-part.memo) part.shape.items c.as_slice-wide.result.now part.root some wider fits in
    let same_budget : budget (lower c.as_slice-wide.result.now) ≡ budget (lower (united_shapes (map shape_of c.args.parts.now))) = ap (λ u. budget (lower u)) is in
    let front = front_sum c.args.parts.now k part at in
    let long = c.loop-part.invariant.joined.long in
    let part_most = loop_most (length c.loop-part.pairs) (first_choices part) (sum_by first_choices c.args.parts.now) (budget
    (lower c.as_slice-wide.result.now)) c.args.steps.now.taken c.loop-part.steps.taken (c.loop-part.steps.taken + owed (prices_of (lower c.as_slice-wide.result.now)) (is_done
    (memo_at c.loop-part.memo)) r.0) (omega (arith, long, front)) c.loop-part.invariant.cost (omega (arith, r.2)) in
    let same_most : (sum_by first_choices c.args.parts.now) * (2 * (budget (lower c.as_slice-wide.result.now))) ≡ (sum_by first_choices c.args.parts.now) * (2 * budget (lower
    (united_shapes (map shape_of c.args.parts.now)))) = ap (λ b. (sum_by first_choices c.args.parts.now) * (2 * b)) same_budget in
    let h = c.join_part.ensures.cheap r.0 r.1 in
    omega (arith, most, part_most, same_most, h)

pub returns-in_err-join_part-clause-refused : goal.returns-in_err-join_part-clause-refused
returns-in_err-join_part-clause-refused g c =
    let n = c.requires.levels.0 in
    let levels = c.requires.levels.2 in
    let most = union_bound c.args.store.now n c.args.parts.now c.requires.levels.1 c.requires.some c.requires.fits levels in
    let is = c.as_slice-wide.ensures.value ∙ c.in_ok-shape.ensures.ok in
    let at = slice_get_read c.args.parts.now (length c.args.parts.now) c.loop-part.part-index c.part-item.result refl c.loop-part-test.true c.part-item.is in
    let k = c.loop-part.part-index in
    let part = c.part-item.result in
    let fits = HasShape-Extends c.args.store.now c.loop-part.store c.loop-part.invariant.keeps part.shape.items part.root (c.requires.fits.each k part at) in
    let wider = subst (IsWider part.shape.items) (sym is) (part_wider n c.args.parts.now k part levels at) in
    let some : 0 < length part.shape.items = omega (arith, levels.each k part at, c.requires.levels.1) in
    let r = part_owed c.loop-part.store (memo_at c.loop-part.memo) part.shape.items c.as_slice-wide.result.now part.root some wider fits in
    let same_budget : budget (lower c.as_slice-wide.result.now) ≡ budget (lower (united_shapes (map shape_of c.args.parts.now))) = ap (λ u. budget (lower u)) is in
    let front = front_sum c.args.parts.now k part at in
    let long = c.loop-part.invariant.joined.long in
    let part_most = loop_most (length c.loop-part.pairs) (first_choices part) (sum_by first_choices c.args.parts.now) (budget
    (lower c.as_slice-wide.result.now)) c.args.steps.now.taken c.loop-part.steps.taken (c.loop-part.steps.taken + owed (prices_of (lower c.as_slice-wide.result.now)) (is_done
    (memo_at c.loop-part.memo)) r.0) (omega (arith, long, front)) c.loop-part.invariant.cost (omega (arith, r.2)) in
    let same_most : (sum_by first_choices c.args.parts.now) * (2 * (budget (lower c.as_slice-wide.result.now))) ≡ (sum_by first_choices c.args.parts.now) * (2 * budget (lower
    (united_shapes (map shape_of c.args.parts.now)))) = ap (λ b. (sum_by first_choices c.args.parts.now) * (2 * b)) same_budget in
    passed_on _ c.from_residual-in_err-join_part.result c.in_err-join_part.field-0.0 c.from_residual-in_err-join_part.ensures
    (GivesUp-within c.args.steps.now c.loop-part.steps c.join_part.new.steps (owed (prices_of (lower c.as_slice-wide.result.now)) (is_done (memo_at c.loop-part.memo)) r.0)
    (2 * words (united_shapes (map shape_of c.args.parts.now)) * 2 ^ (length (united_shapes (map shape_of c.args.parts.now)) + 1)) _ c.loop-part.invariant.limit
    (omega (arith, most, part_most, same_most)) (c.in_err-join_part.ensures.refused r.0 r.1))

pub loop-part-preserved : goal.loop-part-preserved
loop-part-preserved g c =
    let n = c.requires.levels.0 in
    let levels = c.requires.levels.2 in
    let is = c.as_slice-wide.ensures.value ∙ c.in_ok-shape.ensures.ok in
    let at = slice_get_read c.args.parts.now (length c.args.parts.now) c.loop-part.part-index c.part-item.result refl c.loop-part-test.true c.part-item.is in
    let k = c.loop-part.part-index in
    let part = c.part-item.result in
    let fits = HasShape-Extends c.args.store.now c.loop-part.store c.loop-part.invariant.keeps part.shape.items part.root (c.requires.fits.each k part at) in
    let wider = subst (IsWider part.shape.items) (sym is) (part_wider n c.args.parts.now k part levels at) in
    let some : 0 < length part.shape.items = omega (arith, levels.each k part at, c.requires.levels.1) in
    let r = part_owed c.loop-part.store (memo_at c.loop-part.memo) part.shape.items c.as_slice-wide.result.now part.root some wider fits in
    let start = c.requires.fits.each k part at in
    let pairs = c.in_ok-join_part.ensures.pairs in
    let h = c.join_part.ensures.cheap r.0 r.1 in
    record {
      keeps = Extends-trans _ _ _ c.loop-part.invariant.keeps c.join_part.ensures.keeps;
      paid = c.join_part.ensures.paid;
      limit = c.join_part.ensures.limit ∙ c.loop-part.invariant.limit;
      memo = c.in_ok-join_part.ensures.memo;
      cost = loop_step (length c.loop-part.pairs) (first_choices part) (length c.join_part.new.pairs) (budget
          (lower c.as_slice-wide.result.now)) c.args.steps.now.taken c.loop-part.steps.taken c.join_part.new.steps.taken
          (ap length pairs.is ∙ length-append c.loop-part.pairs pairs.added ∙ ap (λ m. length c.loop-part.pairs + m) pairs.long) c.loop-part.invariant.cost (omega (arith, h, r.2));
      joined = subst (λ l. IsJoined c.args.store.now c.join_part.new.store (lower c.as_slice-wide.result.now) l c.join_part.new.pairs) (sym (front_more c.args.parts.now k part at))
          (join_step c.args.store.now c.loop-part.store c.join_part.new.store c.loop-part.invariant.keeps c.join_part.ensures.keeps (lower c.as_slice-wide.result.now)
          (take k c.args.parts.now) part c.loop-part.pairs c.join_part.new.pairs start c.loop-part.invariant.joined pairs);
    }

pub node_of-requires-clause-some : goal.node_of-requires-clause-some
node_of-requires-clause-some g c =
    let n = c.requires.levels.0 in
    let levels = c.requires.levels.2 in
    let over : take c.loop-part.part-index c.args.parts.now ≡ c.args.parts.now = take_all c.args.parts.now c.loop-part.part-index c.loop-part-test.false in
    let joined = subst (λ l. IsJoined c.args.store.now c.loop-part.store (lower c.as_slice-wide.result.now) l c.loop-part.pairs) over c.loop-part.invariant.joined in
    omega (arith, joined.long, union_first c.args.store.now n c.args.parts.now c.requires.levels.1 c.requires.some c.requires.fits levels)

pub node_of-requires-clause-heights : goal.node_of-requires-clause-heights
node_of-requires-clause-heights g c =
    let over : take c.loop-part.part-index c.args.parts.now ≡ c.args.parts.now = take_all c.args.parts.now c.loop-part.part-index c.loop-part-test.false in
    let joined = subst (λ l. IsJoined c.args.store.now c.loop-part.store (lower c.as_slice-wide.result.now) l c.loop-part.pairs) over c.loop-part.invariant.joined in
    joined_heights c.args.store.now c.loop-part.store (lower c.as_slice-wide.result.now) c.args.parts.now c.loop-part.pairs joined

pub returns-in_err-root-clause-steps : goal.returns-in_err-root-clause-steps
returns-in_err-root-clause-steps g c =
    let n = c.requires.levels.0 in
    let levels = c.requires.levels.2 in
    let most = union_bound c.args.store.now n c.args.parts.now c.requires.levels.1 c.requires.some c.requires.fits levels in
    let is = c.as_slice-wide.ensures.value ∙ c.in_ok-shape.ensures.ok in
    let same_budget : budget (lower c.as_slice-wide.result.now) ≡ budget (lower (united_shapes (map shape_of c.args.parts.now))) = ap (λ u. budget (lower u)) is in
    let over : take c.loop-part.part-index c.args.parts.now ≡ c.args.parts.now = take_all c.args.parts.now c.loop-part.part-index c.loop-part-test.false in
    let joined = subst (λ l. IsJoined c.args.store.now c.loop-part.store (lower c.as_slice-wide.result.now) l c.loop-part.pairs) over c.loop-part.invariant.joined in
    let end_most = loop_end (length c.loop-part.pairs) (sum_by first_choices c.args.parts.now) (budget
    (lower c.as_slice-wide.result.now)) c.args.steps.now.taken c.loop-part.steps.taken joined.long c.loop-part.invariant.cost in
    let same_most : (sum_by first_choices c.args.parts.now) * (2 * (budget (lower c.as_slice-wide.result.now))) ≡ (sum_by first_choices c.args.parts.now) * (2 * budget (lower
    (united_shapes (map shape_of c.args.parts.now)))) = ap (λ b. (sum_by first_choices c.args.parts.now) * (2 * b)) same_budget in
    omega (arith, most, end_most, same_most, joined.long, c.node_of.ensures.cheap)

pub returns-in_err-root-clause-refused : goal.returns-in_err-root-clause-refused
returns-in_err-root-clause-refused g c =
    let n = c.requires.levels.0 in
    let levels = c.requires.levels.2 in
    let most = union_bound c.args.store.now n c.args.parts.now c.requires.levels.1 c.requires.some c.requires.fits levels in
    let is = c.as_slice-wide.ensures.value ∙ c.in_ok-shape.ensures.ok in
    let same_budget : budget (lower c.as_slice-wide.result.now) ≡ budget (lower (united_shapes (map shape_of c.args.parts.now))) = ap (λ u. budget (lower u)) is in
    let over : take c.loop-part.part-index c.args.parts.now ≡ c.args.parts.now = take_all c.args.parts.now c.loop-part.part-index c.loop-part-test.false in
    let joined = subst (λ l. IsJoined c.args.store.now c.loop-part.store (lower c.as_slice-wide.result.now) l c.loop-part.pairs) over c.loop-part.invariant.joined in
    let end_most = loop_end (length c.loop-part.pairs) (sum_by first_choices c.args.parts.now) (budget
    (lower c.as_slice-wide.result.now)) c.args.steps.now.taken c.loop-part.steps.taken joined.long c.loop-part.invariant.cost in
    let same_most : (sum_by first_choices c.args.parts.now) * (2 * (budget (lower c.as_slice-wide.result.now))) ≡ (sum_by first_choices c.args.parts.now) * (2 * budget (lower
    (united_shapes (map shape_of c.args.parts.now)))) = ap (λ b. (sum_by first_choices c.args.parts.now) * (2 * b)) same_budget in
    passed_on _ c.from_residual-in_err-root.result c.in_err-root.field-0.0 c.from_residual-in_err-root.ensures
    (GivesUp-within c.args.steps.now c.loop-part.steps c.node_of.new.steps (length c.loop-part.pairs) (2 * words (united_shapes (map shape_of c.args.parts.now)) * 2 ^ (length
    (united_shapes (map shape_of c.args.parts.now)) + 1)) _ c.loop-part.invariant.limit
    (omega (arith, most, end_most, same_most, joined.long)) (refused_gives_up _ _ _ _ _ _ c.in_err-root.ensures.adds))

pub returns-clause-steps : goal.returns-clause-steps
returns-clause-steps g c =
    let n = c.requires.levels.0 in
    let levels = c.requires.levels.2 in
    let most = union_bound c.args.store.now n c.args.parts.now c.requires.levels.1 c.requires.some c.requires.fits levels in
    let is = c.as_slice-wide.ensures.value ∙ c.in_ok-shape.ensures.ok in
    let same_budget : budget (lower c.as_slice-wide.result.now) ≡ budget (lower (united_shapes (map shape_of c.args.parts.now))) = ap (λ u. budget (lower u)) is in
    let over : take c.loop-part.part-index c.args.parts.now ≡ c.args.parts.now = take_all c.args.parts.now c.loop-part.part-index c.loop-part-test.false in
    let joined = subst (λ l. IsJoined c.args.store.now c.loop-part.store (lower c.as_slice-wide.result.now) l c.loop-part.pairs) over c.loop-part.invariant.joined in
    let end_most = loop_end (length c.loop-part.pairs) (sum_by first_choices c.args.parts.now) (budget
    (lower c.as_slice-wide.result.now)) c.args.steps.now.taken c.loop-part.steps.taken joined.long c.loop-part.invariant.cost in
    let same_most : (sum_by first_choices c.args.parts.now) * (2 * (budget (lower c.as_slice-wide.result.now))) ≡ (sum_by first_choices c.args.parts.now) * (2 * budget (lower
    (united_shapes (map shape_of c.args.parts.now)))) = ap (λ b. (sum_by first_choices c.args.parts.now) * (2 * b)) same_budget in
    omega (arith, most, end_most, same_most, joined.long, c.node_of.ensures.cheap)

pub returns-clause-united : goal.returns-clause-united
returns-clause-united g c =
    let n = c.requires.levels.0 in
    let levels = c.requires.levels.2 in
    let is = c.as_slice-wide.ensures.value ∙ c.in_ok-shape.ensures.ok in
    let over : take c.loop-part.part-index c.args.parts.now ≡ c.args.parts.now = take_all c.args.parts.now c.loop-part.part-index c.loop-part-test.false in
    let joined = subst (λ l. IsJoined c.args.store.now c.loop-part.store (lower c.as_slice-wide.result.now) l c.loop-part.pairs) over c.loop-part.invariant.joined in
    let whole = subst (λ u. IsJoined c.args.store.now c.loop-part.store (lower u) c.args.parts.now c.loop-part.pairs) c.as_slice-wide.ensures.value joined in
    let some = union_first c.args.store.now n c.args.parts.now c.requires.levels.1 c.requires.some c.requires.fits levels in
    record {
      shape = c.in_ok-shape.ensures.ok;
      fits = joined_root c.args.store.now c.loop-part.store c.node_of.new.self c.node_of.ensures.keeps c.in_ok-shape.shape.items c.args.parts.now c.loop-part.pairs c.in_ok-root.root
          (united_levels c.args.store.now n c.args.parts.now c.in_ok-shape.shape.items c.requires.levels.1 c.requires.some c.requires.fits levels c.in_ok-shape.ensures.ok) (omega
          (arith, joined.long, some)) (ap first_number c.in_ok-shape.ensures.ok ∙ parts_first n c.args.parts.now levels) whole c.in_ok-root.ensures.adds.here;
      each = joined_part c.args.store.now c.loop-part.store c.node_of.new.self c.node_of.ensures.keeps c.args.parts.now c.loop-part.pairs
          (record { root = c.in_ok-root.root; shape = c.in_ok-shape.shape }) whole c.in_ok-root.ensures.adds.here;
    }
