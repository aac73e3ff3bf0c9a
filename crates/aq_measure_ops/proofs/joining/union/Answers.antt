use Rattle.std.proofs.Common.{◌≡◌, ℕ, ◌+◌, ◌-◌, ◌*◌, ◌^◌, ◌<◌, ◌≤◌, [], ◌∷◌, ◌++◌, length, take, map, get_or, sum_by, arith, rules, ap, subst, sym, ◌∙◌, refl, Some}
use Rattle.std.proofs.lemmas.List.{length-append}
use Rattle.std.proofs.lemmas.Option.{slice_get_read}
use Rattle.aq_store.specs.Count.{Count}
use Rattle.aq_store.specs.Memos.{memo_at, is_done}
use Rattle.aq_store.specs.Nodes.{HasShape, FitsStore}
use Rattle.aq_store.specs.Owed.{owed, prices_of}
use Rattle.aq_store.specs.Words.{IsWider, words, first_number, lower, united_shape, united_shapes}
use Rattle.aq_store.proofs.TableLemmas.{HasShape-Extends, Extends-refl, Extends-trans}
use Rattle.aq_store.proofs.StopLemmas.{adds_limit, GivesUp-within, refused_gives_up, passed_on}
use Rattle.aq_measure_ops.specs.Joining.{shape_of, first_choices, HasPart}
use Rattle.aq_measure_ops.proofs.BudgetLemmas.{budget}
use Rattle.aq_measure_ops.proofs.PaddingLemmas.{IsPadMemo-none}
use Rattle.aq_measure_ops.proofs.UnitedLemmas.{part_wider, parts_first, first_at, front_more, front_sum, take_all}
use Rattle.aq_measure_ops.proofs.JoiningLemmas.{IsJoined, join_none, join_step, joined_heights, joined_root, joined_part, loop_most, loop_step}
use Rattle.aq_measure_ops.proofs.JoiningLemmas.{loop_end, one_sum, two_sum, two_levels, two_fit, union_first, union_bound, united_levels, part_owed}
use Rattle.aq_measure_ops.proofs.joining.union.Goals as goal

pub returns-in_err-shape-clause-steps : goal.returns-in_err-shape-clause-steps
returns-in_err-shape-clause-steps g c =
    let n = length c.args.left.now.shape.items in
    let levels = two_levels c.args.left.now c.args.right.now c.requires.same in
    let fit = two_fit c.args.store.now c.args.left.now c.args.right.now c.requires.left c.requires.right in
    let most = union_bound c.args.store.now n (c.args.left.now ∷ c.args.right.now ∷ []) c.requires.some (omega arith) fit levels in
    let two = two_sum c.args.left.now c.args.right.now in
    let firsts = ap first_number c.as_slice-first.ensures.value in
    let seconds = ap first_number c.as_slice-second.ensures.value in
    omega (arith, most, two, c.united.ensures.cheap, firsts, seconds)

pub returns-in_err-shape-clause-refused : goal.returns-in_err-shape-clause-refused
returns-in_err-shape-clause-refused g c =
    let n = length c.args.left.now.shape.items in
    let levels = two_levels c.args.left.now c.args.right.now c.requires.same in
    let fit = two_fit c.args.store.now c.args.left.now c.args.right.now c.requires.left c.requires.right in
    let most = union_bound c.args.store.now n (c.args.left.now ∷ c.args.right.now ∷ []) c.requires.some (omega arith) fit levels in
    let two = two_sum c.args.left.now c.args.right.now in
    let firsts = ap first_number c.as_slice-first.ensures.value in
    let seconds = ap first_number c.as_slice-second.ensures.value in
    passed_on _ c.from_residual.result c.in_err-shape.field-0.0 c.from_residual.ensures
    (GivesUp-within c.args.steps.now c.args.steps.now c.united.new.steps (first_number c.as_slice-first.result.now + first_number c.as_slice-second.result.now) (2 * words
    (united_shape c.args.left.now.shape.items c.args.right.now.shape.items) * 2 ^ (length (united_shape c.args.left.now.shape.items c.args.right.now.shape.items) + 1)) _ refl
    (omega (arith, most, two, firsts, seconds)) c.in_err-shape.ensures.refused)

pub join_part-requires-clause-wider : goal.join_part-requires-clause-wider
join_part-requires-clause-wider g c =
    let n = length c.args.left.now.shape.items in
    let levels = two_levels c.args.left.now c.args.right.now c.requires.same in
    let fit = two_fit c.args.store.now c.args.left.now c.args.right.now c.requires.left c.requires.right in
    let is = c.as_slice-wide.ensures.value ∙ c.in_ok-shape.ensures.ok ∙ ap (λ u. united_shape u c.as_slice-second.result.now) c.as_slice-first.ensures.value
    ∙ ap (λ u. united_shape c.args.left.now.shape.items u) c.as_slice-second.ensures.value in
    subst (IsWider c.args.left.now.shape.items) (sym is) (part_wider n (c.args.left.now ∷ c.args.right.now ∷ []) 0 c.args.left.now levels refl)

pub join_part-requires-clause-room : goal.join_part-requires-clause-room
join_part-requires-clause-room g c =
    let n = length c.args.left.now.shape.items in
    let levels = two_levels c.args.left.now c.args.right.now c.requires.same in
    let fit = two_fit c.args.store.now c.args.left.now c.args.right.now c.requires.left c.requires.right in
    let is = c.as_slice-wide.ensures.value ∙ c.in_ok-shape.ensures.ok ∙ ap (λ u. united_shape u c.as_slice-second.result.now) c.as_slice-first.ensures.value
    ∙ ap (λ u. united_shape c.args.left.now.shape.items u) c.as_slice-second.ensures.value in
    omega (
      arith,
      two_sum c.args.left.now c.args.right.now,
      parts_first n (c.args.left.now ∷ c.args.right.now ∷ []) levels,
      ap first_number is,
      first_at
          c.as_slice-wide.result.now,
      c.type_inv.wide 0,
      ap length c.new-pairs.ensures,
    )

pub returns-in_err-join_part-clause-steps : goal.returns-in_err-join_part-clause-steps
returns-in_err-join_part-clause-steps g c =
    let n = length c.args.left.now.shape.items in
    let levels = two_levels c.args.left.now c.args.right.now c.requires.same in
    let fit = two_fit c.args.store.now c.args.left.now c.args.right.now c.requires.left c.requires.right in
    let most = union_bound c.args.store.now n (c.args.left.now ∷ c.args.right.now ∷ []) c.requires.some (omega arith) fit levels in
    let two = two_sum c.args.left.now c.args.right.now in
    let is = c.as_slice-wide.ensures.value ∙ c.in_ok-shape.ensures.ok ∙ ap (λ u. united_shape u c.as_slice-second.result.now) c.as_slice-first.ensures.value
    ∙ ap (λ u. united_shape c.args.left.now.shape.items u) c.as_slice-second.ensures.value in
    let taken = ap (λ (m : Count). m.taken) c.in_ok-shape.ensures.still in
    let wide_left = subst (IsWider c.args.left.now.shape.items) (sym is) (part_wider n (c.args.left.now ∷ c.args.right.now ∷ []) 0 c.args.left.now levels refl) in
    let r = part_owed c.args.store.now (memo_at c.new-memo.result) c.args.left.now.shape.items c.as_slice-wide.result.now c.args.left.now.root c.requires.some wide_left c.requires.left in
    let same_budget : budget (lower c.as_slice-wide.result.now) ≡ budget (lower (united_shape c.args.left.now.shape.items c.args.right.now.shape.items)) = ap (λ u. budget (lower u)) is in
    let same_most : (sum_by first_choices (c.args.left.now ∷ c.args.right.now ∷ [])) * (2 * (budget (lower c.as_slice-wide.result.now))) ≡ (sum_by first_choices
    (c.args.left.now ∷ c.args.right.now ∷ [])) * (2 * budget (lower (united_shape c.args.left.now.shape.items c.args.right.now.shape.items))) = ap (λ b. (sum_by first_choices
    (c.args.left.now ∷ c.args.right.now ∷ [])) * (2 * b)) same_budget in
    let none : c.united.new.steps.taken ≤ c.united.new.steps.taken + 2 * 0 * (budget (lower c.as_slice-wide.result.now)) = omega arith in
    let left_most = loop_most 0 (first_choices c.args.left.now) (sum_by first_choices (c.args.left.now ∷ c.args.right.now ∷ [])) (budget
    (lower c.as_slice-wide.result.now)) c.united.new.steps.taken c.united.new.steps.taken (c.united.new.steps.taken + owed (prices_of (lower c.as_slice-wide.result.now))
    (is_done (memo_at c.new-memo.result)) r.0) (omega (arith, two)) none (omega (arith, r.2)) in
    let h = c.join_part.ensures.cheap r.0 r.1 in
    omega (arith, most, left_most, same_most, h, taken)

pub returns-in_err-join_part-clause-refused : goal.returns-in_err-join_part-clause-refused
returns-in_err-join_part-clause-refused g c =
    let n = length c.args.left.now.shape.items in
    let levels = two_levels c.args.left.now c.args.right.now c.requires.same in
    let fit = two_fit c.args.store.now c.args.left.now c.args.right.now c.requires.left c.requires.right in
    let most = union_bound c.args.store.now n (c.args.left.now ∷ c.args.right.now ∷ []) c.requires.some (omega arith) fit levels in
    let two = two_sum c.args.left.now c.args.right.now in
    let is = c.as_slice-wide.ensures.value ∙ c.in_ok-shape.ensures.ok ∙ ap (λ u. united_shape u c.as_slice-second.result.now) c.as_slice-first.ensures.value
    ∙ ap (λ u. united_shape c.args.left.now.shape.items u) c.as_slice-second.ensures.value in
    let taken = ap (λ (m : Count). m.taken) c.in_ok-shape.ensures.still in
    let wide_left = subst (IsWider c.args.left.now.shape.items) (sym is) (part_wider n (c.args.left.now ∷ c.args.right.now ∷ []) 0 c.args.left.now levels refl) in
    let r = part_owed c.args.store.now (memo_at c.new-memo.result) c.args.left.now.shape.items c.as_slice-wide.result.now c.args.left.now.root c.requires.some wide_left c.requires.left in
    let same_budget : budget (lower c.as_slice-wide.result.now) ≡ budget (lower (united_shape c.args.left.now.shape.items c.args.right.now.shape.items)) = ap (λ u. budget (lower u)) is in
    let same_most : (sum_by first_choices (c.args.left.now ∷ c.args.right.now ∷ [])) * (2 * (budget (lower c.as_slice-wide.result.now))) ≡ (sum_by first_choices
    (c.args.left.now ∷ c.args.right.now ∷ [])) * (2 * budget (lower (united_shape c.args.left.now.shape.items c.args.right.now.shape.items))) = ap (λ b. (sum_by first_choices
    (c.args.left.now ∷ c.args.right.now ∷ [])) * (2 * b)) same_budget in
    let none : c.united.new.steps.taken ≤ c.united.new.steps.taken + 2 * 0 * (budget (lower c.as_slice-wide.result.now)) = omega arith in
    let left_most = loop_most 0 (first_choices c.args.left.now) (sum_by first_choices (c.args.left.now ∷ c.args.right.now ∷ [])) (budget
    (lower c.as_slice-wide.result.now)) c.united.new.steps.taken c.united.new.steps.taken (c.united.new.steps.taken + owed (prices_of (lower c.as_slice-wide.result.now))
    (is_done (memo_at c.new-memo.result)) r.0) (omega (arith, two)) none (omega (arith, r.2)) in
    passed_on _ c.from_residual-in_err-join_part.result c.in_err-join_part.field-0.0 c.from_residual-in_err-join_part.ensures
    (GivesUp-within c.args.steps.now c.united.new.steps c.join_part.new.steps (owed (prices_of (lower c.as_slice-wide.result.now)) (is_done (memo_at c.new-memo.result)) r.0)
    (2 * words (united_shape c.args.left.now.shape.items c.args.right.now.shape.items) * 2 ^ (length
    (united_shape c.args.left.now.shape.items c.args.right.now.shape.items) + 1)) _ c.united.ensures.limit (omega (arith, most, left_most, same_most, taken))
    (c.in_err-join_part.ensures.refused r.0 r.1))

pub join_part-requires-2-clause-fits : goal.join_part-requires-2-clause-fits
join_part-requires-2-clause-fits g c =
    HasShape-Extends c.args.store.now c.join_part.new.store c.join_part.ensures.keeps c.args.right.now.shape.items c.args.right.now.root c.requires.right

pub join_part-requires-2-clause-wider : goal.join_part-requires-2-clause-wider
join_part-requires-2-clause-wider g c =
    let n = length c.args.left.now.shape.items in
    let levels = two_levels c.args.left.now c.args.right.now c.requires.same in
    let fit = two_fit c.args.store.now c.args.left.now c.args.right.now c.requires.left c.requires.right in
    let is = c.as_slice-wide.ensures.value ∙ c.in_ok-shape.ensures.ok ∙ ap (λ u. united_shape u c.as_slice-second.result.now) c.as_slice-first.ensures.value
    ∙ ap (λ u. united_shape c.args.left.now.shape.items u) c.as_slice-second.ensures.value in
    subst (IsWider c.args.right.now.shape.items) (sym is) (part_wider n (c.args.left.now ∷ c.args.right.now ∷ []) 1 c.args.right.now levels refl)

pub join_part-requires-2-clause-room : goal.join_part-requires-2-clause-room
join_part-requires-2-clause-room g c =
    let n = length c.args.left.now.shape.items in
    let levels = two_levels c.args.left.now c.args.right.now c.requires.same in
    let fit = two_fit c.args.store.now c.args.left.now c.args.right.now c.requires.left c.requires.right in
    let is = c.as_slice-wide.ensures.value ∙ c.in_ok-shape.ensures.ok ∙ ap (λ u. united_shape u c.as_slice-second.result.now) c.as_slice-first.ensures.value
    ∙ ap (λ u. united_shape c.args.left.now.shape.items u) c.as_slice-second.ensures.value in
    let pairs = c.in_ok-join_part.ensures.pairs in
    omega (
      arith,
      two_sum c.args.left.now c.args.right.now,
      parts_first n (c.args.left.now ∷ c.args.right.now ∷ []) levels,
      ap first_number is,
      first_at
          c.as_slice-wide.result.now,
      c.type_inv.wide 0,
      ap length c.new-pairs.ensures,
      ap length pairs.is,
      length-append c.new-pairs.result pairs.added,
      pairs.long,
    )

pub returns-in_err-join_part-2-clause-steps : goal.returns-in_err-join_part-2-clause-steps
returns-in_err-join_part-2-clause-steps g c =
    let n = length c.args.left.now.shape.items in
    let levels = two_levels c.args.left.now c.args.right.now c.requires.same in
    let fit = two_fit c.args.store.now c.args.left.now c.args.right.now c.requires.left c.requires.right in
    let most = union_bound c.args.store.now n (c.args.left.now ∷ c.args.right.now ∷ []) c.requires.some (omega arith) fit levels in
    let two = two_sum c.args.left.now c.args.right.now in
    let is = c.as_slice-wide.ensures.value ∙ c.in_ok-shape.ensures.ok ∙ ap (λ u. united_shape u c.as_slice-second.result.now) c.as_slice-first.ensures.value
    ∙ ap (λ u. united_shape c.args.left.now.shape.items u) c.as_slice-second.ensures.value in
    let taken = ap (λ (m : Count). m.taken) c.in_ok-shape.ensures.still in
    let wide_left = subst (IsWider c.args.left.now.shape.items) (sym is) (part_wider n (c.args.left.now ∷ c.args.right.now ∷ []) 0 c.args.left.now levels refl) in
    let wide_right = subst (IsWider c.args.right.now.shape.items) (sym is) (part_wider n (c.args.left.now ∷ c.args.right.now ∷ []) 1 c.args.right.now levels refl) in
    let some_right : 0 < length c.args.right.now.shape.items = omega (arith, c.requires.some, c.requires.same) in
    let fits_right = HasShape-Extends c.args.store.now c.join_part.new.store c.join_part.ensures.keeps c.args.right.now.shape.items c.args.right.now.root c.requires.right in
    let r = part_owed c.args.store.now (memo_at c.new-memo.result) c.args.left.now.shape.items c.as_slice-wide.result.now c.args.left.now.root c.requires.some wide_left c.requires.left in
    let s = part_owed c.join_part.new.store (memo_at c.join_part.new.memo) c.args.right.now.shape.items c.as_slice-wide.result.now c.args.right.now.root some_right wide_right fits_right in
    let same_budget : budget (lower c.as_slice-wide.result.now) ≡ budget (lower (united_shape c.args.left.now.shape.items c.args.right.now.shape.items)) = ap (λ u. budget (lower u)) is in
    let same_most : (sum_by first_choices (c.args.left.now ∷ c.args.right.now ∷ [])) * (2 * (budget (lower c.as_slice-wide.result.now))) ≡ (sum_by first_choices
    (c.args.left.now ∷ c.args.right.now ∷ [])) * (2 * budget (lower (united_shape c.args.left.now.shape.items c.args.right.now.shape.items))) = ap (λ b. (sum_by first_choices
    (c.args.left.now ∷ c.args.right.now ∷ [])) * (2 * b)) same_budget in
    let none : c.united.new.steps.taken ≤ c.united.new.steps.taken + 2 * 0 * (budget (lower c.as_slice-wide.result.now)) = omega arith in
    let h = c.join_part.ensures.cheap r.0 r.1 in
    let one = loop_step 0 (first_choices c.args.left.now) (first_choices c.args.left.now) (budget (lower c.as_slice-wide.result.now)) c.united.new.steps.taken
    c.united.new.steps.taken c.join_part.new.steps.taken (omega arith) none (omega (arith, h, r.2)) in
    let right_most = loop_most (first_choices c.args.left.now) (first_choices c.args.right.now) (sum_by first_choices (c.args.left.now ∷ c.args.right.now ∷ [])) (budget
    (lower c.as_slice-wide.result.now)) c.united.new.steps.taken c.join_part.new.steps.taken (c.join_part.new.steps.taken + owed (prices_of
    (lower c.as_slice-wide.result.now)) (is_done (memo_at c.join_part.new.memo)) s.0) (omega (arith, two)) one (omega (arith, s.2)) in
    let h2 = c.join_part-2.ensures.cheap s.0 s.1 in
    omega (arith, most, right_most, same_most, h2, taken)

pub returns-in_err-join_part-2-clause-refused : goal.returns-in_err-join_part-2-clause-refused
returns-in_err-join_part-2-clause-refused g c =
    let n = length c.args.left.now.shape.items in
    let levels = two_levels c.args.left.now c.args.right.now c.requires.same in
    let fit = two_fit c.args.store.now c.args.left.now c.args.right.now c.requires.left c.requires.right in
    let most = union_bound c.args.store.now n (c.args.left.now ∷ c.args.right.now ∷ []) c.requires.some (omega arith) fit levels in
    let two = two_sum c.args.left.now c.args.right.now in
    let is = c.as_slice-wide.ensures.value ∙ c.in_ok-shape.ensures.ok ∙ ap (λ u. united_shape u c.as_slice-second.result.now) c.as_slice-first.ensures.value
    ∙ ap (λ u. united_shape c.args.left.now.shape.items u) c.as_slice-second.ensures.value in
    let taken = ap (λ (m : Count). m.taken) c.in_ok-shape.ensures.still in
    let wide_left = subst (IsWider c.args.left.now.shape.items) (sym is) (part_wider n (c.args.left.now ∷ c.args.right.now ∷ []) 0 c.args.left.now levels refl) in
    let wide_right = subst (IsWider c.args.right.now.shape.items) (sym is) (part_wider n (c.args.left.now ∷ c.args.right.now ∷ []) 1 c.args.right.now levels refl) in
    let some_right : 0 < length c.args.right.now.shape.items = omega (arith, c.requires.some, c.requires.same) in
    let fits_right = HasShape-Extends c.args.store.now c.join_part.new.store c.join_part.ensures.keeps c.args.right.now.shape.items c.args.right.now.root c.requires.right in
    let r = part_owed c.args.store.now (memo_at c.new-memo.result) c.args.left.now.shape.items c.as_slice-wide.result.now c.args.left.now.root c.requires.some wide_left c.requires.left in
    let s = part_owed c.join_part.new.store (memo_at c.join_part.new.memo) c.args.right.now.shape.items c.as_slice-wide.result.now c.args.right.now.root some_right wide_right fits_right in
    let same_budget : budget (lower c.as_slice-wide.result.now) ≡ budget (lower (united_shape c.args.left.now.shape.items c.args.right.now.shape.items)) = ap (λ u. budget (lower u)) is in
    let same_most : (sum_by first_choices (c.args.left.now ∷ c.args.right.now ∷ [])) * (2 * (budget (lower c.as_slice-wide.result.now))) ≡ (sum_by first_choices
    (c.args.left.now ∷ c.args.right.now ∷ [])) * (2 * budget (lower (united_shape c.args.left.now.shape.items c.args.right.now.shape.items))) = ap (λ b. (sum_by first_choices
    (c.args.left.now ∷ c.args.right.now ∷ [])) * (2 * b)) same_budget in
    let none : c.united.new.steps.taken ≤ c.united.new.steps.taken + 2 * 0 * (budget (lower c.as_slice-wide.result.now)) = omega arith in
    let h = c.join_part.ensures.cheap r.0 r.1 in
    let one = loop_step 0 (first_choices c.args.left.now) (first_choices c.args.left.now) (budget (lower c.as_slice-wide.result.now)) c.united.new.steps.taken
    c.united.new.steps.taken c.join_part.new.steps.taken (omega arith) none (omega (arith, h, r.2)) in
    let right_most = loop_most (first_choices c.args.left.now) (first_choices c.args.right.now) (sum_by first_choices (c.args.left.now ∷ c.args.right.now ∷ [])) (budget
    (lower c.as_slice-wide.result.now)) c.united.new.steps.taken c.join_part.new.steps.taken (c.join_part.new.steps.taken + owed (prices_of
    (lower c.as_slice-wide.result.now)) (is_done (memo_at c.join_part.new.memo)) s.0) (omega (arith, two)) one (omega (arith, s.2)) in
    passed_on _ c.from_residual-in_err-join_part-2.result c.in_err-join_part-2.field-0.0 c.from_residual-in_err-join_part-2.ensures
    (GivesUp-within c.args.steps.now c.join_part.new.steps c.join_part-2.new.steps (owed (prices_of (lower c.as_slice-wide.result.now)) (is_done
    (memo_at c.join_part.new.memo)) s.0) (2 * words (united_shape c.args.left.now.shape.items c.args.right.now.shape.items) * 2 ^ (length
    (united_shape c.args.left.now.shape.items c.args.right.now.shape.items) + 1)) _ (c.join_part.ensures.limit
    ∙ c.united.ensures.limit) (omega (arith, most, right_most, same_most, taken)) (c.in_err-join_part-2.ensures.refused s.0 s.1))

pub node_of-requires-clause-some : goal.node_of-requires-clause-some
node_of-requires-clause-some g c =
    let n = length c.args.left.now.shape.items in
    let levels = two_levels c.args.left.now c.args.right.now c.requires.same in
    let fit = two_fit c.args.store.now c.args.left.now c.args.right.now c.requires.left c.requires.right in
    let none_joined = join_none c.args.store.now c.args.store.now (lower c.as_slice-wide.result.now) c.new-pairs.result c.new-pairs.ensures in
    let left_joined = join_step c.args.store.now c.args.store.now c.join_part.new.store (Extends-refl c.args.store.now) c.join_part.ensures.keeps
    (lower c.as_slice-wide.result.now) [] c.args.left.now c.new-pairs.result c.join_part.new.pairs c.requires.left none_joined c.in_ok-join_part.ensures.pairs in
    let joined : IsJoined c.args.store.now c.join_part-2.new.store (lower c.as_slice-wide.result.now)
    (c.args.left.now ∷ c.args.right.now ∷ []) c.join_part-2.new.pairs = join_step c.args.store.now c.join_part.new.store c.join_part-2.new.store c.join_part.ensures.keeps
    c.join_part-2.ensures.keeps (lower c.as_slice-wide.result.now) (c.args.left.now ∷ []) c.args.right.now c.join_part.new.pairs c.join_part-2.new.pairs c.requires.right
    left_joined c.in_ok-join_part-2.ensures.pairs in
    omega (arith, joined.long, union_first c.args.store.now n (c.args.left.now ∷ c.args.right.now ∷ []) c.requires.some (omega arith) fit levels)

pub node_of-requires-clause-heights : goal.node_of-requires-clause-heights
node_of-requires-clause-heights g c =
    let none_joined = join_none c.args.store.now c.args.store.now (lower c.as_slice-wide.result.now) c.new-pairs.result c.new-pairs.ensures in
    let left_joined = join_step c.args.store.now c.args.store.now c.join_part.new.store (Extends-refl c.args.store.now) c.join_part.ensures.keeps
    (lower c.as_slice-wide.result.now) [] c.args.left.now c.new-pairs.result c.join_part.new.pairs c.requires.left none_joined c.in_ok-join_part.ensures.pairs in
    let joined : IsJoined c.args.store.now c.join_part-2.new.store (lower c.as_slice-wide.result.now)
    (c.args.left.now ∷ c.args.right.now ∷ []) c.join_part-2.new.pairs = join_step c.args.store.now c.join_part.new.store c.join_part-2.new.store c.join_part.ensures.keeps
    c.join_part-2.ensures.keeps (lower c.as_slice-wide.result.now) (c.args.left.now ∷ []) c.args.right.now c.join_part.new.pairs c.join_part-2.new.pairs c.requires.right
    left_joined c.in_ok-join_part-2.ensures.pairs in
    joined_heights c.args.store.now c.join_part-2.new.store (lower c.as_slice-wide.result.now) (c.args.left.now ∷ c.args.right.now ∷ []) c.join_part-2.new.pairs joined

pub returns-in_err-root-clause-steps : goal.returns-in_err-root-clause-steps
returns-in_err-root-clause-steps g c =
    let n = length c.args.left.now.shape.items in
    let levels = two_levels c.args.left.now c.args.right.now c.requires.same in
    let fit = two_fit c.args.store.now c.args.left.now c.args.right.now c.requires.left c.requires.right in
    let most = union_bound c.args.store.now n (c.args.left.now ∷ c.args.right.now ∷ []) c.requires.some (omega arith) fit levels in
    let two = two_sum c.args.left.now c.args.right.now in
    let is = c.as_slice-wide.ensures.value ∙ c.in_ok-shape.ensures.ok ∙ ap (λ u. united_shape u c.as_slice-second.result.now) c.as_slice-first.ensures.value
    ∙ ap (λ u. united_shape c.args.left.now.shape.items u) c.as_slice-second.ensures.value in
    let taken = ap (λ (m : Count). m.taken) c.in_ok-shape.ensures.still in
    let wide_left = subst (IsWider c.args.left.now.shape.items) (sym is) (part_wider n (c.args.left.now ∷ c.args.right.now ∷ []) 0 c.args.left.now levels refl) in
    let wide_right = subst (IsWider c.args.right.now.shape.items) (sym is) (part_wider n (c.args.left.now ∷ c.args.right.now ∷ []) 1 c.args.right.now levels refl) in
    let some_right : 0 < length c.args.right.now.shape.items = omega (arith, c.requires.some, c.requires.same) in
    let fits_right = HasShape-Extends c.args.store.now c.join_part.new.store c.join_part.ensures.keeps c.args.right.now.shape.items c.args.right.now.root c.requires.right in
    let r = part_owed c.args.store.now (memo_at c.new-memo.result) c.args.left.now.shape.items c.as_slice-wide.result.now c.args.left.now.root c.requires.some wide_left c.requires.left in
    let s = part_owed c.join_part.new.store (memo_at c.join_part.new.memo) c.args.right.now.shape.items c.as_slice-wide.result.now c.args.right.now.root some_right wide_right fits_right in
    let same_budget : budget (lower c.as_slice-wide.result.now) ≡ budget (lower (united_shape c.args.left.now.shape.items c.args.right.now.shape.items)) = ap (λ u. budget (lower u)) is in
    let same_most : (sum_by first_choices (c.args.left.now ∷ c.args.right.now ∷ [])) * (2 * (budget (lower c.as_slice-wide.result.now))) ≡ (sum_by first_choices
    (c.args.left.now ∷ c.args.right.now ∷ [])) * (2 * budget (lower (united_shape c.args.left.now.shape.items c.args.right.now.shape.items))) = ap (λ b. (sum_by first_choices
    (c.args.left.now ∷ c.args.right.now ∷ [])) * (2 * b)) same_budget in
    let none : c.united.new.steps.taken ≤ c.united.new.steps.taken + 2 * 0 * (budget (lower c.as_slice-wide.result.now)) = omega arith in
    let h = c.join_part.ensures.cheap r.0 r.1 in
    let one = loop_step 0 (first_choices c.args.left.now) (first_choices c.args.left.now) (budget (lower c.as_slice-wide.result.now)) c.united.new.steps.taken
    c.united.new.steps.taken c.join_part.new.steps.taken (omega arith) none (omega (arith, h, r.2)) in
    let h2 = c.join_part-2.ensures.cheap s.0 s.1 in
    let right_most = loop_most (first_choices c.args.left.now) (first_choices c.args.right.now) (sum_by first_choices (c.args.left.now ∷ c.args.right.now ∷ [])) (budget
    (lower c.as_slice-wide.result.now)) c.united.new.steps.taken c.join_part.new.steps.taken c.join_part-2.new.steps.taken (omega (arith, two)) one (omega (arith, h2, s.2)) in
    let none_joined = join_none c.args.store.now c.args.store.now (lower c.as_slice-wide.result.now) c.new-pairs.result c.new-pairs.ensures in
    let left_joined = join_step c.args.store.now c.args.store.now c.join_part.new.store (Extends-refl c.args.store.now) c.join_part.ensures.keeps
    (lower c.as_slice-wide.result.now) [] c.args.left.now c.new-pairs.result c.join_part.new.pairs c.requires.left none_joined c.in_ok-join_part.ensures.pairs in
    let joined : IsJoined c.args.store.now c.join_part-2.new.store (lower c.as_slice-wide.result.now)
    (c.args.left.now ∷ c.args.right.now ∷ []) c.join_part-2.new.pairs = join_step c.args.store.now c.join_part.new.store c.join_part-2.new.store c.join_part.ensures.keeps
    c.join_part-2.ensures.keeps (lower c.as_slice-wide.result.now) (c.args.left.now ∷ []) c.args.right.now c.join_part.new.pairs c.join_part-2.new.pairs c.requires.right
    left_joined c.in_ok-join_part-2.ensures.pairs in
    omega (arith, most, right_most, same_most, joined.long, c.node_of.ensures.cheap, taken)

pub returns-in_err-root-clause-refused : goal.returns-in_err-root-clause-refused
returns-in_err-root-clause-refused g c =
    let n = length c.args.left.now.shape.items in
    let levels = two_levels c.args.left.now c.args.right.now c.requires.same in
    let fit = two_fit c.args.store.now c.args.left.now c.args.right.now c.requires.left c.requires.right in
    let most = union_bound c.args.store.now n (c.args.left.now ∷ c.args.right.now ∷ []) c.requires.some (omega arith) fit levels in
    let two = two_sum c.args.left.now c.args.right.now in
    let is = c.as_slice-wide.ensures.value ∙ c.in_ok-shape.ensures.ok ∙ ap (λ u. united_shape u c.as_slice-second.result.now) c.as_slice-first.ensures.value
    ∙ ap (λ u. united_shape c.args.left.now.shape.items u) c.as_slice-second.ensures.value in
    let taken = ap (λ (m : Count). m.taken) c.in_ok-shape.ensures.still in
    let wide_left = subst (IsWider c.args.left.now.shape.items) (sym is) (part_wider n (c.args.left.now ∷ c.args.right.now ∷ []) 0 c.args.left.now levels refl) in
    let wide_right = subst (IsWider c.args.right.now.shape.items) (sym is) (part_wider n (c.args.left.now ∷ c.args.right.now ∷ []) 1 c.args.right.now levels refl) in
    let some_right : 0 < length c.args.right.now.shape.items = omega (arith, c.requires.some, c.requires.same) in
    let fits_right = HasShape-Extends c.args.store.now c.join_part.new.store c.join_part.ensures.keeps c.args.right.now.shape.items c.args.right.now.root c.requires.right in
    let r = part_owed c.args.store.now (memo_at c.new-memo.result) c.args.left.now.shape.items c.as_slice-wide.result.now c.args.left.now.root c.requires.some wide_left c.requires.left in
    let s = part_owed c.join_part.new.store (memo_at c.join_part.new.memo) c.args.right.now.shape.items c.as_slice-wide.result.now c.args.right.now.root some_right wide_right fits_right in
    let same_budget : budget (lower c.as_slice-wide.result.now) ≡ budget (lower (united_shape c.args.left.now.shape.items c.args.right.now.shape.items)) = ap (λ u. budget (lower u)) is in
    let same_most : (sum_by first_choices (c.args.left.now ∷ c.args.right.now ∷ [])) * (2 * (budget (lower c.as_slice-wide.result.now))) ≡ (sum_by first_choices
    (c.args.left.now ∷ c.args.right.now ∷ [])) * (2 * budget (lower (united_shape c.args.left.now.shape.items c.args.right.now.shape.items))) = ap (λ b. (sum_by first_choices
    (c.args.left.now ∷ c.args.right.now ∷ [])) * (2 * b)) same_budget in
    let none : c.united.new.steps.taken ≤ c.united.new.steps.taken + 2 * 0 * (budget (lower c.as_slice-wide.result.now)) = omega arith in
    let h = c.join_part.ensures.cheap r.0 r.1 in
    let one = loop_step 0 (first_choices c.args.left.now) (first_choices c.args.left.now) (budget (lower c.as_slice-wide.result.now)) c.united.new.steps.taken
    c.united.new.steps.taken c.join_part.new.steps.taken (omega arith) none (omega (arith, h, r.2)) in
    let h2 = c.join_part-2.ensures.cheap s.0 s.1 in
    let right_most = loop_most (first_choices c.args.left.now) (first_choices c.args.right.now) (sum_by first_choices (c.args.left.now ∷ c.args.right.now ∷ [])) (budget
    (lower c.as_slice-wide.result.now)) c.united.new.steps.taken c.join_part.new.steps.taken c.join_part-2.new.steps.taken (omega (arith, two)) one (omega (arith, h2, s.2)) in
    let none_joined = join_none c.args.store.now c.args.store.now (lower c.as_slice-wide.result.now) c.new-pairs.result c.new-pairs.ensures in
    let left_joined = join_step c.args.store.now c.args.store.now c.join_part.new.store (Extends-refl c.args.store.now) c.join_part.ensures.keeps
    (lower c.as_slice-wide.result.now) [] c.args.left.now c.new-pairs.result c.join_part.new.pairs c.requires.left none_joined c.in_ok-join_part.ensures.pairs in
    let joined : IsJoined c.args.store.now c.join_part-2.new.store (lower c.as_slice-wide.result.now)
    (c.args.left.now ∷ c.args.right.now ∷ []) c.join_part-2.new.pairs = join_step c.args.store.now c.join_part.new.store c.join_part-2.new.store c.join_part.ensures.keeps
    c.join_part-2.ensures.keeps (lower c.as_slice-wide.result.now) (c.args.left.now ∷ []) c.args.right.now c.join_part.new.pairs c.join_part-2.new.pairs c.requires.right
    left_joined c.in_ok-join_part-2.ensures.pairs in
    passed_on _ c.from_residual-in_err-root.result c.in_err-root.field-0.0 c.from_residual-in_err-root.ensures
    (GivesUp-within c.args.steps.now c.join_part-2.new.steps c.node_of.new.steps (length c.join_part-2.new.pairs) (2 * words
    (united_shape c.args.left.now.shape.items c.args.right.now.shape.items) * 2 ^ (length (united_shape c.args.left.now.shape.items c.args.right.now.shape.items) + 1)) _
    (c.join_part-2.ensures.limit ∙ c.join_part.ensures.limit ∙ c.united.ensures.limit)
    (omega (arith, most, right_most, same_most, joined.long, taken)) (refused_gives_up _ _ _ _ _ _ c.in_err-root.ensures.adds))

pub returns-clause-steps : goal.returns-clause-steps
returns-clause-steps g c =
    let n = length c.args.left.now.shape.items in
    let levels = two_levels c.args.left.now c.args.right.now c.requires.same in
    let fit = two_fit c.args.store.now c.args.left.now c.args.right.now c.requires.left c.requires.right in
    let most = union_bound c.args.store.now n (c.args.left.now ∷ c.args.right.now ∷ []) c.requires.some (omega arith) fit levels in
    let two = two_sum c.args.left.now c.args.right.now in
    let is = c.as_slice-wide.ensures.value ∙ c.in_ok-shape.ensures.ok ∙ ap (λ u. united_shape u c.as_slice-second.result.now) c.as_slice-first.ensures.value
    ∙ ap (λ u. united_shape c.args.left.now.shape.items u) c.as_slice-second.ensures.value in
    let taken = ap (λ (m : Count). m.taken) c.in_ok-shape.ensures.still in
    let wide_left = subst (IsWider c.args.left.now.shape.items) (sym is) (part_wider n (c.args.left.now ∷ c.args.right.now ∷ []) 0 c.args.left.now levels refl) in
    let wide_right = subst (IsWider c.args.right.now.shape.items) (sym is) (part_wider n (c.args.left.now ∷ c.args.right.now ∷ []) 1 c.args.right.now levels refl) in
    let some_right : 0 < length c.args.right.now.shape.items = omega (arith, c.requires.some, c.requires.same) in
    let fits_right = HasShape-Extends c.args.store.now c.join_part.new.store c.join_part.ensures.keeps c.args.right.now.shape.items c.args.right.now.root c.requires.right in
    let r = part_owed c.args.store.now (memo_at c.new-memo.result) c.args.left.now.shape.items c.as_slice-wide.result.now c.args.left.now.root c.requires.some wide_left c.requires.left in
    let s = part_owed c.join_part.new.store (memo_at c.join_part.new.memo) c.args.right.now.shape.items c.as_slice-wide.result.now c.args.right.now.root some_right wide_right fits_right in
    let same_budget : budget (lower c.as_slice-wide.result.now) ≡ budget (lower (united_shape c.args.left.now.shape.items c.args.right.now.shape.items)) = ap (λ u. budget (lower u)) is in
    let same_most : (sum_by first_choices (c.args.left.now ∷ c.args.right.now ∷ [])) * (2 * (budget (lower c.as_slice-wide.result.now))) ≡ (sum_by first_choices
    (c.args.left.now ∷ c.args.right.now ∷ [])) * (2 * budget (lower (united_shape c.args.left.now.shape.items c.args.right.now.shape.items))) = ap (λ b. (sum_by first_choices
    (c.args.left.now ∷ c.args.right.now ∷ [])) * (2 * b)) same_budget in
    let none : c.united.new.steps.taken ≤ c.united.new.steps.taken + 2 * 0 * (budget (lower c.as_slice-wide.result.now)) = omega arith in
    let h = c.join_part.ensures.cheap r.0 r.1 in
    let one = loop_step 0 (first_choices c.args.left.now) (first_choices c.args.left.now) (budget (lower c.as_slice-wide.result.now)) c.united.new.steps.taken
    c.united.new.steps.taken c.join_part.new.steps.taken (omega arith) none (omega (arith, h, r.2)) in
    let h2 = c.join_part-2.ensures.cheap s.0 s.1 in
    let right_most = loop_most (first_choices c.args.left.now) (first_choices c.args.right.now) (sum_by first_choices (c.args.left.now ∷ c.args.right.now ∷ [])) (budget
    (lower c.as_slice-wide.result.now)) c.united.new.steps.taken c.join_part.new.steps.taken c.join_part-2.new.steps.taken (omega (arith, two)) one (omega (arith, h2, s.2)) in
    let none_joined = join_none c.args.store.now c.args.store.now (lower c.as_slice-wide.result.now) c.new-pairs.result c.new-pairs.ensures in
    let left_joined = join_step c.args.store.now c.args.store.now c.join_part.new.store (Extends-refl c.args.store.now) c.join_part.ensures.keeps
    (lower c.as_slice-wide.result.now) [] c.args.left.now c.new-pairs.result c.join_part.new.pairs c.requires.left none_joined c.in_ok-join_part.ensures.pairs in
    let joined : IsJoined c.args.store.now c.join_part-2.new.store (lower c.as_slice-wide.result.now)
    (c.args.left.now ∷ c.args.right.now ∷ []) c.join_part-2.new.pairs = join_step c.args.store.now c.join_part.new.store c.join_part-2.new.store c.join_part.ensures.keeps
    c.join_part-2.ensures.keeps (lower c.as_slice-wide.result.now) (c.args.left.now ∷ []) c.args.right.now c.join_part.new.pairs c.join_part-2.new.pairs c.requires.right
    left_joined c.in_ok-join_part-2.ensures.pairs in
    omega (arith, most, right_most, same_most, joined.long, c.node_of.ensures.cheap, taken)

pub returns-clause-united : goal.returns-clause-united
returns-clause-united g c =
    let n = length c.args.left.now.shape.items in
    let levels = two_levels c.args.left.now c.args.right.now c.requires.same in
    let fit = two_fit c.args.store.now c.args.left.now c.args.right.now c.requires.left c.requires.right in
    let is = c.as_slice-wide.ensures.value ∙ c.in_ok-shape.ensures.ok ∙ ap (λ u. united_shape u c.as_slice-second.result.now) c.as_slice-first.ensures.value
    ∙ ap (λ u. united_shape c.args.left.now.shape.items u) c.as_slice-second.ensures.value in
    let none_joined = join_none c.args.store.now c.args.store.now (lower c.as_slice-wide.result.now) c.new-pairs.result c.new-pairs.ensures in
    let left_joined = join_step c.args.store.now c.args.store.now c.join_part.new.store (Extends-refl c.args.store.now) c.join_part.ensures.keeps
    (lower c.as_slice-wide.result.now) [] c.args.left.now c.new-pairs.result c.join_part.new.pairs c.requires.left none_joined c.in_ok-join_part.ensures.pairs in
    let joined : IsJoined c.args.store.now c.join_part-2.new.store (lower c.as_slice-wide.result.now)
    (c.args.left.now ∷ c.args.right.now ∷ []) c.join_part-2.new.pairs = join_step c.args.store.now c.join_part.new.store c.join_part-2.new.store c.join_part.ensures.keeps
    c.join_part-2.ensures.keeps (lower c.as_slice-wide.result.now) (c.args.left.now ∷ []) c.args.right.now c.join_part.new.pairs c.join_part-2.new.pairs c.requires.right
    left_joined c.in_ok-join_part-2.ensures.pairs in
    let firsts = ap first_number c.as_slice-first.ensures.value in
    let seconds = ap first_number c.as_slice-second.ensures.value in
    let whole = subst (λ u. IsJoined c.args.store.now c.join_part-2.new.store (lower u) (c.args.left.now ∷ c.args.right.now ∷ []) c.join_part-2.new.pairs) c.as_slice-wide.ensures.value joined in
    let some = union_first c.args.store.now n (c.args.left.now ∷ c.args.right.now ∷ []) c.requires.some (omega arith) fit levels in
    let shape : c.in_ok-shape.shape.items ≡ (united_shape c.args.left.now.shape.items c.args.right.now.shape.items) = sym c.as_slice-wide.ensures.value ∙ is in
    record {
      shape = shape;
      fits = joined_root c.args.store.now c.join_part-2.new.store c.node_of.new.self c.node_of.ensures.keeps c.in_ok-shape.shape.items
          (c.args.left.now ∷ c.args.right.now ∷ []) c.join_part-2.new.pairs c.in_ok-root.root
          (united_levels c.args.store.now n (c.args.left.now ∷ c.args.right.now ∷ []) c.in_ok-shape.shape.items c.requires.some (omega arith) fit levels shape) (omega
          (arith, joined.long, some)) (ap first_number shape ∙ parts_first n (c.args.left.now ∷ c.args.right.now ∷ []) levels) whole c.in_ok-root.ensures.adds.here;
      left_choices = sym (first_at c.as_slice-first.result.now) ∙ firsts;
      right_choices = sym (first_at c.as_slice-second.result.now) ∙ seconds;
      left = joined_part c.args.store.now c.join_part-2.new.store c.node_of.new.self c.node_of.ensures.keeps
          (c.args.left.now ∷ c.args.right.now ∷ []) c.join_part-2.new.pairs _ whole c.in_ok-root.ensures.adds.here 0 c.args.left.now refl;
      right = subst (λ k. HasPart c.args.store.now c.node_of.new.self c.args.right.now k (record { root = c.in_ok-root.root; shape = c.in_ok-shape.shape })) (one_sum c.args.left.now)
          (joined_part c.args.store.now c.join_part-2.new.store c.node_of.new.self c.node_of.ensures.keeps (c.args.left.now ∷ c.args.right.now ∷ []) c.join_part-2.new.pairs
          (record { root = c.in_ok-root.root; shape = c.in_ok-shape.shape }) whole c.in_ok-root.ensures.adds.here 1 c.args.right.now refl);
    }
