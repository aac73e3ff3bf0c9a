use Rattle.std.proofs.Common.{◌<◌, ◌^◌, ◌++◌, ◌∷◌, [], ◌∙◌, List, All, take, get_or, ap, sym, subst, arith}
use Rattle.std.proofs.lemmas.Result.{err_from_is_err_and}
use Rattle.aq_sets.specs.Vectors.{Listed, lists, kets_vector}
use Rattle.aq_sets.specs.declared.sets.Term.{Term}
use Rattle.aq_sets.specs.declared.sets.Expr.TheVariants as expr
use Rattle.aq_plain.specs.Listing.{lists_in_turn}
use Rattle.aq_sets.proofs.ToldLaws.{expr_at, few_all}
use Rattle.aq_plain.proofs.TakeLaws.{fit_append, fit_same, stops_same}
use Rattle.aq_plain.proofs.PartLaws.{in_turn_more, stops_in_turn, few_kets, two_times, takes_kets, takes_all, takes_tensor, takes_power, stops_tensor_left, stops_tensor_right, stops_tensor, stops_power_base, stops_power_at}
use Rattle.aq_plain.proofs.listing.+listing.Goals as goal

-- ---- part by part

pub list_rows-returns-in_err-more : goal.list_rows-returns-in_err-more
list_rows-returns-in_err-more t c =
    let p = err_from_is_err_and c.from_residual-in_err-more.result c.from_residual-in_err-more.ensures.1 in
    let same = ap (lists_in_turn c.args.exprs.now) c.as_slice-part-items.ensures.value ∙ c.in_ok-parts.ensures.same in
    rw (p.1, p.2)
    (stops_same _ _ _ (ap (λ (z : Listed). z.products) same)
    (stops_in_turn c.args.exprs.now c.as_slice-part-items.result.now c.loop-part.part-index _ (omega arith) c.in_err-more.ensures))

pub list_rows-loop-part-preserved : goal.list_rows-loop-part-preserved
list_rows-loop-part-preserved t c =
    let exprs = c.args.exprs.now in
    let parts = c.as_slice-part-items.result.now in
    let i = c.loop-part.part-index in
    let before = lists_in_turn exprs (take i parts) in
    let here = lists exprs (get_or parts i 0) in
    let more = in_turn_more exprs parts i (omega arith) in
    record {
      made =
          c.in_ok-append.ensures.items ∙ (λ k. c.loop-part.invariant.made k ++ c.in_ok-more.ensures.0 k)
          ∙ ap (λ (z : Listed). z.vectors) more;
      fits =
          fit_same _ _ (ap (λ (z : Listed). z.products) more)
          (fit_append before.products here.products c.loop-part.invariant.fits c.in_ok-more.ensures.1);
    }

-- ---- brackets and bases

pub part_rows-unreachable-requires : goal.part_rows-unreachable-requires
part_rows-unreachable-requires t c =
    let h = expr_at c.args.exprs.now c.args.part _ _ c.requires.within c.index-exprs-part.is c.in-Union.is in
    c.requires.whole (expr.Union c.in-Union.left c.in-Union.right) h

pub part_rows-kets_row-requires-clause-few : goal.part_rows-kets_row-requires-clause-few
part_rows-kets_row-requires-clause-few t c =
    let h = expr_at c.args.exprs.now c.args.part _ _ c.requires.within c.index-exprs-part.is c.in-Kets.is in
    few_kets c.args.exprs.now c.requires.valid c.args.part c.in-Kets.qubits c.in-Kets.terms h

pub part_rows-kets_row-requires-clause-within : goal.part_rows-kets_row-requires-clause-within
part_rows-kets_row-requires-clause-within t c =
    let h = expr_at c.args.exprs.now c.args.part _ _ c.requires.within c.index-exprs-part.is c.in-Kets.is in
    let v = c.requires.valid.each c.args.part _ h in
    subst (λ (ts : List Term). All (λ t. t.index < 2 ^ c.in-Kets.qubits) ts) (sym c.as_slice.ensures) v.1

pub part_rows-returns-in_ok-push-in-Kets : goal.part_rows-returns-in_ok-push-in-Kets
part_rows-returns-in_ok-push-in-Kets t c =
    let h = expr_at c.args.exprs.now c.args.part _ _ c.requires.within c.index-exprs-part.is c.in-Kets.is in
    let row = c.in_ok-row-in-Kets.ensures ∙ ap (kets_vector c.in-Kets.qubits) c.as_slice.ensures in
    takes_kets c.args.exprs.now c.requires.valid c.args.part c.in-Kets.qubits c.in-Kets.terms h c.push.new.self.items
    (c.in_ok-push-in-Kets.ensures.items ∙ (λ k. c.new-rows.ensures.items k ++ row k ∷ []))

pub part_rows-basis_rows-requires : goal.part_rows-basis_rows-requires
part_rows-basis_rows-requires t c =
    let h = expr_at c.args.exprs.now c.args.part _ _ c.requires.within c.index-exprs-part.is c.in-All.is in
    few_all c.args.exprs.now c.requires.valid c.args.part c.in-All.qubits h

pub part_rows-returns-in_ok-rows-in-All : goal.part_rows-returns-in_ok-rows-in-All
part_rows-returns-in_ok-rows-in-All t c =
    let h = expr_at c.args.exprs.now c.args.part _ _ c.requires.within c.index-exprs-part.is c.in-All.is in
    takes_all c.args.exprs.now c.requires.valid c.args.part c.in-All.qubits h c.in_ok-rows-in-All.rows.items c.in_ok-rows-in-All.ensures

-- ---- tensors

pub part_rows-list_rows-requires : goal.part_rows-list_rows-requires
part_rows-list_rows-requires t c =
    let h = expr_at c.args.exprs.now c.args.part _ _ c.requires.within c.index-exprs-part.is c.in-Tensor.is in
    let v = c.requires.valid.each c.args.part _ h in
    let less = v.0 in
    (omega (arith, c.decreases), (c.requires.valid, omega arith))

pub part_rows-list_rows-requires-in-Tensor : goal.part_rows-list_rows-requires-in-Tensor
part_rows-list_rows-requires-in-Tensor t c =
    let h = expr_at c.args.exprs.now c.args.part _ _ c.requires.within c.index-exprs-part.is c.in-Tensor.is in
    let v = c.requires.valid.each c.args.part _ h in
    let less = v.1 in
    (omega (arith, c.decreases), (c.requires.valid, omega arith))

pub part_rows-returns-in_err-left_rows-in-Tensor : goal.part_rows-returns-in_err-left_rows-in-Tensor
part_rows-returns-in_err-left_rows-in-Tensor t c =
    let p = err_from_is_err_and c.from_residual-in_err-left_rows-in-Tensor.result c.from_residual-in_err-left_rows-in-Tensor.ensures.1 in
    let h = expr_at c.args.exprs.now c.args.part _ _ c.requires.within c.index-exprs-part.is c.in-Tensor.is in
    rw (p.1, p.2) (stops_tensor_left c.args.exprs.now c.requires.valid c.args.part c.in-Tensor.left c.in-Tensor.right h _ c.in_err-left_rows-in-Tensor.ensures)

pub part_rows-returns-in_err-right_rows-in-Tensor : goal.part_rows-returns-in_err-right_rows-in-Tensor
part_rows-returns-in_err-right_rows-in-Tensor t c =
    let p = err_from_is_err_and c.from_residual-in_err-right_rows-in-Tensor.result c.from_residual-in_err-right_rows-in-Tensor.ensures.1 in
    let h = expr_at c.args.exprs.now c.args.part _ _ c.requires.within c.index-exprs-part.is c.in-Tensor.is in
    rw (p.1, p.2) (stops_tensor_right c.args.exprs.now c.requires.valid c.args.part c.in-Tensor.left c.in-Tensor.right h _ c.in_err-right_rows-in-Tensor.ensures)

pub part_rows-returns-in_err-rows-in-Tensor : goal.part_rows-returns-in_err-rows-in-Tensor
part_rows-returns-in_err-rows-in-Tensor t c =
    let p = err_from_is_err_and c.from_residual-in_err-rows-in-Tensor.result c.from_residual-in_err-rows-in-Tensor.ensures.1 in
    let h = expr_at c.args.exprs.now c.args.part _ _ c.requires.within c.index-exprs-part.is c.in-Tensor.is in
    rw (p.1, p.2)
    (stops_tensor c.args.exprs.now c.requires.valid c.args.part c.in-Tensor.left c.in-Tensor.right h _ _ _
    (c.as_slice-in-Tensor.ensures.value ∙ c.in_ok-left_rows-in-Tensor.ensures.0) (c.as_slice-in-Tensor-2.ensures.value ∙ c.in_ok-right_rows-in-Tensor.ensures.0)
    c.in_err-rows-in-Tensor.ensures)

pub part_rows-returns-in_ok-rows-in-Tensor : goal.part_rows-returns-in_ok-rows-in-Tensor
part_rows-returns-in_ok-rows-in-Tensor t c =
    let h = expr_at c.args.exprs.now c.args.part _ _ c.requires.within c.index-exprs-part.is c.in-Tensor.is in
    takes_tensor c.args.exprs.now c.requires.valid c.args.part c.in-Tensor.left c.in-Tensor.right h
    c.as_slice-in-Tensor.result.now c.as_slice-in-Tensor-2.result.now c.in_ok-rows-in-Tensor.rows.items
    (c.as_slice-in-Tensor.ensures.value ∙ c.in_ok-left_rows-in-Tensor.ensures.0) c.in_ok-left_rows-in-Tensor.ensures.1
    (c.as_slice-in-Tensor-2.ensures.value ∙ c.in_ok-right_rows-in-Tensor.ensures.0) c.in_ok-right_rows-in-Tensor.ensures.1
    c.in_ok-rows-in-Tensor.ensures.0 c.in_ok-rows-in-Tensor.ensures.1

-- ---- powers

pub part_rows-list_rows-requires-in-Power : goal.part_rows-list_rows-requires-in-Power
part_rows-list_rows-requires-in-Power t c =
    let h = expr_at c.args.exprs.now c.args.part _ _ c.requires.within c.index-exprs-part.is c.in-Power.is in
    let less = c.requires.valid.each c.args.part _ h in
    (omega (arith, c.decreases), (c.requires.valid, omega arith))

pub part_rows-returns-in_err-base_rows-in-Power : goal.part_rows-returns-in_err-base_rows-in-Power
part_rows-returns-in_err-base_rows-in-Power t c =
    let p = err_from_is_err_and c.from_residual-in_err-base_rows-in-Power.result c.from_residual-in_err-base_rows-in-Power.ensures.1 in
    let h = expr_at c.args.exprs.now c.args.part _ _ c.requires.within c.index-exprs-part.is c.in-Power.is in
    rw (p.1, p.2) (stops_power_base c.args.exprs.now c.requires.valid c.args.part c.in-Power.base c.in-Power.times h _ c.in_err-base_rows-in-Power.ensures)

pub part_rows-power_rows-requires : goal.part_rows-power_rows-requires
part_rows-power_rows-requires t c =
    let h = expr_at c.args.exprs.now c.args.part _ _ c.requires.within c.index-exprs-part.is c.in-Power.is in
    two_times c.args.exprs.now c.requires.valid c.args.part c.in-Power.base c.in-Power.times h c.requires.whole

pub part_rows-returns-in_err-rows-in-Power : goal.part_rows-returns-in_err-rows-in-Power
part_rows-returns-in_err-rows-in-Power t c =
    let p = err_from_is_err_and c.from_residual-in_err-rows-in-Power.result c.from_residual-in_err-rows-in-Power.ensures.1 in
    let h = expr_at c.args.exprs.now c.args.part _ _ c.requires.within c.index-exprs-part.is c.in-Power.is in
    rw (p.1, p.2)
    (stops_power_at c.args.exprs.now c.requires.valid c.args.part c.in-Power.base c.in-Power.times h _ _
    (c.as_slice-in-Power.ensures.value ∙ c.in_ok-base_rows-in-Power.ensures.0) c.in_err-rows-in-Power.ensures)

pub part_rows-returns-in_ok-rows-in-Power : goal.part_rows-returns-in_ok-rows-in-Power
part_rows-returns-in_ok-rows-in-Power t c =
    let h = expr_at c.args.exprs.now c.args.part _ _ c.requires.within c.index-exprs-part.is c.in-Power.is in
    takes_power c.args.exprs.now c.requires.valid c.args.part c.in-Power.base c.in-Power.times h
    c.as_slice-in-Power.result.now c.in_ok-rows-in-Power.rows.items
    (c.as_slice-in-Power.ensures.value ∙ c.in_ok-base_rows-in-Power.ensures.0) c.in_ok-base_rows-in-Power.ensures.1
    c.in_ok-rows-in-Power.ensures.0 c.in_ok-rows-in-Power.ensures.1
