use Rattle.std.proofs.Common.{◌+◌, ◌*◌, ◌++◌, ap, arith}
use Rattle.aq_store.proofs.StopLemmas.{passed_on}
use Rattle.aq_set_build.specs.Budgets.{walk_budget, weight}
use Rattle.aq_set_build.specs.Tensors.{IsTensorCause}
use Rattle.aq_set_build.proofs.GrowthLemmas.{grows_within, stops_within}
use Rattle.aq_set_build.proofs.WeightLemmas.{hang_budget, shape_some}
use Rattle.aq_set_build.proofs.tensors.tensor.Goals as goal

pub returns-in_err-root-clause-grows : goal.returns-in_err-root-clause-grows
returns-in_err-root-clause-grows c =
    let l = shape_some c.args.store.now c.args.left.now.shape.items c.args.left.now.root c.requires.left in
    let r = shape_some c.args.store.now c.args.right.now.shape.items c.args.right.now.root c.requires.right in
    let most = hang_budget c.args.left.now.shape.items c.args.right.now.shape.items l r in
    let e = ap (walk_budget (walk_budget 1 c.args.right.now.shape.items + 1)) c.as_slice-shape.ensures.value in
    grows_within (walk_budget (walk_budget 1 c.args.right.now.shape.items + 1) c.as_slice-shape.result.now) _ _ _ _ _ c.hang_at.ensures.grows (omega arith)

pub returns-in_err-root-clause-stops : goal.returns-in_err-root-clause-stops
returns-in_err-root-clause-stops c =
    let l = shape_some c.args.store.now c.args.left.now.shape.items c.args.left.now.root c.requires.left in
    let r = shape_some c.args.store.now c.args.right.now.shape.items c.args.right.now.root c.requires.right in
    let most = hang_budget c.args.left.now.shape.items c.args.right.now.shape.items l r in
    let e = ap (walk_budget (walk_budget 1 c.args.right.now.shape.items + 1)) c.as_slice-shape.ensures.value in
    let P = IsTensorCause c.args.store.now c.args.left.now c.args.right.now in
    passed_on _ c.from_residual.result c.in_err-root.field-0.0 c.from_residual.ensures
    (stops_within P P (walk_budget (walk_budget 1 c.args.right.now.shape.items + 1) c.as_slice-shape.result.now) (2 * weight (c.args.left.now.shape.items ++ c.args.right.now.shape.items))
    c.args.steps.now c.hang_at.new.steps c.in_err-root.field-0.0 (omega arith) (λ x y h. h) c.in_err-root.ensures.stops)

pub returns-in_err-shape-clause-grows : goal.returns-in_err-shape-clause-grows
returns-in_err-shape-clause-grows c =
    let l = shape_some c.args.store.now c.args.left.now.shape.items c.args.left.now.root c.requires.left in
    let r = shape_some c.args.store.now c.args.right.now.shape.items c.args.right.now.root c.requires.right in
    let most = hang_budget c.args.left.now.shape.items c.args.right.now.shape.items l r in
    let e = ap (walk_budget (walk_budget 1 c.args.right.now.shape.items + 1)) c.as_slice-shape.ensures.value in
    grows_within (walk_budget (walk_budget 1 c.args.right.now.shape.items + 1) c.as_slice-shape.result.now) _ _ _ _ _ c.hang_at.ensures.grows (omega arith)

pub returns-clause-grows : goal.returns-clause-grows
returns-clause-grows c =
    let l = shape_some c.args.store.now c.args.left.now.shape.items c.args.left.now.root c.requires.left in
    let r = shape_some c.args.store.now c.args.right.now.shape.items c.args.right.now.root c.requires.right in
    let most = hang_budget c.args.left.now.shape.items c.args.right.now.shape.items l r in
    let e = ap (walk_budget (walk_budget 1 c.args.right.now.shape.items + 1)) c.as_slice-shape.ensures.value in
    grows_within (walk_budget (walk_budget 1 c.args.right.now.shape.items + 1) c.as_slice-shape.result.now) _ _ _ _ _ c.hang_at.ensures.grows (omega arith)
