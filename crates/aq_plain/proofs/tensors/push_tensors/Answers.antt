use Rattle.std.proofs.Common.{◌∙◌, ◌++◌, ◌∷◌, [], List, take, ap, arith}
use Rattle.std.specs.Prelude.{map}
use Rattle.std.specs.List.{flat_map}
use Rattle.std.proofs.lemmas.List.{append_assoc}
use Rattle.std.proofs.lemmas.Result.{err_from_is_err_and}
use Rattle.aq_sets.specs.Vectors.{Vector, tensor, pairs}
use Rattle.aq_plain.proofs.TakeLaws.{fit_append, fit_same, map_take_more, flat_map_take_more, stops_at}
use Rattle.aq_plain.proofs.tensors.push_tensors.Goals as goal

pub returns-in_err-product : goal.returns-in_err-product
returns-in_err-product c =
    let p = err_from_is_err_and c.from_residual.result c.from_residual.ensures.1 in
    let h = rw c.amps.ensures at c.in_err-product.ensures in
    rw (p.1, p.2) (stops_at (pairs c.args.left.now) c.args.right.now c.loop-row.row-index c.row-item.result _ (omega arith) c.row-item.is h)

pub loop-row-preserved : goal.loop-row-preserved
loop-row-preserved c =
    let i = c.loop-row.row-index in
    let row = c.row-item.result in
    let left = c.args.left.now in
    let right = c.args.right.now in
    let before = c.args.rows.now.items in
    let h = rw c.amps.ensures at c.in_ok-product.ensures in
    record {
      made =
          c.in_ok-push.ensures.items ∙ ap (λ (xs : List Vector). xs ++ c.in_ok-product.product ∷ []) c.loop-row.invariant.made
          ∙ append_assoc before (map (tensor left) (take i right)) (c.in_ok-product.product ∷ [])
          ∙ ap (λ (ys : List Vector). before ++ ys)
          (ap (λ (y : Vector). map (tensor left) (take i right) ++ y ∷ []) h.0 ∙ map_take_more (tensor left) right i row (omega arith) c.row-item.is);
      fits =
          fit_same (flat_map (pairs left) (take i right) ++ pairs left row) _ (flat_map_take_more (pairs left) right i row (omega arith) c.row-item.is)
          (fit_append (flat_map (pairs left) (take i right)) (pairs left row) c.loop-row.invariant.fits h.1);
    }
