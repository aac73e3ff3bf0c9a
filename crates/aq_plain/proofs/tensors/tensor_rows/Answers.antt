use Rattle.std.proofs.Common.{◌∙◌, ◌++◌, List, take, ap, arith}
use Rattle.std.specs.Prelude.{map}
use Rattle.std.specs.List.{flat_map}
use Rattle.std.proofs.lemmas.Result.{err_from_is_err_and}
use Rattle.aq_sets.specs.Vectors.{Vector, tensor, pairs, all_pairs}
use Rattle.aq_plain.proofs.TakeLaws.{fit_append, fit_same, flat_map_take_more, stops_at}
use Rattle.aq_plain.proofs.tensors.tensor_rows.Goals as goal

pub returns-in_err-push_tensors : goal.returns-in_err-push_tensors
returns-in_err-push_tensors c =
    let p = err_from_is_err_and c.from_residual.result c.from_residual.ensures.1 in
    let h = rw c.amps.ensures at c.in_err-push_tensors.ensures in
    rw (p.1, p.2) (stops_at (λ u. flat_map (pairs u) c.args.right.now) c.args.left.now c.loop-row.row-index c.row-item.result _ (omega arith) c.row-item.is h)

pub loop-row-preserved : goal.loop-row-preserved
loop-row-preserved c =
    let i = c.loop-row.row-index in
    let row = c.row-item.result in
    let left = c.args.left.now in
    let right = c.args.right.now in
    let h = rw c.amps.ensures at c.in_ok-push_tensors.ensures in
    record {
      made =
          h.0 ∙ ap (λ (xs : List Vector). xs ++ map (tensor row) right) c.loop-row.invariant.made
          ∙ flat_map_take_more (λ u. map (tensor u) right) left i row (omega arith) c.row-item.is;
      fits =
          fit_same (all_pairs (take i left) right ++ flat_map (pairs row) right) _ (flat_map_take_more (λ u. flat_map (pairs u) right) left i row (omega arith) c.row-item.is)
          (fit_append (all_pairs (take i left) right) (flat_map (pairs row) right) c.loop-row.invariant.fits h.1);
    }
