use Rattle.std.proofs.Common.{◌∙◌, ◌++◌, List, take, ap, arith}
use Rattle.std.specs.Prelude.{map}
use Rattle.std.proofs.lemmas.Result.{err_from_is_err_and}
use Rattle.aq_ring.specs.Fractions.{Amplitude}
use Rattle.aq_ring.specs.Amplitudes.{product}
use Rattle.aq_sets.specs.Vectors.{pairs}
use Rattle.aq_plain.proofs.TakeLaws.{fit_none, fit_append, fit_same, tensor_none, tensor_more, flat_map_take_more, stops_at}
use Rattle.aq_plain.proofs.tensors.tensor_row.Goals as goal

pub loop-amp-init : goal.loop-amp-init
loop-amp-init c = record { made = c.new-amps.ensures.items ∙ tensor_none c.args.right.now; fits = fit_none }

pub returns-in_err-push_products : goal.returns-in_err-push_products
returns-in_err-push_products c =
    let p = err_from_is_err_and c.from_residual.result c.from_residual.ensures.1 in
    rw (p.1, p.2) (stops_at (λ a. map (λ b. (a, b)) c.args.right.now) c.args.left.now c.loop-amp.amp-index c.amp-item.result _ (omega arith) c.amp-item.is c.in_err-push_products.ensures)

pub loop-amp-preserved : goal.loop-amp-preserved
loop-amp-preserved c =
    let i = c.loop-amp.amp-index in
    let a = c.amp-item.result in
    let left = c.args.left.now in
    let right = c.args.right.now in
    record {
      made =
          c.in_ok-push_products.ensures.0 ∙ ap (λ (xs : List Amplitude). xs ++ map (product a) right) c.loop-amp.invariant.made
          ∙ tensor_more left right i a (omega arith) c.amp-item.is;
      fits =
          fit_same (pairs (take i left) right ++ map (λ b. (a, b)) right) _ (flat_map_take_more (λ a. map (λ b. (a, b)) right) left i a (omega arith) c.amp-item.is)
          (fit_append (pairs (take i left) right) (map (λ b. (a, b)) right) c.loop-amp.invariant.fits c.in_ok-push_products.ensures.1);
    }
