use Rattle.std.proofs.Common.{◌∙◌, ◌++◌, ◌∷◌, [], List, take, ap, arith}
use Rattle.std.specs.Prelude.{map}
use Rattle.std.proofs.lemmas.List.{append_assoc, take_all}
use Rattle.aq_ring.specs.Fractions.{Amplitude}
use Rattle.aq_ring.specs.Amplitudes.{product}
use Rattle.aq_plain.proofs.TakeLaws.{fit_one, fit_append, fit_same, fit_more, map_take_more}
use Rattle.aq_plain.proofs.tensors.push_products.Goals as goal

pub loop-amp-preserved : goal.loop-amp-preserved
loop-amp-preserved c =
    let i = c.loop-amp.amp-index in
    let a = c.amp-item.result in
    let right = c.args.right.now in
    let left = c.args.left in
    let before = c.args.amps.now.items in
    record {
      made =
          c.in_ok-push.ensures.items ∙ ap (λ (xs : List Amplitude). xs ++ c.in-Some.product ∷ []) c.loop-amp.invariant.made
          ∙ append_assoc before (map (product left) (take i right)) (c.in-Some.product ∷ [])
          ∙ ap (λ (ys : List Amplitude). before ++ ys)
          (ap (λ (y : Amplitude). map (product left) (take i right) ++ y ∷ []) c.in-Some.ensures.1 ∙ map_take_more (product left) right i a (omega arith) c.amp-item.is);
      fits =
          fit_more left right i a (omega arith) c.amp-item.is
          (fit_append (map (λ b. (left, b)) (take i right)) ((left, a) ∷ []) c.loop-amp.invariant.fits (fit_one left a c.in-Some.ensures.0));
    }

pub returns : goal.returns
returns c =
    let i = c.loop-amp.amp-index in
    let right = c.args.right.now in
    let e = take_all i right (omega arith) in (
      c.loop-amp.invariant.made ∙ ap (λ (xs : List Amplitude). c.args.amps.now.items ++ map (product c.args.left) xs) e,
      fit_same (map (λ b. (c.args.left, b)) (take i right)) (map (λ b. (c.args.left, b)) right) (ap (map (λ b. (c.args.left, b))) e) c.loop-amp.invariant.fits,
    )
