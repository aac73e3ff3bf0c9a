use Rattle.std.proofs.Common.{◌≡◌, ℕ, zero, suc, List, [], ◌∷◌, Ok, refl, sym, ◌∙◌, drop, length, arith, rules}
use Rattle.std.specs.Prelude.{min}
use Rattle.std.proofs.lemmas.Slice.Zip.{zip_end}
use Rattle.aq_parse.specs.declared.tree.Spot.{Spot}
use Rattle.aq_elab.specs.Calls.{same_sizes}
use Rattle.aq_elab.specs.declared.scope.Span.{Span}
use Rattle.aq_elab.proofs.calls.check_sizes.Goals as goal

same_sizes-end : (n k : ℕ) (spots : List Spot) (spans : List Span) → k ≡ min (length spots) (length spans) → same_sizes n (drop k spots) (drop k spans) ≡ Ok tt
same_sizes-end n zero [] spans e = refl
same_sizes-end n zero (spot ∷ spots) [] e = refl
same_sizes-end n zero (spot ∷ spots) (span ∷ spans) e = absurd (omega arith)
same_sizes-end n (suc k) [] spans e = refl
same_sizes-end n (suc k) (spot ∷ spots) [] e = absurd (omega arith)
same_sizes-end n (suc k) (spot ∷ spots) (span ∷ spans) e = same_sizes-end n k spots spans (omega arith)

pub returns : goal.returns
returns c =
    let e = zip_end c.args.spots.now c.args.spans.now c.loop-spot.yielded c.into_iter-spot-iterator.result c.loop-spot.spot-iterator c.next.new.self c.next.result (search rules) (search rules) c.loop-spot.yielded_by c.in-None.is c.next.ensures.steps in
    sym (same_sizes-end c.args.times (length c.loop-spot.yielded) c.args.spots.now c.args.spans.now e) ∙ c.loop-spot.invariant
