use Rattle.std.proofs.Common.{◌≡◌, ◌+◌, ℕ, List, [], ◌∷◌, length, Some, refl, sym, ap, subst, ◌∙◌, arith}
use Rattle.std.proofs.lemmas.List.{length-append}
use Rattle.std.proofs.lemmas.Option.{slice_get-get_or}
use Rattle.aq_cert.specs.declared.cert.Rel.{Rel}
use Rattle.aq_include.specs.Answers.{IsRootRel}
use Rattle.aq_include.proofs.SizeLemmas.{root-size}
use Rattle.aq_include.proofs.IncludeLemmas.{root-more, weight-more}
use Rattle.aq_include.proofs.inclusion.root_macro.Goals as goal

pub loop-number-preserved : goal.loop-number-preserved
loop-number-preserved c =
    let rel : Rel = record { goal = c.loop-number.number; pairs = c.in_ok-pairs.pairs } in
    let pairs : rel.pairs ≡ (c.place-root.result, c.index-goals-number.result.root) ∷ [] =
    c.in_ok-pairs.ensures ∙ ap (λ (z : ℕ). (c.place-root.result, z) ∷ []) c.place.ensures in
    let here = slice_get-get_or c.args.goals.now c.loop-number.number c.index-goals-number.result c.loop-number-test.true ∙ ap Some (sym c.index-goals-number.is) in
    record {
      count = ap (λ (l : List Rel). length l) c.in_ok-push.ensures.ok ∙ length-append c.loop-number.rels (rel ∷ []) ∙ ap (λ z. z + 1) c.loop-number.invariant.count;
      rels = root-more c.place-root.result c.args.goals.now c.loop-number.number c.loop-number.rels c.push.new.self rel c.loop-number.invariant.count c.in_ok-push.ensures.ok c.loop-number.invariant.rels
          (record { goal = c.index-goals-number.result; listed = here; number = refl; pairs = pairs });
      weight = weight-more c.args.goals.now c.loop-number.number c.place-root.result c.index-goals-number.result c.loop-number.rels c.push.new.self rel c.loop-number-test.true c.index-goals-number.is refl pairs
          c.in_ok-push.ensures.ok c.loop-number.invariant.weight;
    }

pub returns-clause-rels : goal.returns-clause-rels
returns-clause-rels c = λ k rel here. subst (λ (r : ℕ). IsRootRel r c.args.goals.now k rel) c.place-root.ensures (c.loop-number.invariant.rels k rel here)

pub returns-clause-size : goal.returns-clause-size
returns-clause-size c =
    root-size (record { domain = c.in_ok-domain.domain; rels = c.loop-number.rels }) c.place-root.result c.args.goals.now c.in_ok-domain.ensures c.loop-number.invariant.rels
    (omega (arith, c.loop-number.invariant.count, c.loop-number-test.false, c.loop-number.auto.number-end))
