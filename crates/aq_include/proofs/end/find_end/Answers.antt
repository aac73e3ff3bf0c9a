use Rattle.std.proofs.Common.{◌≡◌, ◌≤◌, ℕ, Bool, true, false, true≢false, List, [], ◌∷◌, length, Contains, Option, Some, None, IfSome, refl, sym, ap, subst, ◌∙◌, arith, slice_get}
use Rattle.std.proofs.lemmas.Option.{slice_get-get_or, slice_get_within}
use Rattle.aq_ring.specs.Fractions.{Amplitude}
use Rattle.aq_label.specs.declared.Ratio.TheVariants as ratio
use Rattle.aq_store.specs.Nodes.{HasShape}
use Rattle.aq_cert.specs.declared.cert.Rel.{Rel}
use Rattle.aq_include.specs.Costs.{Takes}
use Rattle.aq_include.specs.Least.{IsWideAt}
use Rattle.aq_include.proofs.EndLemmas.{sum-more, sum-within, same-related, none-more, relates-as, pairs-are, wide-at}
use Rattle.aq_cert.proofs.HeldLemmas.{leaf-of}
use Rattle.aq_include.proofs.StepLemmas.{takes-then, read-rel}
use Rattle.aq_include.proofs.end.find_end.Goals.{in-Wide, in-Different}
use Rattle.aq_include.proofs.end.find_end.Goals as goal

empty : (xs : List ℕ) → length xs ≡ 0 → xs ≡ []
empty [] e = refl
empty (x ∷ xs) e = absurd (omega arith)

contradict : (b : Bool) → b ≡ true → b ≡ false → ⊥
contradict b t f = true≢false (sym t ∙ f)

pub is_zero_on-requires : goal.is_zero_on-requires
is_zero_on-requires g c = λ x listed. leaf-of g.L.Label.parts c.args.store.now x (c.requires.1.domain x (subst (λ (l : List ℕ). Contains l x) c.as_slice.ensures listed))

pub compare-requires : goal.compare-requires
compare-requires g c = λ p listed.
    let here = read-rel c.args.store.now c.as_slice-rels.result.now c.args.here.now.rels c.loop-number.number c.index-rels-number.result c.as_slice-rels.ensures c.loop-number-test.true c.index-rels-number.is in
    let s = c.requires.1.pairs c.loop-number.number c.index-rels-number.result p here (subst (λ (l : List (ℕ × ℕ)). Contains l p) (c.as_slice-in-loop-number.ensures ∙ ap (λ (r : Rel). r.pairs) (sym c.index-rels-number.is)) listed) in
    let d = c.requires.1.deep c.loop-number.number c.index-rels-number.result here in
    (leaf-of g.L.Label.parts c.args.store.now p.0 s.0, leaf-of g.L.Label.parts c.args.store.now p.1 (subst (λ l. HasShape c.args.store.now l p.1) (empty _ d) s.1))

pub returns-in_err-compare-clause-takes : goal.returns-in_err-compare-clause-takes
returns-in_err-compare-clause-takes g c =
    takes-then c.args.store.now _ _ _ c.args.steps.now c.loop-number.steps c.compare.new.steps c.loop-number.invariant.takes
    (subst (λ (l : List (ℕ × ℕ)). Takes (length l) c.loop-number.steps c.compare.new.steps) (c.as_slice-in-loop-number.ensures ∙ ap (λ (r : Rel). r.pairs) (sym c.index-rels-number.is)) c.compare.ensures.takes)
    (sum-within c.as_slice-rels.result.now c.args.here.now.rels c.loop-number.number c.index-rels-number.result c.as_slice-rels.ensures c.loop-number-test.true c.index-rels-number.is)

pub returns-in-Same-clause-ends : goal.returns-in-Same-clause-ends
returns-in-Same-clause-ends g c =
    let at : c.in-Ok.short ≡ c.loop-number.number = grind (arith, c.in-Ok.ensures) in
    let here = read-rel c.args.store.now c.as_slice-rels.result.now c.args.here.now.rels c.loop-number.number c.index-rels-number.result c.as_slice-rels.ensures c.loop-number-test.true c.index-rels-number.is in
    let r = pairs-are g.L.Label.parts c.args.store.now c.as_slice-in-loop-number.result.now c.index-rels-number.result.pairs (c.as_slice-in-loop-number.ensures ∙ ap (λ (r : Rel). r.pairs) (sym c.index-rels-number.is)) c.in_ok-compare.field-0 c.in_ok-compare.ensures.relates in
    (c.index-rels-number.result, ap (slice_get c.args.here.now.rels) at ∙ here, same-related g.L.Label.parts c.args.store.now c.index-rels-number.result.pairs c.in_ok-compare.field-0 c.in-Same.is r)

pub returns-in-Same-clause-takes : goal.returns-in-Same-clause-takes
returns-in-Same-clause-takes g c =
    takes-then c.args.store.now _ _ _ c.args.steps.now c.loop-number.steps c.compare.new.steps c.loop-number.invariant.takes
    (subst (λ (l : List (ℕ × ℕ)). Takes (length l) c.loop-number.steps c.compare.new.steps) (c.as_slice-in-loop-number.ensures ∙ ap (λ (r : Rel). r.pairs) (sym c.index-rels-number.is)) c.compare.ensures.takes)
    (sum-within c.as_slice-rels.result.now c.args.here.now.rels c.loop-number.number c.index-rels-number.result c.as_slice-rels.ensures c.loop-number-test.true c.index-rels-number.is)

pub loop-number-preserved : goal.loop-number-preserved
loop-number-preserved g c =
    let here = read-rel c.args.store.now c.as_slice-rels.result.now c.args.here.now.rels c.loop-number.number c.index-rels-number.result c.as_slice-rels.ensures c.loop-number-test.true c.index-rels-number.is in
    let there = slice_get-get_or c.as_slice-rels.result.now c.loop-number.number c.index-rels-number.result c.loop-number-test.true ∙ ap Some (sym c.index-rels-number.is) in
    let r = pairs-are g.L.Label.parts c.args.store.now c.as_slice-in-loop-number.result.now c.index-rels-number.result.pairs (c.as_slice-in-loop-number.ensures ∙ ap (λ (r : Rel). r.pairs) (sym c.index-rels-number.is)) c.in_ok-compare.field-0 c.in_ok-compare.ensures.relates in
    let takes = subst (λ z. Takes z c.args.steps.now c.compare.new.steps) (sym (sum-more c.as_slice-rels.result.now c.loop-number.number c.index-rels-number.result c.loop-number-test.true c.index-rels-number.is))
    (takes-then c.args.store.now _ _ _ c.args.steps.now c.loop-number.steps c.compare.new.steps c.loop-number.invariant.takes
    (subst (λ (l : List (ℕ × ℕ)). Takes (length l) c.loop-number.steps c.compare.new.steps) (c.as_slice-in-loop-number.ensures ∙ ap (λ (r : Rel). r.pairs) (sym c.index-rels-number.is)) c.compare.ensures.takes) (le-self _)) in
    elim c.match-branch-2.branch [
      | in-Wide w ↦
          (let e = w.wide-is in
          let i = w.in-Wide.is in
          let x = relates-as g.L.Label.parts c.args.store.now c.index-rels-number.result.pairs c.in_ok-compare.field-0 (ratio.Wide w.in-Wide.left w.in-Wide.right) i r in
          record {
            none = λ n. absurd (not-both _ _ e n);
            wide = subst (λ o. IfSome o (λ p. IsWideAt g.L.Label.parts c.args.store.now c.args.here.now p.0 p.1)) (sym e)
                (wide-at g.L.Label.parts c.args.store.now c.args.here.now c.loop-number.number c.index-rels-number.result w.in-Wide.left w.in-Wide.right here x);
            takes = takes;
          })
      | in-Different w ↦
          (let e = w.wide-is in
          let i = w.in-Different.is in
          record {
            none = λ n. none-more g.L.Label.parts c.args.store.now c.as_slice-rels.result.now c.loop-number.number c.index-rels-number.result there
                (relates-as g.L.Label.parts c.args.store.now c.index-rels-number.result.pairs c.in_ok-compare.field-0 (ratio.Different w.in-Different.place) i r)
                (c.loop-number.invariant.none (sym e ∙ n));
            wide = subst (λ o. IfSome o (λ p. IsWideAt g.L.Label.parts c.args.store.now c.args.here.now p.0 p.1)) (sym e) c.loop-number.invariant.wide;
            takes = takes;
          })
    ]
  where
    le-self : (n : ℕ) → n ≤ n
    le-self n = omega arith

    not-both : (o : Option (Amplitude × Amplitude)) (p : Amplitude × Amplitude) → o ≡ Some p → o ≡ None → ⊥
    not-both o p e n = let x : Some p ≡ None = sym e ∙ n in cc

pub returns-in-None-clause-ends : goal.returns-in-None-clause-ends
returns-in-None-clause-ends g c = (
  (λ zeros. contradict c.is_zero_on.result (c.is_zero_on.ensures.1 (λ x listed. zeros x (subst (λ (l : List ℕ). Contains l x) c.as_slice.ensures listed))) c.if-is_zero_on.false),
  (λ k rel here. c.loop-number.invariant.none c.in-None.is k rel (omega (arith, c.loop-number-test.false, slice_get_within c.args.here.now.rels k rel here, ap (λ (l : List Rel). length l) c.as_slice-rels.ensures))
      (subst (λ (l : List Rel). slice_get l k ≡ Some rel) (sym c.as_slice-rels.ensures) here)),
)
