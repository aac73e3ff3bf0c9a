use Rattle.std.proofs.Common.{◌≡◌, ℕ, [], Bool, true, false, true≢false, Contains, refl, sym, ◌∙◌, subst}
use Rattle.std.proofs.lemmas.List.Elements.{Contains-get_or}
use Rattle.aq_ring.specs.Vectors.{IsZeroVector}
use Rattle.aq_cert.specs.Meaning.{amplitudes}
use Rattle.aq_include.proofs.EndLemmas.{label-amplitudes, zero-more}
use Rattle.aq_include.proofs.end.is_zero_on.Goals as goal

contradict : (b : Bool) → b ≡ true → b ≡ false → ⊥
contradict b t f = true≢false (sym t ∙ f)

pub returns-then-not-is_zero : goal.returns-then-not-is_zero
returns-then-not-is_zero g c =
    let listed = subst (Contains c.args.domain.now) (sym c.at.ensures) (Contains-get_or c.args.domain.now c.loop-place.place-index 0 c.loop-place-test.true) in (
      λ t. absurd (contradict false t refl),
      λ zero. absurd (contradict c.is_zero.result
          (c.is_zero.ensures.1 (subst IsZeroVector (label-amplitudes g.L.Label.parts c.args.store.now c.at.result c.label.result c.label.ensures) (zero c.at.result listed)))
          c.if-not-is_zero.true),
    )

pub loop-place-preserved : goal.loop-place-preserved
loop-place-preserved g c =
    zero-more g.L.Label.parts c.args.store.now c.args.domain.now c.loop-place.place-index 0 c.loop-place-test.true c.loop-place.invariant
    (subst (λ (z : ℕ). IsZeroVector (amplitudes g.L.Label.parts c.args.store.now [] z)) c.at.ensures
    (subst IsZeroVector (sym (label-amplitudes g.L.Label.parts c.args.store.now c.at.result c.label.result c.label.ensures)) (c.is_zero.ensures.0 c.if-not-is_zero.false)))
