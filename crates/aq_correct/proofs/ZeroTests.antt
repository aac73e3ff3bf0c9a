-- A vector is zero, or it isn't.
use Rattle.std.proofs.Common.{◌≡◌, Bool, true, false, List, [], ◌∷◌, ◌⊎◌, inl, inr, refl, sym, ◌∙◌}
use Rattle.std.proofs.lemmas.List.Elements.{All-head, All-tail}
use Rattle.aq_ring.specs.Fractions.{Amplitude}
use Rattle.aq_ring.specs.Amplitudes.{amplitude_zero}
use Rattle.aq_ring.specs.Vectors.{IsZeroVector, is_zero, is_zero_vector}
use Rattle.aq_ring.proofs.VectorLaws.{is_zero_vector_true, is_zero_of_zero}
use Rattle.aq_correct.proofs.StoreLaws.{both_true}

pub zero_vector_test : (v : List Amplitude) → IsZeroVector v → is_zero_vector v ≡ true
zero_vector_test [] z = refl
zero_vector_test (p ∷ v) z =
    both_true (is_zero p) (is_zero_vector v) (is_zero_of_zero p (All-head (λ q. q ≡ amplitude_zero) p v z)) (zero_vector_test v (All-tail (λ q. q ≡ amplitude_zero) p v z))

pub nonzero_of : (v : List Amplitude) → is_zero_vector v ≡ false → IsZeroVector v → ⊥
nonzero_of v e z = differ (sym (zero_vector_test v z) ∙ e)
  where
    differ : ◌≡◌ {A = Bool} true false → ⊥
    differ e = cc

pub zero_or_not : (v : List Amplitude) → IsZeroVector v ⊎ (IsZeroVector v → ⊥)
zero_or_not v = by_test (is_zero_vector v) refl
  where
    by_test : (b : Bool) → is_zero_vector v ≡ b → IsZeroVector v ⊎ (IsZeroVector v → ⊥)
    by_test true e = inl (is_zero_vector_true v e)
    by_test false e = inr (nonzero_of v e)
