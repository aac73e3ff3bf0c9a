-- Tests for zero.
use Rattle.std.proofs.Common.{◌≡◌, Bool, true, false, ◌↔◌, IsTrue, List, [], ◌∷◌, refl, sym, ◌∙◌, ap₂, ◌&&◌}
use Rattle.std.proofs.lemmas.List.Elements.{All-head, All-tail}
use Rattle.aq_ring.specs.Fractions.{Amplitude}
use Rattle.aq_ring.specs.Amplitudes.{amplitude_zero}
use Rattle.aq_ring.specs.Vectors.{IsZeroVector, is_zero_vector}
use Rattle.aq_ring.proofs.VectorLaws.{is_zero_vector_true, is_zero_of_zero}

zero_vector_test : (v : List Amplitude) → IsZeroVector v → is_zero_vector v ≡ true
zero_vector_test [] z = refl
zero_vector_test (p ∷ v) z =
    ap₂ (λ (a b : Bool). a && b) (is_zero_of_zero p (All-head (λ q. q ≡ amplitude_zero) p v z)) (zero_vector_test v (All-tail (λ q. q ≡ amplitude_zero) p v z))

-- a test that is true exactly at a zero vector is the test for one
pub zero_told : (b : Bool) (v : List Amplitude) → (IsTrue b ↔ IsZeroVector v) → b ≡ is_zero_vector v
zero_told b v h = by_test b (is_zero_vector v) refl h
  where
    by_test : (b t : Bool) → is_zero_vector v ≡ t → (IsTrue b ↔ IsZeroVector v) → b ≡ is_zero_vector v
    by_test true t e h = sym (zero_vector_test v (h.0 refl))
    by_test false true e h = h.1 (is_zero_vector_true v e) ∙ sym e
    by_test false false e h = sym e
