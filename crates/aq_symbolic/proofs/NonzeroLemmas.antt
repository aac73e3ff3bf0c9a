-- The parts of vectors that are zero, and of vectors that aren't.
use Rattle.std.proofs.Common.{◌≡◌, ℕ, suc, ◌+◌, ◌<◌, Bool, true, false, ◌&&◌, List, [], ◌∷◌, ◌++◌, map, length, refl, sym, ap, ap₂, subst, ◌∙◌, arith, true≢false}
use Rattle.std.specs.List.{flat_map}
use Rattle.std.proofs.lemmas.List.Elements.{All-nil, All-append, All-cons, All-head, All-tail}
use Rattle.aq_ring.specs.Fractions.{Amplitude}
use Rattle.aq_ring.specs.Amplitudes.{amplitude_zero}
use Rattle.aq_ring.specs.Vectors.{IsZeroVector, is_zero, is_zero_vector}
use Rattle.aq_ring.proofs.VectorLaws.{is_zero_true, is_zero_of_zero, is_zero_vector_true}
use Rattle.aq_prog.specs.Digits.{amplitude_at}
use Rattle.aq_prog.proofs.VectorLaws.{zero_at}
use Rattle.aq_store.specs.Parts.{part, part_vector}
use Rattle.aq_symbolic.proofs.Elements.{all_left, all_right}

-- a vector that isn't zero has an entry that isn't
nonzero_at : (v : List Amplitude) → (IsZeroVector v → ⊥) → (k : ℕ) × (k < length v) × (amplitude_at v k ≡ amplitude_zero → ⊥)
nonzero_at [] h = absurd (h (All-nil (λ p. p ≡ amplitude_zero)))
nonzero_at (p ∷ v) h = by_test (is_zero p) refl (λ z. nonzero_at v z)
  where
    by_test : (b : Bool) → is_zero p ≡ b → ((IsZeroVector v → ⊥) → (k : ℕ) × (k < length v) × (amplitude_at v k ≡ amplitude_zero → ⊥))
        → (k : ℕ) × (k < length (p ∷ v)) × (amplitude_at (p ∷ v) k ≡ amplitude_zero → ⊥)
    by_test true e rest =
        let r = rest (λ z. h (All-cons (λ p. p ≡ amplitude_zero) p v (is_zero_true p e) z)) in
        (suc r.0, omega (arith, r.1), r.2)
    by_test false e rest = (0, omega arith, λ z. true≢false (sym (is_zero_of_zero p z) ∙ e))

pub zero_test : (v : List Amplitude) → IsZeroVector v → is_zero_vector v ≡ true
zero_test [] z = refl
zero_test (p ∷ v) z =
    ap₂ (λ (a b : Bool). a && b) (is_zero_of_zero p (All-head (λ q. q ≡ amplitude_zero) p v z)) (zero_test v (All-tail (λ q. q ≡ amplitude_zero) p v z))

module _ {L : Type 0} (parts : L → List Amplitude) where
  -- each part of a vector that is zero is zero
  pub zero_part : (v : List L) → IsZeroVector (flat_map parts v) → (k : ℕ) → IsZeroVector (part_vector parts k v)
  zero_part [] z k = All-nil (λ p. p ≡ amplitude_zero)
  zero_part (x ∷ v) z k =
      All-cons (λ p. p ≡ amplitude_zero) (part parts k x) (part_vector parts k v) (zero_at (parts x) (all_left (λ p. p ≡ amplitude_zero) (parts x) (flat_map parts v) z) k)
      (zero_part v (all_right (λ p. p ≡ amplitude_zero) (parts x) (flat_map parts v) z) k)

  -- a vector that isn't zero has a part that isn't
  pub nonzero_part : (count : ℕ) → ((x : L) → length (parts x) ≡ count) → (v : List L) → (IsZeroVector (flat_map parts v) → ⊥) → (k : ℕ) × (k < count) × (IsZeroVector (part_vector parts k v) → ⊥)
  nonzero_part count all_parts [] h = absurd (h (All-nil (λ p. p ≡ amplitude_zero)))
  nonzero_part count all_parts (x ∷ v) h = by_test (is_zero_vector (parts x)) refl (λ z. nonzero_part count all_parts v z)
    where
      by_test : (b : Bool) → is_zero_vector (parts x) ≡ b → ((IsZeroVector (flat_map parts v) → ⊥) → (k : ℕ) × (k < count) × (IsZeroVector (part_vector parts k v) → ⊥))
          → (k : ℕ) × (k < count) × (IsZeroVector (part_vector parts k (x ∷ v)) → ⊥)
      by_test true e rest =
          let r = rest (λ z. h (All-append (λ p. p ≡ amplitude_zero) (parts x) (flat_map parts v) (is_zero_vector_true (parts x) e) z)) in
          (r.0, r.1, λ z. r.2 (All-tail (λ p. p ≡ amplitude_zero) (part parts r.0 x) (part_vector parts r.0 v) z))
      by_test false e rest =
          let r = nonzero_at (parts x) (λ z. true≢false (sym (zero_test (parts x) z) ∙ e)) in
          (r.0, subst (λ m. r.0 < m) (all_parts x) r.1, λ z. r.2 (All-head (λ p. p ≡ amplitude_zero) (part parts r.0 x) (part_vector parts r.0 v) z))
