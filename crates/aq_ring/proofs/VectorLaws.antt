-- The tests for zero say what they are named for.
use Rattle.std.proofs.Common.{◌≡◌, ◌==◌, ℕ, ℤ, pos, Bool, true, false, ◌&&◌, List, [], ◌∷◌, All, refl, ap, arith, unsigned_abs, ◌↔◌, IsTrue, slice_index_or, suc, zero, length, ◌<◌, sym}
use Rattle.std.specs.List.{list_all}
use Rattle.std.proofs.lemmas.Bool.Decides.{nat_tests}
use Rattle.std.proofs.lemmas.Int.{ints}
use Rattle.aq_ring.specs.Quads.{Quad, quad_zero}
use Rattle.aq_ring.specs.Fractions.{Amplitude}
use Rattle.aq_ring.specs.Amplitudes.{amplitude_zero}
use Rattle.aq_ring.specs.Vectors.{IsZeroVector, is_zero, is_zero_vector}
use Rattle.aq_ring.proofs.AmplitudeLaws.{lowest_zero}
use Rattle.aq_ring.proofs.QuadLaws.{same_quad}

abs_zero : (z : ℤ) → (unsigned_abs z == 0) ≡ true → z ≡ pos 0
abs_zero z e = let h : unsigned_abs z ≡ 0 = grind (arith, nat_tests) in omega (arith, ints)

all_four : (u v w x : Bool) → ((u && v) && (w && x)) ≡ true → (u ≡ true) × (v ≡ true) × (w ≡ true) × (x ≡ true)
all_four true true true true e = (refl, refl, refl, refl)
all_four true true true false e = cc
all_four true true false x e = cc
all_four true false w x e = cc
all_four false v w x e = cc

pub is_zero_true : (p : Amplitude) → is_zero p ≡ true → p ≡ amplitude_zero
is_zero_true p e =
    let f = all_four (unsigned_abs p.num.a == 0) (unsigned_abs p.num.b == 0) (unsigned_abs p.num.c == 0) (unsigned_abs p.num.d == 0) e in
    lowest_zero p (same_quad p.num quad_zero (abs_zero p.num.a f.0) (abs_zero p.num.b f.1) (abs_zero p.num.c f.2) (abs_zero p.num.d f.3))

pub is_zero_of_zero : (p : Amplitude) → p ≡ amplitude_zero → is_zero p ≡ true
is_zero_of_zero p e = ap is_zero e

both_true : (u v : Bool) → (u && v) ≡ true → (u ≡ true) × (v ≡ true)
both_true true true e = (refl, refl)
both_true true false e = cc
both_true false v e = cc

zero_at : (v : List Amplitude) (k : ℕ) (d : Amplitude) → is_zero_vector v ≡ true → k < length v → slice_index_or v k d ≡ amplitude_zero
zero_at [] k d e h = absurd (omega (arith, h))
zero_at (p ∷ v) zero d e h = is_zero_true p (both_true (is_zero p) (is_zero_vector v) e).0
zero_at (p ∷ v) (suc k) d e h = zero_at v k d (both_true (is_zero p) (is_zero_vector v) e).1 (omega (arith, h))

pub is_zero_vector_true : (v : List Amplitude) → is_zero_vector v ≡ true → IsZeroVector v
is_zero_vector_true v e = λ k d h. zero_at v k d e h

-- the answer of a test that is true exactly of zero is this test's
pub is_zero_is : (p : Amplitude) (v : Bool) → (IsTrue v ↔ (p ≡ amplitude_zero)) → v ≡ is_zero p
is_zero_is p true h = sym (is_zero_of_zero p (h.0 refl))
is_zero_is p false h = by_test (is_zero p) refl
  where
    by_test : (w : Bool) → is_zero p ≡ w → false ≡ is_zero p
    by_test true e = let t : false ≡ true = h.1 (is_zero_true p e) in cc
    by_test false e = sym e
