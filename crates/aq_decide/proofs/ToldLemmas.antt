-- What is told of nonzero vectors: one is a multiple of another, or it isn't.
use Rattle.std.proofs.Common.{◌≡◌, ℕ, zero, suc, ◌<◌, Bool, true, false, List, [], ◌∷◌, length, Any, Contains, None, slice_index_or, ◌⊎◌, inl, inr, ⊎_elim, refl, sym, ◌∙◌, subst, arith, ◌&&◌}
use Rattle.std.proofs.lemmas.List.Elements.{All-head, All-tail}
use Rattle.aq_ring.specs.Fractions.{Amplitude}
use Rattle.aq_ring.specs.Amplitudes.{amplitude_zero}
use Rattle.aq_ring.specs.Vectors.{IsZeroVector, Proportional, is_zero, is_zero_vector}
use Rattle.aq_ring.proofs.VectorLaws.{is_zero_vector_true, is_zero_of_zero}
use Rattle.aq_obligations.specs.Claims.{ClaimCase, CaseHolds, Holds, are_met}
use Rattle.aq_obligations.specs.Obligations.{Meaning, IsCounterexample, IsListed, IsStart, Shown}
use Rattle.aq_obligations.specs.Worlds.{IsKept, World, filled}
use Rattle.aq_correct.proofs.RefuteLaws.{worlds_refute}
use Rattle.aq_correct.proofs.WorldProofs.{worlds_decide}

-- a fact, or its contrary
abbrev pub Told : Type 0 → Type 0
Told A = A ⊎ (A → ⊥)

both_true : (a b : Bool) → a ≡ true → b ≡ true → (a && b) ≡ true
both_true true b e f = f
both_true false b e f = cc e

pub zero_test : (v : List Amplitude) → IsZeroVector v → is_zero_vector v ≡ true
zero_test [] z = refl
zero_test (p ∷ v) z = both_true (is_zero p) (is_zero_vector v) (is_zero_of_zero p (All-head (λ q. q ≡ amplitude_zero) p v z)) (zero_test v (All-tail (λ q. q ≡ amplitude_zero) p v z))

pub zero_told : (v : List Amplitude) → Told (IsZeroVector v)
zero_told v = by (is_zero_vector v) refl
  where
    differ : ◌≡◌ {A = Bool} true false → ⊥
    differ e = cc

    by : (b : Bool) → is_zero_vector v ≡ b → Told (IsZeroVector v)
    by true e = inl (is_zero_vector_true v e)
    by false e = inr (λ z. differ (sym (zero_test v z) ∙ e))

-- the obligation to allow v alone the vector u, without a statement
abbrev one_of : List Amplitude → ClaimCase
one_of v = record { vectors = v ∷ []; when = [] }

abbrev question : List Amplitude → List Amplitude → Meaning
question v u = record { qubits = 0; bits = 0; start = false; assumed = one_of v ∷ []; given = None; fragment = []; goal = one_of u ∷ []; products = [] }

asked : (v u : List Amplitude) → IsStart (question v u) [] v
asked v u = record {
  sized = refl;
  listed = (0, one_of v, omega arith, refl, (refl, (0, omega arith, refl)));
  given = tt;
  zeros = λ e. cc e;
}

-- the only element of a list
any_one : {A : Type 0} (P : A → Type 0) (x : A) → Any P (x ∷ []) → P x
any_one P x a = by a.0 a.1 a.2 a.3 a.4
  where
    by : (i : ℕ) (y : _) → i < length (x ∷ []) → slice_index_or (x ∷ []) i y ≡ y → P y → P x
    by zero y lt e p = subst P (sym e) p
    by (suc i) y lt e p = absurd (omega (arith, lt))

contains_one : {A : Type 0} (x y : A) → Contains (x ∷ []) y → x ≡ y
contains_one x y c = by c.0 c.1 c.2
  where
    by : (i : ℕ) → i < length (x ∷ []) → slice_index_or (x ∷ []) i y ≡ y → x ≡ y
    by zero lt e = e
    by (suc i) lt e = absurd (omega (arith, lt))

held : (v u : List Amplitude) (bits : List Bool) → Holds (one_of u ∷ []) bits v → Proportional v u
held v u bits h = any_one (Proportional v) u (any_one (CaseHolds bits v) (one_of u) h).1

holds : (v u : List Amplitude) (bits : List Bool) → Proportional v u → Holds (one_of u ∷ []) bits v
holds v u bits p = (0, one_of u, omega arith, refl, (refl, (0, u, omega arith, refl, p)))

state_of : (v u : List Amplitude) (bits : List Bool) (w : List Amplitude) → IsStart (question v u) bits w → v ≡ w
state_of v u bits w s = contains_one v w (any_one (IsListed bits w) (one_of v) s.listed).1

not_multiple : (v u : List Amplitude) (r : Shown) → IsCounterexample (question v u) r → Proportional v u → ⊥
not_multiple v u r c p = c.escapes (subst (λ w. Holds (one_of u ∷ []) r.end_bits w) (state_of v u r.bits r.state c.start ∙ sym c.end_is) (holds v u r.end_bits p))

pub multiple_told : (v u : List Amplitude) → (IsZeroVector v → ⊥) → Told (Proportional v u)
multiple_told v u some = ⊎_elim
    (λ yes. inl (held v u [] (yes [] v [] (asked v u) (refl, refl) some)))
    (λ r. inr (not_multiple v u r.0 (worlds_decide.counterexample (question v u) r.0 refl r.1)))
    (worlds_refute.true_or_refuted (question v u) refl)

any_told : {A : Type 0} (P : A → Type 0) → ((x : A) → Told (P x)) → (xs : List A) → Told (Any P xs)
any_told P f [] = inr (λ a. absurd (omega (arith, a.2)))
any_told {A = A} P f (x ∷ xs) = ⊎_elim
    (λ h. inl (0, x, omega arith, refl, h))
    (λ n. ⊎_elim (λ a. inl (suc a.0, a.1, omega (arith, a.2), a.3, a.4)) (λ k. inr (neither n k)) (any_told P f xs))
    (f x)
  where
    neither : (P x → ⊥) → (Any P xs → ⊥) → Any P (x ∷ xs) → ⊥
    neither n k a = by a.0 a.1 a.2 a.3 a.4
      where
        by : (i : ℕ) (y : A) → i < length (x ∷ xs) → slice_index_or (x ∷ xs) i y ≡ y → P y → ⊥
        by zero y h e p = n (subst P (sym e) p)
        by (suc i) y h e p = k (i, y, omega (arith, h), e, p)

case_told : (bits : List Bool) (v : List Amplitude) → (IsZeroVector v → ⊥) → (c : ClaimCase) → Told (CaseHolds bits v c)
case_told bits v some c = by (are_met c.when bits) refl
  where
    differ : {A : Type 0} → ◌≡◌ {A = Bool} true false → A
    differ e = cc

    by : (b : Bool) → are_met c.when bits ≡ b → Told (CaseHolds bits v c)
    by true e = ⊎_elim (λ a. inl (e, a)) (λ n. inr (λ h. n h.1)) (any_told (λ u. Proportional v u) (λ u. multiple_told v u some) c.vectors)
    by false e = inr (λ h. differ (sym h.0 ∙ e))

pub holds_told : (cases : List ClaimCase) (bits : List Bool) (v : List Amplitude) → (IsZeroVector v → ⊥) → Told (Holds cases bits v)
holds_told cases bits v some = any_told (λ c. CaseHolds bits v c) (case_told bits v some) cases

-- a vector that doesn't escape is kept
pub kept_if : (o : Meaning) (w : World) (v : List Amplitude) → ((IsZeroVector v → ⊥) → (Holds o.goal (filled w.bits) v → ⊥) → ⊥) → IsKept o w v
kept_if o w v never = ⊎_elim
    (λ z. inl z)
    (λ some. ⊎_elim (λ h. inr h) (λ k. absurd (never some k)) (holds_told o.goal (filled w.bits) v some))
    (zero_told v)
