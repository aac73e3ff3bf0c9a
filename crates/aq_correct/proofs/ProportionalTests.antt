-- Two vectors are proportional, or they aren't.
use Rattle.std.proofs.Common.{◌≡◌, ◌≢◌, ℕ, zero, suc, Bool, true, false, ◌&&◌, List, [], ◌∷◌, length, Option, Some, None, slice_get, ◌⊎◌, inl, inr, ⊎_elim, refl, ap, sym, ◌∙◌}
use Rattle.std.proofs.lemmas.List.Elements.{All-head, All-tail}
use Rattle.aq_ring.specs.Fractions.{Amplitude}
use Rattle.aq_ring.specs.Amplitudes.{amplitude_zero, amplitude_one, sum, product, turn}
use Rattle.aq_ring.specs.Vectors.{IsZeroVector, Proportional, is_zero, is_zero_vector, scaled}
use Rattle.aq_ring.proofs.AmplitudeLaws.{sum_comm, sum_assoc, sum-zero, sum-opposite, product_comm, product-zero, product_without_zero}
use Rattle.aq_ring.proofs.MoreLaws.{product-cancel}
use Rattle.aq_ring.proofs.ProportionalLaws.{scaled-scaled, scaled-swap, one-nonzero, proportional-keeps}
use Rattle.aq_ring.proofs.VectorLaws.{is_zero_true, is_zero_of_zero, is_zero_vector_true}
use Rattle.aq_correct.proofs.ZeroTests.{zero_or_not}

-- a fact, or its contrary
abbrev pub Told : Type 0 → Type 0
Told A = A ⊎ (A → ⊥)

true_false : {A : Type 0} → ◌≡◌ {A = Bool} true false → A
true_false e = cc

pub zero_told : (p : Amplitude) → Told (p ≡ amplitude_zero)
zero_told p = by_test (is_zero p) refl
  where
    by_test : (b : Bool) → is_zero p ≡ b → Told (p ≡ amplitude_zero)
    by_test true e = inl (is_zero_true p e)
    by_test false e = inr (λ z. true_false (sym (is_zero_of_zero p z) ∙ e))

-- p is q where p less q is zero
less_zero : (p q : Amplitude) → sum p (turn 4 q) ≡ amplitude_zero → p ≡ q
less_zero p q e =
    sym (sum_comm p amplitude_zero ∙ sum-zero p)
    ∙ ap (sum p) (sym (sum_comm (turn 4 q) q ∙ sum-opposite q))
    ∙ sym (sum_assoc p (turn 4 q) q)
    ∙ ap (λ (x : Amplitude). sum x q) e
    ∙ sum-zero q

pub same_told : (p q : Amplitude) → Told (p ≡ q)
same_told p q = ⊎_elim
    (λ z. inl (less_zero p q z))
    (λ n. inr (λ e. n (ap (λ (x : Amplitude). sum x (turn 4 q)) e ∙ sum-opposite q)))
    (zero_told (sum p (turn 4 q)))

first_or : Amplitude → List Amplitude → Amplitude
first_or d [] = d
first_or d (p ∷ u) = p

rest_of : List Amplitude → List Amplitude
rest_of [] = []
rest_of (p ∷ u) = u

list_told : (u v : List Amplitude) → Told (u ≡ v)
unfolding first_or rest_of
list_told [] [] = inl refl
list_told [] (q ∷ v) = inr (λ e. cc e)
list_told (p ∷ u) [] = inr (λ e. cc e)
list_told (p ∷ u) (q ∷ v) = ⊎_elim
    (λ e. ⊎_elim (λ f. inl (λ i. e i ∷ f i)) (λ n. inr (λ f. n (ap rest_of f))) (list_told u v))
    (λ n. inr (λ e. n (ap (first_or p) e)))
    (same_told p q)

scaled-cancel : (s : Amplitude) (u v : List Amplitude) → s ≢ amplitude_zero → scaled s u ≡ scaled s v → u ≡ v
unfolding first_or rest_of
scaled-cancel s [] [] n e = refl
scaled-cancel s [] (q ∷ v) n e = cc e
scaled-cancel s (p ∷ u) [] n e = cc e
scaled-cancel s (p ∷ u) (q ∷ v) n e = λ i. product-cancel s p q n (ap (first_or amplitude_zero) e) i ∷ scaled-cancel s u v n (ap rest_of e) i

-- the factors at a place
factor_at : (s t : Amplitude) (u v : List Amplitude) (k : ℕ) (a b : Amplitude) → scaled s u ≡ scaled t v → slice_get u k ≡ Some a → slice_get v k ≡ Some b → product s a ≡ product t b
factor_at s t u v k a b e f g = some_is (product s a) (product t b) (sym (get_scaled s u k a f) ∙ ap (λ (w : List Amplitude). slice_get w k) e ∙ get_scaled t v k b g)
  where
    some_is : (x y : Amplitude) → ◌≡◌ {A = Option Amplitude} (Some x) (Some y) → x ≡ y
    some_is x y e = cc

    get_scaled : (s : Amplitude) (u : List Amplitude) (k : ℕ) (a : Amplitude) → slice_get u k ≡ Some a → slice_get (scaled s u) k ≡ Some (product s a)
    get_scaled s [] k a e = cc e
    get_scaled s (p ∷ u) zero a e = ap (λ (x : Amplitude). Some (product s x)) (some_is p a e)
    get_scaled s (p ∷ u) (suc k) a e = get_scaled s u k a e

-- with nonzero entries at one place, these are the factors
factors : (u v : List Amplitude) (k : ℕ) (a b : Amplitude) → slice_get u k ≡ Some a → slice_get v k ≡ Some b → Proportional u v → scaled b u ≡ scaled a v
factors u v k a b f g h = scaled-cancel h.left (scaled b u) (scaled a v) h.left_nonzero
    (scaled-swap h.left b u ∙ ap (scaled b) h.same ∙ scaled-scaled b h.right v
    ∙ ap (λ (x : Amplitude). scaled x v) (product_comm b h.right ∙ sym (factor_at h.left h.right u v k a b h.same f g))
    ∙ sym (scaled-scaled h.left a v))

record Pivot (u : List Amplitude) : Type 0 where
  place : ℕ
  entry : Amplitude
  there : slice_get u place ≡ Some entry
  nonzero : entry ≢ amplitude_zero

pivot : (u : List Amplitude) → is_zero_vector u ≡ false → Pivot u
pivot [] e = cc e
pivot (p ∷ u) e = ⊎_elim
    (λ z. let r = pivot u (sym (ap (λ (b : Bool). b && is_zero_vector u) (is_zero_of_zero p z)) ∙ e) in record { place = suc r.place; entry = r.entry; there = r.there; nonzero = r.nonzero })
    (λ n. record { place = 0; entry = p; there = refl; nonzero = n })
    (zero_told p)

zeros_same : (u v : List Amplitude) → length u ≡ length v → IsZeroVector u → IsZeroVector v → u ≡ v
zeros_same [] [] e y z = refl
zeros_same [] (q ∷ v) e y z = cc e
zeros_same (p ∷ u) [] e y z = cc e
zeros_same (p ∷ u) (q ∷ v) e y z =
    let is : Amplitude → Type 0 = λ x. x ≡ amplitude_zero in
    λ i. (All-head is p u y ∙ sym (All-head is q v z)) i ∷ zeros_same u v (pred_same e) (All-tail is p u y) (All-tail is q v z) i
  where
    pred_same : {a b : ℕ} → suc a ≡ suc b → a ≡ b
    pred_same e = cc e

length_told : (u v : List Amplitude) → Told (length u ≡ length v)
length_told [] [] = inl refl
length_told [] (q ∷ v) = inr (λ e. cc e)
length_told (p ∷ u) [] = inr (λ e. cc e)
length_told (p ∷ u) (q ∷ v) = ⊎_elim (λ e. inl (ap suc e)) (λ n. inr (λ e. n (pred_same e))) (length_told u v)
  where
    pred_same : {a b : ℕ} → suc a ≡ suc b → a ≡ b
    pred_same e = cc e

from_pivot : (u v : List Amplitude) → Pivot u → Told (Proportional u v)
from_pivot u v p = by_entry (slice_get v p.place) refl
  where
    past : slice_get v p.place ≡ None → Proportional u v → ⊥
    past e h = differ (sym (get_same u v p.place p.entry (proportional-keeps.same_length u v h) p.there).1 ∙ e)
      where
        differ : {x : Amplitude} → ◌≡◌ {A = Option Amplitude} (Some x) None → ⊥
        differ e = cc e

        get_same : (u v : List Amplitude) (k : ℕ) (a : Amplitude) → length u ≡ length v → slice_get u k ≡ Some a → (b : Amplitude) × (slice_get v k ≡ Some b)
        get_same [] v k a l e = cc e
        get_same (x ∷ u) [] k a l e = cc l
        get_same (x ∷ u) (y ∷ v) zero a l e = (y, refl)
        get_same (x ∷ u) (y ∷ v) (suc k) a l e = get_same u v k a (pred_same l) e
          where
            pred_same : {a b : ℕ} → suc a ≡ suc b → a ≡ b
            pred_same e = cc e

    zero_there : (b : Amplitude) → slice_get v p.place ≡ Some b → b ≡ amplitude_zero → Proportional u v → ⊥
    zero_there b e z h = ⊎_elim (λ s. h.left_nonzero s) (λ s. p.nonzero s)
        (product_without_zero h.left p.entry (factor_at h.left h.right u v p.place p.entry b h.same p.there e ∙ ap (product h.right) z ∙ product_comm h.right amplitude_zero ∙ product-zero h.right))

    by_entry : (x : Option Amplitude) → slice_get v p.place ≡ x → Told (Proportional u v)
    by_entry None e = inr (past e)
    by_entry (Some b) e = ⊎_elim
        (λ z. inr (zero_there b e z))
        (λ n. ⊎_elim
        (λ same. inl (record { left = b; right = p.entry; left_nonzero = n; right_nonzero = p.nonzero; same = same }))
        (λ apart. inr (λ h. apart (factors u v p.place p.entry b p.there e h)))
        (list_told (scaled b u) (scaled p.entry v)))
        (zero_told b)

pub proportional_told : (u v : List Amplitude) → Told (Proportional u v)
proportional_told u v = by_test (is_zero_vector u) refl
  where
    by_test : (b : Bool) → is_zero_vector u ≡ b → Told (Proportional u v)
    by_test false e = from_pivot u v (pivot u e)
    by_test true e = ⊎_elim
        (λ l. ⊎_elim
        (λ z. inl (record { left = amplitude_one; right = amplitude_one; left_nonzero = one-nonzero; right_nonzero = one-nonzero; same = ap (scaled amplitude_one) (zeros_same u v l (is_zero_vector_true u e) z) }))
        (λ n. inr (λ h. n (proportional-keeps.zero_together u v h (is_zero_vector_true u e))))
        (zero_or_not v))
        (λ n. inr (λ h. n (proportional-keeps.same_length u v h)))
        (length_told u v)
