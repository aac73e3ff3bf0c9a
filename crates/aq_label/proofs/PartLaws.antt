-- Lists of parts are a module over the amplitudes.
use Rattle.std.proofs.Common.{◌≡◌, ◌≢◌, ℕ, ◌+◌, List, [], ◌∷◌, length, refl, sym, ap, ◌∙◌, arith, ⊎_elim}
use Rattle.std.proofs.lemmas.List.Elements.{All-cons, All-head, All-tail, All-nil}
use Rattle.aq_ring.specs.Fractions.{Amplitude}
use Rattle.aq_ring.specs.Amplitudes.{sum, product, amplitude_zero, amplitude_one}
use Rattle.aq_ring.specs.Vectors.{IsZeroVector, scaled}
use Rattle.aq_ring.proofs.AmplitudeLaws.{sum_comm, sum_assoc, sum-zero, sum-opposite, product_comm, product_sum, product-one, product_without_zero, turn-sum, quotient_sum, turn-eight}
use Rattle.aq_ring.proofs.MoreLaws.{turn-turn, product-turn, product-quotient}
use Rattle.aq_ring.proofs.ProportionalLaws.{scaled-scaled}
use Rattle.aq_label.specs.Parts.{sums, turns, quotients}

pub sums_comm : (u v : List Amplitude) → sums u v ≡ sums v u
sums_comm [] [] = refl
sums_comm [] (q ∷ v) = refl
sums_comm (p ∷ u) [] = refl
sums_comm (p ∷ u) (q ∷ v) = λ i. sum_comm p q i ∷ sums_comm u v i

pub sums_assoc : (u v w : List Amplitude) → sums (sums u v) w ≡ sums u (sums v w)
sums_assoc [] v w = refl
sums_assoc (p ∷ u) [] w = refl
sums_assoc (p ∷ u) (q ∷ v) [] = refl
sums_assoc (p ∷ u) (q ∷ v) (r ∷ w) = λ i. sum_assoc p q r i ∷ sums_assoc u v w i

pub sums_zero : (u z : List Amplitude) → length z ≡ length u → IsZeroVector z → sums u z ≡ u
sums_zero [] z e h = refl
sums_zero (p ∷ u) [] e h = absurd (omega arith)
sums_zero (p ∷ u) (q ∷ z) e h =
    let zero_is : q ≡ amplitude_zero = All-head (λ r. r ≡ amplitude_zero) q z h in
    λ i. (ap (sum p) zero_is ∙ sum_comm _ _ ∙ sum-zero p) i ∷ sums_zero u z (omega arith) (All-tail (λ r. r ≡ amplitude_zero) q z h) i

pub sums_opposite : (u : List Amplitude) → IsZeroVector (sums u (turns 4 u))
sums_opposite [] = All-nil (λ r. r ≡ amplitude_zero)
sums_opposite (p ∷ u) = All-cons (λ r. r ≡ amplitude_zero) _ _ (sum-opposite p) (sums_opposite u)

pub scaled-sums : (s : Amplitude) (u v : List Amplitude) → scaled s (sums u v) ≡ sums (scaled s u) (scaled s v)
scaled-sums s [] v = refl
scaled-sums s (p ∷ u) [] = refl
scaled-sums s (p ∷ u) (q ∷ v) = λ i. product_sum s p q i ∷ scaled-sums s u v i

pub scaled_by_sum : (s t : Amplitude) (u : List Amplitude) → scaled (sum s t) u ≡ sums (scaled s u) (scaled t u)
scaled_by_sum s t [] = refl
scaled_by_sum s t (p ∷ u) = λ i. (product_comm _ p ∙ product_sum p s t ∙ (λ j. sum (product_comm p s j) (product_comm p t j))) i ∷ scaled_by_sum s t u i

pub scaled_by_one : (u : List Amplitude) → scaled amplitude_one u ≡ u
scaled_by_one [] = refl
scaled_by_one (p ∷ u) = λ i. product-one p i ∷ scaled_by_one u i

scaled_zero : (s : Amplitude) (u : List Amplitude) → s ≢ amplitude_zero → IsZeroVector (scaled s u) → IsZeroVector u
scaled_zero s [] n h = h
scaled_zero s (p ∷ u) n h =
    All-cons (λ r. r ≡ amplitude_zero) p u
    (⊎_elim (λ z. absurd (n z)) (λ z. z) (product_without_zero s p (All-head (λ r. r ≡ amplitude_zero) (product s p) (scaled s u) h)))
    (scaled_zero s u n (All-tail (λ r. r ≡ amplitude_zero) (product s p) (scaled s u) h))

pub scaled_nonzero : (s : Amplitude) (u : List Amplitude) → s ≢ amplitude_zero → ¬ (IsZeroVector u) → ¬ (IsZeroVector (scaled s u))
scaled_nonzero s u n h z = h (scaled_zero s u n z)

pub turns-sums : (j : ℕ) (u v : List Amplitude) → turns j (sums u v) ≡ sums (turns j u) (turns j v)
turns-sums j [] v = refl
turns-sums j (p ∷ u) [] = refl
turns-sums j (p ∷ u) (q ∷ v) = λ i. turn-sum j p q i ∷ turns-sums j u v i

pub turns-scaled : (j : ℕ) (s : Amplitude) (u : List Amplitude) → turns j (scaled s u) ≡ scaled s (turns j u)
turns-scaled j s [] = refl
turns-scaled j s (p ∷ u) = λ i. sym (product-turn s j p) i ∷ turns-scaled j s u i

pub turns-turns : (i j : ℕ) (u : List Amplitude) → turns i (turns j u) ≡ turns (i + j) u
turns-turns i j [] = refl
turns-turns i j (p ∷ u) = λ k. turn-turn i j p k ∷ turns-turns i j u k

turns-eight : (u : List Amplitude) → turns 8 u ≡ u
turns-eight [] = refl
turns-eight (p ∷ u) = λ i. turn-eight p i ∷ turns-eight u i

pub eight_single_turns : (u : List Amplitude) → turns 1 (turns 1 (turns 1 (turns 1 (turns 1 (turns 1 (turns 1 (turns 1 u))))))) ≡ u
eight_single_turns u =
    ap (λ v. turns 1 (turns 1 (turns 1 (turns 1 (turns 1 (turns 1 v)))))) (turns-turns 1 1 u)
    ∙ ap (λ v. turns 1 (turns 1 (turns 1 (turns 1 (turns 1 v))))) (turns-turns 1 2 u)
    ∙ ap (λ v. turns 1 (turns 1 (turns 1 (turns 1 v)))) (turns-turns 1 3 u)
    ∙ ap (λ v. turns 1 (turns 1 (turns 1 v))) (turns-turns 1 4 u)
    ∙ ap (λ v. turns 1 (turns 1 v)) (turns-turns 1 5 u)
    ∙ ap (λ v. turns 1 v) (turns-turns 1 6 u)
    ∙ turns-turns 1 7 u ∙ turns-eight u

pub quotients-sums : (u v : List Amplitude) → quotients (sums u v) ≡ sums (quotients u) (quotients v)
quotients-sums [] v = refl
quotients-sums (p ∷ u) [] = refl
quotients-sums (p ∷ u) (q ∷ v) = λ i. quotient_sum p q i ∷ quotients-sums u v i

pub quotients-scaled : (s : Amplitude) (u : List Amplitude) → quotients (scaled s u) ≡ scaled s (quotients u)
quotients-scaled s [] = refl
quotients-scaled s (p ∷ u) = λ i. sym (product-quotient s p) i ∷ quotients-scaled s u i

pub scaled_by_product : (s t : Amplitude) (u : List Amplitude) → scaled (product s t) u ≡ scaled s (scaled t u)
scaled_by_product s t u = sym (scaled-scaled s t u)

pub length-sums : (u v : List Amplitude) → length u ≡ length v → length (sums u v) ≡ length u
length-sums [] [] e = refl
length-sums [] (q ∷ v) e = refl
length-sums (p ∷ u) [] e = absurd (omega arith)
length-sums (p ∷ u) (q ∷ v) e = let more = length-sums u v (omega arith) in omega arith

pub one_zero : (u v : List Amplitude) → length u ≡ length v → IsZeroVector u → IsZeroVector v → u ≡ v
one_zero [] [] e h k = refl
one_zero [] (q ∷ v) e h k = absurd (omega arith)
one_zero (p ∷ u) [] e h k = absurd (omega arith)
one_zero (p ∷ u) (q ∷ v) e h k =
    let is_zero : Amplitude → Type 0 = λ r. r ≡ amplitude_zero in
    λ i. (All-head is_zero p u h ∙ sym (All-head is_zero q v k)) i ∷ one_zero u v (omega arith) (All-tail is_zero p u h) (All-tail is_zero q v k) i
