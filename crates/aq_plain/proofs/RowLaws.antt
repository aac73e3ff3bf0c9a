-- Vectors that are written entry by entry.
use Rattle.std.proofs.Common.{◌≡◌, ◌≢◌, ℕ, ◌+◌, ◌^◌, ◌<◌, Bool, true, false, cond, eqb, List, [], ◌∷◌, Some, length, get_or, set, drop, sym, ap, ◌∙◌, subst, ⊎_elim, arith}
use Rattle.std.specs.Prelude.{replicate}
use Rattle.std.specs.List.{All, find}
use Rattle.std.specs.Option.{option_map_or}
use Rattle.std.proofs.lemmas.Bool.{cases_eq, ne_eqb}
use Rattle.std.proofs.Common.{eq-eqb}
use Rattle.std.proofs.lemmas.List.{get_or-set_same, get_or-set_other, length-set, length-replicate, get_or-replicate, drop_more, drop_all}
use Rattle.std.proofs.lemmas.List.FromFn.{fill_by_all, get_or-map-range_with_len}
use Rattle.aq_ring.specs.Fractions.{Amplitude}
use Rattle.aq_ring.specs.Amplitudes.{amplitude_zero, amplitude_one}
use Rattle.aq_sets.specs.Vectors.{kets_entry, kets_vector, basis_vector}
use Rattle.aq_sets.specs.declared.sets.Term.{Term}
use Rattle.aq_sets.proofs.SizeLaws.{length-kets_vector}

-- what is chosen where the test is known
chosen : {A : Type 0} (b : Bool) (x y : A) → b ≡ true → cond b x y ≡ x
chosen b x y e = ap (λ t. cond t x y) e

other : {A : Type 0} (b : Bool) (x y : A) → b ≡ false → cond b x y ≡ y
other b x y e = ap (λ t. cond t x y) e

-- ---- brackets

pub kets_none : (n : ℕ) → replicate (2 ^ n) amplitude_zero ≡ kets_vector n []
unfolding kets_vector
kets_none n = fill_by_all (kets_entry []) (replicate (2 ^ n) amplitude_zero) (2 ^ n) amplitude_zero (length-replicate (2 ^ n) amplitude_zero)
    (λ k lt. get_or-replicate (2 ^ n) k amplitude_zero amplitude_zero lt)

entry_here : (t : Term) (ts : List Term) (k : ℕ) → t.index ≡ k → kets_entry (t ∷ ts) k ≡ t.amp
entry_here t ts k e =
    ap (λ o. option_map_or (λ (s : Term). s.amp) o amplitude_zero) (chosen (eqb t.index k) (Some t) (find (λ s. eqb s.index k) ts) (eq-eqb t.index k e))

entry_there : (t : Term) (ts : List Term) (k : ℕ) → (t.index ≡ k → ⊥) → kets_entry (t ∷ ts) k ≡ kets_entry ts k
entry_there t ts k e =
    ap (λ o. option_map_or (λ (s : Term). s.amp) o amplitude_zero) (other (eqb t.index k) (Some t) (find (λ s. eqb s.index k) ts) (ne_eqb t.index k e))

get_or-kets : (n : ℕ) (ts : List Term) (k : ℕ) → k < 2 ^ n → get_or (kets_vector n ts) k amplitude_zero ≡ kets_entry ts k
unfolding kets_vector
get_or-kets n ts k lt = get_or-map-range_with_len (kets_entry ts) 0 (2 ^ n) k k amplitude_zero lt (omega arith)

kets_filled : (n : ℕ) (ts : List Term) (xs : List Amplitude) → length xs ≡ 2 ^ n → ((k : ℕ) → k < 2 ^ n → get_or xs k amplitude_zero ≡ kets_entry ts k) → xs ≡ kets_vector n ts
unfolding kets_vector
kets_filled n ts xs e h = fill_by_all (kets_entry ts) xs (2 ^ n) amplitude_zero e h

pub kets_more : (n : ℕ) (t : Term) (ts : List Term) → t.index < 2 ^ n → set (kets_vector n ts) t.index t.amp ≡ kets_vector n (t ∷ ts)
kets_more n t ts in_n =
    let size = length-kets_vector n ts in
    kets_filled n (t ∷ ts) (set (kets_vector n ts) t.index t.amp) (length-set (kets_vector n ts) t.index t.amp ∙ size)
    (λ k lt. ⊎_elim
    (λ (e : k ≡ t.index).
    ap (λ i. get_or (set (kets_vector n ts) t.index t.amp) i amplitude_zero) e
    ∙ get_or-set_same (kets_vector n ts) t.index t.amp amplitude_zero (omega arith) ∙ sym (entry_here t ts k (sym e)))
    (λ (e : k ≢ t.index).
    get_or-set_other (kets_vector n ts) t.index k t.amp amplitude_zero e ∙ get_or-kets n ts k lt ∙ sym (entry_there t ts k (λ s. e (sym s))))
    (cases_eq k t.index))

-- the term at a place is written before those behind it
pub kets_step : (n : ℕ) (ts : List Term) (i j : ℕ) (t : Term) (row new : List Amplitude) → i < length ts → j ≡ i + 1 → t ≡ get_or ts i t → t.index < 2 ^ n
    → row ≡ kets_vector n (drop j ts) → new ≡ set row t.index t.amp → new ≡ kets_vector n (drop i ts)
kets_step n ts i j t row new lt next is in_n before made =
    let same : drop i ts ≡ t ∷ drop j ts = drop_more ts i t lt ∙ (λ k. sym is k ∷ drop (sym next k) ts) in
    made ∙ ap (λ r. set r t.index t.amp) before ∙ kets_more n t (drop j ts) in_n ∙ ap (kets_vector n) (sym same)

-- ---- basis vectors

pub basis_made : (n i : ℕ) → i < 2 ^ n → set (replicate (2 ^ n) amplitude_zero) i amplitude_one ≡ basis_vector n i
unfolding basis_vector
basis_made n i in_n =
    let size = length-replicate (2 ^ n) amplitude_zero in
    fill_by_all (λ x. cond (eqb x i) amplitude_one amplitude_zero) (set (replicate (2 ^ n) amplitude_zero) i amplitude_one) (2 ^ n) amplitude_zero
    (length-set (replicate (2 ^ n) amplitude_zero) i amplitude_one ∙ size)
    (λ k lt. ⊎_elim
    (λ (e : k ≡ i).
    ap (λ j. get_or (set (replicate (2 ^ n) amplitude_zero) i amplitude_one) j amplitude_zero) e
    ∙ get_or-set_same (replicate (2 ^ n) amplitude_zero) i amplitude_one amplitude_zero (omega arith)
    ∙ sym (chosen (eqb k i) amplitude_one amplitude_zero (eq-eqb k i e)))
    (λ (e : k ≢ i).
    get_or-set_other (replicate (2 ^ n) amplitude_zero) i k amplitude_one amplitude_zero e
    ∙ get_or-replicate (2 ^ n) k amplitude_zero amplitude_zero lt
    ∙ sym (other (eqb k i) amplitude_one amplitude_zero (ne_eqb k i e)))
    (cases_eq k i))

-- nothing is written at first
pub kets_start : (n : ℕ) (ts : List Term) → replicate (2 ^ n) amplitude_zero ≡ kets_vector n (drop (length ts) ts)
kets_start n ts = kets_none n ∙ ap (kets_vector n) (sym (drop_all (length ts) ts (omega arith)))

pub index_within : (n : ℕ) (ts : List Term) (i : ℕ) (t : Term) → All (λ t. t.index < 2 ^ n) ts → i < length ts → t ≡ get_or ts i t → t.index < 2 ^ n
index_within n ts i t all lt is = subst (λ (s : Term). s.index < 2 ^ n) (sym is) (all i t lt)
