-- Vectors of one qubit more, half by half.
use Rattle.std.proofs.Common.{◌≡◌, ◌≢◌, ℕ, zero, suc, ◌+◌, ◌-◌, ◌*◌, ◌^◌, ◌<◌, ◌≤◌, ◌⊎◌, inl, inr, rules, Bool, true, false, cond, eqb, ltb, leb, List, [], ◌∷◌, ◌++◌, Some, length, refl, sym, ap, ap₂, ◌∙◌, subst, ⊎_elim, arith, eq-eqb}
use Rattle.std.specs.Prelude.{map, filter, All}
use native.Mathlib.Numerals.{unary_clauses}
use Rattle.std.specs.List.{range_with_len, find, fold}
use Rattle.std.specs.Option.{option_map_or}
use Rattle.std.proofs.lemmas.Bool.{cases_eq, cases_lt, ne_eqb}
use Rattle.std.proofs.lemmas.List.{map-append}
use Rattle.std.proofs.lemmas.List.Elements.{All-nil, All-cons, All-head, All-tail}
use Rattle.aq_ring.specs.Fractions.{Amplitude}
use Rattle.aq_ring.specs.Amplitudes.{amplitude_zero, amplitude_one}
use Rattle.aq_sets.specs.Vectors.{entries, kets_entry, kets_vector, basis_vector}
use Rattle.aq_sets.specs.Sizes.{number_of}
use Rattle.aq_sets.specs.declared.sets.Term.{Term}
use Rattle.aq_store.specs.Words.{IsWord}
use Rattle.std.specs.Prelude.{replicate}
use Rattle.aq_set_build.specs.Brackets.{low_terms, high_terms}

-- ---- ranges

range-split : (a m n : ℕ) → range_with_len a (m + n) ≡ range_with_len a m ++ range_with_len (a + m) n
range-split a zero n = (λ i. range_with_len (e i) (f i))
  where
    e : a ≡ a + zero
    e = omega arith

    f : zero + n ≡ n
    f = omega arith
range-split a (suc m) n =
    let e : suc m + n ≡ suc (m + n) = omega arith in
    let f : a + 1 + m ≡ a + suc m = omega arith in
    ap (range_with_len a) e ∙ ap (λ l. a ∷ l) (range-split (a + 1) m n) ∙ ap (λ k. a ∷ (range_with_len (a + 1) m ++ range_with_len k n)) f

map-shift : {A : Type 0} (f : ℕ → A) (a b n : ℕ) → map f (range_with_len (a + b) n) ≡ map (λ x. f (a + x)) (range_with_len b n)
map-shift f a b zero = refl
map-shift f a b (suc n) =
    let e : a + b + 1 ≡ a + (b + 1) = omega arith in
    ap (λ l. f (a + b) ∷ l) (ap (λ k. map f (range_with_len k n)) e ∙ map-shift f a (b + 1) n)

map-same : {A : Type 0} (f g : ℕ → A) (a n : ℕ) → ((x : ℕ) → a ≤ x → x < a + n → f x ≡ g x) → map f (range_with_len a n) ≡ map g (range_with_len a n)
map-same f g a zero h = refl
map-same f g a (suc n) h = ap₂ (λ x l. x ∷ l) (h a (omega arith) (omega arith)) (map-same f g (a + 1) n (λ x le lt. h x (omega arith) (omega arith)))

pub entries-same : (n : ℕ) (f g : ℕ → Amplitude) → ((x : ℕ) → x < 2 ^ n → f x ≡ g x) → entries n f ≡ entries n g
entries-same n f g h = map-same f g 0 (2 ^ n) (λ x le lt. h x (omega arith))

power : (m : ℕ) → 2 ^ suc m ≡ 2 ^ m + 2 ^ m
power m = simp unary_clauses (omega arith)

pub entries-halves : (n : ℕ) (f : ℕ → Amplitude) → entries (suc n) f ≡ entries n f ++ entries n (λ x. f (2 ^ n + x))
entries-halves n f =
    let e : 0 + 2 ^ n ≡ 2 ^ n + 0 = omega arith in
    ap (λ m. map f (range_with_len 0 m)) (power n)
    ∙ ap (map f) (range-split 0 (2 ^ n) (2 ^ n))
    ∙ map-append f (range_with_len 0 (2 ^ n)) (range_with_len (0 + 2 ^ n) (2 ^ n))
    ∙ ap (λ k. map f (range_with_len 0 (2 ^ n)) ++ map f (range_with_len k (2 ^ n))) e
    ∙ ap (λ l. map f (range_with_len 0 (2 ^ n)) ++ l) (map-shift f (2 ^ n) 0 (2 ^ n))

-- ---- brackets

chosen : {A : Type 0} (b : Bool) (x y : A) → b ≡ true → cond b x y ≡ x
chosen b x y e = ap (λ t. cond t x y) e

other : {A : Type 0} (b : Bool) (x y : A) → b ≡ false → cond b x y ≡ y
other b x y e = ap (λ t. cond t x y) e

entry_here : (t : Term) (ts : List Term) (k : ℕ) → t.index ≡ k → kets_entry (t ∷ ts) k ≡ t.amp
entry_here t ts k e =
    ap (λ o. option_map_or (λ (s : Term). s.amp) o amplitude_zero) (chosen (eqb t.index k) (Some t) (find (λ s. eqb s.index k) ts) (eq-eqb t.index k e))

entry_there : (t : Term) (ts : List Term) (k : ℕ) → (t.index ≡ k → ⊥) → kets_entry (t ∷ ts) k ≡ kets_entry ts k
entry_there t ts k e =
    ap (λ o. option_map_or (λ (s : Term). s.amp) o amplitude_zero) (other (eqb t.index k) (Some t) (find (λ s. eqb s.index k) ts) (ne_eqb t.index k e))

-- one term more at the front of both lists
entry_both : (t s : Term) (ts ss : List Term) (k m : ℕ) → t.amp ≡ s.amp → (t.index ≡ k → s.index ≡ m) → (s.index ≡ m → t.index ≡ k) → kets_entry ts k ≡ kets_entry ss m
    → kets_entry (t ∷ ts) k ≡ kets_entry (s ∷ ss) m
entry_both t s ts ss k m same there back rest = ⊎_elim
    (λ (e : t.index ≡ k). entry_here t ts k e ∙ same ∙ sym (entry_here s ss m (there e)))
    (λ (e : t.index ≢ k). entry_there t ts k e ∙ rest ∙ sym (entry_there s ss m (λ f. e (back f))))
    (cases_eq t.index k)

low-more : (half : ℕ) (t : Term) (ts : List Term) → t.index < half → low_terms half (t ∷ ts) ≡ t ∷ low_terms half ts
low-more half t ts lt = chosen (ltb t.index half) (t ∷ low_terms half ts) (low_terms half ts) (search rules)

low-less : (half : ℕ) (t : Term) (ts : List Term) → half ≤ t.index → low_terms half (t ∷ ts) ≡ low_terms half ts
low-less half t ts le = other (ltb t.index half) (t ∷ low_terms half ts) (low_terms half ts) (search rules)

lowered : ℕ → Term → Term
lowered half t = record { index = t.index - half; amp = t.amp }

high-more : (half : ℕ) (t : Term) (ts : List Term) → half ≤ t.index → high_terms half (t ∷ ts) ≡ lowered half t ∷ high_terms half ts
unfolding lowered
high-more half t ts le =
    ap (map (λ (t : Term). record { index = t.index - half; amp = t.amp })) (chosen (leb half t.index) (t ∷ filter (λ t. leb half t.index) ts) (filter (λ t. leb half t.index) ts) (search rules))

high-less : (half : ℕ) (t : Term) (ts : List Term) → t.index < half → high_terms half (t ∷ ts) ≡ high_terms half ts
high-less half t ts lt =
    ap (map (λ (t : Term). record { index = t.index - half; amp = t.amp })) (other (leb half t.index) (t ∷ filter (λ t. leb half t.index) ts) (filter (λ t. leb half t.index) ts) (search rules))

entry-low : (half x : ℕ) → x < half → (ts : List Term) → kets_entry ts x ≡ kets_entry (low_terms half ts) x
entry-low half x lt [] = refl
entry-low half x lt (t ∷ ts) = ⊎_elim
    (λ (h : t.index < half). entry_both t t ts (low_terms half ts) x x refl (λ e. e) (λ e. e) (entry-low half x lt ts) ∙ ap (λ l. kets_entry l x) (sym (low-more half t ts h)))
    (λ (h : half ≤ t.index). entry_there t ts x (λ e. omega arith) ∙ entry-low half x lt ts ∙ ap (λ l. kets_entry l x) (sym (low-less half t ts h)))
    (cases_lt t.index half)

entry-high : (half x : ℕ) (ts : List Term) → kets_entry ts (half + x) ≡ kets_entry (high_terms half ts) x
unfolding lowered
entry-high half x [] = refl
entry-high half x (t ∷ ts) = ⊎_elim
    (λ (h : t.index < half). entry_there t ts (half + x) (λ e. omega arith) ∙ entry-high half x ts ∙ ap (λ l. kets_entry l x) (sym (high-less half t ts h)))
    (λ (h : half ≤ t.index).
    entry_both t (lowered half t) ts (high_terms half ts) (half + x) x refl (λ e. omega arith) (λ e. omega arith) (entry-high half x ts)
    ∙ ap (λ l. kets_entry l x) (sym (high-more half t ts h)))
    (cases_lt t.index half)

pub kets-halves : (n : ℕ) (ts : List Term) → kets_vector (suc n) ts ≡ kets_vector n (low_terms (2 ^ n) ts) ++ kets_vector n (high_terms (2 ^ n) ts)
unfolding kets_vector
kets-halves n ts =
    entries-halves n (kets_entry ts)
    ∙ ap₂ (λ u w. u ++ w)
    (entries-same n (kets_entry ts) (kets_entry (low_terms (2 ^ n) ts)) (λ x lt. entry-low (2 ^ n) x lt ts))
    (entries-same n (λ x. kets_entry ts (2 ^ n + x)) (kets_entry (high_terms (2 ^ n) ts)) (λ x lt. entry-high (2 ^ n) x ts))

-- both parts together have as many terms
pub parts-count : (half : ℕ) (ts : List Term) → length (low_terms half ts) + length (high_terms half ts) ≡ length ts
parts-count half [] = refl
parts-count half (t ∷ ts) = ⊎_elim
    (λ (h : t.index < half). (let a = ap length (low-more half t ts h) in let b = ap length (high-less half t ts h) in let c = parts-count half ts in omega arith))
    (λ (h : half ≤ t.index). (let a = ap length (low-less half t ts h) in let b = ap length (high-more half t ts h) in let c = parts-count half ts in omega arith))
    (cases_lt t.index half)

pub lows_inside : (half : ℕ) (ts : List Term) → All (λ t. t.index < half) (low_terms half ts)
lows_inside half [] = All-nil (λ t. t.index < half)
lows_inside half (t ∷ ts) = ⊎_elim
    (λ (h : t.index < half). subst (All (λ t. t.index < half)) (sym (low-more half t ts h)) (All-cons (λ t. t.index < half) t (low_terms half ts) h (lows_inside half ts)))
    (λ (h : half ≤ t.index). subst (All (λ t. t.index < half)) (sym (low-less half t ts h)) (lows_inside half ts))
    (cases_lt t.index half)

pub highs_inside : (half : ℕ) (ts : List Term) → All (λ t. t.index < half + half) ts → All (λ t. t.index < half) (high_terms half ts)
unfolding lowered
highs_inside half [] all = All-nil (λ t. t.index < half)
highs_inside half (t ∷ ts) all =
    let head : t.index < half + half = All-head (λ t. t.index < half + half) t ts all in
    let rest = highs_inside half ts (All-tail (λ t. t.index < half + half) t ts all) in
    ⊎_elim
    (λ (h : t.index < half). subst (All (λ t. t.index < half)) (sym (high-less half t ts h)) rest)
    (λ (h : half ≤ t.index).
    subst (All (λ t. t.index < half)) (sym (high-more half t ts h)) (All-cons (λ t. t.index < half) (lowered half t) (high_terms half ts) (let k : t.index - half < half = omega arith in k) rest))
    (cases_lt t.index half)

pub within_more : (n : ℕ) (ts : List Term) → All (λ t. t.index < 2 ^ suc n) ts → All (λ t. t.index < 2 ^ n + 2 ^ n) ts
within_more n ts all = subst (λ m. All (λ t. t.index < m) ts) (power n) all

-- a bracket without levels
pub kets-last : (t : Term) (ts : List Term) → t.index < 2 ^ 0 → kets_vector 0 (t ∷ ts) ≡ t.amp ∷ []
unfolding kets_vector
kets-last t ts lt = ap (λ a. a ∷ []) (entry_here t ts 0 (let one : 2 ^ 0 ≡ 1 = refl in omega arith))

pub kets-nothing : kets_vector 0 [] ≡ amplitude_zero ∷ []
unfolding kets_vector
kets-nothing = refl

-- ---- basis states

pub nothing-halves : (n : ℕ) → kets_vector (suc n) [] ≡ kets_vector n [] ++ kets_vector n []
nothing-halves n = kets-halves n []

single : ℕ → ℕ → Amplitude
single i x = cond (eqb x i) amplitude_one amplitude_zero

pub basis-low : (n i : ℕ) → i < 2 ^ n → basis_vector (suc n) i ≡ basis_vector n i ++ kets_vector n []
unfolding basis_vector kets_vector
basis-low n i lt =
    entries-halves n (λ x. cond (eqb x i) amplitude_one amplitude_zero)
    ∙ ap (λ w. entries n (λ x. cond (eqb x i) amplitude_one amplitude_zero) ++ w)
    (entries-same n (λ x. cond (eqb (2 ^ n + x) i) amplitude_one amplitude_zero) (kets_entry [])
    (λ x le. other (eqb (2 ^ n + x) i) amplitude_one amplitude_zero (ne_eqb (2 ^ n + x) i (λ e. omega arith))))

pub basis-high : (n i : ℕ) → basis_vector (suc n) (2 ^ n + i) ≡ kets_vector n [] ++ basis_vector n i
unfolding basis_vector kets_vector
basis-high n i =
    entries-halves n (λ x. cond (eqb x (2 ^ n + i)) amplitude_one amplitude_zero)
    ∙ ap₂ (λ u w. u ++ w)
    (entries-same n (λ x. cond (eqb x (2 ^ n + i)) amplitude_one amplitude_zero) (kets_entry [])
    (λ x lt. other (eqb x (2 ^ n + i)) amplitude_one amplitude_zero (ne_eqb x (2 ^ n + i) (λ e. omega arith))))
    (entries-same n (λ x. cond (eqb (2 ^ n + x) (2 ^ n + i)) amplitude_one amplitude_zero) (λ x. cond (eqb x i) amplitude_one amplitude_zero)
    (λ x lt. by x (cases_eq x i)))
  where
    by : (x : ℕ) → (x ≡ i) ⊎ (x ≢ i) → cond (eqb (2 ^ n + x) (2 ^ n + i)) amplitude_one amplitude_zero ≡ cond (eqb x i) amplitude_one amplitude_zero
    by x (inl e) = chosen (eqb (2 ^ n + x) (2 ^ n + i)) amplitude_one amplitude_zero (eq-eqb (2 ^ n + x) (2 ^ n + i) (ap (λ k. 2 ^ n + k) e)) ∙ sym (chosen (eqb x i) amplitude_one amplitude_zero (eq-eqb x i e))
    by x (inr e) = other (eqb (2 ^ n + x) (2 ^ n + i)) amplitude_one amplitude_zero (ne_eqb (2 ^ n + x) (2 ^ n + i) (λ f. e (omega arith))) ∙ sym (other (eqb x i) amplitude_one amplitude_zero (ne_eqb x i e))

pub basis-first : basis_vector 0 0 ≡ amplitude_one ∷ []
unfolding basis_vector
basis-first = refl

number-from : (n : ℕ) (word : List ℕ) (k : ℕ) → length word ≡ k → fold (λ m digit. 2 * m + digit) n word ≡ n * 2 ^ k + number_of word
number-from n [] zero e = omega (arith, (let f : 2 ^ 0 ≡ 1 = refl in f))
number-from n [] (suc k) e = absurd (omega arith)
number-from n (c ∷ word) zero e = absurd (omega arith)
number-from n (c ∷ word) (suc k) e =
    let a = number-from (2 * n + c) word k (omega arith) in
    let b = number-from (2 * 0 + c) word k (omega arith) in
    let p = power k in
    let f : (2 * n + c) * 2 ^ k ≡ n * (2 ^ k + 2 ^ k) + c * 2 ^ k = omega arith in
    let g : (2 * 0 + c) * 2 ^ k ≡ c * 2 ^ k = omega arith in
    let h : n * 2 ^ suc k ≡ n * (2 ^ k + 2 ^ k) = ap (λ m. n * m) p in
    omega arith

pub number-more : (c : ℕ) (word : List ℕ) → number_of (c ∷ word) ≡ c * 2 ^ length word + number_of word
number-more c word =
    let a = number-from (2 * 0 + c) word (length word) refl in
    let g : (2 * 0 + c) * 2 ^ length word ≡ c * 2 ^ length word = omega arith in
    omega arith

pub number-below : (k : ℕ) (word : List ℕ) → IsWord (replicate k 2) word → (number_of word < 2 ^ k) × (length word ≡ k)
number-below zero [] h = (let one : 2 ^ 0 ≡ 1 = refl in omega arith, refl)
number-below zero (c ∷ word) h = absurd h
number-below (suc k) [] h = absurd h
number-below (suc k) (c ∷ word) h =
    let rest = number-below k word h.1 in
    let more = number-more c word in
    let p = power k in
    let same : 2 ^ length word ≡ 2 ^ k = ap (λ m. 2 ^ m) rest.1 in
    (by c h.0 rest.0 more same p, ap suc rest.1)
  where
    by : (c : ℕ) → c < 2 → number_of word < 2 ^ k → number_of (c ∷ word) ≡ c * 2 ^ length word + number_of word → 2 ^ length word ≡ 2 ^ k → 2 ^ suc k ≡ 2 ^ k + 2 ^ k
        → number_of (c ∷ word) < 2 ^ suc k
    by zero two lt more same p = omega arith
    by (suc zero) two lt more same p = omega arith
    by (suc (suc c)) two lt more same p = absurd (omega arith)
