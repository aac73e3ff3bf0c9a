-- The laws of exact amplitudes in lowest form.
use Rattle.std.proofs.Common.{◌≡◌, ℕ, zero, suc, ◌+◌, ◌-◌, ◌≤◌, max, refl, sym, ap, ◌∙◌, arith, false, ◌⊎◌, inl, inr, ⊎_elim}
use mathlib.Core.Bool.{Bool-set}
use mathlib.Core.HLevel.{Π_prop, is_prop→PathP}
use Rattle.aq_ring.proofs.QuadLaws.{turned-eight, quad_sum_comm, quad_sum_assoc, quad_sum_zero, quad_sum_neg, quad_product_comm, quad_product_assoc, quad_product_sum, quad_product_one, quad_product_zero, turned-four, turned_by-sum, turned_by-product}
use Rattle.aq_ring.proofs.ReduceLaws.{times_roots-add, times_roots-sum, times_roots-product, times_roots-turned, times_roots-zero, reduced-power, num_at-reduced, reduced-lowest, reduced-zero, reduced-times_roots, same_from_roots}
use Rattle.aq_ring.proofs.NormLaws.{no_zero_divisors}
use Rattle.aq_ring.specs.Quads.{Quad, quad_zero, quad_sum, quad_product, turned, turned_by, times_roots, is_divisible}
use Rattle.aq_ring.specs.Fractions.{Fraction, Amplitude, reduced, IsLowest}
use Rattle.aq_ring.specs.Amplitudes.{lowest_form, num_at, sum, product, turn, quotient, amplitude_zero, amplitude_one}

IsLowest_prop : (x : Quad) (k : ℕ) → IsProp (IsLowest x k)
IsLowest_prop x k = Π_prop (λ _. Bool-set (is_divisible x) false)

-- equal numerators and powers make equal amplitudes
pub same_amplitude : (p q : Amplitude) → p.num ≡ q.num → p.power ≡ q.power → p ≡ q
same_amplitude p q e f = λ i. record { num = e i; power = f i; lowest = is_prop→PathP (λ j. IsLowest (e j) (f j)) (λ j. IsLowest_prop (e j) (f j)) p.lowest q.lowest i }

pub same_form : (k l : ℕ) (x y : Quad) → reduced k x ≡ reduced l y → lowest_form k x ≡ lowest_form l y
unfolding lowest_form
same_form k l x y e = same_amplitude _ _ (ap (λ (f : Fraction). f.num) e) (ap (λ (f : Fraction). f.power) e)

pub lowest_form-power : (k : ℕ) (x : Quad) → (lowest_form k x).power ≤ k
unfolding lowest_form
lowest_form-power k x = reduced-power k x

pub num_at-lowest_form : (n k : ℕ) (x : Quad) → k ≤ n → num_at n (lowest_form k x) ≡ times_roots (n - k) x
unfolding lowest_form
num_at-lowest_form n k x h = num_at-reduced n k x h

pub lowest_form-own : (p : Amplitude) → lowest_form p.power p.num ≡ p
unfolding lowest_form
lowest_form-own p = let e = reduced-lowest p.power p.num p.lowest in same_amplitude _ _ (ap (λ (f : Fraction). f.num) e) (ap (λ (f : Fraction). f.power) e)

pub lowest_form-num_at : (n : ℕ) (p : Amplitude) → p.power ≤ n → lowest_form n (num_at n p) ≡ p
lowest_form-num_at n p h =
    same_form n p.power (num_at n p) p.num
    (ap (λ i. reduced i (num_at n p)) (let e : n ≡ n - p.power + p.power = omega arith in e) ∙ reduced-times_roots (n - p.power) p.power p.num)
    ∙ lowest_form-own p

-- two amplitudes that are one number over sqrt(2)^n are equal
pub one_lowest_form : (n : ℕ) (p q : Amplitude) → p.power ≤ n → q.power ≤ n → num_at n p ≡ num_at n q → p ≡ q
one_lowest_form n p q in_p in_q e = sym (lowest_form-num_at n p in_p) ∙ ap (lowest_form n) e ∙ lowest_form-num_at n q in_q

same_times : (m n : ℕ) (x : Quad) → m ≡ n → times_roots m x ≡ times_roots n x
same_times m n x e = ap (λ k. times_roots k x) e

-- ---- the operations over one denominator
pub sum-power : (p q : Amplitude) → (sum p q).power ≤ max p.power q.power
unfolding sum
sum-power p q = lowest_form-power _ _

pub num_at-later : (m n : ℕ) (p : Amplitude) → p.power ≤ m → m ≤ n → times_roots (n - m) (num_at m p) ≡ num_at n p
num_at-later m n p h k = times_roots-add (n - m) (m - p.power) p.num ∙ same_times _ _ _ (omega arith)

pub num_at-sum : (n : ℕ) (p q : Amplitude) → p.power ≤ n → q.power ≤ n → num_at n (sum p q) ≡ quad_sum (num_at n p) (num_at n q)
unfolding sum
num_at-sum n p q h k =
    let m = max p.power q.power in
    let in_n : max p.power q.power ≤ n = omega arith in
    num_at-lowest_form n m (quad_sum (num_at m p) (num_at m q)) in_n
    ∙ times_roots-sum (n - m) _ _
    ∙ (λ i. quad_sum (num_at-later m n p (omega arith) in_n i) (num_at-later m n q (omega arith) in_n i))

pub product-power : (p q : Amplitude) → (product p q).power ≤ p.power + q.power
unfolding product
product-power p q = lowest_form-power _ _

pub num_at-product : (m n : ℕ) (p q : Amplitude) → p.power ≤ m → q.power ≤ n → num_at (m + n) (product p q) ≡ quad_product (num_at m p) (num_at n q)
unfolding product
num_at-product m n p q h k =
    num_at-lowest_form (m + n) (p.power + q.power) (quad_product p.num q.num) (omega arith)
    ∙ same_times _ _ _ (let e : m + n - (p.power + q.power) ≡ (m - p.power) + (n - q.power) = omega arith in e)
    ∙ times_roots-product (m - p.power) (n - q.power) p.num q.num

pub quotient-power : (p : Amplitude) → (quotient p).power ≤ suc p.power
unfolding quotient
quotient-power p = lowest_form-power _ _

pub num_at-quotient : (n : ℕ) (p : Amplitude) → p.power ≤ n → num_at (suc n) (quotient p) ≡ num_at n p
unfolding quotient
num_at-quotient n p h = num_at-lowest_form (suc n) (suc p.power) p.num (omega arith) ∙ same_times _ _ _ (omega arith)

times_roots-turned_by : (j n : ℕ) (x : Quad) → times_roots n (turned_by j x) ≡ turned_by j (times_roots n x)
unfolding turned_by
times_roots-turned_by zero n x = refl
times_roots-turned_by (suc j) n x = times_roots-turned n (turned_by j x) ∙ ap turned (times_roots-turned_by j n x)

pub turn-power : (j : ℕ) (p : Amplitude) → (turn j p).power ≤ p.power
unfolding turn
turn-power j p = lowest_form-power _ _

pub num_at-turn : (n j : ℕ) (p : Amplitude) → p.power ≤ n → num_at n (turn j p) ≡ turned_by j (num_at n p)
unfolding turn
num_at-turn n j p h = num_at-lowest_form n p.power _ h ∙ times_roots-turned_by j (n - p.power) p.num

-- ---- the ring laws
pub sum_comm : (p q : Amplitude) → sum p q ≡ sum q p
sum_comm p q =
    let n = max p.power q.power in
    let a = sum-power p q in let b = sum-power q p in
    one_lowest_form n _ _ (omega arith) (omega arith)
    (num_at-sum n p q (omega arith) (omega arith) ∙ quad_sum_comm _ _ ∙ sym (num_at-sum n q p (omega arith) (omega arith)))

pub sum_assoc : (p q r : Amplitude) → sum (sum p q) r ≡ sum p (sum q r)
sum_assoc p q r =
    let n = p.power + q.power + r.power in
    let a = sum-power p q in let b = sum-power q r in
    let c = sum-power (sum p q) r in let d = sum-power p (sum q r) in
    one_lowest_form n _ _ (omega arith) (omega arith)
    (num_at-sum n (sum p q) r (omega arith) (omega arith)
    ∙ ap (λ x. quad_sum x (num_at n r)) (num_at-sum n p q (omega arith) (omega arith))
    ∙ quad_sum_assoc _ _ _
    ∙ ap (quad_sum (num_at n p)) (sym (num_at-sum n q r (omega arith) (omega arith)))
    ∙ sym (num_at-sum n p (sum q r) (omega arith) (omega arith)))

pub product_comm : (p q : Amplitude) → product p q ≡ product q p
unfolding product
product_comm p q = (λ i. lowest_form (add_comm p.power q.power i) (quad_product_comm p.num q.num i))
  where
    add_comm : (m n : ℕ) → m + n ≡ n + m
    add_comm m n = omega arith

pub product_assoc : (p q r : Amplitude) → product (product p q) r ≡ product p (product q r)
product_assoc p q r =
    let k = p.power in let l = q.power in let m = r.power in
    let a = product-power p q in let b = product-power q r in
    let c = product-power (product p q) r in let d = product-power p (product q r) in
    let e : k + (l + m) ≡ k + l + m = omega arith in
    one_lowest_form (k + l + m) _ _ (omega arith) (omega arith)
    (num_at-product (k + l) m (product p q) r a (omega arith)
    ∙ ap (λ x. quad_product x (num_at m r)) (num_at-product k l p q (omega arith) (omega arith))
    ∙ quad_product_assoc _ _ _
    ∙ ap (quad_product (num_at k p)) (sym (num_at-product l m q r (omega arith) (omega arith)))
    ∙ sym (num_at-product k (l + m) p (product q r) (omega arith) b)
    ∙ ap (λ n. num_at n (product p (product q r))) e)

pub product_sum : (p q r : Amplitude) → product p (sum q r) ≡ sum (product p q) (product p r)
product_sum p q r =
    let k = p.power in let m = q.power + r.power in
    let a = sum-power q r in let b = product-power p (sum q r) in
    let c = product-power p q in let d = product-power p r in
    let e = sum-power (product p q) (product p r) in
    one_lowest_form (k + m) _ _ (omega arith) (omega arith)
    (num_at-product k m p (sum q r) (omega arith) (omega arith)
    ∙ ap (quad_product (num_at k p)) (num_at-sum m q r (omega arith) (omega arith))
    ∙ quad_product_sum _ _ _
    ∙ ap (λ x. quad_sum x (quad_product (num_at k p) (num_at m r))) (sym (num_at-product k m p q (omega arith) (omega arith)))
    ∙ ap (quad_sum (num_at (k + m) (product p q))) (sym (num_at-product k m p r (omega arith) (omega arith)))
    ∙ sym (num_at-sum (k + m) (product p q) (product p r) (omega arith) (omega arith)))

-- ---- zero and one
pub lowest_form-zero : (k : ℕ) → lowest_form k quad_zero ≡ amplitude_zero
unfolding lowest_form
lowest_form-zero k = let e = reduced-zero k in same_amplitude _ _ (ap (λ (f : Fraction). f.num) e) (ap (λ (f : Fraction). f.power) e)

num_at-zero : (n : ℕ) → num_at n amplitude_zero ≡ quad_zero
num_at-zero n = times_roots-zero (n - 0)

pub sum-zero : (p : Amplitude) → sum amplitude_zero p ≡ p
sum-zero p =
    let a = sum-power amplitude_zero p in
    one_lowest_form p.power _ _ (omega arith) (omega arith)
    (num_at-sum p.power amplitude_zero p (omega arith) (omega arith) ∙ ap (λ x. quad_sum x (num_at p.power p)) (num_at-zero p.power) ∙ quad_sum_zero _)

pub sum-opposite : (p : Amplitude) → sum p (turn 4 p) ≡ amplitude_zero
sum-opposite p =
    let a = sum-power p (turn 4 p) in let b = turn-power 4 p in
    one_lowest_form p.power _ _ (omega arith) (omega arith)
    (num_at-sum p.power p (turn 4 p) (omega arith) (omega arith)
    ∙ ap (quad_sum (num_at p.power p)) (num_at-turn p.power 4 p (omega arith) ∙ turned-four _) ∙ quad_sum_neg _ ∙ sym (num_at-zero p.power))

pub product-one : (p : Amplitude) → product amplitude_one p ≡ p
unfolding product
product-one p = (λ i. lowest_form (zero_plus p.power i) (quad_product_one p.num i)) ∙ lowest_form-own p
  where
    zero_plus : (n : ℕ) → 0 + n ≡ n
    zero_plus n = omega arith

pub product-zero : (p : Amplitude) → product amplitude_zero p ≡ amplitude_zero
unfolding product
product-zero p = ap (lowest_form (0 + p.power)) (quad_product_zero p.num) ∙ lowest_form-zero _

-- zero's only numerator
pub zero_num : (k : ℕ) (x : Quad) → lowest_form k x ≡ amplitude_zero → x ≡ quad_zero
zero_num k x e =
    let same : k - k ≡ 0 = omega arith in
    same_from_roots 0 x quad_zero
    (sym (same_times _ _ x same) ∙ sym (num_at-lowest_form k k x (omega arith)) ∙ ap (num_at k) e ∙ num_at-zero k ∙ sym (times_roots-zero 0))

pub lowest_zero : (p : Amplitude) → p.num ≡ quad_zero → p ≡ amplitude_zero
lowest_zero p e = sym (lowest_form-own p) ∙ ap (lowest_form p.power) e ∙ lowest_form-zero p.power

pub product_without_zero : (p q : Amplitude) → product p q ≡ amplitude_zero → (p ≡ amplitude_zero) ⊎ (q ≡ amplitude_zero)
unfolding product
product_without_zero p q e =
    ⊎_elim (λ z. inl (lowest_zero p z)) (λ z. inr (lowest_zero q z)) (no_zero_divisors p.num q.num (zero_num _ _ e))

-- ---- turns and quotients
pub turn-sum : (j : ℕ) (p q : Amplitude) → turn j (sum p q) ≡ sum (turn j p) (turn j q)
turn-sum j p q =
    let n = max p.power q.power in
    let a = sum-power p q in let b = sum-power (turn j p) (turn j q) in let c = turn-power j p in let d = turn-power j q in let e = turn-power j (sum p q) in
    one_lowest_form n _ _ (omega arith) (omega arith)
    (num_at-turn n j (sum p q) (omega arith) ∙ ap (turned_by j) (num_at-sum n p q (omega arith) (omega arith)) ∙ turned_by-sum j _ _
    ∙ (λ i. quad_sum (sym (num_at-turn n j p (omega arith)) i) (sym (num_at-turn n j q (omega arith)) i))
    ∙ sym (num_at-sum n (turn j p) (turn j q) (omega arith) (omega arith)))

pub turn-product : (j : ℕ) (p q : Amplitude) → turn j (product p q) ≡ product (turn j p) q
turn-product j p q =
    let m = p.power in let n = q.power in
    let a = product-power p q in let b = product-power (turn j p) q in let c = turn-power j p in let d = turn-power j (product p q) in
    one_lowest_form (m + n) _ _ (omega arith) (omega arith)
    (num_at-turn (m + n) j (product p q) (omega arith) ∙ ap (turned_by j) (num_at-product m n p q (omega arith) (omega arith)) ∙ turned_by-product j _ _
    ∙ ap (λ x. quad_product x (num_at n q)) (sym (num_at-turn m j p (omega arith)))
    ∙ sym (num_at-product m n (turn j p) q (omega arith) (omega arith)))

pub quotient_sum : (p q : Amplitude) → quotient (sum p q) ≡ sum (quotient p) (quotient q)
quotient_sum p q =
    let n = max p.power q.power in
    let a = sum-power p q in let b = quotient-power (sum p q) in
    let c = quotient-power p in let d = quotient-power q in let e = sum-power (quotient p) (quotient q) in
    one_lowest_form (suc n) _ _ (omega arith) (omega arith)
    (num_at-quotient n (sum p q) (omega arith) ∙ num_at-sum n p q (omega arith) (omega arith)
    ∙ (λ i. quad_sum (sym (num_at-quotient n p (omega arith)) i) (sym (num_at-quotient n q (omega arith)) i))
    ∙ sym (num_at-sum (suc n) (quotient p) (quotient q) (omega arith) (omega arith)))

pub quotient_product : (p q : Amplitude) → quotient (product p q) ≡ product (quotient p) q
quotient_product p q =
    let m = p.power in let n = q.power in
    let a = product-power p q in let b = quotient-power (product p q) in
    let c = quotient-power p in let d = product-power (quotient p) q in
    one_lowest_form (suc (m + n)) _ _ (omega arith) (omega arith)
    (num_at-quotient (m + n) (product p q) (omega arith) ∙ num_at-product m n p q (omega arith) (omega arith)
    ∙ ap (λ x. quad_product x (num_at n q)) (sym (num_at-quotient m p (omega arith)))
    ∙ sym (num_at-product (suc m) n (quotient p) q c (omega arith))
    ∙ ap (λ k. num_at k (product (quotient p) q)) (let s : suc m + n ≡ suc (m + n) = omega arith in s))

-- ---- one lowest form
pub same_lowest : (k l : ℕ) (x y : Quad) → times_roots l x ≡ times_roots k y → lowest_form k x ≡ lowest_form l y
same_lowest k l x y e =
    same_form k l x y (sym (reduced-times_roots l k x) ∙ ap (reduced (l + k)) e ∙ ap (λ i. reduced i (times_roots k y)) (let s : l + k ≡ k + l = omega arith in s) ∙ reduced-times_roots k l y)

pub same_number : (k l : ℕ) (x y : Quad) → lowest_form k x ≡ lowest_form l y → times_roots l x ≡ times_roots k y
same_number k l x y e =
    same_times _ _ x (let s : l ≡ k + l - k = omega arith in s) ∙ sym (num_at-lowest_form (k + l) k x (omega arith)) ∙ ap (num_at (k + l)) e
    ∙ num_at-lowest_form (k + l) l y (omega arith) ∙ same_times _ _ y (let s : k + l - l ≡ k = omega arith in s)

pub turn-eight : (p : Amplitude) → turn 8 p ≡ p
unfolding turn
turn-eight p = ap (lowest_form p.power) (turned-eight p.num) ∙ lowest_form-own p
