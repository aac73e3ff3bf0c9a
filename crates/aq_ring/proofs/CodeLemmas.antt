-- Steps of the code, over plain variables.
use Rattle.std.proofs.Common.{◌≡◌, ◌≢◌, ℕ, zero, suc, ◌+◌, ◌-◌, ◌<◌, ◌≤◌, ◌^◌, max, true, false, refl, sym, ap, ◌∙◌, arith, subst, add-one, Option, None, List, [], ◌∷◌, length, get_or, ℤ, pos}
use Rattle.std.specs.Option.{SomeIff}
use Rattle.aq_ring.proofs.ReduceLaws.{in_range_earlier}
use Rattle.aq_ring.proofs.AmplitudeLaws.{sum-zero, sum_comm, quotient-power, lowest_form-own, same_form}
use Rattle.aq_ring.specs.Quads.{Quad, quad, quad_sum, quad_product, turned, turned_by, times_root, times_roots, over_root, is_divisible}
use Rattle.aq_ring.specs.Fractions.{Amplitude, reduced, IsInRange, FitsProduct, quad_of}
use Rattle.aq_ring.specs.Amplitudes.{lowest_form, num_at, sum, product, quotient, turn, amplitude_zero, IsSumInRange, FitsSum, FitsAmplitudeProduct, FitsQuotient}

pub turned_by-more : (i : ℕ) (x : Quad) → turned (turned_by i x) ≡ turned_by (i + 1) x
unfolding turned_by
turned_by-more i x = rw add-one refl

pub times_roots-more : (i : ℕ) (x : Quad) → times_root (times_roots i x) ≡ times_roots (i + 1) x
unfolding times_roots
times_roots-more i x = rw add-one refl

pub times_roots-none : (x : Quad) → times_roots 0 x ≡ x
unfolding times_roots
times_roots-none x = refl

pub reduced-step : (k : ℕ) (x : Quad) → 0 < k → is_divisible x ≡ true → reduced (k - 1) (over_root x) ≡ reduced k x
unfolding reduced
reduced-step zero x h e = absurd (omega arith)
reduced-step (suc k) x h e = rw e (ap (λ i. reduced i (over_root x)) (omega arith))

-- at a power above 0 the quotient's power is one more
pub quotient-power_is : (p : Amplitude) → 0 < p.power → (quotient p).power ≡ suc p.power
unfolding quotient lowest_form reduced
quotient-power_is p h = let e : is_divisible p.num ≡ false = p.lowest h in rw e refl

-- the answer None, where the fact fails
pub none_where : {T : Type 0} (r : Option T) (P : Type 0) (v : T) → r ≡ None → (P → ⊥) → SomeIff r P v
none_where r P v e h = subst (λ o. SomeIff o P v) (sym e) h

pub too_large : (x y : Quad) (i n : ℕ) → y ≡ times_roots i x → i < n → (IsInRange (times_root y) → ⊥) → IsInRange (times_roots n x) → ⊥
too_large x y i n e lt none h =
    let more : IsInRange (times_roots (i + 1) x) = in_range_earlier (i + 1) n x (omega arith) h in
    none (subst IsInRange (sym (ap times_root e ∙ times_roots-more i x)) more)

pub no_quotient : (p : Amplitude) → (p.power + 1 < 2 ^ 32 → ⊥) → FitsQuotient p → ⊥
no_quotient p none fits =
    let far : 2 ^ 32 ≤ p.power + 1 = at_least (p.power + 1) (2 ^ 32) none in
    let e = quotient-power_is p (omega arith) in omega arith
  where
    at_least : (m n : ℕ) → (m < n → ⊥) → n ≤ m
    at_least m n h = grind arith

pub over_root-is : (p q : Amplitude) (k : ℕ) → (p.power + 1 < 2 ^ 32) × (k ≡ p.power + 1) → q ≡ lowest_form k p.num → FitsQuotient p × (q ≡ quotient p)
unfolding quotient
over_root-is p q k h e =
    let less = quotient-power p in
    (omega arith, e ∙ ap (λ i. lowest_form i p.num) (h.1 ∙ add-one _))

pub product-is : (p q r : Amplitude) (k : ℕ) (x : Quad) → (p.power + q.power < 2 ^ 32) × (k ≡ p.power + q.power) → FitsProduct p.num q.num × (x ≡ quad_product p.num q.num) → r ≡ lowest_form k x
    → FitsAmplitudeProduct p q × (r ≡ product p q)
unfolding product
product-is p q r k x h g e = (record { numerators = g.0; powers = h.0 }, e ∙ (λ i. lowest_form (h.1 i) (g.1 i)))

pub sum-is : (p q r : Amplitude) (k : ℕ) (x y z : Quad) → k ≡ max p.power q.power
    → IsInRange (times_roots (k - p.power) p.num) × (x ≡ times_roots (k - p.power) p.num)
    → IsInRange (times_roots (k - q.power) q.num) × (y ≡ times_roots (k - q.power) q.num)
    → IsInRange (quad_sum x y) × (z ≡ quad_sum x y) → r ≡ lowest_form k z
    → IsSumInRange p q × (r ≡ sum p q)
unfolding sum
sum-is p q r k x y z h f g s e =
    let left = subst (λ n. IsInRange (num_at n p) × (x ≡ num_at n p)) h f in
    let right = subst (λ n. IsInRange (num_at n q) × (y ≡ num_at n q)) h g in
    let both : quad_sum x y ≡ quad_sum (num_at (max p.power q.power) p) (num_at (max p.power q.power) q) = (λ i. quad_sum (left.1 i) (right.1 i)) in
    (record { left = left.0; right = right.0; sums = subst IsInRange both s.0 }, e ∙ (λ i. lowest_form (h i) ((s.1 ∙ both) i)))

-- an array of four is the number of its items
pub quad_of-items : (xs : List ℤ) → length xs ≡ 4 → quad (get_or xs 0 (pos 0)) (get_or xs 1 (pos 0)) (get_or xs 2 (pos 0)) (get_or xs 3 (pos 0)) ≡ quad_of xs
quad_of-items [] e = absurd (omega arith)
quad_of-items (a ∷ []) e = absurd (omega arith)
quad_of-items (a ∷ b ∷ []) e = absurd (omega arith)
quad_of-items (a ∷ b ∷ c ∷ []) e = absurd (omega arith)
quad_of-items (a ∷ b ∷ c ∷ d ∷ []) e = refl
quad_of-items (a ∷ b ∷ c ∷ d ∷ x ∷ xs) e = absurd (omega arith)

-- what a lowest form's own fraction says of it
pub lowest-is : (p : Amplitude) (k : ℕ) (x : Quad) → reduced p.power p.num ≡ reduced k x → p ≡ lowest_form k x
lowest-is p k x e = sym (lowest_form-own p) ∙ same_form p.power k p.num x e

pub turn-is : (p q : Amplitude) (j : ℕ) → q.num ≡ turned_by j p.num → q.power ≡ p.power → q ≡ turn j p
unfolding turn
turn-is p q j e f = sym (lowest_form-own q) ∙ (λ i. lowest_form (f i) (e i))

-- a zero operand leaves the other
pub sum_with_zero : (p q : Amplitude) → p ≡ amplitude_zero → FitsSum p q × (q ≡ sum p q)
sum_with_zero p q z = (record { unless_zero = λ n _. absurd (n z) }, sym (ap (λ x. sum x q) z ∙ sum-zero q))

pub sum_onto_zero : (p q : Amplitude) → q ≡ amplitude_zero → FitsSum p q × (p ≡ sum p q)
sum_onto_zero p q z = (record { unless_zero = λ _ n. absurd (n z) }, sym (sum_comm p q ∙ ap (λ x. sum x p) z ∙ sum-zero p))

pub fits_sum-from : (p q : Amplitude) → p ≢ amplitude_zero → q ≢ amplitude_zero → (IsSumInRange p q → ⊥) → FitsSum p q → ⊥
fits_sum-from p q m n none h = none (h.unless_zero m n)
