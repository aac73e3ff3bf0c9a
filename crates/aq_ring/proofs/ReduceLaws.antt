-- The lowest form: it exists, keeps the number, and is the only one.
use Rattle.std.proofs.Common.{◌≡◌, ℕ, zero, suc, ◌+◌, ◌-◌, ◌≤◌, Bool, true, false, cond, refl, sym, ap, ◌∙◌, arith, subst}
use Rattle.aq_ring.proofs.QuadLaws.{times_root-sum, times_root-product, times_root-turned, quad_product_comm}
use Rattle.aq_ring.proofs.RootLaws.{is_divisible-turned, in_range_before, in_range_root_zero, over_root-times_root, is_divisible-times_root, times_root-over_root}
use Rattle.aq_ring.specs.Quads.{Quad, turned_by, quad_zero, quad_sum, quad_product, turned, times_root, times_roots, over_root, is_divisible}
use Rattle.aq_ring.specs.Fractions.{Fraction, reduced, IsLowest, IsInRange, zero-IsLowest}

-- ---- sqrt(2)^n
pub times_roots-add : (m n : ℕ) (x : Quad) → times_roots m (times_roots n x) ≡ times_roots (m + n) x
unfolding times_roots
times_roots-add zero n x = ap (λ k. times_roots k x) (omega arith)
times_roots-add (suc m) n x = ap times_root (times_roots-add m n x) ∙ ap (λ k. times_roots k x) (let e : suc (m + n) ≡ suc m + n = omega arith in e)

pub times_roots-root : (n : ℕ) (x : Quad) → times_roots n (times_root x) ≡ times_root (times_roots n x)
unfolding times_roots
times_roots-root zero x = refl
times_roots-root (suc n) x = ap times_root (times_roots-root n x)

pub times_roots-sum : (n : ℕ) (x y : Quad) → times_roots n (quad_sum x y) ≡ quad_sum (times_roots n x) (times_roots n y)
unfolding times_roots
times_roots-sum zero x y = refl
times_roots-sum (suc n) x y = ap times_root (times_roots-sum n x y) ∙ times_root-sum _ _

pub times_roots-product_left : (n : ℕ) (x y : Quad) → times_roots n (quad_product x y) ≡ quad_product (times_roots n x) y
unfolding times_roots
times_roots-product_left zero x y = refl
times_roots-product_left (suc n) x y = ap times_root (times_roots-product_left n x y) ∙ times_root-product _ _

pub times_roots-product : (m n : ℕ) (x y : Quad) → times_roots (m + n) (quad_product x y) ≡ quad_product (times_roots m x) (times_roots n y)
times_roots-product m n x y =
    sym (times_roots-add m n _) ∙ ap (times_roots m) (ap (times_roots n) (quad_product_comm x y) ∙ times_roots-product_left n y x ∙ quad_product_comm _ _)
    ∙ times_roots-product_left m x _

pub times_roots-turned : (n : ℕ) (x : Quad) → times_roots n (turned x) ≡ turned (times_roots n x)
unfolding times_roots
times_roots-turned zero x = refl
times_roots-turned (suc n) x = ap times_root (times_roots-turned n x) ∙ times_root-turned _

pub same_from_root : (x y : Quad) → times_root x ≡ times_root y → x ≡ y
same_from_root x y e = sym (over_root-times_root x) ∙ ap over_root e ∙ over_root-times_root y

pub same_from_roots : (n : ℕ) (x y : Quad) → times_roots n x ≡ times_roots n y → x ≡ y
unfolding times_roots
same_from_roots zero x y e = e
same_from_roots (suc n) x y e = same_from_roots n x y (same_from_root _ _ e)

-- ---- the lowest form
cond_cases : (P : Fraction → Type 0) (b : Bool) (x y : Fraction) → (b ≡ true → P x) → (b ≡ false → P y) → P (cond b x y)
cond_cases P true x y f g = f refl
cond_cases P false x y f g = g refl

pub reduced-power : (k : ℕ) (x : Quad) → (reduced k x).power ≤ k
unfolding reduced
reduced-power zero x = omega arith
reduced-power (suc k) x =
    let less = reduced-power k (over_root x) in
    cond_cases (λ p. p.power ≤ suc k) (is_divisible x) _ _ (λ _. omega arith) (λ _. omega arith)

one_more : (i j : ℕ) (y x : Quad) → i ≡ suc j → times_root y ≡ x → times_roots i y ≡ times_roots j x
unfolding times_roots
one_more i j y x e f = ap (λ k. times_roots k y) e ∙ sym (times_roots-root j y) ∙ ap (times_roots j) f

-- the number is kept
pub num_at-reduced : (n k : ℕ) (x : Quad) → k ≤ n → times_roots (n - (reduced k x).power) (reduced k x).num ≡ times_roots (n - k) x
unfolding reduced
num_at-reduced n zero x h = refl
num_at-reduced n (suc k) x h =
    cond_cases (λ p. times_roots (n - p.power) p.num ≡ times_roots (n - suc k) x) (is_divisible x) _ _
    (λ d. num_at-reduced n k (over_root x) (omega arith) ∙ one_more (n - k) (n - suc k) (over_root x) x (omega arith) (times_root-over_root x d))
    (λ _. refl)

-- a common factor goes
pub reduced-times_root : (k : ℕ) (x : Quad) → reduced (suc k) (times_root x) ≡ reduced k x
unfolding reduced
reduced-times_root k x = rw (is_divisible-times_root x, over_root-times_root x) refl

pub reduced-times_roots : (n k : ℕ) (x : Quad) → reduced (n + k) (times_roots n x) ≡ reduced k x
unfolding times_roots
reduced-times_roots zero k x = ap (λ i. reduced i x) (omega arith)
reduced-times_roots (suc n) k x = ap (λ i. reduced i (times_root (times_roots n x))) (let e : suc n + k ≡ suc (n + k) = omega arith in e) ∙ reduced-times_root (n + k) (times_roots n x) ∙ reduced-times_roots n k x

pub reduced-lowest : (k : ℕ) (x : Quad) → IsLowest x k → reduced k x ≡ record { num = x; power = k }
unfolding reduced
reduced-lowest zero x h = refl
reduced-lowest (suc k) x h = let e : is_divisible x ≡ false = h (omega arith) in rw e refl

pub is_divisible-turned_by : (j : ℕ) (x : Quad) → is_divisible (turned_by j x) ≡ is_divisible x
unfolding turned_by
is_divisible-turned_by zero x = refl
is_divisible-turned_by (suc j) x = is_divisible-turned (turned_by j x) ∙ is_divisible-turned_by j x

pub turned_by-IsLowest : (j : ℕ) (x : Quad) (k : ℕ) → IsLowest x k → IsLowest (turned_by j x) k
turned_by-IsLowest j x k low h = is_divisible-turned_by j x ∙ low h

-- ---- ranges, and zero
root_range : (k : ℕ) (y : Quad) → IsInRange (times_roots k y) → IsInRange y
unfolding times_roots
root_range zero y r = r
root_range (suc k) y r = root_range k y (in_range_before (times_roots k y) r)

pub in_range_earlier : (m n : ℕ) (x : Quad) → m ≤ n → IsInRange (times_roots n x) → IsInRange (times_roots m x)
in_range_earlier m n x h r =
    let e : n ≡ n - m + m = omega arith in
    let s : IsInRange (times_roots (n - m + m) x) = subst (λ k. IsInRange (times_roots k x)) e r in
    root_range (n - m) (times_roots m x) (subst IsInRange (sym (times_roots-add (n - m) m x)) s)

pub times_roots-zero : (n : ℕ) → times_roots n quad_zero ≡ quad_zero
unfolding times_roots
times_roots-zero zero = refl
times_roots-zero (suc n) = ap times_root (times_roots-zero n) ∙ in_range_root_zero

pub reduced-zero : (k : ℕ) → reduced k quad_zero ≡ record { num = quad_zero; power = 0 }
reduced-zero k =
    let e : k + 0 ≡ k = omega arith in
    sym (ap (λ i. reduced i quad_zero) e) ∙ ap (reduced (k + 0)) (sym (times_roots-zero k)) ∙ reduced-times_roots k 0 quad_zero ∙ zero_step
  where
    zero_step : reduced 0 quad_zero ≡ record { num = quad_zero; power = 0 }
    zero_step = reduced-lowest 0 quad_zero (zero-IsLowest quad_zero)
