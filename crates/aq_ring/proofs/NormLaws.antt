-- There are no zero divisors.
use Rattle.std.proofs.Common.{◌≡◌, ℕ, zero, suc, ◌+◌, ◌*◌, ◌/◌, ◌%◌, ◌<◌, ◌≤◌, ◌⊎◌, inl, inr, refl, sym, ap, ◌∙◌, arith, ℤ, pos, negsuc, ◌+ℤ◌, ◌-ℤ◌, ◌*ℤ◌, neg_ℤ, unsigned_abs}
use Rattle.std.proofs.lemmas.Int.{ints, unsigned_abs-mul}
use Rattle.std.proofs.lemmas.Bool.{cases_lt, cases_eq}
use native.Mathlib.Nat.{mul-le-mul}
use Rattle.aq_ring.proofs.Ints.{spread, linear}
use Rattle.aq_ring.proofs.QuadLaws.{same_quad, quad_product_assoc, quad_product_comm, quad_product_zero}
use Rattle.aq_ring.specs.Quads.{Quad, quad_zero, quad_product}
use Rattle.aq_ring.specs.Norms.{conjugate, with_root, norm_whole, norm_root}

-- ---- sqrt(2) is no quotient of whole numbers
odd : (s h k : ℕ) → 2 * k ≡ 4 * s + 4 * h + 1 → ⊥
odd s h k e = omega arith

by_rest : (h r m k : ℕ) → m * m ≡ 2 * k → m ≡ 2 * h + r → m * m ≡ (2 * h + r) * (2 * h + r) → r < 2 → m ≡ 2 * h
by_rest h zero m k e is square lt = omega arith
by_rest h (suc zero) m k e is square lt = absurd (odd (h * h) h k (omega arith))
by_rest h (suc (suc r)) m k e is square lt = absurd (omega arith)

even_square : (m k : ℕ) → m * m ≡ 2 * k → m ≡ 2 * (m / 2)
even_square m k e =
    let is : m ≡ 2 * (m / 2) + m % 2 = omega arith in
    let square : m * m ≡ (2 * (m / 2) + m % 2) * (2 * (m / 2) + m % 2) = ap (λ x. x * x) is in
    by_rest (m / 2) (m % 2) m k e is square (omega arith)

no_square : (m : ℕ) → m * m ≡ 0 → m ≡ 0
no_square zero e = refl
no_square (suc m) e = absurd (omega arith)

twice_zero : (n : ℕ) → n ≤ 0 → 2 * (n * n) ≡ 0
twice_zero n le = let z : n ≡ 0 = omega arith in rw z refl

by_size : (m n h : ℕ) → m ≡ 2 * h → n * n ≡ 2 * (h * h) → (h < n → n ≡ 0) → (h < n) ⊎ (n ≤ h) → m ≡ 0
by_size m n h is half lower (inl lt) = let z = lower lt in absurd (omega arith)
by_size m n zero is half lower (inr ge) = omega arith
by_size m n (suc h) is half lower (inr ge) = let s = mul-le-mul ge ge in absurd (omega arith)

-- by descent, n being below the bound
descent : (fuel m n : ℕ) → n ≤ fuel → m * m ≡ 2 * (n * n) → m ≡ 0
descent zero m n le e = no_square m (e ∙ twice_zero n le)
descent (suc fuel) m n le e =
    let is = even_square m (n * n) e in
    let square : m * m ≡ (2 * (m / 2)) * (2 * (m / 2)) = ap (λ x. x * x) is in
    let half : n * n ≡ 2 * ((m / 2) * (m / 2)) = omega arith in
    by_size m n (m / 2) is half (λ lt. descent fuel n (m / 2) (omega arith) half) (cases_lt (m / 2) n)

pub no_root_of_two : (m n : ℕ) → m * m ≡ 2 * (n * n) → m ≡ 0
no_root_of_two m n e = descent n m n (omega arith) e

-- ---- the norm
square_is : (z : ℤ) → z *ℤ z ≡ pos (unsigned_abs z * unsigned_abs z)
square_is (pos n) = refl
square_is (negsuc n) = refl

pub norm_is : (x : Quad) → quad_product (conjugate x) x ≡ with_root (norm_whole x) (norm_root x)
unfolding quad_product
norm_is x = same_quad _ _ (simp spread (omega (arith, ints))) (simp spread (omega (arith, ints))) (simp spread (omega (arith, ints))) (simp spread (omega (arith, ints)))

root_norm : (s t : ℤ) → quad_product (with_root s (neg_ℤ t)) (with_root s t) ≡ with_root (s *ℤ s -ℤ (t *ℤ t +ℤ t *ℤ t)) (pos 0)
unfolding quad_product
root_norm s t = same_quad _ _ (simp spread (omega (arith, ints))) (simp spread (omega (arith, ints))) (simp spread (omega (arith, ints))) (simp spread (omega (arith, ints)))

zero_product : (m n : ℕ) → m * n ≡ 0 → (m ≡ 0) ⊎ (n ≡ 0)
zero_product zero n e = inl refl
zero_product (suc m) zero e = inr refl
zero_product (suc m) (suc n) e = absurd (omega arith)

abs_zero : (z : ℤ) → unsigned_abs z ≡ 0 → z ≡ pos 0
abs_zero (pos n) e = ap pos e
abs_zero (negsuc n) e = absurd (omega arith)

-- a whole number times y
scalar_product : (n : ℤ) (y : Quad) → quad_product (with_root n (pos 0)) y ≡ record { a = n *ℤ y.a; b = n *ℤ y.b; c = n *ℤ y.c; d = n *ℤ y.d }
unfolding quad_product
scalar_product n y = same_quad _ _ (omega (arith, ints)) (omega (arith, ints)) (omega (arith, ints)) (omega (arith, ints))

factor_zero : (n z : ℤ) → n *ℤ z ≡ pos 0 → (n ≡ pos 0 → ⊥) → z ≡ pos 0
factor_zero n z e apart =
    by (zero_product (unsigned_abs n) (unsigned_abs z) (sym (unsigned_abs-mul n z) ∙ ap unsigned_abs e))
  where
    by : (unsigned_abs n ≡ 0) ⊎ (unsigned_abs z ≡ 0) → z ≡ pos 0
    by (inl h) = absurd (apart (abs_zero n h))
    by (inr h) = abs_zero z h

scalar_zero : (n : ℤ) (y : Quad) → quad_product (with_root n (pos 0)) y ≡ quad_zero → (n ≡ pos 0 → ⊥) → y ≡ quad_zero
scalar_zero n y e apart =
    let f = sym (scalar_product n y) ∙ e in
    same_quad _ _ (factor_zero n y.a (ap (λ (q : Quad). q.a) f) apart) (factor_zero n y.b (ap (λ (q : Quad). q.b) f) apart) (factor_zero n y.c (ap (λ (q : Quad). q.c) f) apart) (factor_zero n y.d (ap (λ (q : Quad). q.d) f) apart)

squares_zero : (k l m n : ℕ) → k * k + l * l + m * m + n * n ≡ 0 → (k ≡ 0) × (l ≡ 0) × (m ≡ 0) × (n ≡ 0)
squares_zero k l m n e = (no_square k (omega arith), no_square l (omega arith), no_square m (omega arith), no_square n (omega arith))

whole_is : (x : Quad) → norm_whole x ≡ pos (unsigned_abs x.a * unsigned_abs x.a + unsigned_abs x.b * unsigned_abs x.b + unsigned_abs x.c * unsigned_abs x.c + unsigned_abs x.d * unsigned_abs x.d)
whole_is x = rw (square_is x.a, square_is x.b, square_is x.c, square_is x.d) refl

pub whole_zero : (x : Quad) → norm_whole x ≡ pos 0 → x ≡ quad_zero
whole_zero x e =
    let z = squares_zero (unsigned_abs x.a) (unsigned_abs x.b) (unsigned_abs x.c) (unsigned_abs x.d) (ap unsigned_abs (sym (whole_is x) ∙ e)) in
    same_quad _ _ (abs_zero x.a z.0) (abs_zero x.b z.1) (abs_zero x.c z.2) (abs_zero x.d z.3)

-- s^2 = 2*t^2 forces s = 0
whole_root : (s t : ℤ) → s *ℤ s -ℤ (t *ℤ t +ℤ t *ℤ t) ≡ pos 0 → s ≡ pos 0
whole_root s t e =
    let k = unsigned_abs s in let l = unsigned_abs t in
    let p : s *ℤ s ≡ t *ℤ t +ℤ t *ℤ t = omega (arith, linear) in
    let q : k * k ≡ l * l + l * l = ap unsigned_abs (sym (square_is s) ∙ p ∙ (λ i. square_is t i +ℤ square_is t i)) in
    abs_zero s (no_root_of_two k l (omega arith))

-- one of the factors of a product that is zero is zero
pub no_zero_divisors : (x y : Quad) → quad_product x y ≡ quad_zero → (x ≡ quad_zero) ⊎ (y ≡ quad_zero)
no_zero_divisors x y e =
    let s = norm_whole x in let t = norm_root x in
    let n = s *ℤ s -ℤ (t *ℤ t +ℤ t *ℤ t) in
    let f : quad_product (with_root n (pos 0)) y ≡ quad_zero =
    ap (λ q. quad_product q y) (sym (root_norm s t) ∙ ap (quad_product (with_root s (neg_ℤ t))) (sym (norm_is x)))
    ∙ quad_product_assoc _ _ _ ∙ ap (quad_product (with_root s (neg_ℤ t))) (quad_product_assoc _ _ _ ∙ ap (quad_product (conjugate x)) e ∙ quad_product_comm _ _ ∙ quad_product_zero _)
    ∙ quad_product_comm _ _ ∙ quad_product_zero _ in
    by n f refl (cases_eq (unsigned_abs n) 0)
  where
    by : (n : ℤ) → quad_product (with_root n (pos 0)) y ≡ quad_zero → n ≡ norm_whole x *ℤ norm_whole x -ℤ (norm_root x *ℤ norm_root x +ℤ norm_root x *ℤ norm_root x) → (unsigned_abs n ≡ 0) ⊎ (unsigned_abs n ≡ 0 → ⊥) → (x ≡ quad_zero) ⊎ (y ≡ quad_zero)
    by n f is (inl z) = inl (whole_zero x (whole_root (norm_whole x) (norm_root x) (sym is ∙ abs_zero n z)))
    by n f is (inr z) = inr (scalar_zero n y f (λ e. z (ap unsigned_abs e)))

-- no whole number but 0 has twice a square as its square
pub no_square_is_twice : (s t : ℤ) → s *ℤ s ≡ t *ℤ t +ℤ t *ℤ t → s ≡ pos 0
no_square_is_twice s t e = whole_root s t (omega (arith, linear))
