-- Fractions num / sqrt(2)^power, their lowest forms, and the range of their coefficients.
use Rattle.std.specs.Prelude.{List, [], ◌∷◌, ◌≡◌, ℕ, zero, suc, ◌^◌, ◌<◌, Bool, true, false, refl, cond, ℤ, ◌+ℤ◌, ◌*ℤ◌, neg_ℤ, unsigned_abs}
use Rattle.std.proofs.Common.{not-suc-le-zero}
use Rattle.aq_ring.specs.Quads.{Quad, quad, quad_zero, is_divisible, over_root}

-- num / sqrt(2)^power, in any form
pub record Fraction : Type 0 where
  pub num : Quad
  pub power : ℕ

-- sqrt(2) is divided out as often as it goes and the power allows
unfoldable pub reduced : ℕ → Quad → Fraction
reduced zero x = record { num = x; power = 0 }
reduced (suc k) x = cond (is_divisible x) (reduced k (over_root x)) (record { num = x; power = suc k })

-- the power is 0, or sqrt(2) does not divide the numerator
abbrev pub IsLowest : Quad → ℕ → Type 0
IsLowest num power = 0 < power → is_divisible num ≡ false

-- a fact about a choice, from the fact about each side
cond_cases : (P : Fraction → Type 0) (b : Bool) (x y : Fraction) → (b ≡ true → P x) → (b ≡ false → P y) → P (cond b x y)
cond_cases P true x y f g = f refl
cond_cases P false x y f g = g refl

-- over sqrt(2)^0 every number is in lowest form
pub zero-IsLowest : (x : Quad) → IsLowest x 0
zero-IsLowest x h = absurd (not-suc-le-zero h)

-- what is reduced is in lowest form
pub reduced-IsLowest : (k : ℕ) (x : Quad) → IsLowest (reduced k x).num (reduced k x).power
unfolding reduced
reduced-IsLowest zero x = zero-IsLowest x
reduced-IsLowest (suc k) x = cond_cases (λ p. IsLowest p.num p.power) (is_divisible x) _ _ (λ _. reduced-IsLowest k (over_root x)) (λ e _. e)

-- An exact amplitude: a fraction in lowest form. Each number has one, so two amplitudes are equal as numbers exactly
-- where their five integers are equal.
pub record Amplitude : Type 0 where
  pub num : Quad
  pub power : ℕ
  pub lowest : IsLowest num power

-- the number of a list of four coefficients
abbrev pub quad_of : List ℤ → Quad
quad_of (a ∷ b ∷ c ∷ d ∷ []) = quad a b c d
quad_of _ = quad_zero

-- ---- what fits

-- a coefficient: -(2^127 - 1) ≤ z ≤ 2^127 - 1
abbrev pub InRange : ℤ → Type 0
InRange z = unsigned_abs z < 2 ^ 127

-- each coefficient is in range
pub record IsInRange (x : Quad) : Type 0 where
  pub a : InRange x.a
  pub b : InRange x.b
  pub c : InRange x.c
  pub d : InRange x.d

-- four terms, and their sums as they are added from left to right, are in range
pub record FitsTerms (s t u v : ℤ) : Type 0 where
  pub first : InRange s
  pub second : InRange t
  pub third : InRange u
  pub fourth : InRange v
  pub sum_of_two : InRange (s +ℤ t)
  pub sum_of_three : InRange (s +ℤ t +ℤ u)
  pub sum_of_four : InRange (s +ℤ t +ℤ u +ℤ v)

-- the sixteen products of two numbers, and the sums on the way to the four coefficients, are in range; what is taken
-- away is added with its sign turned
pub record FitsProduct (x y : Quad) : Type 0 where
  pub a : FitsTerms (x.a *ℤ y.a) (neg_ℤ (x.b *ℤ y.d)) (neg_ℤ (x.c *ℤ y.c)) (neg_ℤ (x.d *ℤ y.b))
  pub b : FitsTerms (x.a *ℤ y.b) (x.b *ℤ y.a) (neg_ℤ (x.c *ℤ y.d)) (neg_ℤ (x.d *ℤ y.c))
  pub c : FitsTerms (x.a *ℤ y.c) (x.b *ℤ y.b) (x.c *ℤ y.a) (neg_ℤ (x.d *ℤ y.d))
  pub d : FitsTerms (x.a *ℤ y.d) (x.b *ℤ y.c) (x.c *ℤ y.b) (x.d *ℤ y.a)
