-- The laws of exact amplitudes.
use Rattle.std.specs.Prelude.{◌≡◌, ◌≢◌, ◌↔◌, ◌⊎◌, ℕ, ◌+◌, ℤ, pos, ◌+ℤ◌, ◌*ℤ◌, List, length}
use Rattle.aq_ring.specs.Quads.{Quad, quad_zero, quad_product, times_roots}
use Rattle.aq_ring.specs.Norms.{conjugate, with_root, norm_whole, norm_root}
use Rattle.aq_ring.specs.Fractions.{Amplitude}
use Rattle.aq_ring.specs.Amplitudes.{lowest_form, sum, product, turn, quotient, amplitude_zero, amplitude_one}
use Rattle.aq_ring.specs.Vectors.{IsZeroVector, Proportional}

-- the amplitudes are a commutative ring, in which four turns give the opposite and nonzero factors cancel
pub record RingLaws : Type 0 where
  pub sum_commutative : (p q : Amplitude) → sum p q ≡ sum q p
  pub sum_associative : (p q r : Amplitude) → sum (sum p q) r ≡ sum p (sum q r)
  pub sum_zero : (p : Amplitude) → sum amplitude_zero p ≡ p
  pub sum_opposite : (p : Amplitude) → sum p (turn 4 p) ≡ amplitude_zero
  pub product_commutative : (p q : Amplitude) → product p q ≡ product q p
  pub product_associative : (p q r : Amplitude) → product (product p q) r ≡ product p (product q r)
  pub product_one : (p : Amplitude) → product amplitude_one p ≡ p
  pub product_zero : (p : Amplitude) → product amplitude_zero p ≡ amplitude_zero
  pub product_of_sum : (p q r : Amplitude) → product p (sum q r) ≡ sum (product p q) (product p r)
  pub factor_cancels : (s p q : Amplitude) → s ≢ amplitude_zero → product s p ≡ product s q → p ≡ q

-- a product is zero only where a factor is
abbrev pub NoZeroDivisors : Type 0
NoZeroDivisors = (p q : Amplitude) → product p q ≡ amplitude_zero → (p ≡ amplitude_zero) ⊎ (q ≡ amplitude_zero)

-- Why there are no zero divisors: |x|^2 is s + t*sqrt(2) with s = a^2 + b^2 + c^2 + d^2, where s^2 = 2*t^2 forces
-- s = 0, and s is zero only at zero.
pub record NormLaws : Type 0 where
  pub absolute_square : (x : Quad) → quad_product (conjugate x) x ≡ with_root (norm_whole x) (norm_root x)
  pub no_square_is_twice : (s t : ℤ) → s *ℤ s ≡ t *ℤ t +ℤ t *ℤ t → s ≡ pos 0
  pub whole_is_zero : (x : Quad) → norm_whole x ≡ pos 0 → x ≡ quad_zero

-- An amplitude is its own lowest form, and x/sqrt(2)^k and y/sqrt(2)^l are one number exactly where their lowest
-- forms are equal.
pub record OneLowestForm : Type 0 where
  pub lowest_is_itself : (p : Amplitude) → lowest_form p.power p.num ≡ p
  pub same_number : (k l : ℕ) (x y : Quad) → (times_roots l x ≡ times_roots k y) ↔ (lowest_form k x ≡ lowest_form l y)

-- turns and quotients by sqrt(2) are linear, and are products with fixed numbers
pub record StepLaws : Type 0 where
  pub turn_of_sum : (j : ℕ) (p q : Amplitude) → turn j (sum p q) ≡ sum (turn j p) (turn j q)
  pub turn_of_product : (j : ℕ) (p q : Amplitude) → turn j (product p q) ≡ product (turn j p) q
  pub turn_of_turn : (i j : ℕ) (p : Amplitude) → turn i (turn j p) ≡ turn (i + j) p
  pub eight_turns : (p : Amplitude) → turn 8 p ≡ p
  pub turn_is_product : (j : ℕ) (p : Amplitude) → turn j p ≡ product (turn j amplitude_one) p
  pub turn_nonzero : (j : ℕ) (p : Amplitude) → p ≢ amplitude_zero → turn j p ≢ amplitude_zero
  pub quotient_of_sum : (p q : Amplitude) → quotient (sum p q) ≡ sum (quotient p) (quotient q)
  pub quotient_of_product : (p q : Amplitude) → quotient (product p q) ≡ product (quotient p) q
  pub quotient_is_product : (p : Amplitude) → quotient p ≡ product (quotient amplitude_one) p
  pub quotient_nonzero : (p : Amplitude) → p ≢ amplitude_zero → quotient p ≢ amplitude_zero

-- to be proportional is an equivalence of vectors
pub record ProportionalEquivalence : Type 0 where
  pub reflexive : (u : List Amplitude) → Proportional u u
  pub symmetric : (u v : List Amplitude) → Proportional u v → Proportional v u
  pub transitive : (u v w : List Amplitude) → Proportional u v → Proportional v w → Proportional u w

-- proportional vectors have one length, and are zero together
pub record ProportionalKeeps : Type 0 where
  pub same_length : (u v : List Amplitude) → Proportional u v → length u ≡ length v
  pub zero_together : (u v : List Amplitude) → Proportional u v → IsZeroVector u → IsZeroVector v

-- a scalar passes through the steps of a linear map
pub record ScalarLaws : Type 0 where
  pub scalar_of_zero : (s : Amplitude) → product s amplitude_zero ≡ amplitude_zero
  pub scalar_of_sum : (s p q : Amplitude) → product s (sum p q) ≡ sum (product s p) (product s q)
  pub scalar_of_turn : (s : Amplitude) (j : ℕ) (p : Amplitude) → product s (turn j p) ≡ turn j (product s p)
  pub scalar_of_quotient : (s p : Amplitude) → product s (quotient p) ≡ quotient (product s p)
