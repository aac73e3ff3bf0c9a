-- The operations of exact amplitudes, and when their results fit a machine's numbers.
--
-- The operations are those of the complex numbers, on unbounded integers. What fits is said apart from them: a
-- coefficient lies in -(2^127 - 1) ..= 2^127 - 1 and a power in 0 ..= 2^32 - 1.
use Rattle.std.specs.Prelude.{◌≢◌, ℕ, suc, ◌+◌, ◌-◌, ◌^◌, ◌<◌, max}
use Rattle.aq_ring.specs.Quads.{Quad, quad_zero, quad_one, quad_sum, quad_product, turned_by, times_roots}
use Rattle.aq_ring.specs.Fractions.{Amplitude, reduced, reduced-IsLowest, zero-IsLowest, IsInRange, FitsProduct}

-- the amplitude x / sqrt(2)^k
unfoldable pub lowest_form : ℕ → Quad → Amplitude
lowest_form k x = record { num = (reduced k x).num; power = (reduced k x).power; lowest = reduced-IsLowest k x }

-- 0
abbrev pub amplitude_zero : Amplitude
amplitude_zero = record { num = quad_zero; power = 0; lowest = zero-IsLowest quad_zero }

-- 1
abbrev pub amplitude_one : Amplitude
amplitude_one = record { num = quad_one; power = 0; lowest = zero-IsLowest quad_one }

-- the numerator of p over sqrt(2)^n, for an n of at least its power
abbrev pub num_at : ℕ → Amplitude → Quad
num_at n p = times_roots (n - p.power) p.num

-- the sum, over the greater of the two powers
unfoldable pub sum : Amplitude → Amplitude → Amplitude
sum p q = let n = max p.power q.power in lowest_form n (quad_sum (num_at n p) (num_at n q))

-- the product
unfoldable pub product : Amplitude → Amplitude → Amplitude
product p q = lowest_form (p.power + q.power) (quad_product p.num q.num)

-- times w^j: a turn by j eighths of the circle
unfoldable pub turn : ℕ → Amplitude → Amplitude
turn j p = lowest_form p.power (turned_by j p.num)

-- the quotient by sqrt(2)
unfoldable pub quotient : Amplitude → Amplitude
quotient p = lowest_form (suc p.power) p.num

-- both operands over the greater power, and the sums of their coefficients, are in range
pub record IsSumInRange (p q : Amplitude) : Type 0 where
  pub left : IsInRange (num_at (max p.power q.power) p)
  pub right : IsInRange (num_at (max p.power q.power) q)
  pub sums : IsInRange (quad_sum (num_at (max p.power q.power) p) (num_at (max p.power q.power) q))

-- a sum fits: where neither operand is zero, it is in range
pub record FitsSum (p q : Amplitude) : Type 0 where
  pub unless_zero : p ≢ amplitude_zero → q ≢ amplitude_zero → IsSumInRange p q

-- a product fits, with its left and its right operand: the numerators' product does, and the powers' sum is a power
pub record FitsAmplitudeProduct (p q : Amplitude) : Type 0 where
  pub numerators : FitsProduct p.num q.num
  pub powers : p.power + q.power < 2 ^ 32

-- a quotient by sqrt(2) fits: its power does
abbrev pub FitsQuotient : Amplitude → Type 0
FitsQuotient p = (quotient p).power < 2 ^ 32
