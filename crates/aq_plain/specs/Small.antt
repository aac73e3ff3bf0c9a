-- Amplitudes so small that each row of a gate's matrix fits on every two of them.
--
-- The product with sqrt(2) at most doubles a coefficient, two of them double it, and the quotient makes none larger than the
-- largest was. So over one power of at most 121 the coefficients of such amplitudes stay below 2^123, and those of a sum
-- below 2^124.
use Rattle.std.specs.Prelude.{◌≡◌, ◌≢◌, ℕ, ◌+◌, List, ◌<◌, ◌≤◌, ◌^◌, unsigned_abs}
use Rattle.std.specs.List.{All}
use Rattle.aq_ring.specs.Quads.{Quad}
use Rattle.aq_ring.specs.Fractions.{Amplitude}
use Rattle.aq_ring.specs.Amplitudes.{amplitude_zero, lowest_form}
use Rattle.aq_ring.specs.Small.{IsSmallQuad}
use Rattle.aq_plain.specs.declared.small.Fraction.{Fraction}

-- each coefficient is below 2^k in absolute value
pub record IsBelow (k : ℕ) (x : Quad) : Type 0 where
  pub a : unsigned_abs x.a < 2 ^ k
  pub b : unsigned_abs x.b < 2 ^ k
  pub c : unsigned_abs x.c < 2 ^ k
  pub d : unsigned_abs x.d < 2 ^ k

-- each coefficient is below 2^62 in absolute value, and the power of sqrt(2) is at most 120
pub record IsSmallAmplitude (p : Amplitude) : Type 0 where
  pub coefficients : IsSmallQuad p.num
  pub power : p.power ≤ 120

-- each coefficient is below 2^100 in absolute value, and the power is among 41 neighbours, or less where the amplitude is zero
pub record IsNear (low : ℕ) (p : Amplitude) : Type 0 where
  pub coefficients : IsBelow 100 p.num
  pub least : p ≢ amplitude_zero → low ≤ p.power
  pub most : p.power ≤ low + 40

-- amplitudes that aren't small, but near each other
pub record AreNear (v : List Amplitude) : Type 0 where
  pub low : ℕ
  pub few : low < 2 ^ 31
  pub each : All (IsNear low) v

-- a fraction of small parts that is this amplitude
pub record IsFraction (p : Amplitude) (f : Fraction) : Type 0 where
  pub same : p ≡ lowest_form f.power f.num
  pub coefficients : IsBelow 62 f.num
  pub power : f.power ≤ 121
