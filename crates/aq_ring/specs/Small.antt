-- Numbers so small that four products of them add up in range.
use Rattle.std.specs.Prelude.{◌^◌, ◌≤◌, ◌<◌, ℤ, unsigned_abs}
use Rattle.aq_ring.specs.Quads.{Quad}

-- below 2^62 in absolute value, as a 64-bit number is with room for a sign and one more bit
pub record IsSmall (z : ℤ) : Type 0 where
  pub size : unsigned_abs z < 2 ^ 62

-- as large as a product of two small numbers may be
pub record IsSmallProduct (z : ℤ) : Type 0 where
  pub size : unsigned_abs z ≤ 2 ^ 124

-- each coefficient is small
pub record IsSmallQuad (x : Quad) : Type 0 where
  pub a : IsSmall x.a
  pub b : IsSmall x.b
  pub c : IsSmall x.c
  pub d : IsSmall x.d
