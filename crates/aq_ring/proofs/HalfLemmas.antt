-- Half of a sum, from the halves and the remainders.
use Rattle.std.proofs.Common.{◌≡◌, arith, ℤ, pos, negsuc, ◌+ℤ◌, FitsSigned, to_z, of_z, to_z-of_z}
use Rattle.std.proofs.lemmas.Int.{ints}
use Rattle.std.specs.Int.RustNames.{int_div, int_rem}
use Rattle.std.specs.Int.{w128}
use Rattle.aq_ring.specs.Quads.{parity}
use Rattle.aq_ring.specs.Fractions.{InRange}

pub half_sum-is : (x y : ℤ) → parity x ≡ parity y → int_div x (pos 2) +ℤ int_div y (pos 2) +ℤ int_div (int_rem x (pos 2) +ℤ int_rem y (pos 2)) (pos 2) ≡ int_div (x +ℤ y) (pos 2)
half_sum-is (pos m) (pos n) e = omega (arith, ints)
half_sum-is (pos m) (negsuc n) e = omega (arith, ints)
half_sum-is (negsuc m) (pos n) e = omega (arith, ints)
half_sum-is (negsuc m) (negsuc n) e = omega (arith, ints)

pub half_sum-InRange : (x y : ℤ) → InRange x → InRange y → InRange (int_div (x +ℤ y) (pos 2))
half_sum-InRange (pos m) (pos n) h k = omega (arith, ints)
half_sum-InRange (pos m) (negsuc n) h k = omega (arith, ints)
half_sum-InRange (negsuc m) (pos n) h k = omega (arith, ints)
half_sum-InRange (negsuc m) (negsuc n) h k = omega (arith, ints)

pub fits_in_range : (z : ℤ) → InRange z → FitsSigned w128 z
fits_in_range (pos n) h = omega (arith, ints)
fits_in_range (negsuc n) h = omega (arith, ints)

-- what the code makes of a number
abbrev pub round : ℤ → ℤ
round z = to_z w128 (of_z w128 z)

pub round_is : (z : ℤ) → InRange z → round z ≡ z
round_is z h = to_z-of_z (fits_in_range z h)

half_InRange : (x : ℤ) → InRange x → InRange (int_div x (pos 2))
half_InRange (pos m) h = omega (arith, ints)
half_InRange (negsuc m) h = omega (arith, ints)

rest_InRange : (x : ℤ) → InRange (int_rem x (pos 2))
rest_InRange (pos m) = omega (arith, ints)
rest_InRange (negsuc m) = omega (arith, ints)

halves_InRange : (x y : ℤ) → InRange x → InRange y → InRange (int_div x (pos 2) +ℤ int_div y (pos 2))
halves_InRange (pos m) (pos n) h k = omega (arith, ints)
halves_InRange (pos m) (negsuc n) h k = omega (arith, ints)
halves_InRange (negsuc m) (pos n) h k = omega (arith, ints)
halves_InRange (negsuc m) (negsuc n) h k = omega (arith, ints)

rests_InRange : (x y : ℤ) → InRange (int_rem x (pos 2) +ℤ int_rem y (pos 2))
rests_InRange (pos m) (pos n) = omega (arith, ints)
rests_InRange (pos m) (negsuc n) = omega (arith, ints)
rests_InRange (negsuc m) (pos n) = omega (arith, ints)
rests_InRange (negsuc m) (negsuc n) = omega (arith, ints)

-- what `half_sum` computes, before the last step is stored
pub half_sum-code : (x y : ℤ) → InRange x → InRange y → parity x ≡ parity y →
    round (round (int_div (round x) (pos 2)) +ℤ round (int_div (round y) (pos 2))) +ℤ round (int_div (round (round (int_rem (round x) (pos 2)) +ℤ round (int_rem (round y) (pos 2)))) (pos 2)) ≡ int_div (x +ℤ y) (pos 2)
half_sum-code x y h k e =
    rw (
      round_is x h,
      round_is y k,
      round_is (int_div x (pos 2)) (half_InRange x h),
      round_is (int_div y (pos 2)) (half_InRange y k),
      round_is (int_rem x (pos 2)) (rest_InRange x),
      round_is (int_rem y (pos 2)) (rest_InRange y),
      round_is (int_div x (pos 2) +ℤ int_div y (pos 2)) (halves_InRange x y h k),
      round_is (int_rem x (pos 2) +ℤ int_rem y (pos 2)) (rests_InRange x y),
      round_is (int_div (int_rem x (pos 2) +ℤ int_rem y (pos 2)) (pos 2)) (half_InRange (int_rem x (pos 2) +ℤ int_rem y (pos 2)) (rests_InRange x y)),
    )
    (half_sum-is x y e)
