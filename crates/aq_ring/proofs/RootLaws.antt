-- Division by sqrt(2).
use Rattle.std.proofs.Common.{◌≡◌, ◌+◌, ◌%◌, ◌⊎◌, inl, inr, true, refl, sym, arith, ℤ, pos, negsuc, ◌+ℤ◌, ◌-ℤ◌, neg_ℤ, unsigned_abs}
use Rattle.std.proofs.lemmas.Int.{ints}
use borrow.Author.Differences.{up, down, sum_is_lem, neg_is}
use Rattle.std.specs.Int.RustNames.{int_div}
use Rattle.aq_ring.proofs.Ints.{linear}
use Rattle.aq_ring.proofs.QuadLaws.{same_quad}
use Rattle.aq_ring.specs.Quads.{Quad, quad_zero, turned, times_root, over_root, is_divisible, parity}
use Rattle.aq_ring.specs.Fractions.{IsInRange}

-- one of the two parts is 0
pub one_part : (z : ℤ) → (up z ≡ 0) ⊎ (down z ≡ 0)
one_part (pos n) = inr refl
one_part (negsuc n) = inl refl

pub abs_parts : (z : ℤ) → unsigned_abs z ≡ up z + down z
abs_parts (pos n) = omega arith
abs_parts (negsuc n) = omega arith

pub half_of_double : (z : ℤ) → int_div (z +ℤ z) (pos 2) ≡ z
half_of_double (pos n) = omega (arith, ints)
half_of_double (negsuc n) = omega (arith, ints)

-- the half of an even number, doubled
double_of_half_even : (z : ℤ) → parity z ≡ 0 → int_div z (pos 2) +ℤ int_div z (pos 2) ≡ z
double_of_half_even (pos n) e = omega (arith, ints)
double_of_half_even (negsuc n) e = omega (arith, ints)

parity_parts : (z : ℤ) → parity z ≡ (up z + down z) % 2
parity_parts (pos n) = omega arith
parity_parts (negsuc n) = omega arith

-- the sum of two numbers of equal parity is even
even_sum : (a c : ℤ) → parity a ≡ parity c → parity (a +ℤ c) ≡ 0
even_sum a c e =
    let s = sum_is_lem a c in
    omega (arith, parity_parts a, parity_parts c, parity_parts (a +ℤ c))

even_difference : (a c : ℤ) → parity a ≡ parity c → parity (a -ℤ c) ≡ 0
even_difference a c e =
    let s = sum_is_lem a (neg_ℤ c) in
    let n = neg_is c in
    omega (arith, parity_parts a, parity_parts c, parity_parts (a -ℤ c))

same_parity_sum : (a c : ℤ) → parity (a -ℤ c) ≡ parity (a +ℤ c)
same_parity_sum a c =
    let s = sum_is_lem a c in
    let t = sum_is_lem a (neg_ℤ c) in
    let n = neg_is c in
    omega (arith, parity_parts (a +ℤ c), parity_parts (a -ℤ c))

same_parity_turned : (a c : ℤ) → parity (a +ℤ c) ≡ parity (c -ℤ a)
same_parity_turned a c =
    let s = sum_is_lem a c in
    let t = sum_is_lem c (neg_ℤ a) in
    let n = neg_is a in
    omega (arith, parity_parts (a +ℤ c), parity_parts (c -ℤ a))

pub divisible_parts : (x : Quad) → is_divisible x ≡ true → (parity x.a ≡ parity x.c) × (parity x.b ≡ parity x.d)
unfolding is_divisible
divisible_parts x e = grind arith

pub is_divisible_from : (x : Quad) → parity x.a ≡ parity x.c → parity x.b ≡ parity x.d → is_divisible x ≡ true
unfolding is_divisible
is_divisible_from x p q = grind arith

pub over_root-times_root : (x : Quad) → over_root (times_root x) ≡ x
unfolding over_root times_root
over_root-times_root x =
    same_quad _ _
    (let e : x.a +ℤ x.c -ℤ (x.c -ℤ x.a) ≡ x.a +ℤ x.a = omega (arith, linear) in rw e (half_of_double x.a))
    (let e : x.b -ℤ x.d +ℤ (x.b +ℤ x.d) ≡ x.b +ℤ x.b = omega (arith, linear) in rw e (half_of_double x.b))
    (let e : x.a +ℤ x.c +ℤ (x.c -ℤ x.a) ≡ x.c +ℤ x.c = omega (arith, linear) in rw e (half_of_double x.c))
    (let e : x.b +ℤ x.d -ℤ (x.b -ℤ x.d) ≡ x.d +ℤ x.d = omega (arith, linear) in rw e (half_of_double x.d))

pub is_divisible-times_root : (x : Quad) → is_divisible (times_root x) ≡ true
unfolding times_root
is_divisible-times_root x = is_divisible_from _ (same_parity_sum x.b x.d) (same_parity_turned x.a x.c)

pub times_root-over_root : (x : Quad) → is_divisible x ≡ true → times_root (over_root x) ≡ x
unfolding over_root times_root
times_root-over_root x h =
    let e = divisible_parts x h in
    let p = double_of_half_even (x.a +ℤ x.c) (even_sum x.a x.c e.0) in
    let q = double_of_half_even (x.c -ℤ x.a) (even_difference x.c x.a (sym e.0)) in
    let r = double_of_half_even (x.b +ℤ x.d) (even_sum x.b x.d e.1) in
    let s = double_of_half_even (x.b -ℤ x.d) (even_difference x.b x.d e.1) in
    same_quad _ _ (omega (arith, linear)) (omega (arith, linear)) (omega (arith, linear)) (omega (arith, linear))

pub is_divisible-turned : (x : Quad) → is_divisible (turned x) ≡ is_divisible x
unfolding is_divisible turned
is_divisible-turned x = let e : parity (neg_ℤ x.d) ≡ parity x.d = omega (arith, parity_parts x.d, parity_parts (neg_ℤ x.d), neg_is x.d) in grind arith

-- multiplication by sqrt(2) makes no coefficient smaller than the greatest was
pub in_range_before : (x : Quad) → IsInRange (times_root x) → IsInRange x
unfolding times_root
in_range_before x h =
    let a = h.a in let b = h.b in let c = h.c in let d = h.d in
    record {
      a = omega (arith, ints, abs_parts, one_part x.a, one_part x.c);
      b = omega (arith, ints, abs_parts, one_part x.b, one_part x.d);
      c = omega (arith, ints, abs_parts, one_part x.a, one_part x.c);
      d = omega (arith, ints, abs_parts, one_part x.b, one_part x.d);
    }

pub in_range_root_zero : times_root quad_zero ≡ quad_zero
unfolding times_root
in_range_root_zero = refl
