-- Products of small numbers, and their sums, are in range.
use Rattle.std.proofs.Common.{◌≡◌, ◌+◌, ◌^◌, ◌≤◌, ◌<◌, sym, subst, arith, ℤ, pos, negsuc, ◌+ℤ◌, ◌*ℤ◌, neg_ℤ, unsigned_abs}
use Rattle.std.proofs.lemmas.Int.{ints, unsigned_abs-mul}
use native.Mathlib.Nat.{mul-le-mul}
use Rattle.aq_ring.specs.Quads.{Quad}
use Rattle.aq_ring.specs.Fractions.{FitsTerms, FitsProduct}
use Rattle.aq_ring.specs.Small.{IsSmall, IsSmallProduct, IsSmallQuad}

abs_sum : (s t : ℤ) → unsigned_abs (s +ℤ t) ≤ unsigned_abs s + unsigned_abs t
abs_sum (pos m) (pos n) = omega (arith, ints)
abs_sum (pos m) (negsuc n) = omega (arith, ints)
abs_sum (negsuc m) (pos n) = omega (arith, ints)
abs_sum (negsuc m) (negsuc n) = omega (arith, ints)

abs_neg : (z : ℤ) → unsigned_abs (neg_ℤ z) ≡ unsigned_abs z
abs_neg (pos n) = omega (arith, ints)
abs_neg (negsuc n) = omega (arith, ints)

pub small-neg : (z : ℤ) → IsSmall z → IsSmall (neg_ℤ z)
small-neg z h = record { size = subst (λ n. n < 2 ^ 62) (sym (abs_neg z)) h.size }

pub small_product : (x y : ℤ) → IsSmall x → IsSmall y → IsSmallProduct (x *ℤ y)
small_product x y h k =
    let p = h.size in let q = k.size in
    let m : unsigned_abs x ≤ 2 ^ 62 = omega arith in
    let n : unsigned_abs y ≤ 2 ^ 62 = omega arith in
    let both = mul-le-mul m n in
    record { size = omega (arith, unsigned_abs-mul x y) }

small_product-neg : (z : ℤ) → IsSmallProduct z → IsSmallProduct (neg_ℤ z)
small_product-neg z h = record { size = subst (λ n. n ≤ 2 ^ 124) (sym (abs_neg z)) h.size }

pub fits_small : (s t u v : ℤ) → IsSmallProduct s → IsSmallProduct t → IsSmallProduct u → IsSmallProduct v → FitsTerms s t u v
fits_small s t u v a b c d =
    let p = a.size in let q = b.size in let r = c.size in let w = d.size in
    let two = abs_sum s t in let three = abs_sum (s +ℤ t) u in let four = abs_sum (s +ℤ t +ℤ u) v in
    record { first = omega arith; second = omega arith; third = omega arith; fourth = omega arith; sum_of_two = omega arith; sum_of_three = omega arith; sum_of_four = omega arith }

pub fits_small_product : (x y : Quad) → IsSmallQuad x → IsSmallQuad y → FitsProduct x y
fits_small_product x y h k =
    let plus : (s t : ℤ) → IsSmall s → IsSmall t → IsSmallProduct (s *ℤ t) = small_product in
    let minus : (s t : ℤ) → IsSmall s → IsSmall t → IsSmallProduct (neg_ℤ (s *ℤ t)) = (λ s t p q. small_product-neg _ (small_product s t p q)) in
    record {
      a = fits_small _ _ _ _ (plus x.a y.a h.a k.a) (minus x.b y.d h.b k.d) (minus x.c y.c h.c k.c) (minus x.d y.b h.d k.b);
      b = fits_small _ _ _ _ (plus x.a y.b h.a k.b) (plus x.b y.a h.b k.a) (minus x.c y.d h.c k.d) (minus x.d y.c h.d k.c);
      c = fits_small _ _ _ _ (plus x.a y.c h.a k.c) (plus x.b y.b h.b k.b) (plus x.c y.a h.c k.a) (minus x.d y.d h.d k.d);
      d = fits_small _ _ _ _ (plus x.a y.d h.a k.d) (plus x.b y.c h.b k.c) (plus x.c y.b h.c k.b) (plus x.d y.a h.d k.a);
    }
