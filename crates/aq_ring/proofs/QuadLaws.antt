-- ℤ[w] is a commutative ring, and sqrt(2) and w act on it as numbers.
use Rattle.std.proofs.Common.{◌≡◌, ap, ◌∙◌, ℕ, zero, suc, refl, arith, ℤ, neg_ℤ}
use Rattle.std.proofs.lemmas.Int.{ints}
use Rattle.aq_ring.proofs.Ints.{spread, linear}
use Rattle.aq_ring.specs.Quads.{Quad, quad_zero, quad_one, quad_sum, quad_neg, quad_product, turned, turned_by, times_root}

-- two numbers with equal coefficients are equal
pub same_quad : (x y : Quad) → x.a ≡ y.a → x.b ≡ y.b → x.c ≡ y.c → x.d ≡ y.d → x ≡ y
same_quad x y p q r s = λ i. record { a = p i; b = q i; c = r i; d = s i }

pub quad_sum_comm : (x y : Quad) → quad_sum x y ≡ quad_sum y x
unfolding quad_sum
quad_sum_comm x y = same_quad _ _ (omega (arith, linear)) (omega (arith, linear)) (omega (arith, linear)) (omega (arith, linear))

pub quad_sum_assoc : (x y z : Quad) → quad_sum (quad_sum x y) z ≡ quad_sum x (quad_sum y z)
unfolding quad_sum
quad_sum_assoc x y z = same_quad _ _ (omega (arith, linear)) (omega (arith, linear)) (omega (arith, linear)) (omega (arith, linear))

pub quad_sum_zero : (x : Quad) → quad_sum quad_zero x ≡ x
unfolding quad_sum
quad_sum_zero x = same_quad _ _ (omega (arith, linear)) (omega (arith, linear)) (omega (arith, linear)) (omega (arith, linear))

pub quad_sum_neg : (x : Quad) → quad_sum x (quad_neg x) ≡ quad_zero
unfolding quad_sum quad_neg
quad_sum_neg x = same_quad _ _ (omega (arith, linear)) (omega (arith, linear)) (omega (arith, linear)) (omega (arith, linear))

pub quad_product_comm : (x y : Quad) → quad_product x y ≡ quad_product y x
unfolding quad_product
quad_product_comm x y = same_quad _ _ (omega (arith, ints)) (omega (arith, ints)) (omega (arith, ints)) (omega (arith, ints))

pub quad_product_assoc : (x y z : Quad) → quad_product (quad_product x y) z ≡ quad_product x (quad_product y z)
unfolding quad_product
quad_product_assoc x y z = same_quad _ _ (simp spread (omega (arith, linear))) (simp spread (omega (arith, linear))) (simp spread (omega (arith, linear))) (simp spread (omega (arith, linear)))

pub quad_product_sum : (x y z : Quad) → quad_product x (quad_sum y z) ≡ quad_sum (quad_product x y) (quad_product x z)
unfolding quad_product quad_sum
quad_product_sum x y z = same_quad _ _ (simp spread (omega (arith, linear))) (simp spread (omega (arith, linear))) (simp spread (omega (arith, linear))) (simp spread (omega (arith, linear)))

pub quad_product_one : (x : Quad) → quad_product quad_one x ≡ x
unfolding quad_product
quad_product_one x = same_quad _ _ (omega (arith, ints)) (omega (arith, ints)) (omega (arith, ints)) (omega (arith, ints))

pub quad_product_zero : (x : Quad) → quad_product quad_zero x ≡ quad_zero
unfolding quad_product
quad_product_zero x = same_quad _ _ (omega (arith, ints)) (omega (arith, ints)) (omega (arith, ints)) (omega (arith, ints))

-- ---- sqrt(2)
pub times_root-sum : (x y : Quad) → times_root (quad_sum x y) ≡ quad_sum (times_root x) (times_root y)
unfolding times_root quad_sum
times_root-sum x y = same_quad _ _ (omega (arith, linear)) (omega (arith, linear)) (omega (arith, linear)) (omega (arith, linear))

pub times_root-product : (x y : Quad) → times_root (quad_product x y) ≡ quad_product (times_root x) y
unfolding times_root quad_product
times_root-product x y = same_quad _ _ (simp spread (omega (arith, linear))) (simp spread (omega (arith, linear))) (simp spread (omega (arith, linear))) (simp spread (omega (arith, linear)))

pub times_root-turned : (x : Quad) → times_root (turned x) ≡ turned (times_root x)
unfolding times_root turned
times_root-turned x = same_quad _ _ (omega (arith, linear)) (omega (arith, linear)) (omega (arith, linear)) (omega (arith, linear))

pub turned-sum : (x y : Quad) → turned (quad_sum x y) ≡ quad_sum (turned x) (turned y)
unfolding turned quad_sum
turned-sum x y = same_quad _ _ (omega (arith, linear)) refl refl refl

pub turned-product : (x y : Quad) → turned (quad_product x y) ≡ quad_product (turned x) y
unfolding turned quad_product
turned-product x y = same_quad _ _ (simp spread (omega (arith, linear))) (simp spread (omega (arith, linear))) (simp spread (omega (arith, linear))) (simp spread (omega (arith, linear)))

neg_neg : (z : ℤ) → neg_ℤ (neg_ℤ z) ≡ z
neg_neg z = omega (arith, linear)

-- eight turns are one round
pub turned-eight : (x : Quad) → turned_by 8 x ≡ x
unfolding turned_by turned
turned-eight x = same_quad _ _ (neg_neg x.a) (neg_neg x.b) (neg_neg x.c) (neg_neg x.d)

-- four turns are the opposite
pub turned-four : (x : Quad) → turned_by 4 x ≡ quad_neg x
unfolding turned_by turned quad_neg
turned-four x = refl

pub turned_by-sum : (j : ℕ) (x y : Quad) → turned_by j (quad_sum x y) ≡ quad_sum (turned_by j x) (turned_by j y)
unfolding turned_by
turned_by-sum zero x y = refl
turned_by-sum (suc j) x y = ap turned (turned_by-sum j x y) ∙ turned-sum _ _

pub turned_by-product : (j : ℕ) (x y : Quad) → turned_by j (quad_product x y) ≡ quad_product (turned_by j x) y
unfolding turned_by
turned_by-product zero x y = refl
turned_by-product (suc j) x y = ap turned (turned_by-product j x y) ∙ turned-product _ _
