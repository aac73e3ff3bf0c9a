-- Small amplitudes: what rows make of them fits.
use Rattle.std.proofs.Common.{◌/◌, ◌%◌, ◌≢◌, ⊎_elim, ◌≡◌, ℕ, zero, suc, ◌+◌, ◌-◌, ◌^◌, ◌<◌, ◌≤◌, max, refl, sym, ap, ◌∙◌, subst, arith, ℤ, pos, negsuc, ◌+ℤ◌, ◌-ℤ◌, neg_ℤ, unsigned_abs}
use Rattle.std.proofs.lemmas.Int.{ints}
use Rattle.std.proofs.Math.Pow.{pow_mono, add-lt-pow}
use Rattle.std.proofs.lemmas.Nat.{pow_pos}
use Rattle.std.proofs.Math.Nat.{two-pow-succ}
use Rattle.std.specs.Int.RustNames.{int_div}
use Rattle.aq_ring.specs.Quads.{Quad, quad_zero, quad_sum, quad_neg, turned, turned_by, times_root, times_roots, over_root}
use Rattle.aq_ring.specs.Fractions.{Amplitude, IsInRange}
use Rattle.aq_ring.specs.Amplitudes.{num_at, lowest_form, sum, turn, quotient, amplitude_zero, IsSumInRange}
use Rattle.aq_ring.specs.Small.{IsSmall, IsSmallQuad}
use Rattle.std.proofs.lemmas.Bool.{cases_eq}
use Rattle.aq_ring.proofs.Ints.{linear}
use Rattle.aq_ring.proofs.QuadLaws.{same_quad, turned-four}
use Rattle.aq_ring.proofs.ReduceLaws.{times_roots-sum, times_roots-zero, in_range_earlier}
use Rattle.aq_ring.proofs.AmplitudeLaws.{one_lowest_form, lowest_form-power, lowest_form-num_at, num_at-lowest_form, sum-power, num_at-sum, num_at-later, num_at-turn, num_at-quotient, turn-power, quotient-power}
use Rattle.aq_prog.specs.Gates.{divided, term, FitsTerm, IsEntry}
use Rattle.aq_prog.specs.declared.gate.Entry.{Entry}
use Rattle.aq_prog.specs.declared.gate.Entry.TheVariants as entry
use Rattle.aq_plain.specs.Small.{IsBelow, IsFraction, IsNear, IsSmallAmplitude}
use Rattle.aq_plain.specs.declared.small.Fraction.{Fraction}
use Rattle.aq_ring.proofs.MoreLaws.{turn-zero, quotient-zero}
use Rattle.aq_plain.specs.Wide.{FitsRow}

abs_sum : (s t : ℤ) → unsigned_abs (s +ℤ t) ≤ unsigned_abs s + unsigned_abs t
abs_sum (pos m) (pos n) = omega (arith, ints)
abs_sum (pos m) (negsuc n) = omega (arith, ints)
abs_sum (negsuc m) (pos n) = omega (arith, ints)
abs_sum (negsuc m) (negsuc n) = omega (arith, ints)

abs_neg : (z : ℤ) → unsigned_abs (neg_ℤ z) ≡ unsigned_abs z
abs_neg (pos n) = omega (arith, ints)
abs_neg (negsuc n) = omega (arith, ints)

sum_below : (k : ℕ) (s t : ℤ) → unsigned_abs s < 2 ^ k → unsigned_abs t < 2 ^ k → unsigned_abs (s +ℤ t) < 2 ^ suc k
sum_below k s t h l = let a = abs_sum s t in let b = add-lt-pow k h l in omega arith

neg_below : (k : ℕ) (z : ℤ) → unsigned_abs z < 2 ^ k → unsigned_abs (neg_ℤ z) < 2 ^ k
neg_below k z h = subst (λ n. n < 2 ^ k) (sym (abs_neg z)) h

difference_below : (k : ℕ) (s t : ℤ) → unsigned_abs s < 2 ^ k → unsigned_abs t < 2 ^ k → unsigned_abs (s -ℤ t) < 2 ^ suc k
difference_below k s t h l = sum_below k s (neg_ℤ t) h (neg_below k t l)

-- ---- numerators below 2^k

pub below_later : (k l : ℕ) (x : Quad) → k ≤ l → IsBelow k x → IsBelow l x
below_later k l x h b =
    let m = pow_mono h in
    let p = b.a in let q = b.b in let r = b.c in let s = b.d in
    record { a = omega arith; b = omega arith; c = omega arith; d = omega arith }

pub below_root : (k : ℕ) (x : Quad) → IsBelow k x → IsBelow (suc k) (times_root x)
unfolding times_root
below_root k x h = record {
  a = difference_below k x.b x.d h.b h.d;
  b = sum_below k x.a x.c h.a h.c;
  c = sum_below k x.b x.d h.b h.d;
  d = difference_below k x.c x.a h.c h.a;
}

pub below_sum : (k : ℕ) (x y : Quad) → IsBelow k x → IsBelow k y → IsBelow (suc k) (quad_sum x y)
unfolding quad_sum
below_sum k x y h l = record { a = sum_below k x.a y.a h.a l.a; b = sum_below k x.b y.b h.b l.b; c = sum_below k x.c y.c h.c l.c; d = sum_below k x.d y.d h.d l.d }

two_roots : (x : Quad) → times_root (times_root x) ≡ quad_sum x x
unfolding times_root quad_sum
two_roots x =
    let a : x.a +ℤ x.c -ℤ (x.c -ℤ x.a) ≡ x.a +ℤ x.a = omega (arith, linear) in
    let b : x.b -ℤ x.d +ℤ (x.b +ℤ x.d) ≡ x.b +ℤ x.b = omega (arith, linear) in
    let c : x.a +ℤ x.c +ℤ (x.c -ℤ x.a) ≡ x.c +ℤ x.c = omega (arith, linear) in
    let d : x.b +ℤ x.d -ℤ (x.b -ℤ x.d) ≡ x.d +ℤ x.d = omega (arith, linear) in
    same_quad _ _ a b c d

below_doubled : (m k : ℕ) (x : Quad) → IsBelow k x → IsBelow (m + k) (times_roots (m + m) x)
unfolding times_roots
below_doubled zero k x h = subst (λ l. IsBelow l x) (omega arith) h
below_doubled (suc m) k x h =
    let next : suc (suc (m + m)) ≡ suc m + suc m = omega arith in
    let more : suc (m + k) ≡ suc m + k = omega arith in
    let y = times_roots (m + m) x in
    subst (λ l. IsBelow l (times_roots (suc m + suc m) x)) more (subst (λ n. IsBelow (suc (m + k)) (times_roots n x)) next
    (subst (IsBelow (suc (m + k))) (sym (two_roots y)) (below_sum (m + k) y y (below_doubled m k x h) (below_doubled m k x h))))

-- each two products with sqrt(2) double
pub below_roots : (n k : ℕ) (x : Quad) → IsBelow k x → IsBelow (suc (n / 2 + k)) (times_roots n x)
unfolding times_roots
below_roots n k x h = ⊎_elim
    (λ (even : n % 2 ≡ 0).
    let e : n / 2 + n / 2 ≡ n = omega arith in
    below_later (n / 2 + k) (suc (n / 2 + k)) _ (omega arith) (subst (λ i. IsBelow (n / 2 + k) (times_roots i x)) e (below_doubled (n / 2) k x h)))
    (λ (odd : n % 2 ≢ 0).
    let e : suc (n / 2 + n / 2) ≡ n = omega arith in
    subst (λ i. IsBelow (suc (n / 2 + k)) (times_roots i x)) e (below_root (n / 2 + k) (times_roots (n / 2 + n / 2) x) (below_doubled (n / 2) k x h)))
    (cases_eq (n % 2) 0)

pub below_turned : (k : ℕ) (x : Quad) → IsBelow k x → IsBelow k (turned x)
unfolding turned
below_turned k x h = record { a = neg_below k x.d h.d; b = h.a; c = h.b; d = h.c }

pub below_turned_by : (j k : ℕ) (x : Quad) → IsBelow k x → IsBelow k (turned_by j x)
unfolding turned_by
below_turned_by zero k x h = h
below_turned_by (suc j) k x h = below_turned k (turned_by j x) (below_turned_by j k x h)

below_zero : (k : ℕ) → IsBelow k quad_zero
below_zero k = let p = pow_pos k in record { a = omega arith; b = omega arith; c = omega arith; d = omega arith }

pub below_range : (k : ℕ) (x : Quad) → k ≤ 127 → IsBelow k x → IsInRange x
below_range k x h b = let c = below_later k 127 x h b in record { a = c.a; b = c.b; c = c.c; d = c.d }

pub small_below : (x : Quad) → IsSmallQuad x → IsBelow 62 x
small_below x h = record { a = h.a.size; b = h.b.size; c = h.c.size; d = h.d.size }

-- ---- terms of zero

divided_zero : (e : ℕ) → divided e amplitude_zero ≡ amplitude_zero
divided_zero zero = refl
divided_zero (suc e) = ap quotient (divided_zero e) ∙ quotient-zero

pub term_of_zero : (e : Entry) (p : Amplitude) → p ≡ amplitude_zero → term e p ≡ amplitude_zero
term_of_zero entry.Zero p h = refl
term_of_zero (entry.Unit j e) p h = ap (divided e) (ap (turn j) h ∙ turn-zero j) ∙ divided_zero e

-- ---- terms of amplitudes with room, over sqrt(2)^(m + 1)

-- p over sqrt(2)^n has coefficients below 2^123
record IsLow (n : ℕ) (p : Amplitude) : Type 0 where
  pub power : p.power ≤ n
  pub below : IsBelow 123 (num_at n p)

-- so has p over sqrt(2)^m and over the next power, unless it is zero
record HasRoom (m : ℕ) (p : Amplitude) : Type 0 where
  pub power : p.power ≤ m
  pub here : p ≢ amplitude_zero → IsBelow 123 (num_at m p)
  pub next : p ≢ amplitude_zero → IsBelow 123 (num_at (suc m) p)

room_of_small : (p : Amplitude) → IsSmallAmplitude p → HasRoom 120 p
room_of_small p h =
    let q = h.power in
    record {
      power = q;
      here = λ _. below_later (suc ((120 - p.power) / 2 + 62)) 123 (num_at 120 p) (omega arith) (below_roots (120 - p.power) 62 p.num (small_below p.num h.coefficients));
      next = λ _. below_later (suc ((121 - p.power) / 2 + 62)) 123 (num_at 121 p) (omega arith) (below_roots (121 - p.power) 62 p.num (small_below p.num h.coefficients));
    }

room_of_near : (low : ℕ) (p : Amplitude) → IsNear low p → HasRoom (low + 40) p
room_of_near low p h =
    let q = h.most in
    record {
      power = q;
      here = λ n. let l = h.least n in below_later (suc ((low + 40 - p.power) / 2 + 100)) 123 (num_at (low + 40) p) (omega arith) (below_roots (low + 40 - p.power) 100 p.num h.coefficients);
      next = λ n. let l = h.least n in below_later (suc ((suc (low + 40) - p.power) / 2 + 100)) 123 (num_at (suc (low + 40)) p) (omega arith) (below_roots (suc (low + 40) - p.power) 100 p.num h.coefficients);
    }

low_turn : (m j : ℕ) (p : Amplitude) → p ≢ amplitude_zero → HasRoom m p → IsLow (suc m) (turn j p)
low_turn m j p n h =
    let q = h.power in let t = turn-power j p in
    record {
      power = omega arith;
      below = subst (IsBelow 123) (sym (num_at-turn (suc m) j p (omega arith))) (below_turned_by j 123 (num_at (suc m) p) (h.next n));
    }

low_quotient : (m j : ℕ) (p : Amplitude) → p ≢ amplitude_zero → HasRoom m p → IsLow (suc m) (quotient (turn j p))
low_quotient m j p n h =
    let q = h.power in let t = turn-power j p in let d = quotient-power (turn j p) in
    record {
      power = omega arith;
      below = subst (IsBelow 123) (sym (num_at-quotient m (turn j p) (omega arith) ∙ num_at-turn m j p (omega arith))) (below_turned_by j 123 (num_at m p) (h.here n));
    }

low_term : (m : ℕ) (e : Entry) (p : Amplitude) → IsEntry e → HasRoom m p → term e p ≢ amplitude_zero → IsLow (suc m) (term e p)
low_term m entry.Zero p valid h n = absurd (n refl)
low_term m (entry.Unit j zero) p valid h n = low_turn m j p (λ z. n (term_of_zero (entry.Unit j 0) p z)) h
low_term m (entry.Unit j (suc zero)) p valid h n = low_quotient m j p (λ z. n (term_of_zero (entry.Unit j 1) p z)) h
low_term m (entry.Unit j (suc (suc e))) p valid h n = let few = valid.1 in absurd (omega arith)

term_fits : (m : ℕ) (e : Entry) (p : Amplitude) → suc m < 2 ^ 32 → IsEntry e → HasRoom m p → FitsTerm e p
term_fits m entry.Zero p most valid h = tt
term_fits m (entry.Unit j zero) p most valid h = tt
term_fits m (entry.Unit j (suc zero)) p most valid h =
    let q = h.power in let t = turn-power j p in let d = quotient-power (turn j p) in
    (tt, omega arith)
term_fits m (entry.Unit j (suc (suc e))) p most valid h = let few = valid.1 in absurd (omega arith)

low_sum : (n : ℕ) (p q : Amplitude) → IsLow n p → IsLow n q → IsSumInRange p q
unfolding times_roots
low_sum n p q h l = record {
  left = earlier p h (omega arith);
  right = earlier q l (omega arith);
  sums = in_range_earlier 0 (n - m) (quad_sum (num_at m p) (num_at m q)) (omega arith) (subst IsInRange (sym both) (below_range 124 _ (omega arith) (below_sum 123 _ _ h.below l.below)));
}
  where
    m : ℕ
    m = max p.power q.power

    in_n : max p.power q.power ≤ n
    in_n = let a = h.power in let b = l.power in omega arith

    earlier : (r : Amplitude) → IsLow n r → r.power ≤ m → IsInRange (num_at m r)
    earlier r k le = in_range_earlier 0 (n - m) (num_at m r) (omega arith) (subst IsInRange (sym (num_at-later m n r le in_n)) (below_range 123 _ (omega arith) k.below))

    both : times_roots (n - m) (quad_sum (num_at m p) (num_at m q)) ≡ quad_sum (num_at n p) (num_at n q)
    both = times_roots-sum (n - m) _ _ ∙ (λ i. quad_sum (num_at-later m n p (omega arith) in_n i) (num_at-later m n q (omega arith) in_n i))

-- each row fits on two amplitudes with room
row_fits : (m : ℕ) (e f : Entry) (p q : Amplitude) → suc m < 2 ^ 32 → IsEntry e → IsEntry f → HasRoom m p → HasRoom m q → FitsRow e f p q
row_fits m e f p q most v w h l = record {
  left = term_fits m e p most v h;
  right = term_fits m f q most w l;
  sums = record { unless_zero = λ a b. low_sum (suc m) (term e p) (term f q) (low_term m e p v h a) (low_term m f q w l b) };
}

-- so on two small ones
pub small_row_fits : (e f : Entry) (p q : Amplitude) → IsEntry e → IsEntry f → IsSmallAmplitude p → IsSmallAmplitude q → FitsRow e f p q
small_row_fits e f p q v w h l = row_fits 120 e f p q (omega arith) v w (room_of_small p h) (room_of_small q l)

-- and on two near ones
pub near_row_fits : (low : ℕ) (e f : Entry) (p q : Amplitude) → low < 2 ^ 31 → IsEntry e → IsEntry f → IsNear low p → IsNear low q → FitsRow e f p q
near_row_fits low e f p q few v w h l = row_fits (low + 40) e f p q (omega arith) v w (room_of_near low p h) (room_of_near low q l)

-- ---- what is computed of numerators

-- four turns give the opposite
pub turned_by-half : (i j : ℕ) (x y : Quad) → j ≡ i + 4 → y ≡ quad_neg (turned_by i x) → y ≡ turned_by j x
unfolding turned_by
turned_by-half i j x y e h = h ∙ sym (turned-four (turned_by i x)) ∙ ap (λ k. turned_by k x) (let f : suc (suc (suc (suc i))) ≡ j = omega arith in f)

half_below : (k : ℕ) (z : ℤ) → unsigned_abs z < 2 ^ suc k → unsigned_abs (int_div z (pos 2)) < 2 ^ k
half_below k (pos n) h = let e = two-pow-succ k in omega (arith, ints)
half_below k (negsuc n) h = let e = two-pow-succ k in omega (arith, ints)

-- the quotient by sqrt(2) makes no coefficient larger than the largest was
pub below_over_root : (k : ℕ) (x : Quad) → IsBelow k x → IsBelow k (over_root x)
unfolding over_root
below_over_root k x h = record {
  a = half_below k (x.b -ℤ x.d) (difference_below k x.b x.d h.b h.d);
  b = half_below k (x.a +ℤ x.c) (sum_below k x.a x.c h.a h.c);
  c = half_below k (x.b +ℤ x.d) (sum_below k x.b x.d h.b h.d);
  d = half_below k (x.c -ℤ x.a) (difference_below k x.c x.a h.c h.a);
}

-- the sum of two fractions, over the greater of their powers
pub sum_of_fractions : (k l : ℕ) (x y : Quad) → sum (lowest_form k x) (lowest_form l y) ≡ lowest_form (max k l) (quad_sum (times_roots (max k l - k) x) (times_roots (max k l - l) y))
sum_of_fractions k l x y =
    let p = lowest_form-power k x in let q = lowest_form-power l y in
    let n = max k l in
    sym (lowest_form-num_at n (sum (lowest_form k x) (lowest_form l y)) (let s = sum-power (lowest_form k x) (lowest_form l y) in omega arith))
    ∙ ap (lowest_form n) (num_at-sum n (lowest_form k x) (lowest_form l y) (omega arith) (omega arith)
    ∙ (λ i. quad_sum (num_at-lowest_form n k x (omega arith) i) (num_at-lowest_form n l y (omega arith) i)))

times_roots-turned_back : (n j : ℕ) (x : Quad) → n ≡ 0 → turned_by j (times_roots n x) ≡ times_roots n (turned_by j x)
unfolding times_roots
times_roots-turned_back zero j x e = refl
times_roots-turned_back (suc n) j x e = absurd (omega arith)

-- a term of an amplitude is this fraction
pub term_is : (j e : ℕ) (p : Amplitude) → e < 2 → term (entry.Unit j e) p ≡ lowest_form (p.power + e) (turned_by j p.num)
unfolding turn
term_is j zero p h = ap (λ k. lowest_form k (turned_by j p.num)) (omega arith)
term_is j (suc zero) p h =
    let n = suc p.power in
    let t = turn-power j p in let d = quotient-power (turn j p) in let l = lowest_form-power n (turned_by j p.num) in
    let next : n ≡ p.power + 1 = omega arith in
    one_lowest_form n (quotient (turn j p)) (lowest_form n (turned_by j p.num)) (omega arith) l
    (num_at-quotient p.power (turn j p) t ∙ num_at-turn p.power j p (omega arith) ∙ ap (λ k. turned_by j (times_roots k p.num)) (let e : p.power - p.power ≡ n - n = omega arith in e)
    ∙ times_roots-turned_back (n - n) j p.num (omega arith) ∙ sym (num_at-lowest_form n n (turned_by j p.num) (omega arith)))
    ∙ ap (λ k. lowest_form k (turned_by j p.num)) next
term_is j (suc (suc e)) p h = absurd (omega arith)

-- a small numerator times sqrt(2)^n, where two of such powers are at most 121
pub roots_low : (n : ℕ) (x y : Quad) → n ≤ 121 → IsBelow 62 x → y ≡ times_roots n x → IsBelow 125 y
roots_low n x y h b e = subst (IsBelow 125) (sym e) (below_later (suc (n / 2 + 62)) 125 (times_roots n x) (omega arith) (below_roots n 62 x b))

pub fraction_is : (j e : ℕ) (x : Entry) (p : Amplitude) (f : Fraction) → x ≡ entry.Unit j e → IsEntry x → IsSmallAmplitude p → f.num ≡ turned_by j p.num → f.power ≡ p.power + e → IsFraction (term x p) f
fraction_is j e x p f is valid h a b =
    let bounds : IsEntry (entry.Unit j e) = subst IsEntry is valid in
    let few = bounds.1 in let q = h.power in
    record {
      same = ap (λ (y : Entry). term y p) is ∙ term_is j e p few ∙ (λ i. lowest_form (sym b i) (sym a i));
      coefficients = subst (IsBelow 62) (sym a) (below_turned_by j 62 p.num (small_below p.num h.coefficients));
      power = omega arith;
    }

-- the same, as it is computed
pub made_over : (k l m : ℕ) (x y u v z : Quad) → m ≡ max k l → u ≡ times_roots (m - k) x → v ≡ times_roots (m - l) y → z ≡ quad_sum u v → lowest_form m z ≡ sum (lowest_form k x) (lowest_form l y)
made_over k l m x y u v z e a b s =
    ap (lowest_form m) (s ∙ (λ i. quad_sum (a i) (b i))) ∙ ap (λ n. lowest_form n (quad_sum (times_roots (n - k) x) (times_roots (n - l) y))) e ∙ sym (sum_of_fractions k l x y)

pub zero_is_small : (p : Amplitude) → p ≡ amplitude_zero → IsSmallAmplitude p
zero_is_small p e = subst IsSmallAmplitude (sym e) (record { coefficients = record { a = nothing; b = nothing; c = nothing; d = nothing }; power = omega arith })
  where
    nothing : IsSmall (pos 0)
    nothing = record { size = omega arith }

pub zero_is_near : (low : ℕ) (p : Amplitude) → p ≡ amplitude_zero → IsNear low p
zero_is_near low p e = subst (IsNear low) (sym e) (record { coefficients = below_zero 100; least = λ n. absurd (n refl); most = omega arith })
