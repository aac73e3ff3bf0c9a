-- Turns add up, turns and quotients are products, and both keep what isn't zero.
use Rattle.std.proofs.Common.{⊎_elim, ◌≡◌, ◌≢◌, ℕ, zero, suc, ◌+◌, ◌*◌, sym, ap, ◌∙◌, arith}
use Rattle.aq_ring.proofs.AmplitudeLaws.{one_lowest_form, num_at-turn, turn-power, turn-product, quotient_product, product-one, product-zero, product_comm, turn-eight, sum-zero, sum_comm, sum_assoc, sum-opposite, product_sum, product_without_zero, zero_num, lowest_zero}
use Rattle.aq_ring.specs.Quads.{Quad, turned, turned_by}
use Rattle.aq_ring.specs.Fractions.{Amplitude}
use Rattle.aq_ring.specs.Amplitudes.{sum, product, turn, quotient, amplitude_zero, amplitude_one}

turned_by-add : (i j : ℕ) (x : Quad) → turned_by i (turned_by j x) ≡ turned_by (i + j) x
unfolding turned_by
turned_by-add zero j x = ap (λ k. turned_by k x) (omega arith)
turned_by-add (suc i) j x = ap turned (turned_by-add i j x) ∙ ap (λ k. turned_by k x) (let e : suc (i + j) ≡ suc i + j = omega arith in e)

pub turn-turn : (i j : ℕ) (p : Amplitude) → turn i (turn j p) ≡ turn (i + j) p
turn-turn i j p =
    let a = turn-power j p in let b = turn-power i (turn j p) in let c = turn-power (i + j) p in
    one_lowest_form p.power _ _ (omega arith) (omega arith)
    (num_at-turn p.power i (turn j p) a ∙ ap (turned_by i) (num_at-turn p.power j p (omega arith)) ∙ turned_by-add i j _ ∙ sym (num_at-turn p.power (i + j) p (omega arith)))

pub turn-is_product : (j : ℕ) (p : Amplitude) → turn j p ≡ product (turn j amplitude_one) p
turn-is_product j p = ap (turn j) (sym (product-one p)) ∙ turn-product j amplitude_one p

pub quotient-is_product : (p : Amplitude) → quotient p ≡ product (quotient amplitude_one) p
quotient-is_product p = ap quotient (sym (product-one p)) ∙ quotient_product amplitude_one p

pub turn-zero : (j : ℕ) → turn j amplitude_zero ≡ amplitude_zero
turn-zero j = turn-is_product j amplitude_zero ∙ product_comm _ _ ∙ product-zero _

pub quotient-zero : quotient amplitude_zero ≡ amplitude_zero
quotient-zero = quotient-is_product amplitude_zero ∙ product_comm _ _ ∙ product-zero _

-- the rest of the rounds undoes a turn
undone : (j : ℕ) (p : Amplitude) → turn (j * 7) (turn j p) ≡ p
undone j p = turn-turn (j * 7) j p ∙ ap (λ k. turn k p) (let e : j * 7 + j ≡ j * 8 = omega arith in e) ∙ rounds j p
  where
    rounds : (n : ℕ) (q : Amplitude) → turn (n * 8) q ≡ q
    rounds zero q = ap (λ k. turn k q) (let e : zero * 8 ≡ 0 = omega arith in e) ∙ none q
      where
        none : (r : Amplitude) → turn 0 r ≡ r
        none r = sym (ap (turn 0) (turn-eight r)) ∙ turn-turn 0 8 r ∙ turn-eight r
    rounds (suc n) q = ap (λ k. turn k q) (let e : suc n * 8 ≡ n * 8 + 8 = omega arith in e) ∙ sym (turn-turn (n * 8) 8 q) ∙ ap (turn (n * 8)) (turn-eight q) ∙ rounds n q

pub turn-nonzero : (j : ℕ) (p : Amplitude) → p ≢ amplitude_zero → turn j p ≢ amplitude_zero
turn-nonzero j p h e = h (sym (undone j p) ∙ ap (turn (j * 7)) e ∙ turn-zero (j * 7))

pub quotient-nonzero : (p : Amplitude) → p ≢ amplitude_zero → quotient p ≢ amplitude_zero
unfolding quotient
quotient-nonzero p h e = h (lowest_zero p (zero_num _ _ e))

-- ---- a scalar passes through
pub product-turn : (s : Amplitude) (j : ℕ) (p : Amplitude) → product s (turn j p) ≡ turn j (product s p)
product-turn s j p = product_comm _ _ ∙ sym (turn-product j p s) ∙ ap (turn j) (product_comm p s)

pub product-quotient : (s p : Amplitude) → product s (quotient p) ≡ quotient (product s p)
product-quotient s p = product_comm _ _ ∙ sym (quotient_product p s) ∙ ap quotient (product_comm p s)

pub product-zero_right : (s : Amplitude) → product s amplitude_zero ≡ amplitude_zero
product-zero_right s = product_comm _ _ ∙ product-zero s

pub product-one_right : (s : Amplitude) → product s amplitude_one ≡ s
product-one_right s = product_comm _ _ ∙ product-one s

-- ---- a nonzero factor cancels
same_from_difference : (p q : Amplitude) → sum p (turn 4 q) ≡ amplitude_zero → p ≡ q
same_from_difference p q e =
    sym (sum-zero p) ∙ sum_comm _ _ ∙ ap (sum p) (sym (sum_comm _ _ ∙ sum-opposite q)) ∙ sym (sum_assoc p (turn 4 q) q) ∙ ap (λ r. sum r q) e ∙ sum-zero q

pub product-cancel : (s p q : Amplitude) → s ≢ amplitude_zero → product s p ≡ product s q → p ≡ q
product-cancel s p q h e =
    let none : product s (sum p (turn 4 q)) ≡ amplitude_zero =
    product_sum s p (turn 4 q) ∙ (λ i. sum (e i) (product-turn s 4 q i)) ∙ sum-opposite (product s q) in
    ⊎_elim (λ z. absurd (h z)) (same_from_difference p q) (product_without_zero s _ none)
