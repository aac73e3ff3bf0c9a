-- What the search takes in all.
use Rattle.std.proofs.Common.{◌≡◌, ℕ, zero, suc, ◌+◌, ◌*◌, ◌^◌, ◌<◌, ◌≤◌, List, [], ◌∷◌, length, sym, ap, subst, arith}
use native.Mathlib.Numerals.{unary_clauses}
use Rattle.std.proofs.Math.Nat.{mul-le-mul_left, mul-le-mul_right}
use Rattle.std.specs.List.{fold}
use Rattle.aq_store.specs.Words.{words}
use Rattle.aq_include.specs.Costs.{budget}

-- a heavier macro costs no less
pub budget-mono : (shape : List ℕ) (v w : ℕ) → v ≤ w → budget shape v ≤ budget shape w
unfolding budget
budget-mono [] v w le = le
budget-mono (n ∷ shape) v w le =
    let below = budget-mono shape (2 * v) (2 * w) (omega arith) in
    mul-le-mul_left n (let both : v + budget shape (2 * v) ≤ w + budget shape (2 * w) = omega arith in both)

double : (h : ℕ) → 2 ^ (suc h) ≡ 2 * 2 ^ h
double h = simp unary_clauses (omega arith)

positive-power : (h : ℕ) → 0 < 2 ^ h
positive-power zero = simp unary_clauses (omega arith)
positive-power (suc h) = rw (double h) (omega (arith, positive-power h))

-- one level more
fold-times : (a : ℕ) (shape : List ℕ) → fold (λ product n. product * n) a shape ≡ a * words shape
fold-times a [] = omega arith
fold-times a (n ∷ shape) =
    let more = fold-times (a * n) shape in
    let one = fold-times (1 * n) shape in
    let step : fold (λ product k. product * k) (a * n) shape ≡ a * n * words shape = more in
    let first : words (n ∷ shape) ≡ 1 * n * words shape = one in
    let all : a * words (n ∷ shape) ≡ a * (1 * n * words shape) = ap (λ z. a * z) first in
    omega (arith, step, all)

pub words-cons : (n : ℕ) (shape : List ℕ) → words (n ∷ shape) ≡ n * words shape
words-cons n shape = (let e : words (n ∷ shape) ≡ 1 * n * words shape = fold-times (1 * n) shape in omega (arith, e))

-- b + w*v <= w*v * 2^(h+1), for w words
pub budget-bound : (shape : List ℕ) (v : ℕ) → 0 < words shape → budget shape v + words shape * v ≤ 2 * (words shape * v * 2 ^ length shape)
unfolding budget
budget-bound [] v some = simp unary_clauses (omega arith)
budget-bound (n ∷ shape) v some' =
    let some : 0 < n * words shape = subst (λ (z : ℕ). 0 < z) (words-cons n shape) some' in
    subst (λ (z : ℕ). budget (n ∷ shape) v + z * v ≤ 2 * (z * v * 2 ^ length (n ∷ shape))) (sym (words-cons n shape))
    (at n (words shape) (budget shape (2 * v)) (2 ^ length shape) (2 ^ length (n ∷ shape)) v (double (length shape))
    (budget-bound shape (2 * v) (positive n (words shape) some)) (positive n (words shape) some))
  where
    positive : (a b : ℕ) → 0 < a * b → 0 < b
    positive a zero h = absurd (omega (arith, h))
    positive a (suc b) h = omega arith

    at : (n w b p q v : ℕ) → q ≡ 2 * p → b + w * (2 * v) ≤ 2 * (w * (2 * v) * p) → 0 < w → n * (v + b) + n * w * v ≤ 2 * (n * w * v * q)
    at n w b p q v e h pos =
        let some : 1 * v ≤ w * v = mul-le-mul_right v pos in
        let inner : v + b + w * v ≤ 2 * (w * v * q) = rw e (omega arith) in
        let all : n * (v + b + w * v) ≤ n * (2 * (w * v * q)) = mul-le-mul_left n inner in
        omega arith
