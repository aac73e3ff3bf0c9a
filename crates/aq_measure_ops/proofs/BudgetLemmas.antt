-- What the bounds on steps add up to.
use Rattle.std.proofs.Common.{◌≡◌, ℕ, zero, suc, ◌+◌, ◌-◌, ◌*◌, ◌^◌, ◌<◌, ◌≤◌, List, [], ◌∷◌, length, drop, get_or, refl, sym, ap, ap₂, subst, ◌∙◌, arith, lit≤}
use native.Mathlib.Numerals.{unary_clauses}
use Rattle.std.specs.List.{fold}
use Rattle.std.proofs.Math.Seq.{drop-cons}
use Rattle.std.proofs.Math.Nat.{mul-le-mul_left}
use Rattle.aq_store.specs.Words.{words}
use Rattle.aq_measure_ops.specs.Budget.{total}

-- the steps of an operation from a level down, where no node is met twice: for each node an entry of the memo and its
-- pairs, and for each pair two nodes of the next level
unfoldable pub budget : List ℕ → ℕ
budget [] = 0
budget (n ∷ shape) = n + 1 + n * (2 * budget shape)

-- each level has a choice
abbrev pub IsSome : List ℕ → Type 0
IsSome shape = (k : ℕ) → k < length shape → 0 < get_or shape k 0

-- ---- words, by recursion from the root down
unfoldable pub many : List ℕ → ℕ
many [] = 1
many (n ∷ shape) = n * many shape

fold-many : (shape : List ℕ) (a : ℕ) → fold (λ product n. product * n) a shape ≡ a * many shape
unfolding many
fold-many [] a = omega arith
fold-many (n ∷ shape) a = fold-many shape (a * n) ∙ (let e : a * n * many shape ≡ a * (n * many shape) = omega arith in e)

pub words-many : (shape : List ℕ) → words shape ≡ many shape
words-many shape = fold-many shape 1 ∙ (let e : 1 * many shape ≡ many shape = omega arith in e)

-- ---- totals
pub total-more : (shape : List ℕ) (d : ℕ) → 0 < d → d ≤ length shape → total (drop (d - 1) shape) ≡ get_or shape (d - 1) 0 + total (drop d shape)
unfolding total
total-more shape d some within =
    let lt : d - 1 < length shape = omega arith in
    let next : suc (d - 1) ≡ d = omega arith in
    ap total (drop-cons shape (d - 1) 0 lt) ∙ ap (λ k. get_or shape (d - 1) 0 + total (drop k shape)) next

pub total-drop : (shape : List ℕ) (d : ℕ) → total (drop d shape) ≤ total shape
unfolding total
total-drop shape zero = omega arith
total-drop [] (suc d) = omega arith
total-drop (n ∷ shape) (suc d) = omega (arith, total-drop shape d)

-- fewer levels, a smaller sum
pub total_drops : (shape : List ℕ) (d at : ℕ) → d ≤ at → at ≤ length shape → total (drop at shape) ≤ total (drop d shape)
unfolding total
total_drops shape zero at le within = total-drop shape at
total_drops shape (suc d) zero le within = absurd (omega arith)
total_drops [] (suc d) (suc at) le within = omega arith
total_drops (n ∷ shape) (suc d) (suc at) le within = total_drops shape d at (omega arith) (omega arith)

-- ---- bounds
node_budget : (n w p b : ℕ) → 1 ≤ n → 1 ≤ w → b + 2 * w ≤ 2 * (w * p) → n + 1 + n * (2 * b) + 2 * (n * w) ≤ 2 * (n * w * (2 * p))
node_budget n w p b some_n some_w h = omega (arith, mul-le-mul_left n h, mul-le-mul_left n some_w)

node_total : (n q t : ℕ) → 1 ≤ n → 1 ≤ q → 1 + t ≤ q → 1 + (n + t) ≤ n * (2 * q)
node_total n q t some_n some_q h = omega (arith, mul-le-mul_left n some_q, mul-le-mul_left q some_n)

tail_some : (n : ℕ) (shape : List ℕ) → IsSome (n ∷ shape) → IsSome shape
tail_some n shape some k lt = some (suc k) (omega arith)

power : (m : ℕ) → 2 ^ suc m ≡ 2 * 2 ^ m
power m = simp unary_clauses (omega arith)

many_some : (shape : List ℕ) → IsSome shape → 1 ≤ many shape
unfolding many
many_some [] some = omega arith
many_some (n ∷ shape) some = omega (arith, some 0 (omega arith), mul-le-mul_left n (many_some shape (tail_some n shape some)))

budget_bound : (shape : List ℕ) → IsSome shape → budget shape + 2 * many shape ≤ 2 * (many shape * 2 ^ length shape)
unfolding budget many
budget_bound [] some = lit≤ tt
budget_bound (n ∷ shape) some =
    rw (power (length shape)) (node_budget n (many shape) (2 ^ length shape) (budget shape) (some 0 (omega arith)) (many_some shape (tail_some n shape some)) (budget_bound shape
    (tail_some n shape some)))

total_bound : (shape : List ℕ) → IsSome shape → 1 + total shape ≤ many shape * 2 ^ length shape
unfolding total many
total_bound [] some = lit≤ tt
total_bound (n ∷ shape) some =
    let h = total_bound shape (tail_some n shape some) in
    rw (power (length shape)) (omega (arith, node_total n (many shape * 2 ^ length shape) (total shape) (some 0 (omega arith)) (omega (arith, h)) h))

sum_up : (w m p q a b : ℕ) → w ≡ m → q ≡ 2 * p → 1 + a ≤ m * p → b ≤ 2 * (m * p) → 1 + a + b ≤ 2 * w * q
sum_up w m p q a b is e f g = let all : 2 * w * q ≡ 2 * m * (2 * p) = ap₂ (λ k n. 2 * k * n) is e in omega arith

-- a tree of zeros and a budget
pub all_steps : (shape : List ℕ) → IsSome shape → 1 + total shape + budget shape ≤ 2 * words shape * 2 ^ (length shape + 1)
all_steps shape some =
    let one : length shape + 1 ≡ suc (length shape) = omega arith in
    sum_up (words shape) (many shape) (2 ^ length shape) (2 ^ (length shape + 1)) (total shape) (budget shape) (words-many shape) (ap (λ k. 2 ^ k) one
    ∙ power (length shape)) (total_bound shape some) (omega (arith, budget_bound shape some))

-- the same for a copy of the shape, with a tree of zeros of its lower levels
pub copy_steps : (copy shape : List ℕ) → copy ≡ shape → IsSome copy → (d : ℕ) → 1 + total (drop d copy) + budget copy ≤ 2 * words shape * 2 ^ (length shape + 1)
copy_steps copy shape is some d = subst (λ u. 1 + total (drop d copy) + budget copy ≤ 2 * words u * 2 ^ (length u + 1)) is (omega (arith, all_steps copy some, total-drop copy d))

-- a budget alone
pub budget_steps : (shape : List ℕ) → IsSome shape → budget shape ≤ 2 * words shape * 2 ^ (length shape + 1)
budget_steps shape some = omega (arith, all_steps shape some)
