-- What budgets and weights come to.
use Rattle.std.proofs.Common.{◌≡◌, ℕ, zero, suc, ◌+◌, ◌*◌, ◌^◌, ◌<◌, ◌≤◌, List, [], ◌∷◌, ◌++◌, length, refl, sym, ap, ap₂, subst, ◌∙◌, arith, lit≤}
use native.Mathlib.Numerals.{unary_clauses}
use Rattle.std.specs.List.{fold}
use Rattle.std.proofs.Math.Nat.{mul-le-mul_left, mul-le-mul_right}
use Rattle.std.proofs.lemmas.List.{length-append}
use Rattle.aq_store.specs.declared.node.Node.{Node}
use Rattle.aq_store.specs.Nodes.{HasShape}
use Rattle.aq_store.specs.Words.{words}
use Rattle.aq_store.proofs.TableLemmas.{slice_get-some}
use Rattle.aq_set_build.specs.Budgets.{weight, walk_budget}

-- no level is without a choice
unfoldable pub AreSome : List ℕ → Type 0
AreSome [] = Unit {0}
AreSome (n ∷ shape) = (0 < n) × AreSome shape

pub shape_some : {L : Type 0} (table : List (Node L)) (shape : List ℕ) (id : ℕ) → HasShape table shape id → AreSome shape
unfolding HasShape AreSome
shape_some table [] id s = tt
shape_some table (n ∷ shape) id s =
    let first = slice_get-some s.0 0 s.1.some in
    (subst (λ m. 0 < m) s.2 s.1.some, shape_some table shape first.0.0 (s.3.left 0 first.0 first.1))

-- how many words there are, from the root down
unfoldable pub many : List ℕ → ℕ
many [] = 1
many (n ∷ shape) = n * many shape

fold-many : (shape : List ℕ) (a : ℕ) → fold (λ product n. product * n) a shape ≡ a * many shape
unfolding many
fold-many [] a = omega arith
fold-many (n ∷ shape) a = fold-many shape (a * n) ∙ (let e : a * n * many shape ≡ a * (n * many shape) = omega arith in e)

pub words-many : (shape : List ℕ) → words shape ≡ many shape
words-many shape = fold-many shape 1 ∙ (let e : 1 * many shape ≡ many shape = omega arith in e)

pub many-append : (l r : List ℕ) → many (l ++ r) ≡ many l * many r
unfolding many
many-append [] r = omega arith
many-append (n ∷ l) r = ap (λ k. n * k) (many-append l r) ∙ (let e : n * (many l * many r) ≡ n * many l * many r = omega arith in e)

pub many_some : (shape : List ℕ) → AreSome shape → 1 ≤ many shape
unfolding many AreSome
many_some [] some = omega arith
many_some (n ∷ shape) some = omega (arith, some.0, mul-le-mul_left n (many_some shape some.1))

power : (m : ℕ) → 2 ^ suc m ≡ 2 * 2 ^ m
power m = simp unary_clauses (omega arith)

pub power_add : (m n : ℕ) → 2 ^ (m + n) ≡ 2 ^ m * 2 ^ n
power_add zero n = (let e : zero + n ≡ n = omega arith in ap (λ k. 2 ^ k) e) ∙ (let f : 2 ^ n ≡ 2 ^ zero * 2 ^ n = simp unary_clauses (omega arith) in f)
power_add (suc m) n =
    let e : suc m + n ≡ suc (m + n) = omega arith in
    ap (λ k. 2 ^ k) e ∙ power (m + n) ∙ ap (λ k. 2 * k) (power_add m n) ∙ (let f : 2 * (2 ^ m * 2 ^ n) ≡ 2 * 2 ^ m * 2 ^ n = omega arith in f) ∙ ap (λ k. k * 2 ^ n) (sym (power m))

pub power_some : (m : ℕ) → 1 ≤ 2 ^ m
power_some zero = lit≤ tt
power_some (suc m) = let h = power_some m in rw (power m) (omega (arith, h))

-- the weight, from the root down: twice the words times the leaves
pub weight-is : (shape : List ℕ) → weight shape ≡ 2 * (many shape * 2 ^ length shape)
weight-is shape =
    ap₂ (λ w p. w * p) (words-many shape) (let e : length shape + 1 ≡ suc (length shape) = omega arith in ap (λ k. 2 ^ k) e ∙ power (length shape))
    ∙ (let f : many shape * (2 * 2 ^ length shape) ≡ 2 * (many shape * 2 ^ length shape) = omega arith in f)

pub leaves-append : (l r : List ℕ) → many (l ++ r) * 2 ^ length (l ++ r) ≡ many l * 2 ^ length l * (many r * 2 ^ length r)
leaves-append l r =
    ap₂ (λ w p. w * p) (many-append l r) (ap (λ k. 2 ^ k) (length-append l r) ∙ power_add (length l) (length r))
    ∙ (let e : many l * many r * (2 ^ length l * 2 ^ length r) ≡ many l * 2 ^ length l * (many r * 2 ^ length r) = omega arith in e)

node_budget : (e n w p b : ℕ) → 1 ≤ n → 1 ≤ w → b + 2 * w ≤ (e + 2) * (w * p) → n + 1 + n * (2 * b) + 2 * (n * w) ≤ (e + 2) * (n * w * (2 * p))
node_budget e n w p b some_n some_w h =
    let a = mul-le-mul_left n h in
    let f : n * ((e + 2) * (w * p)) * 2 ≡ (e + 2) * (n * w * (2 * p)) = omega arith in
    omega (arith, a, mul-le-mul_left n some_w)

pub budget_most : (e : ℕ) (shape : List ℕ) → AreSome shape → walk_budget e shape + 2 * many shape ≤ (e + 2) * (many shape * 2 ^ length shape)
unfolding walk_budget many AreSome
budget_most e [] some = let one : 2 ^ 0 ≡ 1 = refl in omega (arith, one)
budget_most e (n ∷ shape) some =
    rw (power (length shape)) (node_budget e n (many shape) (2 ^ length shape) (walk_budget e shape) some.0 (many_some shape some.1) (budget_most e shape some.1))

-- a walk over the left shape with a walk over the right one at each leaf
pub hang_budget : (l r : List ℕ) → AreSome l → AreSome r → walk_budget (walk_budget 1 r + 1) l ≤ 2 * weight (l ++ r)
hang_budget l r sl sr =
    let a = budget_most 1 r sr in
    let b = budget_most (walk_budget 1 r + 1) l sl in
    let v = many l * 2 ^ length l in
    let x = many r * 2 ^ length r in
    let e = weight-is (l ++ r) in
    let f = leaves-append l r in
    let le : many r ≤ x = (let z = mul-le-mul_left (many r) (power_some (length r)) in omega arith) in
    let wide : walk_budget (walk_budget 1 r + 1) l ≤ 4 * (v * x) = (
    let c : walk_budget 1 r + 3 ≤ 4 * x = (let s = many_some r sr in omega arith) in
    let d = mul-le-mul_right v c in
    omega arith
    ) in
    omega arith
