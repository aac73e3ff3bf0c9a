-- What the automata of expressions take, by the nodes of the expressions.
use Rattle.std.proofs.Common.{◌≡◌, ℕ, zero, suc, ◌+◌, ◌-◌, ◌*◌, ◌^◌, ◌<◌, ◌≤◌, max, List, [], ◌∷◌, ◌++◌, length, take, get_or, replicate, slice_get, Some, refl, sym, ap, subst, ◌∙◌, arith}
use native.Mathlib.Numerals.{unary_clauses}
use Rattle.std.specs.List.{repeat}
use Rattle.std.proofs.Math.Nat.{mul-le-mul_left, mul-le-mul_right}
use Rattle.std.proofs.lemmas.Option.{slice_get_within, slice_get_read}
use Rattle.aq_sets.specs.Sizes.{Size, size_of, larger, united_shape}
use Rattle.aq_sets.specs.declared.sets.Expr.{Expr}
use Rattle.aq_sets.specs.declared.sets.Expr.TheVariants as expr
use Rattle.aq_sets.specs.declared.sets.Term.{Term}
use Rattle.aq_sets.specs.ValidExprs.{AreValidExprs}
use Rattle.aq_sets.proofs.ExprLaws.{size-is, some_times}
use Rattle.aq_sets.proofs.PlaceLaws.{ArePositive, positive-append, has_positive}
use Rattle.aq_store.proofs.TableLemmas.{slice_get-some}
use Rattle.aq_set_build.specs.Budgets.{weight, build_budget, parts_budget}
use Rattle.aq_set_build.specs.Unions.{shape_all, nodes_all}
use Rattle.aq_set_build.proofs.WeightLemmas.{many, weight-is}

-- ---- no qubit is without a choice: of lists that the crate of the sizes keeps to itself
positive-repeat : (k : ℕ) (xs : List ℕ) → ArePositive xs → ArePositive (repeat k xs)
unfolding ArePositive
positive-repeat zero xs p = tt
positive-repeat (suc k) xs p = positive-append xs (repeat k xs) p (positive-repeat k xs p)

positive-larger : (xs ys : List ℕ) → ArePositive xs → ArePositive ys → ArePositive (larger xs ys)
unfolding ArePositive
positive-larger [] ys p q = q
positive-larger (x ∷ xs) [] p q = p
positive-larger (x ∷ xs) (y ∷ ys) p q = (omega (arith, p.0, q.0), positive-larger xs ys p.1 q.1)

positive-united : (xs ys : List ℕ) → ArePositive xs → ArePositive ys → ArePositive (united_shape xs ys)
unfolding ArePositive
positive-united [] ys p q = q
positive-united (x ∷ xs) [] p q = p
positive-united (x ∷ xs) (y ∷ ys) p q = (omega (arith, p.0, q.0), positive-larger xs ys p.1 q.1)

-- ---- the leaves of all words
power : (m : ℕ) → 2 ^ suc m ≡ 2 * 2 ^ m
power m = simp unary_clauses (omega arith)

unfoldable pub leaves : List ℕ → ℕ
leaves [] = 1
leaves (n ∷ shape) = 2 * (n * leaves shape)

leaves-is : (s : List ℕ) → leaves s ≡ many s * 2 ^ length s
unfolding leaves many
leaves-is [] = refl
leaves-is (n ∷ s) =
    let e = leaves-is s in
    ap (λ k. 2 * (n * k)) e ∙ (let f : 2 * (n * (many s * 2 ^ length s)) ≡ n * many s * (2 * 2 ^ length s) = omega arith in f) ∙ ap (λ k. n * many s * k) (sym (power (length s)))

pub weight-leaves : (s : List ℕ) → weight s ≡ 2 * leaves s
weight-leaves s = weight-is s ∙ ap (λ k. 2 * k) (sym (leaves-is s))

pub leaves_some : (s : List ℕ) → ArePositive s → 1 ≤ leaves s
unfolding leaves ArePositive
leaves_some [] p = omega arith
leaves_some (n ∷ s) p = let h = mul-le-mul_left n (leaves_some s p.1) in let k = p.0 in omega arith

leaves-append : (s t : List ℕ) → leaves (s ++ t) ≡ leaves s * leaves t
unfolding leaves
leaves-append [] t = omega arith
leaves-append (n ∷ s) t = ap (λ k. 2 * (n * k)) (leaves-append s t) ∙ (let e : 2 * (n * (leaves s * leaves t)) ≡ 2 * (n * leaves s) * leaves t = omega arith in e)

leaves_first : (s t : List ℕ) → ArePositive t → leaves s ≤ leaves (s ++ t)
leaves_first s t p = let e = leaves-append s t in let h = mul-le-mul_left (leaves s) (leaves_some t p) in omega arith

leaves_second : (s t : List ℕ) → ArePositive s → leaves t ≤ leaves (s ++ t)
leaves_second s t p = let e = leaves-append s t in let h = mul-le-mul_right (leaves t) (leaves_some s p) in omega arith

both_most : (x m a b : ℕ) → x ≤ m → a ≤ b → 2 * (x * a) ≤ 2 * (m * b)
both_most x m a b h g = let p = mul-le-mul_left x g in let q = mul-le-mul_right b h in omega arith

larger_first : (a b : List ℕ) → ArePositive a → ArePositive b → leaves a ≤ leaves (larger a b)
unfolding leaves ArePositive
larger_first [] b p q = leaves_some b q
larger_first (x ∷ a) [] p q = omega arith
larger_first (x ∷ a) (y ∷ b) p q = both_most x (max x y) (leaves a) (leaves (larger a b)) (omega arith) (larger_first a b p.1 q.1)

larger_second : (a b : List ℕ) → ArePositive a → ArePositive b → leaves b ≤ leaves (larger a b)
unfolding leaves ArePositive
larger_second [] b p q = omega arith
larger_second (x ∷ a) [] p q = leaves_some (x ∷ a) p
larger_second (x ∷ a) (y ∷ b) p q = both_most y (max x y) (leaves b) (leaves (larger a b)) (omega arith) (larger_second a b p.1 q.1)

united_first : (a b : List ℕ) → ArePositive a → ArePositive b → leaves a ≤ leaves (united_shape a b)
unfolding leaves ArePositive
united_first [] b p q = leaves_some b q
united_first (x ∷ a) [] p q = omega arith
united_first (x ∷ a) (y ∷ b) p q = both_most x (x + y) (leaves a) (leaves (larger a b)) (omega arith) (larger_first a b p.1 q.1)

united_second : (a b : List ℕ) → ArePositive a → ArePositive b → leaves b ≤ leaves (united_shape a b)
unfolding leaves ArePositive
united_second [] b p q = omega arith
united_second (x ∷ a) [] p q = leaves_some (x ∷ a) p
united_second (x ∷ a) (y ∷ b) p q = both_most y (x + y) (leaves b) (leaves (larger a b)) (omega arith) (larger_second a b p.1 q.1)

few_leaves : (q n : ℕ) → 1 ≤ n → q + 1 ≤ leaves (replicate q n)
unfolding leaves
few_leaves zero n some = omega arith
few_leaves (suc q) n some = let h = few_leaves q n some in let g = mul-le-mul_right (leaves (replicate q n)) some in omega arith

repeat_first : (k : ℕ) (s : List ℕ) → 0 < k → ArePositive s → leaves s ≤ leaves (repeat k s)
repeat_first zero s some p = absurd (omega arith)
repeat_first (suc k) s some p = leaves_first s (repeat k s) (positive-repeat k s p)

pub get_or_any : (js : List ℕ) (k : ℕ) → k < length js → get_or js k 0 ≡ get_or js k (get_or js k 0)
get_or_any [] k lt = absurd (omega arith)
get_or_any (j ∷ js) zero lt = refl
get_or_any (j ∷ js) (suc k) lt = get_or_any js k (omega arith)

-- ---- sums
pub kets_most : (q t w : ℕ) → q + 1 ≤ w → (q + 1) * (1 + t) < 8 * ((1 + t) * (2 * w))
kets_most q t w h = let g = mul-le-mul_right (1 + t) h in omega arith

tensor_most : (a b u v w : ℕ) → 1 ≤ u → u ≤ w → v ≤ w → 8 * (a * (2 * u)) + (8 * (b * (2 * v)) + 2 * (2 * w)) < 8 * ((1 + (a + b)) * (2 * w))
tensor_most a b u v w some h g = let p = mul-le-mul_left a h in let q = mul-le-mul_left b g in omega arith

power_most : (k b u w : ℕ) → 0 < k → 1 ≤ u → u ≤ w → 8 * (b * (2 * u)) + (k - 1) * (2 * (2 * w)) < 8 * ((k + b) * (2 * w))
power_most zero b u w some leaf h = absurd (omega arith)
power_most (suc k) b u w some leaf h =
    let p = mul-le-mul_left b h in
    let e : (suc k - 1) * (2 * (2 * w)) ≡ k * (2 * (2 * w)) = ap (λ n. n * (2 * (2 * w))) (let z : suc k - 1 ≡ k = omega arith in z) in
    omega arith

union_most : (o p n w : ℕ) → o + p < n → 1 ≤ w → o + (8 * (p * (2 * w)) + 2 * (2 * w)) < 8 * (n * (2 * w))
union_most o p n w h some =
    let a = mul-le-mul_left o some in
    let b : o + p + 1 ≤ n = omega arith in
    let c = mul-le-mul_right w b in
    omega arith

module _ (exprs : List Expr) (valid : AreValidExprs exprs) where
  size_leaves : ℕ → ℕ
  size_leaves i = leaves (size_of exprs i).shape

  pub budget-is : (i : ℕ) → build_budget exprs i ≡ 8 * ((size_of exprs i).nodes * (2 * leaves (size_of exprs i).shape))
  budget-is i = ap (λ w. 8 * ((size_of exprs i).nodes * w)) (weight-leaves (size_of exprs i).shape)

  -- the budget of an expression, by one step
  budget-by : (i : ℕ) (s : Size) → size_of exprs i ≡ s → build_budget exprs i ≡ 8 * (s.nodes * (2 * leaves s.shape))
  budget-by i s e = budget-is i ∙ ap (λ (z : Size). 8 * (z.nodes * (2 * leaves z.shape))) e

  pub kets_budget : (i q : ℕ) (terms : List Term) → slice_get exprs i ≡ Some (expr.Kets q terms) → (q + 1) * (1 + length terms) < build_budget exprs i
  kets_budget i q terms at =
      let e = budget-by i _ (size-is exprs i (expr.Kets q terms) at (valid.each i (expr.Kets q terms) at)) in
      let h = kets_most q (length terms) (leaves (replicate q 1)) (few_leaves q 1 (omega arith)) in
      omega arith

  pub all_budget : (i q : ℕ) → slice_get exprs i ≡ Some (expr.All q) → 4 * q < build_budget exprs i
  all_budget i q at =
      let e = budget-by i _ (size-is exprs i (expr.All q) at (valid.each i (expr.All q) at)) in
      let h = few_leaves q 2 (omega arith) in
      omega arith

  pub tensor_budget : (i l r : ℕ) → slice_get exprs i ≡ Some (expr.Tensor l r) → l < length exprs → r < length exprs
      → build_budget exprs l + (build_budget exprs r + 2 * weight ((size_of exprs l).shape ++ (size_of exprs r).shape)) < build_budget exprs i
  tensor_budget i l r at a b =
      let s = (size_of exprs l).shape in
      let t = (size_of exprs r).shape in
      let e = budget-by i _ (size-is exprs i (expr.Tensor l r) at (valid.each i (expr.Tensor l r) at)) in
      let f = budget-is l in
      let g = budget-is r in
      let w = weight-leaves ((size_of exprs l).shape ++ (size_of exprs r).shape) in
      let h = tensor_most (size_of exprs l).nodes (size_of exprs r).nodes (leaves (size_of exprs l).shape) (leaves (size_of exprs r).shape) (leaves ((size_of exprs l).shape ++ (size_of exprs r).shape))
      (leaves_some s (has_positive exprs valid l a)) (leaves_first s t (has_positive exprs valid r b)) (leaves_second s t (has_positive exprs valid l a)) in
      omega arith

  pub power_budget : (i base times : ℕ) → slice_get exprs i ≡ Some (expr.Power base times) → base < length exprs → 0 < times
      → build_budget exprs base + (times - 1) * (2 * weight (repeat times (size_of exprs base).shape)) < build_budget exprs i
  power_budget i base times at a some =
      let s = (size_of exprs base).shape in
      let e = budget-by i _ (size-is exprs i (expr.Power base times) at (valid.each i (expr.Power base times) at)) in
      let f = budget-is base in
      let w = ap (λ k. (times - 1) * (2 * k)) (weight-leaves (repeat times (size_of exprs base).shape)) in
      let h = power_most times (size_of exprs base).nodes (leaves (size_of exprs base).shape) (leaves (repeat times (size_of exprs base).shape)) some (leaves_some s (has_positive exprs valid base a))
      (repeat_first times s some (has_positive exprs valid base a)) in
      omega arith

  -- ---- unions
  all_positive : (js : List ℕ) → ((k j : ℕ) → slice_get js k ≡ Some j → j < length exprs) → ArePositive (shape_all exprs js)
  unfolding shape_all ArePositive
  all_positive [] h = tt
  all_positive (j ∷ js) h = positive-united (size_of exprs j).shape (shape_all exprs js) (has_positive exprs valid j (h 0 j refl)) (all_positive js (λ k i at. h (suc k) i at))

  part_leaves : (js : List ℕ) → ((k j : ℕ) → slice_get js k ≡ Some j → j < length exprs) → (k j : ℕ) → slice_get js k ≡ Some j → leaves (size_of exprs j).shape ≤ leaves (shape_all exprs js)
  unfolding shape_all
  part_leaves [] h k j at = absurd (let lt = slice_get_within [] k j at in omega arith)
  part_leaves (i ∷ js) h zero j at =
      let e : i ≡ j = cc in
      subst (λ z. leaves (size_of exprs z).shape ≤ leaves (shape_all exprs (i ∷ js))) e
      (united_first (size_of exprs i).shape (shape_all exprs js) (has_positive exprs valid i (h 0 i refl)) (all_positive js (λ k m at. h (suc k) m at)))
  part_leaves (i ∷ js) h (suc k) j at =
      let a = part_leaves js (λ k m at. h (suc k) m at) k j at in
      let b = united_second (size_of exprs i).shape (shape_all exprs js) (has_positive exprs valid i (h 0 i refl)) (all_positive js (λ k m at. h (suc k) m at)) in
      omega arith

  -- the budget of a part, where it is taken to be as large as the whole
  pub part_budget : (i : ℕ) (js : List ℕ) → shape_all exprs js ≡ (size_of exprs i).shape → ((k j : ℕ) → slice_get js k ≡ Some j → j < length exprs) → (k j : ℕ) → slice_get js k ≡ Some j
      → build_budget exprs j ≤ 8 * ((size_of exprs j).nodes * weight (size_of exprs i).shape)
  part_budget i js same h k j at =
      let a = part_leaves js h k j at in
      let e = ap leaves same in
      let f = budget-is j in
      let w = ap (λ k. 8 * ((size_of exprs j).nodes * k)) (weight-leaves (size_of exprs i).shape) in
      let m = mul-le-mul_left (size_of exprs j).nodes (let z : leaves (size_of exprs j).shape ≤ leaves (size_of exprs i).shape = omega arith in z) in
      omega arith

  pub union_budget : (i : ℕ) (js : List ℕ) (opened : ℕ) → i < length exprs → opened + nodes_all exprs js < (size_of exprs i).nodes
      → opened + (parts_budget exprs i js + 2 * weight (size_of exprs i).shape) < build_budget exprs i
  union_budget i js opened lt h =
      let e = budget-is i in
      let w = weight-leaves (size_of exprs i).shape in
      let p = ap (λ k. 8 * (nodes_all exprs js * k)) (weight-leaves (size_of exprs i).shape) in
      let m = union_most opened (nodes_all exprs js) (size_of exprs i).nodes (leaves (size_of exprs i).shape) h (leaves_some (size_of exprs i).shape (has_positive exprs valid i lt)) in
      omega arith

  -- to take it apart takes no more than its nodes
  pub opening_budget : (i : ℕ) → i < length exprs → (size_of exprs i).nodes ≤ build_budget exprs i
  opening_budget i lt =
      let e = budget-is i in
      let m = mul-le-mul_left (size_of exprs i).nodes (leaves_some (size_of exprs i).shape (has_positive exprs valid i lt)) in
      omega arith

  nodes_take : (js : List ℕ) (k : ℕ) → k < length js → nodes_all exprs (take (k + 1) js) ≡ nodes_all exprs (take k js) + (size_of exprs (get_or js k 0)).nodes
  unfolding nodes_all
  nodes_take [] k lt = absurd (omega arith)
  nodes_take (j ∷ js) zero lt = omega arith
  nodes_take (j ∷ js) (suc k) lt =
      let e = nodes_take js k (omega arith) in
      let next : suc k + 1 ≡ suc (k + 1) = omega arith in
      ap (λ n. nodes_all exprs (take n (j ∷ js))) next ∙ (let f : (size_of exprs j).nodes + nodes_all exprs (take (k + 1) js) ≡ (size_of exprs j).nodes + nodes_all exprs (take k js)
      + (size_of exprs (get_or js k 0)).nodes = omega arith in f)

  nodes_front : (js : List ℕ) (k : ℕ) → nodes_all exprs (take k js) ≤ nodes_all exprs js
  unfolding nodes_all
  nodes_front js zero = omega arith
  nodes_front [] (suc k) = omega arith
  nodes_front (j ∷ js) (suc k) = let h = nodes_front js k in omega arith

  -- the parts so far, and one more
  pub parts_step : (i : ℕ) (js : List ℕ) (k : ℕ) → shape_all exprs js ≡ (size_of exprs i).shape → ((k j : ℕ) → slice_get js k ≡ Some j → j < length exprs) → k < length js
      → parts_budget exprs i (take k js) + build_budget exprs (get_or js k 0) ≤ parts_budget exprs i (take (k + 1) js)
  parts_step i js k same h lt =
      let b = part_budget i js same h k (get_or js k 0) (slice_get_read js (length js) k (get_or js k 0) refl lt (get_or_any js k lt)) in
      let n = ap (λ m. 8 * (m * weight (size_of exprs i).shape)) (nodes_take js k lt) in
      omega arith

  pub parts_front : (i : ℕ) (js : List ℕ) (k : ℕ) → parts_budget exprs i (take k js) ≤ parts_budget exprs i js
  parts_front i js k = let h = mul-le-mul_right (weight (size_of exprs i).shape) (nodes_front js k) in omega arith

  -- a budget has room for the entry of a memo
  nodes_some : (i : ℕ) (e : Expr) → slice_get exprs i ≡ Some e → 1 ≤ (size_of exprs i).nodes
  nodes_some i (expr.Kets q terms) at = let e = ap (λ (z : Size). z.nodes) (size-is exprs i (expr.Kets q terms) at (valid.each i (expr.Kets q terms) at)) in omega arith
  nodes_some i (expr.All q) at = let e = ap (λ (z : Size). z.nodes) (size-is exprs i (expr.All q) at (valid.each i (expr.All q) at)) in omega arith
  nodes_some i (expr.Tensor l r) at = let e = ap (λ (z : Size). z.nodes) (size-is exprs i (expr.Tensor l r) at (valid.each i (expr.Tensor l r) at)) in omega arith
  nodes_some i (expr.Union l r) at = let e = ap (λ (z : Size). z.nodes) (size-is exprs i (expr.Union l r) at (valid.each i (expr.Union l r) at)) in omega arith
  nodes_some i (expr.Power base times) at =
      let e = ap (λ (z : Size). z.nodes) (size-is exprs i (expr.Power base times) at (valid.each i (expr.Power base times) at)) in
      let some = some_times exprs valid i base times at in
      omega arith

  pub budget_some : (i : ℕ) → i < length exprs → 0 < build_budget exprs i
  budget_some i lt =
      let here = slice_get-some exprs i lt in
      let n = nodes_some i here.0 here.1 in
      let e = budget-is i in
      let m = mul-le-mul_left (size_of exprs i).nodes (leaves_some (size_of exprs i).shape (has_positive exprs valid i lt)) in
      omega arith
