-- Weights of worlds.
use Rattle.std.proofs.Common.{◌≡◌, ℕ, zero, suc, ◌+◌, ◌*◌, ◌^◌, ◌≤◌, Bool, true, cond, List, [], ◌∷◌, ◌++◌, set, slice_get, Option, None, Some, refl, sym, ap, ap₂, subst, ◌∙◌, arith}
use native.Mathlib.Numerals.{unary_clauses}
use Rattle.std.proofs.Math.Pow.{pow_mono}
use Rattle.std.proofs.Math.Nat.{mul-le-mul_left}
use Rattle.std.proofs.lemmas.Nat.{pow_pos}
use Rattle.std.proofs.lemmas.List.Sums.{sum_by-cons, sum_by-append}
use Rattle.aq_store.specs.Nodes.{FitsStore, HasShape, pairs_at}
use Rattle.aq_store.specs.declared.lsta.Lsta.{Lsta}
use Rattle.aq_store.specs.declared.node.Node.{Node}
use Rattle.aq_store.proofs.MeansLemmas.{opened}
use Rattle.aq_store.proofs.TableLemmas.{slice_get-some}
use Rattle.aq_measure_ops.proofs.BudgetLemmas.{IsSome, all_steps}
use Rattle.aq_obligations.specs.Worlds.{Partial, stored}
use Rattle.aq_symbolic.specs.Steps.{is_unknown}
use Rattle.aq_symbolic.specs.Weights.{open_bits, open_from, open_one, price, weight, weights}
use Rattle.aq_symbolic.specs.declared.kept.World.{World}

power : (m : ℕ) → 2 ^ suc m ≡ 2 * 2 ^ m
power m = simp unary_clauses (omega arith)

-- ---- bits that aren't known

-- a bit that gets a value
pub open-set-le : (named : ℕ → Bool) (k : ℕ) (bits : Partial) (i : ℕ) (b : Bool) → open_from named k (set bits i (Some b)) ≤ open_from named k bits
unfolding open_from
open-set-le named k [] i b = omega arith
open-set-le named k (x ∷ bits) zero b = omega arith
open-set-le named k (x ∷ bits) (suc i) b = let rest = open-set-le named (suc k) bits i b in omega arith

pub open-stored-le : (named : ℕ → Bool) (bits : Partial) (bit : Option ℕ) (b : Bool) → open_from named 0 (stored bit b bits) ≤ open_from named 0 bits
open-stored-le named bits None b = omega arith
open-stored-le named bits (Some i) b = open-set-le named 0 bits i b

one_open : (named : Bool) (x : Option Bool) → is_unknown (Some x) ≡ true → named ≡ true → open_one named x ≡ 1
one_open named None e f = ap (λ b. cond b 1 0) f
one_open named (Some b) e f = cc

-- one that wasn't known and is named
pub open-set : (named : ℕ → Bool) (k j : ℕ) (bits : Partial) (i : ℕ) (b : Bool) → j ≡ k + i → is_unknown (slice_get bits i) ≡ true → named j ≡ true
    → open_from named k bits ≡ suc (open_from named k (set bits i (Some b)))
unfolding open_from
open-set named k j [] i b e u h = cc
open-set named k j (x ∷ bits) zero b e u h =
    let here : j ≡ k = omega (arith, e) in
    let one = one_open (named k) x u (subst (λ n. named n ≡ true) here h) in
    omega (arith, one)
open-set named k j (x ∷ bits) (suc i) b e u h = let rest = open-set named (suc k) j bits i b (omega (arith, e)) u h in omega (arith, rest)

-- ---- a world

module _ {L : Type 0} where
  some_choices : (table : List (Node L)) (shape : List ℕ) (id : ℕ) → HasShape table shape id → IsSome shape
  some_choices table [] id s k lt = absurd (omega (arith, lt))
  some_choices table (n ∷ shape) id s zero lt = (opened table n shape id s).2
  some_choices table (n ∷ shape) id s (suc k) lt =
      let o = opened table n shape id s in
      let first = slice_get-some (pairs_at table id) 0 (omega (arith, o.1, o.2)) in
      some_choices table shape first.0.0 (o.3.left 0 first.0 first.1) k (omega (arith, lt))

  -- an automaton has a word, so a world has a price
  pub price_some : (table : List (Node L)) (lsta : Lsta) → FitsStore table lsta → 1 ≤ price lsta.shape.items
  price_some table lsta fits = let shape = lsta.shape.items in let a = all_steps shape (some_choices table shape lsta.root fits) in omega (arith, a)

pub price_within : (named : ℕ → Bool) (k : ℕ) (w : World) → price w.lsta.shape.items ≤ weight named k w
price_within named k w =
    let some = pow_pos (k + open_bits named w) in
    let le : 1 ≤ 2 ^ (k + open_bits named w) = omega (arith, some) in
    omega (arith, mul-le-mul_left (price w.lsta.shape.items) le)

pub weight_suc : (named : ℕ → Bool) (k : ℕ) (w : World) → weight named (1 + k) w ≡ 2 * weight named k w
weight_suc named k w =
    let e : 2 ^ ((1 + k) + open_bits named w) ≡ 2 * 2 ^ (k + open_bits named w) = ap (λ m. 2 ^ m) (let s : (1 + k) + open_bits named w ≡ suc (k + open_bits named w) = omega arith in s) ∙ power (k + open_bits named w) in
    ap (λ x. price w.lsta.shape.items * x) e ∙ (omega arith)

-- as many bits are open or fewer
pub weight_le : (named : ℕ → Bool) (k j : ℕ) (u w : World) → u.lsta.shape.items ≡ w.lsta.shape.items → k + open_bits named u ≤ j + open_bits named w → weight named k u ≤ weight named j w
weight_le named k j u w e le =
    subst (λ s. price s * 2 ^ (k + open_bits named u) ≤ weight named j w) (sym e)
    (mul-le-mul_left (price w.lsta.shape.items) (pow_mono le))

-- one bit less is open
pub weight_half : (named : ℕ → Bool) (k : ℕ) (u w : World) → u.lsta.shape.items ≡ w.lsta.shape.items → open_bits named w ≡ suc (open_bits named u) → 2 * weight named k u ≡ weight named k w
weight_half named k u w e less =
    let two = sym (weight_suc named k u) in
    let s : (1 + k) + open_bits named u ≡ k + open_bits named w = omega (arith, less) in
    two ∙ ap₂ (λ p x. price p * 2 ^ x) e s

-- ---- several worlds

pub weights_none : (named : ℕ → Bool) (k : ℕ) → weights named k [] ≡ 0
weights_none named k = refl

pub weights_one : (named : ℕ → Bool) (k : ℕ) (w : World) → weights named k (w ∷ []) ≡ weight named k w
weights_one named k w = sum_by-cons (weight named k) w [] ∙ omega arith

pub weights_two : (named : ℕ → Bool) (k : ℕ) (w u : World) → weights named k (w ∷ u ∷ []) ≡ weight named k w + weight named k u
weights_two named k w u = sum_by-cons (weight named k) w (u ∷ []) ∙ ap (λ x. weight named k w + x) (weights_one named k u)

pub weights-append : (named : ℕ → Bool) (k : ℕ) (ws us : List World) → weights named k (ws ++ us) ≡ weights named k ws + weights named k us
weights-append named k ws us = sum_by-append (weight named k) ws us

-- with more outcomes to come
pub weights_le : (named : ℕ → Bool) (k j : ℕ) (ws : List World) → k ≤ j → weights named k ws ≤ weights named j ws
weights_le named k j [] le = omega arith
weights_le named k j (w ∷ ws) le =
    let rest = weights_le named k j ws le in
    let here = weight_le named k j w w refl (omega (arith, le)) in
    omega (arith, sum_by-cons (weight named k) w ws, sum_by-cons (weight named j) w ws, rest, here)

-- ---- steps

-- a part is played, and then the rest
pub spent_on : (c0 c1 c2 s t w x v b : ℕ) → w ≤ v → x ≤ v → c2 ≤ c1 + 4 * (s * w) → c1 + 4 * ((s + t) * v) ≤ c0 + b → c2 + 4 * (t * x) ≤ c0 + b
spent_on c0 c1 c2 s t w x v b p q now before = omega (arith, mul-le-mul_left s p, mul-le-mul_left t q)

-- a world more
pub spent_more : (c0 c1 c2 s v w z : ℕ) → v + w ≤ z → c1 ≤ c0 + 4 * (s * v) → c2 ≤ c1 + 4 * (s * w) → c2 ≤ c0 + 4 * (s * z)
spent_more c0 c1 c2 s v w z le a b = omega (arith, mul-le-mul_left s le)

-- a step, and then a part of what is left by a statement
pub spent_split : (c0 cp s v w : ℕ) → cp ≤ c0 + 1 → 1 ≤ w → v ≤ w → cp + 4 * (s * v) ≤ c0 + 4 * ((1 + s) * w)
spent_split c0 cp s v w p some q =
    let a = mul-le-mul_left s q in
    let b : (1 + s) * w ≡ w + s * w = omega arith in
    omega (arith, p, some, a, b)

-- a larger bound
pub spent_le : (c0 c1 s t v w : ℕ) → s ≤ t → v ≤ w → c1 ≤ c0 + 4 * (s * v) → c1 ≤ c0 + 4 * (t * w)
spent_le c0 c1 s t v w p q h = let a = mul-le-mul_left s q in let b = mul-le-mul_left w p in omega (arith, a, b)
