-- What is owed for all levels of a tree, with no key counted as another.
use Rattle.std.proofs.Common.{◌≡◌, ℕ, zero, suc, ◌+◌, ◌-◌, ◌*◌, ◌^◌, ◌<◌, ◌≤◌, ◌⊎◌, inl, inr, Bool, true, false, cond, List, [], ◌∷◌, ◌++◌, length, map, drop, get_or, slice_get}
use Rattle.std.proofs.Common.{Some, option_map, refl, sym, ap, ap₂, subst, ◌∙◌, arith, lit≤, true≢false}
use native.Mathlib.Numerals.{unary_clauses}
use Rattle.std.specs.List.{fold}
use Rattle.std.proofs.Math.Nat.{mul-le-mul_left}
use Rattle.std.proofs.lemmas.List.{length-append, length-map}
use Rattle.std.proofs.lemmas.Option.{slice_get_within, slice_get-map}
use Rattle.aq_store.specs.declared.node.Node.{Node}
use Rattle.aq_store.specs.Levels.{sides}
use Rattle.aq_store.specs.Nodes.{EachPair, HasShape, pairs_at}
use Rattle.aq_store.specs.Owed.{IsIn, first_of, owed}
use Rattle.aq_store.specs.Words.{words}
use Rattle.aq_store.proofs.RunLemmas.{slice_get-append_cases, slice_get-append_left, slice_get-append_right}
use Rattle.aq_store.proofs.MeansLemmas.{opened}
use Rattle.aq_store.proofs.OwedLemmas.{missing-none, owed-less}
use Rattle.aq_store.proofs.TableLemmas.{slice_get-some}
use Rattle.aq_prog.specs.declared.gate.Gate.{Gate}
use Rattle.aq_gate_ops.specs.Accounts.{is_low, rows_cost, anew, row_prices, gate_prices, ArePairLevels, AreGateLevels, HoldGate}
use Rattle.aq_gate_ops.specs.Turns.{only_turns, key_of}
use Rattle.aq_gate_ops.proofs.TurnLemmas.{key_sides}

-- no more is owed than where nothing is done
pub owed-any : {K : Type 0} → (prices : List ℕ) (done : K → Bool) (levels : List (List K)) → owed prices done levels ≤ owed prices (λ _. false) levels
owed-any prices done levels = owed-less prices (λ _. false) done (λ k e. absurd (true≢false (sym e))) levels

-- ---- lists of lists
abbrev pub flat : {A B : Type 0} → (A → List B) → List A → List B
flat f [] = []
flat f (a ∷ l) = f a ++ flat f l

module _ {B : Type 0} where
  pub in_left : (u w : List B) (i : B) → IsIn i u → IsIn i (u ++ w)
  in_left u w i h = record { place = h.place; at = slice_get-append_left u w h.place (slice_get_within u h.place i h.at) ∙ h.at }

  pub in_right : (u w : List B) (i : B) → IsIn i w → IsIn i (u ++ w)
  in_right u w i h = record { place = length u + h.place; at = slice_get-append_right u w (length u + h.place) h.place refl ∙ h.at }

  pub in_either : (u w : List B) (i : B) → IsIn i (u ++ w) → IsIn i u ⊎ IsIn i w
  in_either u w i h = elim (slice_get-append_cases u w h.place i h.at) [ inl a ↦ inl (record { place = h.place; at = a }) | inr a ↦ inr (record { place = h.place - length u; at = a.1 }) ]

module _ {A B : Type 0} (f : A → List B) where
  pub flat_has : (l : List A) (k : ℕ) (a : A) (b : B) → slice_get l k ≡ Some a → IsIn b (f a) → IsIn b (flat f l)
  flat_has [] k a b e h = cc
  flat_has (x ∷ l) zero a b e h = let s : a ≡ x = cc in in_left (f x) (flat f l) b (subst (λ y. IsIn b (f y)) s h)
  flat_has (x ∷ l) (suc k) a b e h = in_right (f x) (flat f l) b (flat_has l k a b e h)

  pub flat_all : (P : B → Type 0) (l : List A) → ((a : A) → IsIn a l → (b : B) → IsIn b (f a) → P b) → (b : B) → IsIn b (flat f l) → P b
  flat_all P [] all b h = let none = h.at in cc
  flat_all P (x ∷ l) all b h = elim (in_either (f x) (flat f l) b h) [
    | inl g ↦ all x (record { place = 0; at = refl }) b g
    | inr g ↦ flat_all P l (λ a m. all a (record { place = suc m.place; at = m.at })) b g
  ]

  flat_length : (m : ℕ) (l : List A) → ((a : A) → IsIn a l → length (f a) ≡ m) → length (flat f l) ≡ m * length l
  flat_length m [] all = omega arith
  flat_length m (x ∷ l) all =
      let a = all x (record { place = 0; at = refl }) in
      let b = flat_length m l (λ y h. all y (record { place = suc h.place; at = h.at })) in
      let e : m * suc (length l) ≡ m + m * length l = omega arith in
      length-append (f x) (flat f l) ∙ omega arith

-- ---- the sides of pairs
pub sides_left : (ps : List (ℕ × ℕ)) (c : ℕ) (p : ℕ × ℕ) → slice_get ps c ≡ Some p → IsIn p.0 (sides ps)
sides_left [] c p e = cc
sides_left (q ∷ ps) zero p e = let s : q ≡ p = cc in record { place = 0; at = ap (λ r. Some r.0) s }
sides_left (q ∷ ps) (suc c) p e = let h = sides_left ps c p e in record { place = suc (suc h.place); at = h.at }

pub sides_right : (ps : List (ℕ × ℕ)) (c : ℕ) (p : ℕ × ℕ) → slice_get ps c ≡ Some p → IsIn p.1 (sides ps)
sides_right [] c p e = cc
sides_right (q ∷ ps) zero p e = let s : q ≡ p = cc in record { place = 1; at = ap (λ r. Some r.1) s }
sides_right (q ∷ ps) (suc c) p e = let h = sides_right ps c p e in record { place = suc (suc h.place); at = h.at }

length-sides : (ps : List (ℕ × ℕ)) → length (sides ps) ≡ 2 * length ps
length-sides [] = refl
length-sides (p ∷ ps) = let h = length-sides ps in omega arith

tail_pairs : (P : ℕ → Type 0) (p : ℕ × ℕ) (ps : List (ℕ × ℕ)) → EachPair P (p ∷ ps) → EachPair P ps
tail_pairs P p ps m = record { left = λ c q e. m.left (suc c) q e; right = λ c q e. m.right (suc c) q e }

pub side_is : (P : ℕ → Type 0) (ps : List (ℕ × ℕ)) → EachPair P ps → (i : ℕ) → IsIn i (sides ps) → P i
side_is P ps m i h = by ps m h.place h.at
  where
    by : (ps : List (ℕ × ℕ)) → EachPair P ps → (k : ℕ) → slice_get (sides ps) k ≡ Some i → P i
    by [] m k e = cc
    by (p ∷ ps) m zero e = let s : p.0 ≡ i = cc in subst P s (m.left 0 p refl)
    by (p ∷ ps) m (suc zero) e = let s : p.1 ≡ i = cc in subst P s (m.right 0 p refl)
    by (p ∷ ps) m (suc (suc k)) e = by ps (tail_pairs P p ps m) k e

-- the left sides of two lists of pairs, and the right sides
abbrev pub met : List (ℕ × ℕ) → List (ℕ × ℕ) → List (ℕ × ℕ)
met [] bs = []
met (a ∷ as') [] = []
met (a ∷ as') (b ∷ bs) = (a.0, b.0) ∷ (a.1, b.1) ∷ met as' bs

met_low : (ps qs : List (ℕ × ℕ)) (c : ℕ) (a b : ℕ × ℕ) → slice_get ps c ≡ Some a → slice_get qs c ≡ Some b → IsIn (a.0, b.0) (met ps qs)
met_low [] qs c a b e f = cc
met_low (p ∷ ps) [] c a b e f = cc
met_low (p ∷ ps) (q ∷ qs) zero a b e f = let s : p ≡ a = cc in let t : q ≡ b = cc in record { place = 0; at = ap₂ (λ x y. Some (x.0, y.0)) s t }
met_low (p ∷ ps) (q ∷ qs) (suc c) a b e f = let h = met_low ps qs c a b e f in record { place = suc (suc h.place); at = h.at }

met_high : (ps qs : List (ℕ × ℕ)) (c : ℕ) (a b : ℕ × ℕ) → slice_get ps c ≡ Some a → slice_get qs c ≡ Some b → IsIn (a.1, b.1) (met ps qs)
met_high [] qs c a b e f = cc
met_high (p ∷ ps) [] c a b e f = cc
met_high (p ∷ ps) (q ∷ qs) zero a b e f = let s : p ≡ a = cc in let t : q ≡ b = cc in record { place = 1; at = ap₂ (λ x y. Some (x.1, y.1)) s t }
met_high (p ∷ ps) (q ∷ qs) (suc c) a b e f = let h = met_high ps qs c a b e f in record { place = suc (suc h.place); at = h.at }

met_length : (n : ℕ) (ps qs : List (ℕ × ℕ)) → length ps ≡ n → length qs ≡ n → length (met ps qs) ≡ 2 * n
met_length n [] qs e f = omega arith
met_length n (p ∷ ps) [] e f = absurd (omega arith)
met_length zero (p ∷ ps) (q ∷ qs) e f = absurd (omega arith)
met_length (suc n) (p ∷ ps) (q ∷ qs) e f = let h = met_length n ps qs (omega arith) (omega arith) in omega arith

met_is : (P : ℕ → Type 0) (ps qs : List (ℕ × ℕ)) → EachPair P ps → EachPair P qs → (r : ℕ × ℕ) → IsIn r (met ps qs) → P r.0 × P r.1
met_is P ps qs m n r h = by ps qs m n h.place h.at
  where
    by : (ps qs : List (ℕ × ℕ)) → EachPair P ps → EachPair P qs → (k : ℕ) → slice_get (met ps qs) k ≡ Some r → P r.0 × P r.1
    by [] qs m n k e = cc
    by (p ∷ ps) [] m n k e = cc
    by (p ∷ ps) (q ∷ qs) m n zero e = let s : (p.0, q.0) ≡ r = cc in (subst (λ x. P x.0) s (m.left 0 p refl), subst (λ x. P x.1) s (n.left 0 q refl))
    by (p ∷ ps) (q ∷ qs) m n (suc zero) e = let s : (p.1, q.1) ≡ r = cc in (subst (λ x. P x.0) s (m.right 0 p refl), subst (λ x. P x.1) s (n.right 0 q refl))
    by (p ∷ ps) (q ∷ qs) m n (suc (suc k)) e = by ps qs (tail_pairs P p ps m) (tail_pairs P q qs n) k e

-- ---- budgets
unfoldable pub row_budget : List ℕ → ℕ
row_budget [] = 2
row_budget (n ∷ shape) = 2 * n + 1 + n * (2 * row_budget shape)

unfoldable pub gate_budget : ℕ → List ℕ → ℕ
gate_budget m [] = 0
gate_budget zero (n ∷ shape) = n + 1 + n * row_budget shape
gate_budget (suc m) (n ∷ shape) = n + 1 + n * (2 * gate_budget m shape)

-- a budget covers what a pair takes anew
cost_most : (shape : List ℕ) → rows_cost shape ≤ row_budget shape
unfolding row_budget
cost_most [] = lit≤ tt
cost_most (n ∷ shape) = omega (arith, mul-le-mul_left n (cost_most shape))

unfoldable pub many : List ℕ → ℕ
many [] = 1
many (n ∷ shape) = n * many shape

fold-many : (shape : List ℕ) (a : ℕ) → fold (λ product n. product * n) a shape ≡ a * many shape
unfolding many
fold-many [] a = omega arith
fold-many (n ∷ shape) a = fold-many shape (a * n) ∙ (let e : a * n * many shape ≡ a * (n * many shape) = omega arith in e)

words-many : (shape : List ℕ) → words shape ≡ many shape
words-many shape = fold-many shape 1 ∙ (let e : 1 * many shape ≡ many shape = omega arith in e)

-- each level has a choice
abbrev pub IsSome : List ℕ → Type 0
IsSome shape = (k : ℕ) → k < length shape → 0 < get_or shape k 0

tail_some : (n : ℕ) (shape : List ℕ) → IsSome (n ∷ shape) → IsSome shape
tail_some n shape some k lt = some (suc k) (omega arith)

many_some : (shape : List ℕ) → IsSome shape → 1 ≤ many shape
unfolding many
many_some [] some = omega arith
many_some (n ∷ shape) some = omega (arith, some 0 (omega arith), mul-le-mul_left n (many_some shape (tail_some n shape some)))

power : (m : ℕ) → 2 ^ suc m ≡ 2 * 2 ^ m
power m = simp unary_clauses (omega arith)

row_step : (n w p b : ℕ) → 1 ≤ n → 1 ≤ w → b + 6 * w ≤ 8 * (w * p) → 2 * n + 1 + n * (2 * b) + 6 * (n * w) ≤ 8 * (n * w * (2 * p))
row_step n w p b some_n some_w h = omega (arith, mul-le-mul_left n h, mul-le-mul_left n some_w)

target_step : (n w p b : ℕ) → 1 ≤ n → 1 ≤ w → b + 6 * w ≤ 8 * (w * p) → n + 1 + n * b + 4 * (n * w) ≤ 4 * (n * w * (2 * p))
target_step n w p b some_n some_w h = omega (arith, mul-le-mul_left n h, mul-le-mul_left n some_w)

above_step : (n w p b : ℕ) → 1 ≤ n → 1 ≤ w → b + 4 * w ≤ 4 * (w * p) → n + 1 + n * (2 * b) + 4 * (n * w) ≤ 4 * (n * w * (2 * p))
above_step n w p b some_n some_w h = omega (arith, mul-le-mul_left n h, mul-le-mul_left n some_w)

row_most : (shape : List ℕ) → IsSome shape → row_budget shape + 6 * many shape ≤ 8 * (many shape * 2 ^ length shape)
unfolding row_budget many
row_most [] some = lit≤ tt
row_most (n ∷ shape) some =
    rw (power (length shape)) (row_step n (many shape) (2 ^ length shape) (row_budget shape) (some 0 (omega arith)) (many_some shape (tail_some n shape some)) (row_most shape (tail_some n shape some)))

gate_most : (m : ℕ) (shape : List ℕ) → m < length shape → IsSome shape → gate_budget m shape + 4 * many shape ≤ 4 * (many shape * 2 ^ length shape)
unfolding gate_budget many
gate_most m [] lt some = absurd (omega arith)
gate_most zero (n ∷ shape) lt some =
    rw (power (length shape)) (target_step n (many shape) (2 ^ length shape) (row_budget shape) (some 0 (omega arith)) (many_some shape (tail_some n shape some)) (row_most shape (tail_some n shape some)))
gate_most (suc m) (n ∷ shape) lt some =
    rw (power (length shape)) (above_step n (many shape) (2 ^ length shape) (gate_budget m shape) (some 0 (omega arith)) (many_some shape (tail_some n shape some))
    (gate_most m shape (omega arith) (tail_some n shape some)))

sum_up : (w m p q b : ℕ) → w ≡ m → q ≡ 2 * p → b ≤ 4 * (m * p) → b ≤ 2 * w * q
sum_up w m p q b is e g = let all : 2 * w * q ≡ 2 * m * (2 * p) = ap₂ (λ k n. 2 * k * n) is e in omega arith

gate_steps : (m : ℕ) (shape : List ℕ) → m < length shape → IsSome shape → gate_budget m shape ≤ 2 * words shape * 2 ^ (length shape + 1)
gate_steps m shape lt some =
    let one : length shape + 1 ≡ suc (length shape) = omega arith in
    sum_up (words shape) (many shape) (2 ^ length shape) (2 ^ (length shape + 1)) (gate_budget m shape) (words-many shape) (ap (λ k. 2 ^ k) one ∙ power (length shape)) (omega (arith, gate_most m shape lt some))

row_turn : (k n a b o : ℕ) → o + 2 * n * k * a ≤ 2 * n * k * b → suc (2 * n + n * (2 * a)) * k + o ≤ k * (2 * n + 1 + n * (2 * b))
row_turn k n a b o h =
    let e : k * (2 * n + 1 + n * (2 * b)) ≡ k + 2 * n * k + 2 * n * k * b = omega arith in
    let f : suc (2 * n + n * (2 * a)) * k ≡ k + 2 * n * k + 2 * n * k * a = omega arith in
    omega arith

target_turn : (k n a b o : ℕ) → o + n * k * a ≤ n * k * b → suc (n + n * a) * k + o ≤ k * (n + 1 + n * b)
target_turn k n a b o h =
    let e : k * (n + 1 + n * b) ≡ k + n * k + n * k * b = omega arith in
    let f : suc (n + n * a) * k ≡ k + n * k + n * k * a = omega arith in
    omega arith

above_turn : (k n b o : ℕ) → o ≤ 2 * n * k * b → suc n * k + o ≤ k * (n + 1 + n * (2 * b))
above_turn k n b o h = let e : k * (n + 1 + n * (2 * b)) ≡ suc n * k + 2 * n * k * b = omega arith in omega arith

-- a place of a shape has a choice on each level
pub positive : {L : Type 0} (table : List (Node L)) (shape : List ℕ) (id : ℕ) → HasShape table shape id → (k : ℕ) → k < length shape → 0 < get_or shape k 0
unfolding HasShape
positive table [] id s k lt = absurd (omega arith)
positive table (n ∷ shape) id s zero lt = subst (λ m. 0 < m) s.2 s.1.some
positive table (n ∷ shape) id s (suc k) lt =
    let first = slice_get-some s.0 0 s.1.some in
    positive table shape first.0.0 (s.3.left 0 first.0 first.1) k (omega arith)

-- ---- levels
module _ {L : Type 0} (gate : Gate) (table : List (Node L)) where
  -- the pairs below a pair, and the places below a place
  abbrev pub met_at : ℕ × ℕ → List (ℕ × ℕ)
  met_at p = met (pairs_at table p.0) (pairs_at table p.1)

  -- the keys of a place at the target
  abbrev pub keys_at : ℕ → List (ℕ × ℕ)
  keys_at i = map (key_of (only_turns gate)) (pairs_at table i)

  abbrev pub sides_at : ℕ → List ℕ
  sides_at i = sides (pairs_at table i)

  abbrev pub pair_levels : List ℕ → List (ℕ × ℕ) → List (List (ℕ × ℕ))
  pair_levels [] l = l ∷ []
  pair_levels (n ∷ shape) l = l ∷ pair_levels shape (flat met_at l)

  first_pairs : (shape : List ℕ) (l : List (ℕ × ℕ)) → first_of (pair_levels shape l) ≡ l
  first_pairs [] l = refl
  first_pairs (n ∷ shape) l = refl

  abbrev ArePairs : List ℕ → List (ℕ × ℕ) → Type 0
  ArePairs shape l = (p : ℕ × ℕ) → IsIn p l → HasShape table shape p.0 × HasShape table shape p.1

  pairs_below : (n : ℕ) (shape : List ℕ) (l : List (ℕ × ℕ)) → ArePairs (n ∷ shape) l → ArePairs shape (flat met_at l)
  pairs_below n shape l all = flat_all met_at (λ r. HasShape table shape r.0 × HasShape table shape r.1) l (λ p h r g.
      (let s = all p h in met_is (HasShape table shape) (pairs_at table p.0) (pairs_at table p.1) (opened table n shape p.0 s.0).3 (opened table n shape p.1 s.1).3 r g))

  are_pair_levels : (shape : List ℕ) (l : List (ℕ × ℕ)) → ArePairs shape l → ArePairLevels table shape (pair_levels shape l)
  unfolding ArePairLevels
  are_pair_levels [] l all = tt
  are_pair_levels (n ∷ shape) l all = (
    record {
      left = λ p h. (all p h).0;
      right = λ p h. (all p h).1;
      low = λ p a b c h e f. subst (IsIn (a.0, b.0)) (sym (first_pairs shape (flat met_at l))) (flat_has met_at l h.place p (a.0, b.0) h.at (met_low (pairs_at table p.0) (pairs_at table p.1) c a b e f));
      high = λ p a b c h e f. subst (IsIn (a.1, b.1)) (sym (first_pairs shape (flat met_at l))) (flat_has met_at l h.place p (a.1, b.1) h.at (met_high (pairs_at table p.0) (pairs_at table p.1) c a b e f));
    },
    are_pair_levels shape (flat met_at l) (pairs_below n shape l all),
  )

  -- the pairs of a level with or without entries, before those below
  row_level : (none : ℕ × ℕ → Bool) → ((p : ℕ × ℕ) → none p ≡ false) → (n : ℕ) (shape : List ℕ) (l below : List (ℕ × ℕ)) (low : Bool) → length below ≡ 2 * n * length l
      → owed (row_prices shape) none (pair_levels shape below) + length below * anew shape ≤ length below * row_budget shape
      → owed (cond low [] (suc (2 * n + n * (2 * anew shape)) ∷ row_prices shape)) none (l ∷ pair_levels shape below) + length l * cond low (rows_cost (n ∷ shape)) 0 ≤ length l * row_budget (n ∷ shape)
  unfolding owed row_budget
  row_level none new n shape l below true long h = omega (arith, mul-le-mul_left (length l) (cost_most (n ∷ shape)))
  row_level none new n shape l below false long h =
      let a = ap (λ k. suc (2 * n + n * (2 * anew shape)) * k) (missing-none none new l) in
      let d = ap (λ k. k * anew shape) long in
      let e = ap (λ k. k * row_budget shape) long in
      let f = row_turn (length l) n (anew shape) (row_budget shape) (owed (row_prices shape) none (pair_levels shape below)) (omega arith) in
      omega arith

  row_owed : (none : ℕ × ℕ → Bool) → ((p : ℕ × ℕ) → none p ≡ false) → (shape : List ℕ) (l : List (ℕ × ℕ)) → ArePairs shape l
      → owed (row_prices shape) none (pair_levels shape l) + length l * anew shape ≤ length l * row_budget shape
  unfolding owed row_budget
  row_owed none new [] l all = omega arith
  row_owed none new (n ∷ shape) l all =
      row_level none new n shape l (flat met_at l) (is_low (n ∷ shape))
      (flat_length met_at (2 * n) l (λ p h. (let s = all p h in met_length n (pairs_at table p.0) (pairs_at table p.1) (opened table n shape p.0 s.0).1 (opened table n shape p.1 s.1).1)))
      (row_owed none new shape (flat met_at l) (pairs_below n shape l all))

  -- ---- from the target up
  abbrev pub gate_levels : ℕ → List ℕ → List ℕ → List (List ℕ)
  gate_levels zero shape l = l ∷ []
  gate_levels (suc m) [] l = l ∷ []
  gate_levels (suc m) (n ∷ shape) l = l ∷ gate_levels m shape (flat sides_at l)

  abbrev pub gate_pairs : ℕ → List ℕ → List ℕ → List (List (ℕ × ℕ))
  gate_pairs zero [] l = []
  gate_pairs zero (n ∷ shape) l = pair_levels shape (flat keys_at l)
  gate_pairs (suc m) [] l = []
  gate_pairs (suc m) (n ∷ shape) l = gate_pairs m shape (flat sides_at l)

  first_gate : (m : ℕ) (shape : List ℕ) (l : List ℕ) → first_of (gate_levels m shape l) ≡ l
  first_gate zero shape l = refl
  first_gate (suc m) [] l = refl
  first_gate (suc m) (n ∷ shape) l = refl

  abbrev ArePlaces : List ℕ → List ℕ → Type 0
  ArePlaces shape l = (i : ℕ) → IsIn i l → HasShape table shape i

  places_below : (n : ℕ) (shape l : List ℕ) → ArePlaces (n ∷ shape) l → ArePlaces shape (flat sides_at l)
  places_below n shape l all = flat_all sides_at (HasShape table shape) l (λ i h j g. side_is (HasShape table shape) (pairs_at table i) (opened table n shape i (all i h)).3 j g)

  key_at : (ps : List (ℕ × ℕ)) (c : ℕ) (p : ℕ × ℕ) → slice_get ps c ≡ Some p → IsIn (key_of (only_turns gate) p) (map (key_of (only_turns gate)) ps)
  key_at ps c p e = record { place = c; at = slice_get-map (key_of (only_turns gate)) ps c ∙ ap (option_map (key_of (only_turns gate))) e }

  -- a key is that of a pair
  key_from : (ps : List (ℕ × ℕ)) (r : ℕ × ℕ) → IsIn r (map (key_of (only_turns gate)) ps) → (w : ℕ × (ℕ × ℕ)) × (slice_get ps w.0 ≡ Some w.1) × (key_of (only_turns gate) w.1 ≡ r)
  key_from ps r h = by ps h.place h.at
    where
      by : (ps : List (ℕ × ℕ)) (k : ℕ) → slice_get (map (key_of (only_turns gate)) ps) k ≡ Some r → (w : ℕ × (ℕ × ℕ)) × (slice_get ps w.0 ≡ Some w.1) × (key_of (only_turns gate) w.1 ≡ r)
      by [] k e = cc
      by (p ∷ ps) zero e = ((0, p), refl, (let s : key_of (only_turns gate) p ≡ r = cc in s))
      by (p ∷ ps) (suc k) e = let w = by ps k e in ((suc w.0.0, w.0.1), w.1, w.2)

  target_below : (n : ℕ) (shape l : List ℕ) → ArePlaces (n ∷ shape) l → ArePairs shape (flat keys_at l)
  target_below n shape l all = flat_all keys_at (λ r. HasShape table shape r.0 × HasShape table shape r.1) l (λ i h r g.
      (let o = opened table n shape i (all i h) in
      let k = key_from (pairs_at table i) r g in
      subst (λ q. HasShape table shape q.0 × HasShape table shape q.1) k.2
      (key_sides (HasShape table shape) (only_turns gate) k.0.1 (o.3.left k.0.0 k.0.1 k.1) (o.3.right k.0.0 k.0.1 k.1))))

  are_gate_levels : (m : ℕ) (shape l : List ℕ) → ArePlaces shape l → AreGateLevels table gate m shape (gate_levels m shape l) (gate_pairs m shape l)
  unfolding AreGateLevels
  are_gate_levels zero [] l all = tt
  are_gate_levels zero (n ∷ shape) l all = (
    record {
      shaped = all;
      pairs = λ i c p h e. subst (IsIn (key_of (only_turns gate) p)) (sym (first_pairs shape (flat keys_at l))) (flat_has keys_at l h.place i (key_of (only_turns gate) p) h.at (key_at (pairs_at table i) c p e));
    },
    are_pair_levels shape (flat keys_at l) (target_below n shape l all),
  )
  are_gate_levels (suc m) [] l all = tt
  are_gate_levels (suc m) (n ∷ shape) l all = (
    record {
      shaped = all;
      left = λ i c p h e. subst (IsIn p.0) (sym (first_gate m shape (flat sides_at l))) (flat_has sides_at l h.place i p.0 h.at (sides_left (pairs_at table i) c p e));
      right = λ i c p h e. subst (IsIn p.1) (sym (first_gate m shape (flat sides_at l))) (flat_has sides_at l h.place i p.1 h.at (sides_right (pairs_at table i) c p e));
    },
    are_gate_levels m shape (flat sides_at l) (places_below n shape l all),
  )

  gate_bound : (none : ℕ → Bool) → ((i : ℕ) → none i ≡ false) → (free : ℕ × ℕ → Bool) → ((p : ℕ × ℕ) → free p ≡ false) → (m : ℕ) (shape l : List ℕ) → m < length shape → ArePlaces shape l
      → owed (gate_prices (suc m) shape) none (gate_levels m shape l) + owed (row_prices (drop (suc m) shape)) free (gate_pairs m shape l) ≤ length l * gate_budget m shape
  unfolding owed gate_budget
  gate_bound none new free fresh m [] l lt all = absurd (omega arith)
  gate_bound none new free fresh zero (n ∷ shape) l lt all =
      let a = ap (λ k. suc (n + n * anew shape) * k) (missing-none none new l) in
      let b = row_owed free fresh shape (flat keys_at l) (target_below n shape l all) in
      let long = flat_length keys_at n l (λ i h. length-map (pairs_at table i) (key_of (only_turns gate)) ∙ (opened table n shape i (all i h)).1) in
      let d = ap (λ k. k * anew shape) long in
      let e = ap (λ k. k * row_budget shape) long in
      let f = target_turn (length l) n (anew shape) (row_budget shape) (owed (row_prices shape) free (pair_levels shape (flat keys_at l))) (omega arith) in
      omega arith
  gate_bound none new free fresh (suc m) (n ∷ shape) l lt all =
      let a = ap (λ k. suc n * k) (missing-none none new l) in
      let b = gate_bound none new free fresh m shape (flat sides_at l) (omega arith) (places_below n shape l all) in
      let d = ap (λ k. k * gate_budget m shape) (flat_length sides_at (2 * n) l (λ i h. (let o = (opened table n shape i (all i h)).1 in length-sides (pairs_at table i) ∙ ap (λ k. 2 * k) o))) in
      let f = above_turn (length l) n (gate_budget m shape)
      (owed (gate_prices (suc m) shape) none (gate_levels m shape (flat sides_at l)) + owed (row_prices (drop (suc m) shape)) free (gate_pairs m shape (flat sides_at l))) (omega arith) in
      omega arith

  pub only : (shape : List ℕ) (root i : ℕ) → IsIn i (root ∷ []) → HasShape table shape root → HasShape table shape i
  only shape root i h s = by h.place h.at
    where
      by : (k : ℕ) → slice_get (root ∷ []) k ≡ Some i → HasShape table shape i
      by zero e = let is : root ≡ i = cc in subst (HasShape table shape) is s
      by (suc k) e = cc

  -- levels that hold a root, and what is owed for them where nothing is done
  gate_root_new : (none : ℕ → Bool) → ((i : ℕ) → none i ≡ false) → (free : ℕ × ℕ → Bool) → ((p : ℕ × ℕ) → free p ≡ false) → (m : ℕ) (copy shape : List ℕ) (root : ℕ) → copy ≡ shape → m < length copy → IsSome copy
      → HasShape table copy root
      → (levels : List (List ℕ)) × (pairs : List (List (ℕ × ℕ))) × HoldGate table gate m copy root levels pairs
      × (owed (gate_prices (suc m) copy) none levels + owed (row_prices (drop (suc m) copy)) free pairs ≤ 2 * words shape * 2 ^ (length shape + 1))
  gate_root_new none new free fresh m copy shape root is lt some s =
      let all = λ (i : ℕ) (h : IsIn i (root ∷ [])). only copy root i h s in
      let b = gate_bound none new free fresh m copy (root ∷ []) lt all in
      let one : 1 * gate_budget m copy ≡ gate_budget m copy = omega arith in
      let steps = subst (λ u. gate_budget m copy ≤ 2 * words u * 2 ^ (length u + 1)) is (gate_steps m copy lt some) in (
        gate_levels m copy (root ∷ []),
        gate_pairs m copy (root ∷ []),
        record { closed = are_gate_levels m copy (root ∷ []) all; here = subst (IsIn root) (sym (first_gate m copy (root ∷ []))) (record { place = 0; at = refl }) },
        omega arith,
      )

  -- the same, whatever is done
  pub gate_root : (done : ℕ → Bool) (made : ℕ × ℕ → Bool) → (m : ℕ) (copy shape : List ℕ) (root : ℕ) → copy ≡ shape → m < length copy → IsSome copy
      → HasShape table copy root
      → (levels : List (List ℕ)) × (pairs : List (List (ℕ × ℕ))) × HoldGate table gate m copy root levels pairs
      × (owed (gate_prices (suc m) copy) done levels + owed (row_prices (drop (suc m) copy)) made pairs ≤ 2 * words shape * 2 ^ (length shape + 1))
  gate_root done made m copy shape root is lt some s =
      let r = gate_root_new (λ _. false) (λ i. refl) (λ _. false) (λ p. refl) m copy shape root is lt some s in
      let a = owed-any (gate_prices (suc m) copy) done r.0 in
      let b = owed-any (row_prices (drop (suc m) copy)) made r.1 in (
        r.0,
        r.1,
        r.2,
        omega (arith, r.3),
      )
