-- What is owed for all levels of a tree, with no place counted as another.
use Rattle.std.proofs.Common.{◌≡◌, ℕ, zero, suc, ◌+◌, ◌-◌, ◌*◌, ◌<◌, ◌≤◌, ◌⊎◌, inl, inr, Bool, true, false, List, [], ◌∷◌, ◌++◌, length, slice_get}
use Rattle.std.proofs.Common.{Option, None, Some, refl, sym, ap, ap₂, subst, ◌∙◌, arith, true≢false}
use Rattle.std.proofs.Math.Nat.{mul-le-mul_left}
use Rattle.std.proofs.lemmas.List.{length-append}
use Rattle.aq_store.specs.declared.node.Node.{Node}
use Rattle.aq_store.specs.Nodes.{EachPair, HasShape, pairs_at}
use Rattle.aq_store.specs.Levels.{sides, children_of}
use Rattle.aq_store.specs.Accounts.{HoldPlace, HoldPair, HoldPairs}
use Rattle.aq_store.specs.Owed.{IsIn, first_of, rest_of, missing, owed, IsLevel, AreLevels, prices_of}
use Rattle.aq_store.specs.Words.{IsWider}
use Rattle.aq_store.proofs.RunLemmas.{slice_get-append_cases, slice_get-append_left, slice_get-append_right}
use Rattle.aq_store.proofs.MeansLemmas.{opened}
use Rattle.aq_store.proofs.OwedLemmas.{missing-none, owed-less}
use Rattle.aq_measure_ops.proofs.BudgetLemmas.{budget}

in_left : (u w : List ℕ) (i : ℕ) → IsIn i u → IsIn i (u ++ w)
in_left u w i h = record { place = h.place; at = slice_get-append_left u w h.place (within u h.place h.at) ∙ h.at }
  where
    within : (u : List ℕ) (k : ℕ) → slice_get u k ≡ Some i → k < length u
    within [] k e = cc
    within (x ∷ u) zero e = omega arith
    within (x ∷ u) (suc k) e = let h = within u k e in omega arith

in_right : (u w : List ℕ) (i : ℕ) → IsIn i w → IsIn i (u ++ w)
in_right u w i h = record { place = length u + h.place; at = slice_get-append_right u w (length u + h.place) h.place refl ∙ h.at }

in_either : (u w : List ℕ) (i : ℕ) → IsIn i (u ++ w) → IsIn i u ⊎ IsIn i w
in_either u w i h = elim (slice_get-append_cases u w h.place i h.at) [ inl a ↦ inl (record { place = h.place; at = a }) | inr a ↦ inr (record { place = h.place - length u; at = a.1 }) ]

sides_left : (ps : List (ℕ × ℕ)) (c : ℕ) (p : ℕ × ℕ) → slice_get ps c ≡ Some p → IsIn p.0 (sides ps)
sides_left [] c p e = cc
sides_left (q ∷ ps) zero p e = let s : q ≡ p = cc in record { place = 0; at = ap (λ r. Some r.0) s }
sides_left (q ∷ ps) (suc c) p e = let h = sides_left ps c p e in record { place = suc (suc h.place); at = h.at }

sides_right : (ps : List (ℕ × ℕ)) (c : ℕ) (p : ℕ × ℕ) → slice_get ps c ≡ Some p → IsIn p.1 (sides ps)
sides_right [] c p e = cc
sides_right (q ∷ ps) zero p e = let s : q ≡ p = cc in record { place = 1; at = ap (λ r. Some r.1) s }
sides_right (q ∷ ps) (suc c) p e = let h = sides_right ps c p e in record { place = suc (suc h.place); at = h.at }

pub length-sides : (ps : List (ℕ × ℕ)) → length (sides ps) ≡ 2 * length ps
length-sides [] = refl
length-sides (p ∷ ps) = let h = length-sides ps in omega arith

tail_pairs : (P : ℕ → Type 0) (p : ℕ × ℕ) (ps : List (ℕ × ℕ)) → EachPair P (p ∷ ps) → EachPair P ps
tail_pairs P p ps m = record { left = λ c q e. m.left (suc c) q e; right = λ c q e. m.right (suc c) q e }

side_is : (P : ℕ → Type 0) (ps : List (ℕ × ℕ)) → EachPair P ps → (i : ℕ) → IsIn i (sides ps) → P i
side_is P ps m i h = by ps m h.place h.at
  where
    by : (ps : List (ℕ × ℕ)) → EachPair P ps → (k : ℕ) → slice_get (sides ps) k ≡ Some i → P i
    by [] m k e = cc
    by (p ∷ ps) m zero e = let s : p.0 ≡ i = cc in subst P s (m.left 0 p refl)
    by (p ∷ ps) m (suc zero) e = let s : p.1 ≡ i = cc in subst P s (m.right 0 p refl)
    by (p ∷ ps) m (suc (suc k)) e = by ps (tail_pairs P p ps m) k e

turned : (m k n b o : ℕ) → k ≤ n → o ≤ 2 * k * m * b → suc n * m + o ≤ m * (n + 1 + n * (2 * b))
turned m k n b o le h =
    let e : m * (n + 1 + n * (2 * b)) ≡ suc n * m + 2 * n * m * b = omega arith in
    let f : 2 * n * m * b ≡ 2 * m * b * n = omega arith in
    let g : 2 * k * m * b ≡ 2 * m * b * k = omega arith in
    omega (arith, mul-le-mul_left (2 * m * b) le)

module _ {L : Type 0} (table : List (Node L)) where
  children_left : (l : List ℕ) (k i c : ℕ) (p : ℕ × ℕ) → slice_get l k ≡ Some i → slice_get (pairs_at table i) c ≡ Some p → IsIn p.0 (children_of table l)
  children_left [] k i c p e f = cc
  children_left (x ∷ l) zero i c p e f = let s : i ≡ x = cc in in_left (sides (pairs_at table x)) (children_of table l) p.0 (sides_left (pairs_at table x) c p (ap (λ y. slice_get
      (pairs_at table y) c) (sym s) ∙ f))
  children_left (x ∷ l) (suc k) i c p e f = in_right (sides (pairs_at table x)) (children_of table l) p.0 (children_left l k i c p e f)

  children_right : (l : List ℕ) (k i c : ℕ) (p : ℕ × ℕ) → slice_get l k ≡ Some i → slice_get (pairs_at table i) c ≡ Some p → IsIn p.1 (children_of table l)
  children_right [] k i c p e f = cc
  children_right (x ∷ l) zero i c p e f = let s : i ≡ x = cc in in_left (sides (pairs_at table x)) (children_of table l) p.1 (sides_right (pairs_at table x) c p (ap
      (λ y. slice_get (pairs_at table y) c) (sym s) ∙ f))
  children_right (x ∷ l) (suc k) i c p e f = in_right (sides (pairs_at table x)) (children_of table l) p.1 (children_right l k i c p e f)

  children_shaped : (n : ℕ) (shape : List ℕ) (l : List ℕ) → ((i : ℕ) → IsIn i l → HasShape table (n ∷ shape) i) → (j : ℕ) → IsIn j (children_of table l) → HasShape table shape j
  children_shaped n shape [] all j h = let none = h.at in cc
  children_shaped n shape (x ∷ l) all j h =
      let here = (opened table n shape x (all x (record { place = 0; at = refl }))).3 in
      elim (in_either (sides (pairs_at table x)) (children_of table l) j h) [
        | inl a ↦ side_is (HasShape table shape) (pairs_at table x) here j a
        | inr a ↦ children_shaped n shape l (λ i m. all i (record { place = suc m.place; at = m.at })) j a
      ]

  length-children : (n : ℕ) (shape : List ℕ) (l : List ℕ) → ((i : ℕ) → IsIn i l → HasShape table (n ∷ shape) i) → length (children_of table l) ≡ 2 * n * length l
  length-children n shape [] all = omega arith
  length-children n shape (x ∷ l) all =
      let here = (opened table n shape x (all x (record { place = 0; at = refl }))).1 in
      let a = length-append (sides (pairs_at table x)) (children_of table l) in
      let b = length-sides (pairs_at table x) in
      let d = length-children n shape l (λ i m. all i (record { place = suc m.place; at = m.at })) in
      let e : 2 * n * suc (length l) ≡ 2 * n + 2 * n * length l = omega arith in
      omega arith

  -- the levels of a tree, as children of children
  abbrev pub all_levels : List ℕ → List ℕ → List (List ℕ)
  all_levels [] l = l ∷ []
  all_levels (n ∷ shape) l = l ∷ all_levels shape (children_of table l)

  pub first-all_levels : (shape l : List ℕ) → first_of (all_levels shape l) ≡ l
  first-all_levels [] l = refl
  first-all_levels (n ∷ shape) l = refl

  pub are_levels : (shape l : List ℕ) → ((i : ℕ) → IsIn i l → HasShape table shape i) → AreLevels table shape (all_levels shape l)
  unfolding AreLevels
  are_levels [] l all = tt
  are_levels (n ∷ shape) l all = (
    record {
      shaped = all;
      left = λ i c p h e. subst (IsIn p.0) (sym (first-all_levels shape (children_of table l))) (children_left l h.place i c p h.at e);
      right = λ i c p h e. subst (IsIn p.1) (sym (first-all_levels shape (children_of table l))) (children_right l h.place i c p h.at e);
    },
    are_levels shape (children_of table l) (children_shaped n shape l all),
  )

  -- each place of a level is owed once, at the price of what is made of it
  pub owed_bound : (none : ℕ → Bool) → ((i : ℕ) → none i ≡ false) → (shape wide l : List ℕ) → IsWider shape wide → ((i : ℕ) → IsIn i l → HasShape table shape i)
      → owed (prices_of wide) none (all_levels shape l) ≤ length l * budget wide
  unfolding owed budget
  owed_bound none new [] [] l w all = omega arith
  owed_bound none new [] (n ∷ wide) l w all = absurd w
  owed_bound none new (m ∷ shape) [] l w all = absurd w
  owed_bound none new (m ∷ shape) (n ∷ wide) l w all =
      let a = missing-none none new l in
      let b = owed_bound none new shape wide (children_of table l) w.1 (children_shaped m shape l all) in
      let d = ap (λ k. k * budget wide) (length-children m shape l all) in
      let e = ap (λ k. suc n * k) a in
      let f = turned (length l) m n (budget wide) (owed (prices_of wide) none (all_levels shape (children_of table l))) w.0 (omega arith) in
      omega arith

  only : (shape : List ℕ) (root i : ℕ) → IsIn i (root ∷ []) → HasShape table shape root → HasShape table shape i
  only shape root i h s = by h.place h.at
    where
      by : (k : ℕ) → slice_get (root ∷ []) k ≡ Some i → HasShape table shape i
      by zero e = let is : root ≡ i = cc in subst (HasShape table shape) is s
      by (suc k) e = cc

  -- levels that hold a root, and what is owed for them
  pub root_bound : (none : ℕ → Bool) → ((i : ℕ) → none i ≡ false) → (shape wide : List ℕ) (root : ℕ) → IsWider shape wide → HasShape table shape root
      → (levels : List (List ℕ)) × HoldPlace table shape root levels × (owed (prices_of wide) none levels ≤ budget wide)
  root_bound none new shape wide root w s =
      let all = λ (i : ℕ) (h : IsIn i (root ∷ [])). only shape root i h s in
      let b = owed_bound none new shape wide (root ∷ []) w all in
      let one : 1 * budget wide ≡ budget wide = omega arith in (
        all_levels shape (root ∷ []),
        record {
          closed = are_levels shape (root ∷ []) all;
          here = subst (IsIn root) (sym (first-all_levels shape (root ∷ [])))
              (record { place = 0; at = refl });
        },
        omega arith,
      )

  -- the same, whatever is done
  pub root_any : (done : ℕ → Bool) → (shape wide : List ℕ) (root : ℕ) → IsWider shape wide → HasShape table shape root
      → (levels : List (List ℕ)) × HoldPlace table shape root levels × (owed (prices_of wide) done levels ≤ budget wide)
  root_any done shape wide root w s =
      let r = root_bound (λ _. false) (λ i. refl) shape wide root w s in
      let a = owed-less (prices_of wide) (λ _. false) done (λ k e. absurd (true≢false (sym e))) r.0 in
      (r.0, r.1, omega (arith, r.2))

  -- levels that hold the pairs of a root
  pub pairs_bound : (none : ℕ → Bool) → ((i : ℕ) → none i ≡ false) → (m : ℕ) (shape wide : List ℕ) (root : ℕ) → IsWider shape wide → HasShape table (m ∷ shape) root
      → (levels : List (List ℕ)) × HoldPairs table shape root levels × (owed (prices_of wide) none levels ≤ 2 * m * budget wide)
  pairs_bound none new m shape wide root w s =
      let all = λ (i : ℕ) (h : IsIn i (root ∷ [])). only (m ∷ shape) root i h s in
      let here = children_of table (root ∷ []) in
      let below = children_shaped m shape (root ∷ []) all in
      let b = owed_bound none new shape wide here w below in
      let d = ap (λ k. k * budget wide) (length-children m shape (root ∷ []) all) in
      let one : 2 * m * 1 * budget wide ≡ 2 * m * budget wide = omega arith in (
        all_levels shape here,
        record {
          each = λ c p at. record {
            closed = are_levels shape here below;
            left = subst (IsIn p.0) (sym (first-all_levels shape here)) (children_left (root ∷ []) 0 root c p refl at);
            right = subst (IsIn p.1) (sym (first-all_levels shape here)) (children_right (root ∷ []) 0 root c p refl at);
          };
        },
        omega arith,
      )
