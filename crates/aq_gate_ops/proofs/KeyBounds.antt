-- The levels of an automaton, each node once, and the pairs of nodes of each level, hold all that a gate meets.
use Rattle.std.proofs.Common.{◌≡◌, ℕ, zero, suc, ◌+◌, ◌*◌, ◌<◌, ◌≤◌, inl, inr, Bool, true, false, ◌||◌, cond, nat_eq, List, [], ◌∷◌, ◌++◌, length, drop, slice_get}
use Rattle.std.proofs.Common.{Some, refl, sym, ap, ap₂, subst, ◌∙◌, arith, true≢false}
use Rattle.std.proofs.lemmas.Bool.{eqb-true}
use Rattle.std.proofs.lemmas.List.{length-append}
use Rattle.std.proofs.lemmas.Option.{slice_get_within}
use Rattle.std.specs.List.{list_any}
use Rattle.indexmap.specs.IndexSet.{insert_key, insert_all}
use Rattle.aq_store.specs.declared.node.Node.{Node}
use Rattle.aq_store.specs.declared.lsta.Lsta.{Lsta}
use Rattle.aq_store.specs.Levels.{sides, children_of, next_level, levels_from, levels_of}
use Rattle.aq_store.specs.Nodes.{HasShape, pairs_at}
use Rattle.aq_store.specs.Owed.{IsIn, first_of, owed}
use Rattle.aq_store.proofs.OwedLemmas.{missing-none}
use Rattle.aq_store.proofs.MeansLemmas.{opened}
use Rattle.aq_prog.specs.declared.gate.Gate.{Gate}
use Rattle.aq_gate_ops.specs.Turns.{only_turns, key_of}
use Rattle.aq_gate_ops.proofs.TurnLemmas.{key_sides}
use Rattle.aq_gate_ops.specs.Counts.{node_count, pair_count}
use Rattle.aq_gate_ops.specs.Accounts.{row_prices, gate_prices, ones, ArePairLevels, AreGateLevels, HoldGate}
use Rattle.aq_gate_ops.proofs.GateBounds.{owed-any, flat, in_left, in_right, in_either, flat_has, flat_all, side_is, sides_left, sides_right, sides_at, only}

-- ---- members of a list of different keys
any_in : (ks : List ℕ) (x : ℕ) → list_any (nat_eq x) ks ≡ true → IsIn x ks
any_in [] x e = absurd (true≢false (sym e))
any_in (k ∷ ks) x e = by (nat_eq x k) refl (any_in ks x)
  where
    by : (b : Bool) → nat_eq x k ≡ b → (list_any (nat_eq x) ks ≡ true → IsIn x ks) → IsIn x (k ∷ ks)
    by true f rest = record { place = 0; at = ap Some (sym (eqb-true x k f)) }
    by false f rest = let h = rest (sym (ap (λ b. b || list_any (nat_eq x) ks) f) ∙ e) in record { place = suc h.place; at = h.at }

key_in : (ks : List ℕ) (x : ℕ) → IsIn x (insert_key nat_eq ks x)
key_in ks x = by (list_any (nat_eq x) ks) refl
  where
    by : (b : Bool) → list_any (nat_eq x) ks ≡ b → IsIn x (cond b ks (ks ++ x ∷ []))
    by true e = any_in ks x e
    by false e = in_right ks (x ∷ []) x (record { place = 0; at = refl })

key_kept : (ks : List ℕ) (x y : ℕ) → IsIn x ks → IsIn x (insert_key nat_eq ks y)
key_kept ks x y h = by (list_any (nat_eq y) ks)
  where
    by : (b : Bool) → IsIn x (cond b ks (ks ++ y ∷ []))
    by true = h
    by false = in_left ks (y ∷ []) x h

all_kept : (ks xs : List ℕ) (x : ℕ) → IsIn x ks → IsIn x (insert_all nat_eq ks xs)
all_kept ks [] x h = h
all_kept ks (y ∷ xs) x h = all_kept (insert_key nat_eq ks y) xs x (key_kept ks x y h)

all_in : (ks xs : List ℕ) (x : ℕ) → IsIn x xs → IsIn x (insert_all nat_eq ks xs)
all_in ks xs x h = by ks xs h.place h.at
  where
    by : (ks xs : List ℕ) (k : ℕ) → slice_get xs k ≡ Some x → IsIn x (insert_all nat_eq ks xs)
    by ks [] k e = cc
    by ks (y ∷ xs) zero e = let s : y ≡ x = cc in all_kept (insert_key nat_eq ks y) xs x (subst (λ z. IsIn z (insert_key nat_eq ks y)) s (key_in ks y))
    by ks (y ∷ xs) (suc k) e = by (insert_key nat_eq ks y) xs k e

module _ (P : ℕ → Type 0) where
  key_is : (ks : List ℕ) (y : ℕ) → ((x : ℕ) → IsIn x ks → P x) → P y → (x : ℕ) → IsIn x (insert_key nat_eq ks y) → P x
  key_is ks y all p x = by (list_any (nat_eq y) ks)
    where
      last : IsIn x (y ∷ []) → P x
      last h = one h.place h.at
        where
          one : (k : ℕ) → slice_get (y ∷ []) k ≡ Some x → P x
          one zero e = let s : y ≡ x = cc in subst P s p
          one (suc k) e = cc

      by : (b : Bool) → IsIn x (cond b ks (ks ++ y ∷ [])) → P x
      by true h = all x h
      by false h = elim (in_either ks (y ∷ []) x h) [ inl g ↦ all x g | inr g ↦ last g ]

  all_is : (ks xs : List ℕ) → ((x : ℕ) → IsIn x ks → P x) → ((x : ℕ) → IsIn x xs → P x) → (x : ℕ) → IsIn x (insert_all nat_eq ks xs) → P x
  all_is ks [] first rest x h = first x h
  all_is ks (y ∷ xs) first rest x h = all_is (insert_key nat_eq ks y) xs (key_is ks y first (rest y (record { place = 0; at = refl })))
      (λ z g. rest z (record { place = suc g.place; at = g.at })) x h

-- ---- pairs of members
with_first : ℕ → List ℕ → List (ℕ × ℕ)
with_first a [] = []
with_first a (b ∷ bs) = (a, b) ∷ with_first a bs

unfoldable couples_from : List ℕ → List ℕ → List (ℕ × ℕ)
couples_from l [] = []
couples_from l (a ∷ rest) = with_first a l ++ couples_from l rest

abbrev couples : List ℕ → List (ℕ × ℕ)
couples l = couples_from l l

first_in : (a : ℕ) (l : List ℕ) (b k : ℕ) → slice_get l k ≡ Some b → IsIn (a, b) (with_first a l)
unfolding with_first
first_in a [] b k e = cc
first_in a (c ∷ l) b zero e = let s : c ≡ b = cc in record { place = 0; at = ap (λ x. Some (a, x)) s }
first_in a (c ∷ l) b (suc k) e = let h = first_in a l b k e in record { place = suc h.place; at = h.at }

first_is : (a : ℕ) (l : List ℕ) (p : ℕ × ℕ) → IsIn p (with_first a l) → (p.0 ≡ a) × IsIn p.1 l
unfolding with_first
first_is a l p h = by l h.place h.at
  where
    by : (l : List ℕ) (k : ℕ) → slice_get (with_first a l) k ≡ Some p → (p.0 ≡ a) × IsIn p.1 l
    by [] k e = cc
    by (b ∷ l) zero e = let s : (a, b) ≡ p = cc in (ap (λ q. q.0) (sym s), record { place = 0; at = ap (λ q. Some q.1) s })
    by (b ∷ l) (suc k) e = let g = by l k e in (g.0, record { place = suc g.1.place; at = g.1.at })

couple_from : (l rest : List ℕ) (a b k : ℕ) → slice_get rest k ≡ Some a → IsIn b l → IsIn (a, b) (couples_from l rest)
unfolding couples_from
couple_from l [] a b k e h = cc
couple_from l (c ∷ rest) a b zero e h = let s : c ≡ a = cc in in_left (with_first c l) (couples_from l rest) (a, b) (subst (λ x. IsIn (a, b) (with_first x l)) (sym s) (first_in a l b h.place h.at))
couple_from l (c ∷ rest) a b (suc k) e h = in_right (with_first c l) (couples_from l rest) (a, b) (couple_from l rest a b k e h)

couple_in : (l : List ℕ) (a b : ℕ) → IsIn a l → IsIn b l → IsIn (a, b) (couples l)
couple_in l a b h g = couple_from l l a b h.place h.at g

couple_of : (l rest : List ℕ) (p : ℕ × ℕ) → IsIn p (couples_from l rest) → IsIn p.0 rest × IsIn p.1 l
unfolding couples_from
couple_of l [] p h = let none = h.at in cc
couple_of l (a ∷ rest) p h = elim (in_either (with_first a l) (couples_from l rest) p h) [
  | inl g ↦ (let s = first_is a l p g in (record { place = 0; at = ap Some (sym s.0) }, s.1))
  | inr g ↦ (let s = couple_of l rest p g in (record { place = suc s.0.place; at = s.0.at }, s.1))
]

length-first : (a : ℕ) (l : List ℕ) → length (with_first a l) ≡ length l
unfolding with_first
length-first a [] = refl
length-first a (b ∷ l) = ap suc (length-first a l)

length-couples : (l rest : List ℕ) → length (couples_from l rest) ≡ length rest * length l
unfolding couples_from
length-couples l [] = omega arith
length-couples l (a ∷ rest) =
    let e : suc (length rest) * length l ≡ length l + length rest * length l = omega arith in
    length-append (with_first a l) (couples_from l rest) ∙ ap₂ (λ x y. x + y) (length-first a l) (length-couples l rest) ∙ sym e

unfoldable couples_of : List (List ℕ) → List (List (ℕ × ℕ))
couples_of [] = []
couples_of (l ∷ ls) = couples l ∷ couples_of ls

-- those of the levels below the target
unfoldable target_couples : ℕ → List (List ℕ) → List (List (ℕ × ℕ))
target_couples m [] = []
target_couples zero (l ∷ ls) = couples_of ls
target_couples (suc m) (l ∷ ls) = target_couples m ls

-- ---- levels
module _ {L : Type 0} (gate : Gate) (table : List (Node L)) where
  children_flat : (l : List ℕ) → children_of table l ≡ flat (sides_at gate table) l
  children_flat [] = refl
  children_flat (i ∷ l) = ap (λ u. sides (pairs_at table i) ++ u) (children_flat l)

  abbrev ArePlaces : List ℕ → List ℕ → Type 0
  ArePlaces shape l = (i : ℕ) → IsIn i l → HasShape table shape i

  next_in : (l : List ℕ) (i j : ℕ) → IsIn i l → IsIn j (sides_at gate table i) → IsIn j (next_level table l)
  next_in l i j h g = all_in [] (children_of table l) j (subst (IsIn j) (sym (children_flat l)) (flat_has (sides_at gate table) l h.place i j h.at g))

  next_shaped : (n : ℕ) (shape l : List ℕ) → ArePlaces (n ∷ shape) l → ArePlaces shape (next_level table l)
  next_shaped n shape l all = all_is (HasShape table shape) [] (children_of table l) (λ x h. (let none = h.at in cc))
      (λ j h. flat_all (sides_at gate table) (HasShape table shape) l (λ i g k m. side_is (HasShape table shape) (pairs_at table i) (opened table n shape i (all i g)).3 k m) j (subst (IsIn j) (children_flat l) h))

  first_level : (shape l : List ℕ) → first_of (levels_from table shape l) ≡ l
  first_level [] l = refl
  first_level (n ∷ shape) l = refl

  first_couples : (shape l : List ℕ) → first_of (couples_of (levels_from table shape l)) ≡ couples l
  unfolding couples_of
  first_couples [] l = refl
  first_couples (n ∷ shape) l = refl

  couple_levels : (shape l : List ℕ) → ArePlaces shape l → ArePairLevels table shape (couples_of (levels_from table shape l))
  unfolding ArePairLevels couples_of
  couple_levels [] l all = tt
  couple_levels (n ∷ shape) l all = (
    record {
      left = λ p h. all p.0 (couple_of l l p h).0;
      right = λ p h. all p.1 (couple_of l l p h).1;
      low = λ p a b c h e f. subst (IsIn (a.0, b.0)) (sym (first_couples shape (next_level table l))) (couple_in (next_level table l) a.0 b.0
          (next_in l p.0 a.0 (couple_of l l p h).0 (sides_left (pairs_at table p.0) c a e)) (next_in l p.1 b.0 (couple_of l l p h).1 (sides_left (pairs_at table p.1) c b f)));
      high = λ p a b c h e f. subst (IsIn (a.1, b.1)) (sym (first_couples shape (next_level table l))) (couple_in (next_level table l) a.1 b.1
          (next_in l p.0 a.1 (couple_of l l p h).0 (sides_right (pairs_at table p.0) c a e)) (next_in l p.1 b.1 (couple_of l l p h).1 (sides_right (pairs_at table p.1) c b f)));
    },
    couple_levels shape (next_level table l) (next_shaped n shape l all),
  )

  gate_couples : (m : ℕ) (shape l : List ℕ) → ArePlaces shape l → AreGateLevels table gate m shape (levels_from table shape l) (target_couples m (levels_from table shape l))
  unfolding AreGateLevels target_couples
  gate_couples zero [] l all = tt
  gate_couples (suc m) [] l all = tt
  gate_couples zero (n ∷ shape) l all = (
    record {
      shaped = all;
      pairs = λ i c p h e. (let k = key_of (only_turns gate) p in
          let in_next = key_sides (λ j. IsIn j (next_level table l)) (only_turns gate) p (next_in l i p.0 h (sides_left (pairs_at table i) c p e)) (next_in l i p.1 h (sides_right (pairs_at table i) c p e)) in
          subst (IsIn k) (sym (first_couples shape (next_level table l))) (couple_in (next_level table l) k.0 k.1 in_next.0 in_next.1));
    },
    couple_levels shape (next_level table l) (next_shaped n shape l all),
  )
  gate_couples (suc m) (n ∷ shape) l all = (
    record {
      shaped = all;
      left = λ i c p h e. subst (IsIn p.0) (sym (first_level shape (next_level table l))) (next_in l i p.0 h (sides_left (pairs_at table i) c p e));
      right = λ i c p h e. subst (IsIn p.1) (sym (first_level shape (next_level table l))) (next_in l i p.1 h (sides_right (pairs_at table i) c p e));
    },
    gate_couples m shape (next_level table l) (next_shaped n shape l all),
  )

-- ---- counts
places_counted : (none : ℕ → Bool) → ((i : ℕ) → none i ≡ false) → (prices : List ℕ) (levels : List (List ℕ)) → owed (ones prices) none levels ≤ node_count levels
unfolding owed
places_counted none new [] levels = omega arith
places_counted none new (p ∷ prices) [] = omega arith
places_counted none new (p ∷ prices) (l ∷ ls) = let a = missing-none none new l in let b = places_counted none new prices ls in omega arith

couples_counted : (none : ℕ × ℕ → Bool) → ((p : ℕ × ℕ) → none p ≡ false) → (prices : List ℕ) (levels : List (List ℕ)) → owed (ones prices) none (couples_of levels) ≤ pair_count levels
unfolding owed couples_of
couples_counted none new [] levels = omega arith
couples_counted none new (p ∷ prices) [] = omega arith
couples_counted none new (p ∷ prices) (l ∷ ls) =
    let a = missing-none none new (couples l) in
    let d = length-couples l l in
    let b = couples_counted none new prices ls in
    omega arith

target_counted : (none : ℕ × ℕ → Bool) → ((p : ℕ × ℕ) → none p ≡ false) → (prices : List ℕ) (m : ℕ) (levels : List (List ℕ)) → owed (ones prices) none (target_couples m levels) ≤ pair_count levels
unfolding owed target_couples
target_counted none new [] m [] = omega arith
target_counted none new (p ∷ prices) m [] = omega arith
target_counted none new prices zero (l ∷ ls) = let b = couples_counted none new prices ls in omega arith
target_counted none new prices (suc m) (l ∷ ls) = let b = target_counted none new prices m ls in omega arith

-- levels that hold the root, and their keys, where nothing is done
gate_counted_new : {L : Type 0} (gate : Gate) (table : List (Node L)) (none : ℕ → Bool) → ((i : ℕ) → none i ≡ false) → (free : ℕ × ℕ → Bool) → ((p : ℕ × ℕ) → free p ≡ false) → (m : ℕ) (copy : List ℕ) (lsta : Lsta) → copy ≡ lsta.shape.items
    → HasShape table copy lsta.root
    → (levels : List (List ℕ)) × (pairs : List (List (ℕ × ℕ))) × HoldGate table gate m copy lsta.root levels pairs
    × (owed (ones (gate_prices (suc m) copy)) none levels + owed (ones (row_prices (drop (suc m) copy))) free pairs ≤ node_count (levels_of table lsta) + pair_count (levels_of table lsta))
gate_counted_new gate table none new free fresh m copy lsta is s =
    let all = λ (i : ℕ) (h : IsIn i (lsta.root ∷ [])). only gate table copy lsta.root i h s in
    let levels = levels_from table copy (lsta.root ∷ []) in
    let same = ap (λ u. levels_from table u (lsta.root ∷ [])) is in
    let a = places_counted none new (gate_prices (suc m) copy) levels in
    let b = target_counted free fresh (row_prices (drop (suc m) copy)) m levels in
    let d = ap node_count same in
    let e = ap pair_count same in (
      levels,
      target_couples m levels,
      record { closed = gate_couples gate table m copy (lsta.root ∷ []) all; here = subst (IsIn lsta.root) (sym (first_level gate table copy (lsta.root ∷ []))) (record { place = 0; at = refl }) },
      omega arith,
    )

-- the same, whatever is done
pub gate_counted : {L : Type 0} (gate : Gate) (table : List (Node L)) (done : ℕ → Bool) (made : ℕ × ℕ → Bool) → (m : ℕ) (copy : List ℕ) (lsta : Lsta) → copy ≡ lsta.shape.items
    → HasShape table copy lsta.root
    → (levels : List (List ℕ)) × (pairs : List (List (ℕ × ℕ))) × HoldGate table gate m copy lsta.root levels pairs
    × (owed (ones (gate_prices (suc m) copy)) done levels + owed (ones (row_prices (drop (suc m) copy))) made pairs ≤ node_count (levels_of table lsta) + pair_count (levels_of table lsta))
gate_counted gate table done made m copy lsta is s =
    let r = gate_counted_new gate table (λ _. false) (λ i. refl) (λ _. false) (λ p. refl) m copy lsta is s in
    let a = owed-any (ones (gate_prices (suc m) copy)) done r.0 in
    let b = owed-any (ones (row_prices (drop (suc m) copy))) made r.1 in (
      r.0,
      r.1,
      r.2,
      omega (arith, r.3),
    )

-- a place of a shape is in the table
pub place_within : {L : Type 0} (table : List (Node L)) (shape : List ℕ) (id : ℕ) → HasShape table shape id → id < length table
unfolding HasShape
place_within table [] id s = slice_get_within table id _ s.here
place_within table (n ∷ shape) id s = slice_get_within table id _ s.1.here
