-- The nodes of each macro stand in the levels of its row: the children of a level's nodes are those of the next level.
use Rattle.std.proofs.Common.{◌≡◌, ℕ, zero, suc, ◌+◌, ◌<◌, ◌⊎◌, inl, inr, Bool, true, false, cond, nat_eq, List, [], ◌∷◌, ◌++◌, length, drop, slice_get, Option, Some, None, Contains, sym, ap, subst, arith, length-drop}
use Rattle.std.specs.List.{list_any}
use Rattle.std.proofs.lemmas.Bool.{eqb-true}
use Rattle.std.proofs.lemmas.List.Elements.{Contains-append_left, Contains-append_right}
use Rattle.indexmap.specs.IndexSet.{insert_key, insert_all}
use Rattle.indexmap.proofs.CallerLemmas.{Contains-insert_key}
use Rattle.aq_store.specs.declared.node.Node.{Node}
use Rattle.aq_store.specs.declared.lsta.Lsta.{Lsta}
use Rattle.aq_store.specs.Nodes.{pairs_at}
use Rattle.aq_store.specs.Levels.{sides, children_of, next_level, levels_from}
use Rattle.aq_cert.specs.declared.cert.Macro.{Macro}
use Rattle.aq_cert.specs.Rows.{row_at}
use Rattle.aq_cert.specs.Goals.{rest_of, goal_rest, levels_in}
use Rattle.aq_cert.specs.Macros.{IsOfLevel}
use Rattle.aq_cert.specs.Valid.{left_level, goal_level}
use Rattle.aq_cert.specs.Placed.{StandsAt, AllStand}
use Rattle.aq_cert.proofs.MemberLemmas.{of-none, of-cons, in-head, in-tail}
use Rattle.aq_cert.proofs.PlaceLemmas.{first-level}
use Rattle.aq_include.specs.Steps.{IsBack}
use Rattle.aq_include.specs.Tables.{IsPushed}

-- what was put into a set is there
key-keeps : (ks : List ℕ) (x y : ℕ) → Contains ks y → Contains (insert_key nat_eq ks x) y
key-keeps ks x y h = by (list_any (nat_eq x) ks)
  where
    by : (b : Bool) → Contains (cond b ks (ks ++ x ∷ [])) y
    by true = h
    by false = Contains-append_left ks (x ∷ []) y h

all-there : (ks xs : List ℕ) (y : ℕ) → Contains ks y ⊎ Contains xs y → Contains (insert_all nat_eq ks xs) y
all-there ks [] y (inl h) = h
all-there ks [] y (inr h) = absurd (of-none y h)
all-there ks (x ∷ xs) y (inl h) = all-there (insert_key nat_eq ks x) xs y (inl (key-keeps ks x y h))
all-there ks (x ∷ xs) y (inr h) = elim (of-cons x xs y h) [
  | inl e ↦ all-there (insert_key nat_eq ks x) xs y (inl (subst (Contains (insert_key nat_eq ks x)) (sym e) (Contains-insert_key nat_eq eqb-true ks x)))
  | inr t ↦ all-there (insert_key nat_eq ks x) xs y (inr t)
]

in-sides : (ps : List (ℕ × ℕ)) (c : ℕ) (p : ℕ × ℕ) → slice_get ps c ≡ Some p → Contains (sides ps) p.0 × Contains (sides ps) p.1
in-sides [] c p e = cc
in-sides (q ∷ ps) zero p e =
    let s : q ≡ p = cc in
    subst (λ (z : ℕ × ℕ). Contains (sides (q ∷ ps)) z.0 × Contains (sides (q ∷ ps)) z.1) s (in-head q.0 (q.1 ∷ sides ps), in-tail q.0 (q.1 ∷ sides ps) q.1 (in-head q.1 (sides ps)))
in-sides (q ∷ ps) (suc c) p e =
    let r = in-sides ps c p e in
    (in-tail q.0 (q.1 ∷ sides ps) p.0 (in-tail q.1 (sides ps) p.0 r.0), in-tail q.0 (q.1 ∷ sides ps) p.1 (in-tail q.1 (sides ps) p.1 r.1))

either : (P : ℕ → Type 0) (y a b : ℕ) → (y ≡ a) ⊎ (y ≡ b) → P a × P b → P y
either P y a b (inl e) h = subst P (sym e) h.0
either P y a b (inr e) h = subst P (sym e) h.1

firsts : (q l r : ℕ × ℕ) → (q ≡ (l.0, r.0)) ⊎ (q ≡ (l.1, r.1)) → (q.0 ≡ l.0) ⊎ (q.0 ≡ l.1)
firsts q l r (inl e) = inl (ap (λ (z : ℕ × ℕ). z.0) e)
firsts q l r (inr e) = inr (ap (λ (z : ℕ × ℕ). z.0) e)

seconds : (q l r : ℕ × ℕ) → (q ≡ (l.0, r.0)) ⊎ (q ≡ (l.1, r.1)) → (q.1 ≡ r.0) ⊎ (q.1 ≡ r.1)
seconds q l r (inl e) = inl (ap (λ (z : ℕ × ℕ). z.1) e)
seconds q l r (inr e) = inr (ap (λ (z : ℕ × ℕ). z.1) e)

module _ {L : Type 0} (table : List (Node L)) where
  child-among : (ids : List ℕ) (x c : ℕ) (p : ℕ × ℕ) → Contains ids x → slice_get (pairs_at table x) c ≡ Some p → Contains (children_of table ids) p.0 × Contains (children_of table ids) p.1
  child-among [] x c p h e = absurd (of-none x h)
  child-among (id ∷ ids) x c p h e = elim (of-cons id ids x h) [
    | inl same ↦
        (let r = in-sides (pairs_at table id) c p (subst (λ z. slice_get (pairs_at table z) c ≡ Some p) same e) in
        (Contains-append_left (sides (pairs_at table id)) (children_of table ids) p.0 r.0, Contains-append_left (sides (pairs_at table id)) (children_of table ids) p.1 r.1))
    | inr t ↦
        (let r = child-among ids x c p t e in
        (Contains-append_right (sides (pairs_at table id)) (children_of table ids) p.0 r.0, Contains-append_right (sides (pairs_at table id)) (children_of table ids) p.1 r.1))
  ]

  -- the children of a node of a level are in the next
  level-child : (shape level : List ℕ) (k x c : ℕ) (p : ℕ × ℕ) → k < length shape → Contains (row_at (levels_from table shape level) k) x → slice_get (pairs_at table x) c ≡ Some p
      → Contains (row_at (levels_from table shape level) (suc k)) p.0 × Contains (row_at (levels_from table shape level) (suc k)) p.1
  level-child [] level k x c p less h e = absurd (omega arith)
  level-child (n ∷ shape) level zero x c p less h e =
      let next = next_level table level in
      let r = child-among level x c p h e in
      let same = first-level table shape next in (
        subst (λ (l : List ℕ). Contains l p.0) (sym same) (all-there [] (children_of table level) p.0 (inr r.0)),
        subst (λ (l : List ℕ). Contains l p.1) (sym same) (all-there [] (children_of table level) p.1 (inr r.1)),
      )
  level-child (n ∷ shape) level (suc k) x c p less h e = level-child shape (next_level table level) k x c p (omega arith) h e

  module _ (left : Lsta) (goals : List Lsta) where
    left-child : (k x c : ℕ) (p : ℕ × ℕ) → k < length left.shape.items → Contains (left_level table left goals k) x → slice_get (pairs_at table x) c ≡ Some p
        → Contains (left_level table left goals (k + 1)) p.0 × Contains (left_level table left goals (k + 1)) p.1
    left-child k x c p less h e =
        let next : suc k ≡ k + 1 = omega arith in
        subst (λ j. Contains (left_level table left goals j) p.0 × Contains (left_level table left goals j) p.1) next (level-child left.shape.items (left.root ∷ []) k x c p less h e)

    goal-child : (g k x c : ℕ) (p : ℕ × ℕ) → k < length left.shape.items → length (goal_rest goals k g) ≡ length (drop k left.shape.items) → Contains (goal_level table left goals g k) x
        → slice_get (pairs_at table x) c ≡ Some p → Contains (goal_level table left goals g (k + 1)) p.0 × Contains (goal_level table left goals g (k + 1)) p.1
    goal-child g k x c p less deep h e = by (slice_get goals g) deep h
      where
        next : suc k ≡ k + 1
        next = omega arith

        by : (o : Option Lsta) → length (rest_of o k) ≡ length (drop k left.shape.items) → Contains (row_at (levels_in table o) k) x
            → Contains (row_at (levels_in table o) (k + 1)) p.0 × Contains (row_at (levels_in table o) (k + 1)) p.1
        by None d there = absurd (of-none x there)
        by (Some goal) d there =
            let within : k < length goal.shape.items = omega (arith, less, d, length-drop k goal.shape.items, length-drop k left.shape.items) in
            subst (λ j. Contains (row_at (levels_in table (Some goal)) j) p.0 × Contains (row_at (levels_in table (Some goal)) j) p.1) next
            (level-child goal.shape.items (goal.root ∷ []) k x c p within there e)

    -- the macro under a choice stands in the next levels
    pub step-stands : (k c : ℕ) (m to : Macro) → k < length left.shape.items → IsOfLevel table (drop k left.shape.items) (goal_rest goals k) m → StandsAt table left goals k m
        → IsBack table c m to → StandsAt table left goals (k + 1) to
    step-stands k c m to less h s back = record {
      domain = λ y listed.
          let f = back.domain y listed in
          either (Contains (left_level table left goals (k + 1))) y f.pair.0 f.pair.1 f.is (left-child k f.parent c f.pair less (s.domain f.parent f.listed) f.here);
      there = λ j t here.
          let f = back.sources j t here in
          subst (λ g. g < length goals) (sym f.is.same_goal) (s.there f.number f.rel f.here);
      pairs = λ j t p here listed.
          let f = back.sources j t here in
          let q = f.is.only p listed in
          let places = s.pairs f.number f.rel q.parent f.here q.listed in
          let rights = goal-child f.rel.goal k q.parent.1 f.choice q.right less (h.deep f.number f.rel f.here) places.1 q.right_here in (
            either (Contains (left_level table left goals (k + 1))) p.0 q.left.0 q.left.1 (firsts p q.left q.right q.is) (left-child k q.parent.0 c q.left less places.0 q.left_here),
            subst (λ g. Contains (goal_level table left goals g (k + 1)) p.1) (sym f.is.same_goal)
                (either (Contains (goal_level table left goals f.rel.goal (k + 1))) p.1 q.right.0 q.right.1 (seconds p q.left q.right q.is) rights),
          );
    }

    -- one macro more
    pub stand-push : (k i : ℕ) (m : Macro) (old new : List (List Macro)) → AllStand table left goals old → StandsAt table left goals k m → IsPushed k m i old new → AllStand table left goals new
    stand-push k i m old new all s p = record {
      each = λ l j n here. elim (p.only l j n here) [
        | inl before ↦ all.each l j n before
        | inr now ↦ subst (λ z. StandsAt table left goals z n) (sym now.0) (subst (StandsAt table left goals k) (sym now.2) s)
      ];
    }
