-- Trees whose amplitudes are multiplied by a factor.
use Rattle.std.proofs.Common.{◌≡◌, ℕ, ◌<◌, Bool, true, false, cond, nat_eq, List, [], ◌∷◌, slice_get, Option, None, Some, refl, sym, ap, subst, ◌∙◌, arith}
use Rattle.std.proofs.lemmas.Bool.{eqb-true}
use Rattle.std.specs.List.{Contains}
use Rattle.std.proofs.lemmas.List.Elements.{Contains-append_left, Contains-append_right}
use Rattle.aq_ring.specs.Fractions.{Amplitude}
use Rattle.aq_ring.specs.Amplitudes.{product, FitsAmplitudeProduct}
use Rattle.aq_store.specs.declared.node.Node.{Node}
use Rattle.aq_store.specs.declared.node.Node.TheVariants.{Leaf}
use Rattle.aq_store.specs.Nodes.{HasShape, IsLeaf, Extends, tree, joined, labels_of, labels_at, pairs_of, pairs_at, runs_at}
use Rattle.aq_store.specs.Runs.{run_of}
use Rattle.aq_store.proofs.RunLemmas.{before, run_choice}
use Rattle.aq_store.specs.Means.{Means, MeansPair, of_place, of_pair}
use Rattle.aq_store.specs.Memos.{Puts}
use Rattle.aq_store.proofs.TableLemmas.{HasShape-Extends}
use Rattle.aq_store.proofs.ShapeLemmas.{one_shape, tree-Extends-shape}
use Rattle.aq_store.proofs.MeansLemmas.{Means-Extends, Means-same, of_place-Extended, tree-choice}
use Rattle.aq_set_build.specs.Products.{IsScaled}
use Rattle.aq_set_build.specs.Tensors.{Table, IsScaleMemo, IsScaleCause}
use Rattle.aq_set_build.proofs.ProductLemmas.{scaled_none, scaled_one, scaled_both, contains_one}

-- ---- leaves
pub leaf_more : {L : Type 0} (table : List (Node L)) (i c : ℕ) (word : List ℕ) (l : L) → slice_get table i ≡ Some (Leaf l) → tree table (c ∷ word) i ≡ []
unfolding tree
leaf_more table i c word l at = ap (λ o. joined (tree table word) (slice_get (pairs_of o) c)) at

pub leaf_tree : {L : Type 0} (table : List (Node L)) (i : ℕ) (l : L) → slice_get table i ≡ Some (Leaf l) → tree table [] i ≡ l ∷ []
unfolding tree
leaf_tree {L} table i l at = ap (labels_of {L = L}) at

-- the label that was read is the leaf's
pub leaf_label : {L : Type 0} (table : List (Node L)) (i : ℕ) (l : L) → IsLeaf table i → labels_at table i ≡ l ∷ [] → slice_get table i ≡ Some (Leaf l)
leaf_label {L} table i l s e =
    let a : s.label ∷ [] ≡ l ∷ [] = sym (ap (labels_of {L = L}) s.here) ∙ e in
    let b : s.label ≡ l = cc in
    s.here ∙ ap (λ x. Some (Leaf x)) b

-- what F makes of a leaf's label
pub leaf_means : {L : Type 0} (R : List ℕ → List L → Type 0) (table : List (Node L)) (j : ℕ) (l : L) → slice_get table j ≡ Some (Leaf l) → R [] (l ∷ [])
    → ((c : ℕ) (word : List ℕ) → R (c ∷ word) []) → Means R table [] j
unfolding HasShape
leaf_means R table j l at one more = record {
  shaped = record { label = l; here = at };
  words = elim [
    | [] ↦ subst (R []) (sym (leaf_tree table j l at)) one
    | c ∷ word ↦ subst (R (c ∷ word)) (sym (leaf_more table j c word l at)) (more c word)
  ];
}

pub scale_leaf_made : (old new : Table) (id j : ℕ) (a b c : Amplitude) → IsLeaf old id → labels_at old id ≡ b ∷ [] → slice_get new j ≡ Some (Leaf c) → FitsAmplitudeProduct a b → c ≡ product a b
    → Means (of_place (IsScaled a) old id) new [] j
scale_leaf_made old new id j a b c s e made fits is =
    let at = leaf_label old id b s e in
    leaf_means (of_place (IsScaled a) old id) new j c made
    (subst (λ u. IsScaled a u (c ∷ [])) (sym (leaf_tree old id b at)) (scaled_one a b c fits is))
    (λ k word. subst (λ u. IsScaled a u []) (sym (leaf_more old id k word b at)) (scaled_none a))

pub scale_leaf_cause : (table : Table) (id : ℕ) (a b : Amplitude) → IsLeaf table id → labels_at table id ≡ b ∷ [] → (FitsAmplitudeProduct a b → ⊥) → IsScaleCause a table id a b
scale_leaf_cause table id a b s e wide =
    let at = leaf_label table id b s e in
    record { word = []; left = refl; member = subst (λ u. Contains u b) (sym (leaf_tree table id b at)) (contains_one b); wide = wide }

-- ---- pairs
module _ (a : Amplitude) where
  pub scale_pair : (old mid new : Table) → Extends old mid → Extends mid new → (below : List ℕ) (l r p q : ℕ) → HasShape old below r
      → Means (of_place (IsScaled a) old l) mid below p → Means (of_place (IsScaled a) mid r) new below q → MeansPair (of_pair (IsScaled a) old (l, r)) new below (p, q)
  scale_pair old mid new x y below l r p q s m n =
      let first = Means-Extends (of_place (IsScaled a) old l) mid new y below p m in
      record {
        left = first.shaped;
        right = n.shaped;
        words = λ word. scaled_both a (tree old word l) (tree old word r) (tree new word p) (tree new word q) (first.words word)
            (subst (λ u. IsScaled a u (tree new word q)) (tree-Extends-shape old mid x below r s word) (n.words word));
      }

  -- the cause of a child is one of its place
  scale_cause_kept : (old new : Table) → Extends old new → (shape : List ℕ) (id : ℕ) → HasShape old shape id → (l r : Amplitude) → IsScaleCause a new id l r → IsScaleCause a old id l r
  scale_cause_kept old new x shape id s l r h = record {
    word = h.word;
    left = h.left;
    member = subst (λ u. Contains u r) (tree-Extends-shape old new x shape id s h.word) h.member;
    wide = h.wide;
  }

  pub scale_cause_place_left : (start old : Table) → Extends start old → (above : List ℕ) (id index count : ℕ) (p : ℕ × ℕ) → HasShape start above id
      → slice_get (runs_at old id) index ≡ Some (run_of p count) → 0 < count → (l r : Amplitude) → IsScaleCause a old p.0 l r → IsScaleCause a start id l r
  scale_cause_place_left start old x above id index count p s run some l r h =
      let at = run_choice (pairs_at old id) index count (before (runs_at old id) index) p run (omega arith) (omega arith) in
      scale_cause_kept start old x above id s l r (record {
        word = before (runs_at old id) index ∷ h.word;
        left = h.left;
        member = subst (λ u. Contains u r) (sym (tree-choice old id (before (runs_at old id) index) h.word p at)) (Contains-append_left (tree old h.word p.0) (tree old h.word p.1) r h.member);
        wide = h.wide;
      })

  pub scale_cause_place_right : (start old mid : Table) → Extends start old → Extends old mid → (above below : List ℕ) (id index count : ℕ) (p : ℕ × ℕ) → HasShape start above id → HasShape old below p.1
      → slice_get (runs_at old id) index ≡ Some (run_of p count) → 0 < count → (l r : Amplitude) → IsScaleCause a mid p.1 l r → IsScaleCause a start id l r
  scale_cause_place_right start old mid x y above below id index count p s right run some l r g =
      let h = scale_cause_kept old mid y below p.1 right l r g in
      let at = run_choice (pairs_at old id) index count (before (runs_at old id) index) p run (omega arith) (omega arith) in
      scale_cause_kept start old x above id s l r (record {
        word = before (runs_at old id) index ∷ h.word;
        left = h.left;
        member = subst (λ u. Contains u r) (sym (tree-choice old id (before (runs_at old id) index) h.word p at)) (Contains-append_right (tree old h.word p.0) (tree old h.word p.1) r h.member);
        wide = h.wide;
      })

  -- ---- the memo
  pub scale_memo-Extends : (old new : Table) → Extends old new → (at : ℕ → Option ℕ) → IsScaleMemo a old at → IsScaleMemo a new at
  scale_memo-Extends old new x at m = record {
    each = λ i j e.
        (let s = m.each i j e in (
          s.0,
          HasShape-Extends old new x s.0 i s.1,
          Means-same (of_place (IsScaled a) old i) (of_place (IsScaled a) new i) new s.0 j (of_place-Extended (IsScaled a) old new x s.0 i s.1) (Means-Extends (of_place (IsScaled a) old i) old new x s.0 j s.2),
        ));
  }

  pub scale_memo_found : (table : Table) (at : ℕ → Option ℕ) (shape : List ℕ) (i j : ℕ) → IsScaleMemo a table at → HasShape table shape i → at i ≡ Some j
      → Means (of_place (IsScaled a) table i) table shape j
  scale_memo_found table at shape i j m s e = let r = m.each i j e in subst (λ u. Means (of_place (IsScaled a) table i) table u j) (one_shape table _ _ i r.1 s) r.2

  pub scale_memo-put : (old table : Table) → Extends old table → (at new : ℕ → Option ℕ) (shape : List ℕ) (i j : ℕ) → HasShape old shape i → IsScaleMemo a table at
      → Means (of_place (IsScaled a) old i) table shape j → Puts at new i j → IsScaleMemo a table new
  scale_memo-put old table x at new shape i j s m image is = record { each = λ k l e. by k l (nat_eq i k) refl (sym (is k) ∙ e) }
    where
      here : Means (of_place (IsScaled a) table i) table shape j
      here = Means-same (of_place (IsScaled a) old i) (of_place (IsScaled a) table i) table shape j (of_place-Extended (IsScaled a) old table x shape i s) image

      by : (k l : ℕ) (v : Bool) → nat_eq i k ≡ v → cond (nat_eq i k) (Some j) (at k) ≡ Some l → (t : List ℕ) × HasShape table t k × Means (of_place (IsScaled a) table k) table t l
      by k l true e f =
          let same : i ≡ k = eqb-true i k e in
          let value : Some j ≡ Some l = ap (λ c. cond c (Some j) (at k)) (sym e) ∙ f in
          let made : j ≡ l = cc in (
            shape,
            subst (HasShape table shape) same (HasShape-Extends old table x shape i s),
            subst (λ y. Means (of_place (IsScaled a) table k) table shape y) made (subst (λ y. Means (of_place (IsScaled a) table y) table shape j) same here),
          )
      by k l false e f = m.each k l (ap (λ c. cond c (Some j) (at k)) (sym e) ∙ f)

  pub scale_memo-none : (table : Table) (at : ℕ → Option ℕ) → ((q : ℕ) → at q ≡ None) → IsScaleMemo a table at
  scale_memo-none table at none = record { each = λ i j e. absurd (never (sym (none i) ∙ e)) }
    where
      never : {j : ℕ} → None ≡ Some j → ⊥
      never e = cc
