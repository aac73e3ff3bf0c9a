-- Automata that hang below the leaves of a tree.
use Rattle.std.proofs.Common.{◌≡◌, ℕ, ◌<◌, ◌≤◌, Bool, true, false, cond, nat_eq, List, [], ◌∷◌, ◌++◌, length, take, drop, slice_get, Option, None, Some, refl, sym, ap, ap₂, subst, ◌∙◌, arith}
use Rattle.std.proofs.lemmas.Bool.{eqb-true}
use Rattle.std.specs.List.{Contains}
use Rattle.std.proofs.lemmas.List.Elements.{Contains-append_left, Contains-append_right}
use Rattle.std.proofs.lemmas.List.Concat.{flat_map-append}
use Rattle.std.specs.Prelude.{map}
use Rattle.aq_ring.specs.Fractions.{Amplitude}
use Rattle.aq_store.specs.declared.node.Node.TheVariants.{Inner}
use Rattle.aq_store.specs.declared.lsta.Lsta.{Lsta}
use Rattle.aq_store.specs.Runs.{copies, compress, run_of}
use Rattle.aq_store.specs.Nodes.{HasShape, FitsStore, IsLeaf, Extends, tree, labels_at, pairs_at, runs_at, vector_of}
use Rattle.aq_store.specs.Means.{under, Means, MeansPair, MeanPairs, of_place}
use Rattle.aq_store.specs.Memos.{Puts}
use Rattle.aq_store.proofs.TableLemmas.{HasShape-Extends}
use Rattle.aq_store.proofs.ShapeLemmas.{one_shape, tree-Extends-shape}
use Rattle.aq_store.proofs.RunLemmas.{before, run_choice, before-end}
use Rattle.aq_store.proofs.MeansLemmas.{Means-Extends, Means-same, MeansPair-Extends, MeansPair-same, MeanPairs-copies, pairs_at-kept, opened, tree-choice, tree-short, tree-beyond, means_node}
use Rattle.aq_sets.specs.Vectors.{Vector, pairs}
use Rattle.aq_set_build.specs.Products.{IsScaled, IsTensorOf, IsWideAmong}
use Rattle.aq_set_build.specs.Tensors.{Table, IsScaleCause, IsHung, IsHangMemo, IsHangCause}
use Rattle.aq_set_build.proofs.ProductLemmas.{tensor_none, tensor_one, tensor_both, contains_one, contains_pair}
use Rattle.aq_set_build.proofs.ScaleLemmas.{leaf_tree, leaf_label}

same_parts : (u w x y v : Vector) → u ≡ w → x ≡ y → IsTensorOf u x v → IsTensorOf w y v
same_parts u w x y v a b h = subst (λ z. IsTensorOf w z v) b (subst (λ z. IsTensorOf z x v) a h)

module _ (below : Lsta) where
  -- ---- leaves
  pub hung_leaf : (old new : Table) (id j : ℕ) (a : Amplitude) → IsLeaf old id → labels_at old id ≡ a ∷ [] → (shape : List ℕ) → shape ≡ below.shape.items
      → Means (of_place (IsScaled a) old below.root) new shape j → Means (IsHung old below [] id) new below.shape.items j
  hung_leaf old new id j a s e shape is m =
      let at = leaf_label old id a s e in
      Means-same (of_place (IsScaled a) old below.root) (IsHung old below [] id) new below.shape.items j
      (λ word v h. subst (λ u. IsTensorOf u (vector_of old below word) v) (sym (leaf_tree old id a at)) (tensor_one a (vector_of old below word) v h))
      (subst (λ u. Means (of_place (IsScaled a) old below.root) new u j) is m)

  pub hang_leaf_cause : (table : Table) (id : ℕ) (a : Amplitude) → IsLeaf table id → labels_at table id ≡ a ∷ [] → (l r : Amplitude) → IsScaleCause a table below.root l r
      → IsHangCause table below id l r
  hang_leaf_cause table id a s e l r h =
      let at = leaf_label table id a s e in
      let first : Contains (tree table [] id) l = subst (λ u. Contains u l) (sym (leaf_tree table id a at)) (subst (λ x. Contains (a ∷ []) x) (sym h.left) (contains_one a)) in
      record {
        first = [];
        second = h.word;
        among = record { member = contains_pair (tree table [] id) (vector_of table below h.word) l r first h.member; wide = h.wide };
      }

  -- ---- pairs
  -- what the two places of a pair come to
  abbrev HungPair : Table → List ℕ → ℕ × ℕ → List ℕ → Vector → Type 0
  HungPair table s p word v =
      IsTensorOf (tree table (take (length s) word) p.0 ++ tree table (take (length s) word) p.1) (vector_of table below (drop (length s) word)) v

  pub hung_kept : (old new : Table) → Extends old new → (s : List ℕ) (i : ℕ) → HasShape old s i → FitsStore old below → (word : List ℕ) (v : Vector) → IsHung old below s i word v → IsHung new below s i word v
  hung_kept old new x s i h f word v =
      same_parts _ _ _ _ v (sym (tree-Extends-shape old new x s i h (take (length s) word))) (sym (tree-Extends-shape old new x below.shape.items below.root f (drop (length s) word)))

  pub hang_pair : (old mid new : Table) → Extends old mid → Extends mid new → (s : List ℕ) (l r p q : ℕ) → HasShape old s r → FitsStore old below
      → Means (IsHung old below s l) mid (s ++ below.shape.items) p → Means (IsHung mid below s r) new (s ++ below.shape.items) q
      → MeansPair (HungPair old s (l, r)) new (s ++ below.shape.items) (p, q)
  hang_pair old mid new x y s l r p q right f m n =
      let first = Means-Extends (IsHung old below s l) mid new y (s ++ below.shape.items) p m in
      record {
        left = first.shaped;
        right = n.shaped;
        words = λ word.
            tensor_both (tree old (take (length s) word) l) (tree old (take (length s) word) r) (vector_of old below (drop (length s) word)) (tree new word p) (tree new word q) (first.words word)
            (same_parts _ _ _ _ (tree new word q) (tree-Extends-shape old mid x s r right (take (length s) word)) (tree-Extends-shape old mid x below.shape.items below.root f (drop (length s) word)) (n.words word));
      }

  -- one more run is done
  pub hang_step : (start old new : Table) → Extends start old → Extends old new → (above s : List ℕ) (m id index count : ℕ) (qs all : List (ℕ × ℕ)) (p q : ℕ × ℕ)
      → above ≡ m ∷ s → HasShape start above id → FitsStore start below
      → slice_get (runs_at old id) index ≡ Some (run_of p count) → length qs ≡ before (runs_at start id) index → MeanPairs (IsHung start below above id) old (s ++ below.shape.items) qs
      → MeansPair (HungPair old s p) new (s ++ below.shape.items) q → all ≡ qs ++ copies count q
      → MeanPairs (IsHung start below above id) new (s ++ below.shape.items) all
  hang_step start old new x y above s m id index count qs all p q split h f run long done image is =
      let o = opened start m s id (subst (λ u. HasShape start u id) split h) in
      let kept = pairs_at-kept start old x above id h in
      let here : slice_get (runs_at start id) index ≡ Some (run_of p count) = ap (λ ps. slice_get (compress ps) index) (sym kept) ∙ run in
      subst (λ u. MeanPairs (IsHung start below u id) new (s ++ below.shape.items) all) (sym split)
      (MeanPairs-copies (IsHung start below (m ∷ s) id) old new y (s ++ below.shape.items) qs all count q is
      (subst (λ u. MeanPairs (IsHung start below u id) old (s ++ below.shape.items) qs) split done)
      (λ c le lt.
      let at = run_choice (pairs_at start id) index count c p here (omega arith) (omega arith) in
      MeansPair-same (HungPair old s p) (under (IsHung start below (m ∷ s) id) c) new (s ++ below.shape.items) q
      (λ word v g.
      same_parts _ _ _ _ v
      (ap₂ (λ a b. a ++ b) (tree-Extends-shape start old x s p.0 (o.3.left c p at) (take (length s) word)) (tree-Extends-shape start old x s p.1 (o.3.right c p at) (take (length s) word))
      ∙ sym (tree-choice start id c (take (length s) word) p at))
      (tree-Extends-shape start old x below.shape.items below.root f (drop (length s) word)) g) image))

  -- all runs are done, and the node is made
  pub hang_done : (start last new : Table) → Extends start last → Extends last new → (above s : List ℕ) (m id j index : ℕ) (qs : List (ℕ × ℕ)) → above ≡ m ∷ s → HasShape start above id
      → length qs ≡ before (runs_at start id) index → length (runs_at start id) ≤ index → MeanPairs (IsHung start below above id) last (s ++ below.shape.items) qs
      → slice_get new j ≡ Some (Inner qs) → Means (IsHung start below above id) new (above ++ below.shape.items) j
  hang_done start last new x y above s m id j index qs split h long all done made =
      let t = subst (λ u. HasShape start u id) split h in
      let o = opened start m s id t in
      let each = subst (λ u. MeanPairs (IsHung start below u id) last (s ++ below.shape.items) qs) split done in
      subst (λ u. Means (IsHung start below u id) new (u ++ below.shape.items) j) (sym split)
      (means_node (IsHung start below (m ∷ s) id) new (s ++ below.shape.items) m j qs made (long ∙ before-end (pairs_at start id) index all ∙ o.1) o.2
      (record { each = λ c q at. MeansPair-Extends (under (IsHung start below (m ∷ s) id) c) last new y (s ++ below.shape.items) q (each.each c q at) })
      (same_parts _ _ _ _ [] (sym (tree-short start m s id t)) refl (tensor_none (vector_of start below [])))
      (λ c word le. same_parts _ _ _ _ [] (sym (tree-beyond start m s id c (take (length s) word) t le)) refl (tensor_none (vector_of start below (drop (length s) word)))))

  -- ---- causes
  hang_cause_kept : (old new : Table) → Extends old new → (shape : List ℕ) (id : ℕ) → HasShape old shape id → FitsStore old below → (l r : Amplitude) → IsHangCause new below id l r → IsHangCause old below id l r
  hang_cause_kept old new x shape id s f l r h = record {
    first = h.first;
    second = h.second;
    among = subst (λ u. IsWideAmong (pairs u (vector_of old below h.second)) l r) (tree-Extends-shape old new x shape id s h.first)
        (subst (λ u. IsWideAmong (pairs (tree new h.first id) u) l r) (tree-Extends-shape old new x below.shape.items below.root f h.second) h.among);
  }

  wide_left : (u w x : Vector) (l r : Amplitude) → IsWideAmong (pairs u x) l r → IsWideAmong (pairs (u ++ w) x) l r
  wide_left u w x l r h = record {
    member = subst (λ z. Contains z (l, r)) (sym (flat_map-append (λ a. map (λ b. (a, b)) x) u w)) (Contains-append_left (pairs u x) (pairs w x) (l, r) h.member);
    wide = h.wide;
  }

  wide_right : (u w x : Vector) (l r : Amplitude) → IsWideAmong (pairs w x) l r → IsWideAmong (pairs (u ++ w) x) l r
  wide_right u w x l r h = record {
    member = subst (λ z. Contains z (l, r)) (sym (flat_map-append (λ a. map (λ b. (a, b)) x) u w)) (Contains-append_right (pairs u x) (pairs w x) (l, r) h.member);
    wide = h.wide;
  }

  pub hang_cause_left : (start old : Table) → Extends start old → (above : List ℕ) (id index count : ℕ) (p : ℕ × ℕ) → HasShape start above id → FitsStore start below
      → slice_get (runs_at old id) index ≡ Some (run_of p count) → 0 < count → (l r : Amplitude) → IsHangCause old below p.0 l r → IsHangCause start below id l r
  hang_cause_left start old x above id index count p s f run some l r h =
      let c = before (runs_at old id) index in
      let at = run_choice (pairs_at old id) index count c p run (omega arith) (omega arith) in
      hang_cause_kept start old x above id s f l r (record {
        first = c ∷ h.first;
        second = h.second;
        among = subst (λ u. IsWideAmong (pairs u (vector_of old below h.second)) l r) (sym (tree-choice old id c h.first p at)) (wide_left (tree old h.first p.0) (tree old h.first p.1) (vector_of old below h.second) l r h.among);
      })

  pub hang_cause_right : (start old mid : Table) → Extends start old → Extends old mid → (above s : List ℕ) (id index count : ℕ) (p : ℕ × ℕ) → HasShape start above id → HasShape old s p.1
      → FitsStore start below → FitsStore old below
      → slice_get (runs_at old id) index ≡ Some (run_of p count) → 0 < count → (l r : Amplitude) → IsHangCause mid below p.1 l r → IsHangCause start below id l r
  hang_cause_right start old mid x y above s id index count p h right f e run some l r g =
      let k = hang_cause_kept old mid y s p.1 right e l r g in
      let c = before (runs_at old id) index in
      let at = run_choice (pairs_at old id) index count c p run (omega arith) (omega arith) in
      hang_cause_kept start old x above id h f l r (record {
        first = c ∷ k.first;
        second = k.second;
        among = subst (λ u. IsWideAmong (pairs u (vector_of old below k.second)) l r) (sym (tree-choice old id c k.first p at)) (wide_right (tree old k.first p.0) (tree old k.first p.1) (vector_of old below k.second) l r k.among);
      })

  -- ---- the memo
  pub hang_memo-Extends : (old new : Table) → Extends old new → FitsStore old below → (at : ℕ → Option ℕ) → IsHangMemo old below at → IsHangMemo new below at
  hang_memo-Extends old new x f at m = record {
    each = λ i j e.
        (let s = m.each i j e in (
          s.0,
          HasShape-Extends old new x s.0 i s.1,
          Means-same (IsHung old below s.0 i) (IsHung new below s.0 i) new (s.0 ++ below.shape.items) j (hung_kept old new x s.0 i s.1 f)
              (Means-Extends (IsHung old below s.0 i) old new x (s.0 ++ below.shape.items) j s.2),
        ));
  }

  pub hang_memo_found : (table : Table) (at : ℕ → Option ℕ) (shape : List ℕ) (i j : ℕ) → IsHangMemo table below at → HasShape table shape i → at i ≡ Some j
      → Means (IsHung table below shape i) table (shape ++ below.shape.items) j
  hang_memo_found table at shape i j m s e = let r = m.each i j e in subst (λ u. Means (IsHung table below u i) table (u ++ below.shape.items) j) (one_shape table _ _ i r.1 s) r.2

  pub hang_memo-put : (old table : Table) → Extends old table → FitsStore old below → (at new : ℕ → Option ℕ) (shape : List ℕ) (i j : ℕ) → HasShape old shape i → IsHangMemo table below at
      → Means (IsHung old below shape i) table (shape ++ below.shape.items) j → Puts at new i j → IsHangMemo table below new
  hang_memo-put old table x f at new shape i j s m image is = record { each = λ k l e. by k l (nat_eq i k) refl (sym (is k) ∙ e) }
    where
      here : Means (IsHung table below shape i) table (shape ++ below.shape.items) j
      here = Means-same (IsHung old below shape i) (IsHung table below shape i) table (shape ++ below.shape.items) j (hung_kept old table x shape i s f) image

      by : (k l : ℕ) (v : Bool) → nat_eq i k ≡ v → cond (nat_eq i k) (Some j) (at k) ≡ Some l → (t : List ℕ) × HasShape table t k × Means (IsHung table below t k) table (t ++ below.shape.items) l
      by k l true e g =
          let same : i ≡ k = eqb-true i k e in
          let value : Some j ≡ Some l = ap (λ c. cond c (Some j) (at k)) (sym e) ∙ g in
          let made : j ≡ l = cc in (
            shape,
            subst (HasShape table shape) same (HasShape-Extends old table x shape i s),
            subst (λ y. Means (IsHung table below shape k) table (shape ++ below.shape.items) y) made
                (subst (λ y. Means (IsHung table below shape y) table (shape ++ below.shape.items) j) same here),
          )
      by k l false e g = m.each k l (ap (λ c. cond c (Some j) (at k)) (sym e) ∙ g)

  pub hang_memo-none : (table : Table) (at : ℕ → Option ℕ) → ((q : ℕ) → at q ≡ None) → IsHangMemo table below at
  hang_memo-none table at none = record { each = λ i j e. absurd (never (sym (none i) ∙ e)) }
    where
      never : {j : ℕ} → None ≡ Some j → ⊥
      never e = cc

  -- ---- below the last level
  pub hung_last : (old new : Table) (shape : List ℕ) (id j : ℕ) → shape ≡ [] → Means (IsHung old below [] id) new below.shape.items j → Means (IsHung old below shape id) new (shape ++ below.shape.items) j
  hung_last old new shape id j e m = subst (λ u. Means (IsHung old below u id) new (u ++ below.shape.items) j) (sym e) m
