-- Where a number doesn't fit: from the leaves up to the whole vector.
use Rattle.std.proofs.Common.{◌≡◌, ℕ, zero, suc, ◌+◌, ◌-◌, ◌^◌, ◌<◌, ◌⊎◌, inl, inr, false, nat_eq, List, [], ◌∷◌, ◌++◌, length, drop, slice_get, Some, refl, sym, ap, subst, ◌∙◌, arith}
use Rattle.std.proofs.lemmas.Option.{slice_get_within}
use Rattle.std.specs.List.{list_any, All}
use Rattle.aq_ring.specs.Fractions.{Amplitude}
use Rattle.aq_prog.specs.Digits.{weight, digit, with_digit}
use Rattle.aq_prog.specs.Gates.{entry_at, IsEntry, IsValidGate}
use Rattle.aq_prog.specs.declared.gate.Entry.{Entry}
use Rattle.aq_prog.specs.declared.gate.Entry.TheVariants as entry
use Rattle.aq_prog.specs.declared.gate.Gate.{Gate}
use Rattle.aq_prog.proofs.DigitLaws.{with_digit-own, digit-below}
use Rattle.aq_prog.proofs.BlockLaws.{digit-block, digit-low, digit-high}
use Rattle.aq_label.specs.Parts.{turns, FitsQuotients}
use Rattle.aq_store.specs.declared.node.Node.{Node}
use Rattle.aq_store.specs.declared.lsta.Lsta.{Lsta}
use Rattle.aq_store.specs.declared.store.Stop.{Stop}
use Rattle.aq_store.specs.declared.store.Stop.TheVariants.{Spent, Wide, WideParts, Memory}
use Rattle.aq_store.specs.Nodes.{HasShape, Extends, tree, labels_at, pairs_at}
use Rattle.aq_store.proofs.MeansLemmas.{tree-choice}
use Rattle.aq_store.proofs.RunLemmas.{slice_get-append_left, slice_get-append_right}
use Rattle.aq_store.proofs.ShapeLemmas.{same_length, tree-Extends-shape}
use Rattle.aq_gate_ops.specs.Action.{controlled}
use Rattle.aq_gate_ops.specs.Causes.{IsWide, IsCause, IsWideTerm, IsWideMix, IsWideLeaves, IsWideRow, IsWideActed, PlaceCause, PairCause, RowsCause, RowPairsCause, IsGateCause}
use Rattle.aq_gate_ops.proofs.ActionLemmas.{weight-block, skips, on, above_all, from_top, with_digit-right, with_digit-low, with_digit-high}
use Rattle.aq_gate_ops.proofs.GateLemmas.{half, free_target, below_all}

-- an index is within where both indices that differ from it in a digit are
in_block : (n t x m k : ℕ) → m ≡ k → with_digit n t 0 x < m → with_digit n t 1 x < m → x < k
in_block n t x m k e a b = by (digit n t x) refl (digit-below n t x)
  where
    by : (q : ℕ) → digit n t x ≡ q → q < 2 → x < k
    by zero f two = let is : with_digit n t 0 x ≡ x = ap (λ c. with_digit n t c x) (sym f) ∙ with_digit-own n t x in subst (λ y. y < k) is (subst (λ y. with_digit n t 0 x < y) e a)
    by (suc zero) f two = let is : with_digit n t 1 x ≡ x = ap (λ c. with_digit n t c x) (sym f) ∙ with_digit-own n t x in subst (λ y. y < k) is (subst (λ y. with_digit n t 1 x < y) e b)
    by (suc (suc q)) f two = absurd (omega arith)

-- ---- causes
module _ {L : Type 0} where
  pub cause_map : (P Q : L → L → Type 0) → ((l r : L) → P l r → Q l r) → (why : Stop L) → IsCause P why → IsCause Q why
  cause_map P Q f Spent h = tt
  cause_map P Q f (Wide l r) h = f l r h
  cause_map P Q f (WideParts l r) h = h
  cause_map P Q f Memory h = tt

  pub wide_cause : (P Q : L → L → Type 0) → ((l r : L) → P l r → Q l r) → (why : Stop L) → IsWide P why → IsCause Q why
  wide_cause P Q f Spent h = tt
  wide_cause P Q f (Wide l r) h = f l r h
  wide_cause P Q f (WideParts l r) h = h
  wide_cause P Q f Memory h = tt

  pub wide_map : (P Q : L → L → Type 0) → ((l r : L) → P l r → Q l r) → (why : Stop L) → IsWide P why → IsWide Q why
  wide_map P Q f Spent h = h
  wide_map P Q f (Wide l r) h = f l r h
  wide_map P Q f (WideParts l r) h = h
  wide_map P Q f Memory h = h

  pub not_spent : (P : L → L → Type 0) (why : Stop L) → IsWide P why → why ≡ Spent → ⊥
  not_spent P Spent h e = h
  not_spent P (Wide l r) h e = cc
  not_spent P (WideParts l r) h e = h
  not_spent P Memory h e = h

  pub alone_cause : (P : L → L → Type 0) (why : Stop L) → (why ≡ Spent) ⊎ (why ≡ Memory) → IsCause P why
  alone_cause P why h = elim h [ inl e ↦ subst (IsCause P) (sym e) tt | inr e ↦ subst (IsCause P) (sym e) tt ]

module _ {L : Type 0} (parts : L → List Amplitude) (count : ℕ) where
  pub wide_term : (e : Entry) (j r : ℕ) (x t : L) → e ≡ entry.Unit j r → IsEntry e → (r ≡ 0 → ⊥) → parts t ≡ turns j (parts x) → (FitsQuotients (parts t) → ⊥) → IsWideTerm parts count e x t t
  wide_term e j r x t is bounds some turned unfit =
      let b = subst IsEntry is bounds in
      let one : r ≡ 1 = (let c = b.1 in omega arith) in
      record { turn = j; is = is ∙ ap (entry.Unit j) one; turned = turned; unfit = unfit; same = refl }

  module _ (gate : Gate) where
    -- ---- below the target
    leaf_labels : (table : List (Node L)) (i : ℕ) (l : L) → labels_at table i ≡ l ∷ [] → slice_get (tree table [] i) 0 ≡ Some l
    unfolding tree
    leaf_labels table i l e = ap (λ u. slice_get u 0) e

    pub row_cause_leaf : (shape : List ℕ) (d : ℕ) (table : List (Node L)) (i j : ℕ) → d ≡ length shape → All (λ c. c < length shape) gate.controls → (l r : L) → IsWideLeaves parts count gate table i j l r
        → RowsCause parts count gate shape d table (i, j) l r
    row_cause_leaf shape d table i j e all l r w = record {
      row = w.row;
      within = w.within;
      word = [];
      wide = record {
        index = 0;
        on = ap (λ k. controlled (length shape) k gate.controls 0) e ∙ above_all (length shape) gate.controls 0 all;
        first = w.first;
        second = w.second;
        left = leaf_labels table i w.first w.left_at;
        right = leaf_labels table j w.second w.right_at;
        unfit = w.unfit;
      };
    }

    -- the lists are the same
    row_same : (n b d : ℕ) (u v w z : List L) → u ≡ v → w ≡ z → (l r : L) → IsWideRow parts count n gate b d u w l r → IsWideRow parts count n gate b d v z l r
    row_same n b d u v w z e f l r h = record {
      index = h.index;
      on = h.on;
      first = h.first;
      second = h.second;
      left = ap (λ x. slice_get x h.index) (sym e) ∙ h.left;
      right = ap (λ x. slice_get x h.index) (sym f) ∙ h.right;
      unfit = h.unfit;
    }

    pub rows_cause_kept : (shape : List ℕ) (d : ℕ) (old new : List (Node L)) → Extends old new → (below : List ℕ) (p : ℕ × ℕ) → HasShape old below p.0 → HasShape old below p.1 → (l r : L)
        → RowsCause parts count gate shape d new p l r → RowsCause parts count gate shape d old p l r
    rows_cause_kept shape d old new x below p s t l r h = record {
      row = h.row;
      within = h.within;
      word = h.word;
      wide = row_same (length shape) h.row d _ _ _ _ (tree-Extends-shape old new x below p.0 s h.word) (tree-Extends-shape old new x below p.1 t h.word) l r h.wide;
    }

    -- the left halves, at a depth that is no control
    pub row_cause_low : (shape : List ℕ) (d : ℕ) (table : List (Node L)) (p q : ℕ × ℕ) → list_any (nat_eq d) gate.controls ≡ false → (l r : L)
        → RowsCause parts count gate shape (d + 1) table (p.0, q.0) l r → RowPairsCause parts count gate shape d table p q l r
    row_cause_low shape d table p q none l r h = record {
      row = h.row;
      within = h.within;
      word = h.word;
      wide = record {
        index = h.wide.index;
        on = skips (length shape) d gate.controls h.wide.index none ∙ h.wide.on;
        first = h.wide.first;
        second = h.wide.second;
        left = slice_get-append_left (tree table h.word p.0) (tree table h.word p.1) h.wide.index (slice_get_within (tree table h.word p.0) h.wide.index h.wide.first h.wide.left) ∙ h.wide.left;
        right = slice_get-append_left (tree table h.word q.0) (tree table h.word q.1) h.wide.index (slice_get_within (tree table h.word q.0) h.wide.index h.wide.second h.wide.right) ∙ h.wide.right;
        unfit = h.wide.unfit;
      };
    }

    -- the right halves
    pub row_cause_high : (shape : List ℕ) (d : ℕ) (table : List (Node L)) (p q : ℕ × ℕ) → d < length shape → All (λ c. c < length shape) gate.controls
        → HasShape table (drop (d + 1) shape) p.0 → HasShape table (drop (d + 1) shape) p.1 → HasShape table (drop (d + 1) shape) q.0 → HasShape table (drop (d + 1) shape) q.1 → (l r : L)
        → RowsCause parts count gate shape (d + 1) table (p.1, q.1) l r → RowPairsCause parts count gate shape d table p q l r
    row_cause_high shape d table p q lt all p0 p1 q0 q1 l r h =
        let n = length shape in
        let x = h.wide.index in
        let within = slice_get_within (tree table h.word p.1) x h.wide.first h.wide.left in
        let same = same_length table (drop (d + 1) shape) p.1 p.0 p1 p0 h.word in
        let other = same_length table (drop (d + 1) shape) q.0 p.0 q0 p0 h.word in
        let size : length (tree table h.word p.0) ≡ weight n d = elim (half parts count gate table shape d p.0 lt p0 h.word) [ inl e ↦ e | inr e ↦ absurd (omega arith) ] in
        let below : x < weight n d = omega arith in
        record {
          row = h.row;
          within = h.within;
          word = h.word;
          wide = record {
            index = weight n d + x;
            on = on n d gate.controls x all below ∙ h.wide.on;
            first = h.wide.first;
            second = h.wide.second;
            left = slice_get-append_right (tree table h.word p.0) (tree table h.word p.1) (weight n d + x) x (ap (λ m. m + x) (sym size)) ∙ h.wide.left;
            right = slice_get-append_right (tree table h.word q.0) (tree table h.word q.1) (weight n d + x) x (ap (λ m. m + x) (sym (other ∙ size))) ∙ h.wide.right;
            unfit = h.wide.unfit;
          };
        }

    -- under a choice
    pub row_cause_choice : (shape : List ℕ) (d : ℕ) (start old : List (Node L)) → Extends start old → (above below : List ℕ) (p q r : ℕ × ℕ) (c : ℕ) → HasShape start above p.0 → HasShape start above p.1
        → slice_get (pairs_at old p.0) c ≡ Some q → slice_get (pairs_at old p.1) c ≡ Some r → (x y : L)
        → RowPairsCause parts count gate shape d old q r x y → RowsCause parts count gate shape d start p x y
    row_cause_choice shape d start old ext above below p q r c s t e f x y h = rows_cause_kept shape d start old ext above p s t x y (record {
      row = h.row;
      within = h.within;
      word = c ∷ h.word;
      wide = row_same (length shape) h.row d _ _ _ _ (sym (tree-choice old p.0 c h.word q e)) (sym (tree-choice old p.1 c h.word r f)) x y h.wide;
    })

    -- ---- at the target and above
    act_same : (n d : ℕ) (u v : List L) → u ≡ v → (l r : L) → IsWideActed parts count n gate d u l r → IsWideActed parts count n gate d v l r
    act_same n d u v e l r h = record {
      index = h.index;
      on = h.on;
      first = h.first;
      second = h.second;
      left = ap (λ x. slice_get x (with_digit n gate.target 0 h.index)) (sym e) ∙ h.left;
      right = ap (λ x. slice_get x (with_digit n gate.target 1 h.index)) (sym e) ∙ h.right;
      unfit = h.unfit;
    }

    pub act_cause_kept : (shape : List ℕ) (d : ℕ) (old new : List (Node L)) → Extends old new → (below : List ℕ) (i : ℕ) → HasShape old below i → (l r : L)
        → PlaceCause parts count gate shape d new i l r → PlaceCause parts count gate shape d old i l r
    act_cause_kept shape d old new x below i s l r h = record { word = h.word; wide = act_same (length shape) d _ _ (tree-Extends-shape old new x below i s h.word) l r h.wide }

    pub act_cause_choice : (shape : List ℕ) (d : ℕ) (start old : List (Node L)) → Extends start old → (above : List ℕ) (i c : ℕ) (p : ℕ × ℕ) → HasShape start above i → slice_get (pairs_at old i) c ≡ Some p → (l r : L)
        → PairCause parts count gate shape d old p l r → PlaceCause parts count gate shape d start i l r
    act_cause_choice shape d start old ext above i c p s e l r h = act_cause_kept shape d start old ext above i s l r (record {
      word = c ∷ h.word;
      wide = act_same (length shape) d _ _ (sym (tree-choice old i c h.word p e)) l r h.wide;
    })

    -- the rows at the target
    pub act_cause_target : (shape : List ℕ) (d : ℕ) (table : List (Node L)) (p : ℕ × ℕ) → d ≡ gate.target → IsValidGate (length shape) gate
        → HasShape table (drop (d + 1) shape) p.0 → HasShape table (drop (d + 1) shape) p.1 → (l r : L)
        → RowsCause parts count gate shape (d + 1) table p l r → PairCause parts count gate shape d table p l r
    act_cause_target shape d table p is valid p0 p1 l r h = record { word = h.word; wide = by h.row h.within h.wide }
      where
        n : ℕ
        n = length shape

        u : List L
        u = tree table h.word p.0

        w : List L
        w = tree table h.word p.1

        lt : d < length shape
        lt = let v = valid.target in omega arith

        free : list_any (nat_eq d) gate.controls ≡ false
        free = subst (λ k. list_any (nat_eq k) gate.controls ≡ false) (sym is) (free_target (length shape) gate.target gate.controls valid.controls)

        size : (x : ℕ) (y : L) → slice_get (tree table h.word p.0) x ≡ Some y → length (tree table h.word p.0) ≡ weight (length shape) gate.target
        size x y e =
            let within = slice_get_within (tree table h.word p.0) x y e in
            elim (half parts count gate table shape d p.0 lt p0 h.word) [ inl f ↦ f ∙ ap (weight (length shape)) is | inr f ↦ absurd (omega arith) ]

        by : (b : ℕ) → b < 2 → IsWideRow parts count (length shape) gate b (d + 1) (tree table h.word p.0) (tree table h.word p.1) l r
            → IsWideActed parts count (length shape) gate d (tree table h.word p.0 ++ tree table h.word p.1) l r
        by zero two g =
            let e = size g.index g.first g.left in
            let within = slice_get_within (tree table h.word p.0) g.index g.first g.left in
            let below : g.index < weight (length shape) gate.target = omega arith in
            let places = with_digit-low (length shape) gate.target g.index below in
            record {
              index = g.index;
              on = skips (length shape) d gate.controls g.index free ∙ g.on;
              first = g.first;
              second = g.second;
              left = slice_get-append_left (tree table h.word p.0) (tree table h.word p.1) (with_digit (length shape) gate.target 0 g.index) (subst (λ k. k < length (tree table h.word p.0)) (sym places.0) within)
                  ∙ ap (slice_get (tree table h.word p.0)) places.0 ∙ g.left;
              right = slice_get-append_right (tree table h.word p.0) (tree table h.word p.1) (with_digit (length shape) gate.target 1 g.index) g.index (places.1 ∙ ap (λ m. m + g.index) (sym e)) ∙ g.right;
              unfit = subst (λ b. IsWideMix parts count (entry_at gate.matrix.rows b 0) (entry_at gate.matrix.rows b 1) g.first g.second l r) (sym (digit-low (length shape) gate.target g.index below)) g.unfit;
            }
        by (suc zero) two g =
            let e = size g.index g.first g.left in
            let within = slice_get_within (tree table h.word p.0) g.index g.first g.left in
            let below : g.index < weight (length shape) gate.target = omega arith in
            let own : g.index < weight (length shape) d = subst (λ k. g.index < weight (length shape) k) (sym is) below in
            let places = with_digit-high (length shape) gate.target g.index below in
            record {
              index = weight (length shape) gate.target + g.index;
              on = ap (λ k. controlled (length shape) d gate.controls (weight (length shape) k + g.index)) (sym is) ∙ on (length shape) d gate.controls g.index (below_all (length shape) gate.target gate.controls valid.controls) own ∙ g.on;
              first = g.first;
              second = g.second;
              left = slice_get-append_left (tree table h.word p.0) (tree table h.word p.1) (with_digit (length shape) gate.target 0 (weight (length shape) gate.target + g.index)) (subst (λ k. k < length (tree table h.word p.0)) (sym places.0) within)
                  ∙ ap (slice_get (tree table h.word p.0)) places.0 ∙ g.left;
              right = slice_get-append_right (tree table h.word p.0) (tree table h.word p.1) (with_digit (length shape) gate.target 1 (weight (length shape) gate.target + g.index)) g.index (places.1 ∙ ap (λ m. m + g.index) (sym e)) ∙ g.right;
              unfit = subst (λ b. IsWideMix parts count (entry_at gate.matrix.rows b 0) (entry_at gate.matrix.rows b 1) g.first g.second l r) (sym (digit-high (length shape) gate.target g.index below)) g.unfit;
            }
        by (suc (suc b)) two g = absurd (omega arith)

    -- the left half above the target, at a depth that is no control
    pub act_cause_low : (shape : List ℕ) (d : ℕ) (table : List (Node L)) (p : ℕ × ℕ) → d < gate.target → IsValidGate (length shape) gate → list_any (nat_eq d) gate.controls ≡ false
        → HasShape table (drop (d + 1) shape) p.0 → (l r : L) → PlaceCause parts count gate shape (d + 1) table p.0 l r → PairCause parts count gate shape d table p l r
    act_cause_low shape d table p above valid none p0 l r h = record {
      word = h.word;
      wide = record {
        index = h.wide.index;
        on = skips (length shape) d gate.controls h.wide.index none ∙ h.wide.on;
        first = h.wide.first;
        second = h.wide.second;
        left = slice_get-append_left (tree table h.word p.0) (tree table h.word p.1) _ (slice_get_within (tree table h.word p.0) _ h.wide.first h.wide.left) ∙ h.wide.left;
        right = slice_get-append_left (tree table h.word p.0) (tree table h.word p.1) _ (slice_get_within (tree table h.word p.0) _ h.wide.second h.wide.right) ∙ h.wide.right;
        unfit = h.wide.unfit;
      };
    }

    -- the right half
    pub act_cause_high : (shape : List ℕ) (d : ℕ) (table : List (Node L)) (p : ℕ × ℕ) → d < gate.target → IsValidGate (length shape) gate
        → HasShape table (drop (d + 1) shape) p.0 → HasShape table (drop (d + 1) shape) p.1 → (l r : L)
        → PlaceCause parts count gate shape (d + 1) table p.1 l r → PairCause parts count gate shape d table p l r
    act_cause_high shape d table p above valid p0 p1 l r h =
        let n = length shape in
        let t = gate.target in
        let x = h.wide.index in
        let a = 2 ^ (t - d - 1) in
        let lt : d < length shape = (let v = valid.target in omega arith) in
        let block = weight-block n d t above valid.target in
        let same = same_length table (drop (d + 1) shape) p.1 p.0 p1 p0 h.word in
        let first_in = slice_get_within (tree table h.word p.1) (with_digit n t 0 x) h.wide.first h.wide.left in
        let size : length (tree table h.word p.0) ≡ weight n d = elim (half parts count gate table shape d p.0 lt p0 h.word) [ inl e ↦ e | inr e ↦ absurd (omega arith) ] in
        let below : x < weight n d = in_block n t x (length (tree table h.word p.1)) (weight n d) (same ∙ size) first_in (slice_get_within (tree table h.word p.1) (with_digit n t 1 x) h.wide.second h.wide.right) in
        record {
          word = h.word;
          wide = record {
            index = weight n d + x;
            on = on n d gate.controls x (below_all n t gate.controls valid.controls) below ∙ h.wide.on;
            first = h.wide.first;
            second = h.wide.second;
            left = slice_get-append_right (tree table h.word p.0) (tree table h.word p.1) (with_digit n t 0 (weight n d + x)) (with_digit n t 0 x) (ap (λ m. with_digit n t 0 (m + x)) block ∙ with_digit-right n t 0 a x ∙ ap (λ m. m + with_digit n t 0 x) (sym (size ∙ block))) ∙ h.wide.left;
            right = slice_get-append_right (tree table h.word p.0) (tree table h.word p.1) (with_digit n t 1 (weight n d + x)) (with_digit n t 1 x) (ap (λ m. with_digit n t 1 (m + x)) block ∙ with_digit-right n t 1 a x ∙ ap (λ m. m + with_digit n t 1 x) (sym (size ∙ block))) ∙ h.wide.right;
            unfit = subst (λ b. IsWideMix parts count (entry_at gate.matrix.rows b 0) (entry_at gate.matrix.rows b 1) h.wide.first h.wide.second l r) (sym (ap (λ m. digit n t (m + x)) block ∙ digit-block n t a x)) h.wide.unfit;
          };
        }

    -- of the whole vector
    pub gate_cause : (table : List (Node L)) (lsta : Lsta) (shape : List ℕ) → shape ≡ lsta.shape.items → (l r : L) → PlaceCause parts count gate shape 0 table lsta.root l r → IsGateCause parts count gate table lsta l r
    gate_cause table lsta shape is l r g =
        let h = subst (λ s. PlaceCause parts count gate s 0 table lsta.root l r) is g in
        record {
          word = h.word;
          index = h.wide.index;
          on = sym (from_top (length lsta.shape.items) gate.controls h.wide.index) ∙ h.wide.on;
          first = h.wide.first;
          second = h.wide.second;
          left = h.wide.left;
          right = h.wide.right;
          unfit = h.wide.unfit;
        }
