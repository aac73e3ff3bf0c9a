-- A gate that leaves the left half below its target, and turns the right half alone.
use Rattle.std.proofs.Common.{◌≡◌, ℕ, zero, suc, ◌<◌, inl, inr, Bool, true, false, ◌&&◌, List, [], ◌∷◌, length, drop, get_or, refl, sym, ap₂, subst, ◌∙◌, arith}
use Rattle.std.proofs.lemmas.Bool.{eqb-true}
use Rattle.std.proofs.lemmas.Option.{slice_get_within}
use Rattle.aq_ring.specs.Fractions.{Amplitude}
use Rattle.aq_ring.specs.Amplitudes.{amplitude_zero}
use Rattle.aq_ring.proofs.CodeLemmas.{sum_onto_zero}
use Rattle.aq_label.specs.Parts.{FitsSums}
use Rattle.aq_prog.specs.Gates.{entry_at}
use Rattle.aq_prog.specs.declared.gate.Entry.{Entry}
use Rattle.aq_prog.specs.declared.gate.Entry.TheVariants as entry
use Rattle.aq_prog.specs.declared.gate.Gate.{Gate}
use Rattle.aq_store.specs.declared.node.Node.{Node}
use Rattle.aq_store.specs.Nodes.{HasShape, Extends, tree}
use Rattle.aq_store.proofs.ShapeLemmas.{same_length, tree-Extends-shape}
use Rattle.aq_store.proofs.TableLemmas.{HasShape-Extends, slice_get-some}
use Rattle.aq_gate_ops.specs.Action.{AreRows, IsMixed, IsRow, IsTermOf}
use Rattle.aq_gate_ops.specs.Causes.{IsWideMix, IsWideRow, RowsCause}
use Rattle.aq_gate_ops.specs.Turns.{is_one, is_zero, only_turns, key_of}
use Rattle.aq_gate_ops.proofs.ExchangeLemmas.{mixed_left, some_is}

both : (a b : Bool) → (a && b) ≡ true → (a ≡ true) × (b ≡ true)
both true b e = (refl, e)
both false b e = cc

one_is : (e : Entry) → is_one e ≡ true → e ≡ entry.Unit 0 0
one_is entry.Zero h = cc
one_is (entry.Unit j e) h = let b = both _ _ h in ap₂ entry.Unit (eqb-true j 0 b.0) (eqb-true e 0 b.1)

zero_is : (e : Entry) → is_zero e ≡ true → e ≡ entry.Zero
zero_is entry.Zero h = refl
zero_is (entry.Unit j e) h = cc

record IsTurn (gate : Gate) : Type 0 where
  top_left : entry_at gate.matrix.rows 0 0 ≡ entry.Unit 0 0
  top_right : entry_at gate.matrix.rows 0 1 ≡ entry.Zero
  bottom_left : entry_at gate.matrix.rows 1 0 ≡ entry.Zero

turn_is : (gate : Gate) → only_turns gate ≡ true → IsTurn gate
turn_is gate h =
    let a = both _ _ h in
    let b = both _ _ a.1 in
    record { top_left = one_is (entry_at gate.matrix.rows 0 0) a.0; top_right = zero_is (entry_at gate.matrix.rows 0 1) b.0; bottom_left = zero_is (entry_at gate.matrix.rows 1 0) b.1 }

-- sums with lists of zeros fit
fits_zeros : (u v : List Amplitude) → ((k : ℕ) → k < length v → get_or v k amplitude_zero ≡ amplitude_zero) → FitsSums u v
fits_zeros [] v all = tt
fits_zeros (p ∷ u) [] all = tt
fits_zeros (p ∷ u) (q ∷ v) all = ((sum_onto_zero p q (all 0 (omega arith))).0, fits_zeros u v (λ k lt. all (suc k) (omega arith)))

module _ {L : Type 0} (parts : L → List Amplitude) (count : ℕ) where
  -- a row whose first entry is zero has the same of every first label
  mixed_any : (first second : Entry) → first ≡ entry.Zero → (p o q y : L) → IsMixed parts count first second p q y → IsMixed parts count first second o q y
  mixed_any first second z p o q y h =
      let g = subst (λ e. IsMixed parts count e second p q y) z h in
      subst (λ e. IsMixed parts count e second o q y) (sym z) (record { left = λ k lt. tt; right = g.right; sums = g.sums; value = g.value })

  wide_any : (first second : Entry) → first ≡ entry.Zero → (p o q l r : L) → IsWideMix parts count first second p q l r → IsWideMix parts count first second o q l r
  wide_any first second z p o q l r h = elim h [
    | inl w ↦ absurd (let none : entry.Zero ≡ entry.Unit w.turn 1 = sym z ∙ w.is in cc)
    | inr (inl w) ↦ inr (inl w)
    | inr (inr w) ↦ inr (inr (record {
      left = subst (λ e. IsTermOf parts count e o l) (sym z) (let t = subst (λ e. IsTermOf parts count e p l) z w.left in record { fits = λ k lt. tt; value = t.value });
      right = w.right;
      unfit = w.unfit;
    }))
  ]

  -- a row that takes the first label as it is always fits
  never_wide : ((x : L) → length (parts x) ≡ count) → (first second : Entry) → first ≡ entry.Unit 0 0 → second ≡ entry.Zero → (p q l r : L) → IsWideMix parts count first second p q l r → ⊥
  never_wide all first second o z p q l r h = elim h [
    | inl w ↦ (let none : entry.Unit 0 0 ≡ entry.Unit w.turn 1 = sym o ∙ w.is in cc)
    | inr (inl w) ↦ (let none : entry.Zero ≡ entry.Unit w.turn 1 = sym z ∙ w.is in cc)
    | inr (inr w) ↦ (let t = subst (λ e. IsTermOf parts count e q r) z w.right in
        let long = all r in
        w.unfit (fits_zeros (parts l) (parts r) (λ k lt. t.value k (omega arith))))
  ]

  module _ (n : ℕ) (gate : Gate) (d : ℕ) (turn : IsTurn gate) where
    row_left : (u w : List L) → length w ≡ length u → IsRow parts count n gate 0 d u w u
    row_left u w same = record {
      left = refl;
      right = same;
      mixed = λ i p q y made on first second.
          subst (IsMixed parts count (entry_at gate.matrix.rows 0 0) (entry_at gate.matrix.rows 0 1) p q) (some_is p y (sym first ∙ made)) (mixed_left parts count (entry_at gate.matrix.rows 0 0) (entry_at gate.matrix.rows 0 1) turn.top_left turn.top_right p q);
      kept = λ i lt off. refl;
    }

    row_right : (u w z : List L) → length w ≡ length u → IsRow parts count n gate 1 d w w z → IsRow parts count n gate 1 d u w z
    row_right u w z same h = record {
      left = sym same ∙ h.right;
      right = h.right;
      mixed = λ i p q y made on first second. mixed_any (entry_at gate.matrix.rows 1 0) (entry_at gate.matrix.rows 1 1) turn.bottom_left q p q y (h.mixed i q q y made on second second);
      kept = h.kept;
    }

  -- both rows on two sides, from those of the right one with itself
  pub rows_turned : (gate : Gate) (shape : List ℕ) (d : ℕ) → only_turns gate ≡ true → (old new : List (Node L)) → Extends old new → (l r : ℕ) (q : ℕ × ℕ) → HasShape old (drop d shape) l → HasShape old (drop d shape) r
      → AreRows parts count gate shape d old new (r, r) q → AreRows parts count gate shape d old new (l, r) (l, q.1)
  rows_turned gate shape d is old new x l r q left right h = record {
    first = record {
      shaped = HasShape-Extends old new x (drop d shape) l left;
      words = λ word. subst (IsRow parts count (length shape) gate 0 d (tree old word l) (tree old word r)) (sym (tree-Extends-shape old new x (drop d shape) l left word))
          (row_left (length shape) gate d (turn_is gate is) (tree old word l) (tree old word r) (same_length old (drop d shape) r l right left word));
    };
    second = record {
      shaped = h.second.shaped;
      words = λ word. row_right (length shape) gate d (turn_is gate is) (tree old word l) (tree old word r) (tree new word q.1) (same_length old (drop d shape) r l right left word) (h.second.words word);
    };
  }

  -- and why they don't fit
  pub cause_turned : ((x : L) → length (parts x) ≡ count) → (gate : Gate) (shape : List ℕ) (d : ℕ) → only_turns gate ≡ true → (table : List (Node L)) (i j : ℕ) → HasShape table (drop d shape) i → HasShape table (drop d shape) j → (l r : L)
      → RowsCause parts count gate shape d table (j, j) l r → RowsCause parts count gate shape d table (i, j) l r
  cause_turned all gate shape d is table i j left right l r h = by h.row h.within h.wide
    where
      turn : IsTurn gate
      turn = turn_is gate is

      by : (b : ℕ) → b < 2 → IsWideRow parts count (length shape) gate b d (tree table h.word j) (tree table h.word j) l r → RowsCause parts count gate shape d table (i, j) l r
      by zero two w = absurd (never_wide all (entry_at gate.matrix.rows 0 0) (entry_at gate.matrix.rows 0 1) turn.top_left turn.top_right w.first w.second l r w.unfit)
      by (suc zero) two w =
          let within = slice_get_within (tree table h.word j) w.index w.second w.right in
          let same = same_length table (drop d shape) j i right left h.word in
          let other = slice_get-some (tree table h.word i) w.index (omega arith) in
          record {
            row = 1;
            within = two;
            word = h.word;
            wide = record {
              index = w.index;
              on = w.on;
              first = other.0;
              second = w.second;
              left = other.1;
              right = w.right;
              unfit = wide_any (entry_at gate.matrix.rows 1 0) (entry_at gate.matrix.rows 1 1) turn.bottom_left w.first other.0 w.second l r w.unfit;
            };
          }
      by (suc (suc b)) two w = absurd (omega arith)

-- the key of a pair has its sides
pub key_sides : (P : ℕ → Type 0) (b : Bool) (p : ℕ × ℕ) → P p.0 → P p.1 → P (key_of b p).0 × P (key_of b p).1
key_sides P true p left right = (right, right)
key_sides P false p left right = (left, right)
