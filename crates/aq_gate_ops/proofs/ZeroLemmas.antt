-- A gate leaves zero vectors as they are, and fits there.
use Rattle.std.proofs.Common.{◌≡◌, ℕ, zero, suc, ◌+◌, ◌<◌, ◌^◌, List, [], ◌∷◌, ◌++◌, length, drop, slice_get, Some, refl, sym, ap, subst, ◌∙◌, lit<}
use Rattle.std.specs.List.{flat_map}
use Rattle.std.proofs.lemmas.List.{take_at, drop_at}
use Rattle.std.proofs.lemmas.List.Elements.{All-take, All-drop}
use Rattle.aq_ring.specs.Fractions.{Amplitude}
use Rattle.aq_ring.specs.Amplitudes.{amplitude_zero, quotient, turn}
use Rattle.aq_ring.specs.Vectors.{IsZeroVector}
use Rattle.aq_ring.proofs.CodeLemmas.{sum_with_zero}
use Rattle.aq_prog.specs.Digits.{digit}
use Rattle.aq_prog.specs.Gates.{divided, term, entry_at, FitsDivided, FitsTerm}
use Rattle.aq_prog.specs.declared.gate.Entry.{Entry}
use Rattle.aq_prog.specs.declared.gate.Entry.TheVariants as entry
use Rattle.aq_prog.specs.declared.gate.Gate.{Gate}
use Rattle.aq_prog.proofs.VectorLaws.{term-zero, zero_at}
use Rattle.aq_store.specs.declared.node.Node.{Node}
use Rattle.aq_store.specs.Kinds.{IsNull}
use Rattle.aq_store.specs.Means.{Means, of_place}
use Rattle.aq_store.specs.Nodes.{HasShape, tree}
use Rattle.aq_store.specs.Parts.{part}
use Rattle.aq_store.proofs.ShapeLemmas.{same_length}
use Rattle.aq_gate_ops.specs.Action.{AreRows, IsActed, IsMixed, IsRow}

-- ---- terms of zero
fits-divided : (j e : ℕ) → FitsDivided e (turn j amplitude_zero)
fits-divided j zero = tt
fits-divided j (suc e) =
    let nothing : divided (suc e) (turn j amplitude_zero) ≡ amplitude_zero = term-zero (entry.Unit j (suc e)) in
    (fits-divided j e, subst (λ (q : Amplitude). q.power < 2 ^ 32) (sym nothing) (lit< tt))

fits-term : (e : Entry) → FitsTerm e amplitude_zero
fits-term entry.Zero = tt
fits-term (entry.Unit j e) = fits-divided j e

module _ {L : Type 0} (parts : L → List Amplitude) (count : ℕ) where
  -- each part of a label is zero
  abbrev IsNothing : L → Type 0
  IsNothing x = (k : ℕ) → part parts k x ≡ amplitude_zero

  -- the labels of a vector that is zero
  nothing_at : (v : List L) → IsZeroVector (flat_map parts v) → (i : ℕ) (x : L) → slice_get v i ≡ Some x → IsNothing x
  nothing_at [] z i x e = cc
  nothing_at (y ∷ v) z zero x e =
      let same : y ≡ x = cc in
      let front : IsZeroVector (parts y) = subst IsZeroVector (take_at (parts y) (flat_map parts v) (length (parts y)) refl) (All-take (λ p. p ≡ amplitude_zero) (length (parts y)) (flat_map parts (y ∷ v)) z) in
      subst IsNothing same (λ k. zero_at (parts y) front k)
  nothing_at (y ∷ v) z (suc i) x e =
      nothing_at v (subst IsZeroVector (drop_at (parts y) (flat_map parts v) (length (parts y)) refl) (All-drop (λ p. p ≡ amplitude_zero) (length (parts y)) (flat_map parts (y ∷ v)) z)) i x e

  -- a row of zeros is zero
  mixed_zero : (first second : Entry) (p q y : L) → IsNothing p → IsNothing q → IsNothing y → IsMixed parts count first second p q y
  mixed_zero first second p q y a b d = record {
    left = λ k lt. subst (FitsTerm first) (sym (a k)) (fits-term first);
    right = λ k lt. subst (FitsTerm second) (sym (b k)) (fits-term second);
    sums = λ k lt. (sum_with_zero (term first (part parts k p)) (term second (part parts k q)) (ap (term first) (a k) ∙ term-zero first)).0;
    value = λ k lt. d k ∙ sym (ap (term second) (b k) ∙ term-zero second) ∙ (sum_with_zero (term first (part parts k p)) (term second (part parts k q)) (ap (term first) (a k) ∙ term-zero first)).1;
  }

  module _ (n : ℕ) (gate : Gate) (d : ℕ) where
    acted_zero : (v : List L) → IsZeroVector (flat_map parts v) → IsActed parts count n gate d v v
    acted_zero v z = record {
      same = refl;
      mixed = λ x p q y made on first second. mixed_zero (entry_at gate.matrix.rows (digit n gate.target x) 0) (entry_at gate.matrix.rows (digit n gate.target x) 1) p q y
          (nothing_at v z _ p first) (nothing_at v z _ q second) (nothing_at v z x y made);
      kept = λ x lt off. refl;
    }

    row_first : (u w : List L) → IsZeroVector (flat_map parts u) → IsZeroVector (flat_map parts w) → length w ≡ length u → IsRow parts count n gate 0 d u w u
    row_first u w y z same = record {
      left = refl;
      right = same;
      mixed = λ x p q r made on first second. mixed_zero (entry_at gate.matrix.rows 0 0) (entry_at gate.matrix.rows 0 1) p q r (nothing_at u y x p first) (nothing_at w z x q second) (nothing_at u y x r made);
      kept = λ x lt off. refl;
    }

    row_second : (u w : List L) → IsZeroVector (flat_map parts u) → IsZeroVector (flat_map parts w) → length w ≡ length u → IsRow parts count n gate 1 d u w w
    row_second u w y z same = record {
      left = sym same;
      right = refl;
      mixed = λ x p q r made on first second. mixed_zero (entry_at gate.matrix.rows 1 0) (entry_at gate.matrix.rows 1 1) p q r (nothing_at u y x p first) (nothing_at w z x q second) (nothing_at w z x r made);
      kept = λ x lt off. refl;
    }

  -- what the gate makes of a place whose vectors are all zero, and of two
  pub place_zero : (gate : Gate) (shape : List ℕ) (d : ℕ) (table : List (Node L)) (i : ℕ) → HasShape table (drop d shape) i → IsNull parts table i → Means (of_place (IsActed parts count (length shape) gate d) table i) table (drop d shape) i
  place_zero gate shape d table i s null = record { shaped = s; words = λ word. acted_zero (length shape) gate d (tree table word i) (null.zero word) }

  pub rows_zero : (gate : Gate) (shape : List ℕ) (d : ℕ) (table : List (Node L)) (l r : ℕ) → HasShape table (drop d shape) l → HasShape table (drop d shape) r → IsNull parts table l → IsNull parts table r
      → AreRows parts count gate shape d table table (l, r) (l, r)
  rows_zero gate shape d table l r left right first second = record {
    first = record { shaped = left; words = λ word. row_first (length shape) gate d (tree table word l) (tree table word r) (first.zero word) (second.zero word) (same_length table (drop d shape) r l right left word) };
    second = record { shaped = right; words = λ word. row_second (length shape) gate d (tree table word l) (tree table word r) (first.zero word) (second.zero word) (same_length table (drop d shape) r l right left word) };
  }
