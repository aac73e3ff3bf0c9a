-- A gate that only exchanges the two halves below its target.
use Rattle.std.proofs.Common.{◌≡◌, ℕ, suc, ◌<◌, ◌==◌, ◌&&◌, ◌||◌, true, false, List, [], ◌∷◌, length, drop, Some, All, refl, sym, ap, ap₂, subst, ◌∙◌, arith, true≢false}
use Rattle.std.proofs.lemmas.Bool.{lt-ltb}
use Rattle.aq_ring.specs.Fractions.{Amplitude}
use Rattle.aq_ring.specs.Amplitudes.{amplitude_zero, turn}
use Rattle.aq_ring.proofs.AmplitudeLaws.{turn-eight}
use Rattle.aq_ring.proofs.CodeLemmas.{sum_with_zero, sum_onto_zero}
use Rattle.aq_ring.proofs.MoreLaws.{turn-turn}
use Rattle.aq_prog.specs.Digits.{digit}
use Rattle.aq_prog.specs.Gates.{entry_at}
use Rattle.aq_prog.specs.declared.gate.Entry.{Entry}
use Rattle.aq_prog.specs.declared.gate.Entry.TheVariants as entry
use Rattle.aq_prog.specs.declared.gate.Gate.{Gate}
use Rattle.aq_store.specs.declared.node.Node.{Node}
use Rattle.aq_store.specs.Nodes.{HasShape, tree}
use Rattle.aq_store.specs.Parts.{part}
use Rattle.aq_store.proofs.ShapeLemmas.{same_length}
use Rattle.aq_gate_ops.specs.Action.{AreRows, IsMixed, IsRow, controlled}
use Rattle.aq_gate_ops.specs.Exchange.{IsExchange}

turn-none : (r : Amplitude) → turn 0 r ≡ r
turn-none r = sym (ap (turn 0) (turn-eight r)) ∙ turn-turn 0 8 r ∙ turn-eight r

pub some_is : {A : Type 0} (x y : A) → Some x ≡ Some y → x ≡ y
some_is x y e = cc

-- each control is above a depth
above_depth : (n d : ℕ) (cs : List ℕ) (x : ℕ) → All (λ c. c < d) cs → controlled n d cs x ≡ true
above_depth n d [] x all = refl
above_depth n d (c ∷ cs) x all =
    let within : c < d = all 0 c (omega arith) in
    ap₂ (λ a b. (a || (digit n c x == 1)) && b) (lt-ltb c d within) (above_depth n d cs x (λ k e l. all (suc k) e (omega arith)))

module _ {L : Type 0} (parts : L → List Amplitude) (count : ℕ) where
  -- a row that takes one half as it is
  mixed_right : (first second : Entry) → first ≡ entry.Zero → second ≡ entry.Unit 0 0 → (p q : L) → IsMixed parts count first second p q q
  mixed_right first second z o p q = subst (λ e. IsMixed parts count e second p q q) (sym z) (subst (λ e. IsMixed parts count entry.Zero e p q q) (sym o) (record {
    left = λ k lt. tt;
    right = λ k lt. tt;
    sums = λ k lt. (sum_with_zero amplitude_zero (turn 0 (part parts k q)) refl).0;
    value = λ k lt. sym (turn-none (part parts k q)) ∙ (sum_with_zero amplitude_zero (turn 0 (part parts k q)) refl).1;
  }))

  pub mixed_left : (first second : Entry) → first ≡ entry.Unit 0 0 → second ≡ entry.Zero → (p q : L) → IsMixed parts count first second p q p
  mixed_left first second o z p q = subst (λ e. IsMixed parts count e second p q p) (sym o) (subst (λ e. IsMixed parts count (entry.Unit 0 0) e p q p) (sym z) (record {
    left = λ k lt. tt;
    right = λ k lt. tt;
    sums = λ k lt. (sum_onto_zero (turn 0 (part parts k p)) amplitude_zero refl).0;
    value = λ k lt. sym (turn-none (part parts k p)) ∙ (sum_onto_zero (turn 0 (part parts k p)) amplitude_zero refl).1;
  }))

  module _ (n : ℕ) (gate : Gate) (d : ℕ) (x : IsExchange d gate) where
    always : {P : Type 0} → (i : ℕ) → controlled n d gate.controls i ≡ false → P
    always i off = absurd (true≢false (sym (above_depth n d gate.controls i x.above) ∙ off))

    row_first : (u w : List L) → length w ≡ length u → IsRow parts count n gate 0 d u w w
    row_first u w same = record {
      left = sym same;
      right = refl;
      mixed = λ i p q y made on first second.
          subst (IsMixed parts count (entry_at gate.matrix.rows 0 0) (entry_at gate.matrix.rows 0 1) p q) (some_is q y (sym second ∙ made)) (mixed_right (entry_at gate.matrix.rows 0 0) (entry_at gate.matrix.rows 0 1) x.top_left x.top_right p q);
      kept = λ i lt off. always i off;
    }

    row_second : (u w : List L) → length w ≡ length u → IsRow parts count n gate 1 d u w u
    row_second u w same = record {
      left = refl;
      right = same;
      mixed = λ i p q y made on first second.
          subst (IsMixed parts count (entry_at gate.matrix.rows 1 0) (entry_at gate.matrix.rows 1 1) p q) (some_is p y (sym first ∙ made)) (mixed_left (entry_at gate.matrix.rows 1 0) (entry_at gate.matrix.rows 1 1) x.bottom_left x.bottom_right p q);
      kept = λ i lt off. always i off;
    }

  pub rows_exchanged : (gate : Gate) (shape : List ℕ) (d : ℕ) → IsExchange d gate → (table : List (Node L)) (l r : ℕ) → HasShape table (drop d shape) l → HasShape table (drop d shape) r
      → AreRows parts count gate shape d table table (l, r) (r, l)
  rows_exchanged gate shape d x table l r left right = record {
    first = record { shaped = right; words = λ word. row_first (length shape) gate d x (tree table word l) (tree table word r) (same_length table (drop d shape) r l right left word) };
    second = record { shaped = left; words = λ word. row_second (length shape) gate d x (tree table word l) (tree table word r) (same_length table (drop d shape) r l right left word) };
  }
