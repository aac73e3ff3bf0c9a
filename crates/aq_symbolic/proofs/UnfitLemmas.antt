-- Where a gate gave up for want of width, it doesn't fit on the vector of some word.
use Rattle.std.proofs.Common.{◌≡◌, ℕ, zero, suc, ◌<◌, inl, inr, List, [], ◌∷◌, map, length, slice_get, Some, refl, sym, ap, subst, ◌∙◌, arith}
use Rattle.std.proofs.lemmas.List.{length-map}
use Rattle.std.proofs.lemmas.Option.{slice_get_within}
use Rattle.aq_ring.specs.Fractions.{Amplitude}
use Rattle.aq_ring.specs.Amplitudes.{turn, FitsQuotient, FitsSum}
use Rattle.aq_label.specs.Parts.{turns, FitsQuotients, FitsSums}
use Rattle.aq_prog.specs.Digits.{digit, with_digit, amplitude_at}
use Rattle.aq_prog.specs.Gates.{flip_gate, term, entry_at, FitsTerm, FitsGate, FitsGateAt}
use Rattle.aq_prog.specs.declared.gate.Entry.{Entry}
use Rattle.aq_prog.specs.declared.gate.Gate.{Gate}
use Rattle.aq_prog.proofs.DigitLaws.{digit-below, with_digit-own}
use Rattle.aq_prog.proofs.FitsLaws.{always_fits}
use Rattle.aq_store.specs.Nodes.{vector_of}
use Rattle.aq_store.specs.Parts.{part, part_vector}
use Rattle.aq_store.specs.declared.lsta.Lsta.{Lsta}
use Rattle.aq_store.specs.declared.node.Node.{Node}
use Rattle.aq_gate_ops.specs.Causes.{IsGateCause, IsWideMix, IsWideSum, IsWideTerm}
use Rattle.aq_symbolic.specs.Steps.{IsUnfitSet}

quotients_fit : (ps : List Amplitude) (j : ℕ) → ((k : ℕ) → k < length ps → FitsQuotient (turn j (amplitude_at ps k))) → FitsQuotients (turns j ps)
quotients_fit [] j f = tt
quotients_fit (p ∷ ps) j f = (f 0 (omega arith), quotients_fit ps j (λ k lt. f (suc k) (omega (arith, lt))))

sums_fit : (ps qs : List Amplitude) → ((k : ℕ) → k < length ps → FitsSum (amplitude_at ps k) (amplitude_at qs k)) → FitsSums ps qs
sums_fit [] qs f = tt
sums_fit (p ∷ ps) [] f = tt
sums_fit (p ∷ ps) (q ∷ qs) f = (f 0 (omega arith), sums_fit ps qs (λ k lt. f (suc k) (omega (arith, lt))))

at_part : {L : Type 0} (f : L → Amplitude) (v : List L) (x : ℕ) (y : L) → slice_get v x ≡ Some y → amplitude_at (map f v) x ≡ f y
at_part f [] x y e = cc
at_part f (z ∷ v) zero y e = let is : z ≡ y = cc in ap f is
at_part f (z ∷ v) (suc x) y e = at_part f v x y e

-- an index is within where both indices that differ from it in a digit are
in_list : (n t x m : ℕ) → with_digit n t 0 x < m → with_digit n t 1 x < m → x < m
in_list n t x m a b = by (digit n t x) refl (digit-below n t x)
  where
    by : (q : ℕ) → digit n t x ≡ q → q < 2 → x < m
    by zero f two = let is : with_digit n t 0 x ≡ x = ap (λ c. with_digit n t c x) (sym f) ∙ with_digit-own n t x in subst (λ y. y < m) is a
    by (suc zero) f two = let is : with_digit n t 1 x ≡ x = ap (λ c. with_digit n t c x) (sym f) ∙ with_digit-own n t x in subst (λ y. y < m) is b
    by (suc (suc q)) f two = absurd (omega arith)

-- the flip of a qubit, by its fields
pub flip_is : (qubit : ℕ) (g : Gate) → g.controls ≡ [] → g.target ≡ qubit → g.matrix.rows ≡ (flip_gate qubit).matrix.rows → g ≡ flip_gate qubit
flip_is qubit g none at rows = λ i. record { controls = none i; target = at i; matrix = record { rows = rows i } }

module _ {L : Type 0} (parts : L → List Amplitude) (count : ℕ) (all_parts : (x : L) → length (parts x) ≡ count) where
  wide_term : (e : Entry) (p l r : L) → IsWideTerm parts count e p l r → ((k : ℕ) → k < count → FitsTerm e (part parts k p)) → ⊥
  wide_term e p l r w f =
      w.unfit (subst FitsQuotients (sym w.turned)
      (quotients_fit (parts p) w.turn (λ k lt. (subst (λ x. FitsTerm x (part parts k p)) w.is (f k (subst (λ m. k < m) (all_parts p) lt))).1)))

  wide_sum : (first second : Entry) (p q l r : L) → IsWideSum parts count first second p q l r → ((k : ℕ) → k < count → FitsSum (term first (part parts k p)) (term second (part parts k q))) → ⊥
  wide_sum first second p q l r w f =
      w.unfit (sums_fit (parts l) (parts r)
      (λ k lt. (let within = subst (λ m. k < m) (all_parts l) lt in
      subst (λ x. FitsSum x (part parts k r)) (sym (w.left.value k within)) (subst (λ y. FitsSum (term first (part parts k p)) y) (sym (w.right.value k within)) (f k within)))))

  wide_mix : (first second : Entry) (p q l r : L) → IsWideMix parts count first second p q l r → ((k : ℕ) → k < count → FitsTerm first (part parts k p)) → ((k : ℕ) → k < count → FitsTerm second (part parts k q))
      → ((k : ℕ) → k < count → FitsSum (term first (part parts k p)) (term second (part parts k q))) → ⊥
  wide_mix first second p q l r w a b c = elim w [
    | inl x ↦ wide_term first p l r x a
    | inr y ↦ elim y [ inl z ↦ wide_term second q l r z b | inr z ↦ wide_sum first second p q l r z c ]
  ]

  pub unfit_set : (gate : Gate) (table : List (Node L)) (lsta : Lsta) (l r : L) → IsGateCause parts count gate table lsta l r → IsUnfitSet parts count (length lsta.shape.items) gate table lsta
  unfit_set gate table lsta l r h = record {
    word = h.word;
    wide = λ f.
        let n = length lsta.shape.items in
        let v = vector_of table lsta h.word in
        let within = in_list n gate.target h.index (length v) (slice_get_within v (with_digit n gate.target 0 h.index) h.first h.left) (slice_get_within v (with_digit n gate.target 1 h.index) h.second h.right) in
        let at : (k : ℕ) → k < count → FitsGateAt n gate (part_vector parts k v) h.index = λ k lt. (f k lt).at h.index (subst (λ m. h.index < m) (sym (length-map v (part parts k))) within) in
        let first = λ (k : ℕ). at_part (part parts k) v (with_digit n gate.target 0 h.index) h.first h.left in
        let second = λ (k : ℕ). at_part (part parts k) v (with_digit n gate.target 1 h.index) h.second h.right in
        let above = entry_at gate.matrix.rows (digit n gate.target h.index) 0 in
        let below = entry_at gate.matrix.rows (digit n gate.target h.index) 1 in
        wide_mix above below h.first h.second l r h.unfit
        (λ k lt. subst (FitsTerm above) (first k) ((at k lt).left h.on))
        (λ k lt. subst (FitsTerm below) (second k) ((at k lt).right h.on))
        (λ k lt. subst (λ x. FitsSum (term above x) (term below (part parts k h.second))) (first k) (subst (λ y. FitsSum (term above (amplitude_at (part_vector parts k v) (with_digit n gate.target 0 h.index))) (term below y)) (second k) ((at k lt).sums h.on)));
  }

  -- a flip is never refused
  pub flip_narrow : (qubit : ℕ) (g : Gate) (table : List (Node L)) (lsta : Lsta) → g.controls ≡ [] → g.target ≡ qubit → g.matrix.rows ≡ (flip_gate qubit).matrix.rows → (l r : L) → IsGateCause parts count g table lsta l r → ⊥
  flip_narrow qubit g table lsta none at rows l r h =
      let n = length lsta.shape.items in
      let is = flip_is qubit g none at rows in
      let u = unfit_set g table lsta l r h in
      u.wide (λ k lt. (let v = part_vector parts k (vector_of table lsta u.word) in subst (λ (x : Gate). FitsGate n x v) (sym is) (always_fits.flip n qubit v)))
