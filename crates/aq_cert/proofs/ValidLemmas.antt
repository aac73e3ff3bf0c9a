-- Each macro of a valid certificate holds every word, so the certificate shows inclusion.
use Rattle.std.proofs.Common.{◌≡◌, ℕ, ◌+◌, ◌-◌, ◌<◌, inl, inr, List, [], ◌∷◌, length, drop, slice_get, get_or, Option, Some, Contains, refl, sym, ap, subst, ◌∙◌, arith}
use Rattle.std.specs.List.{slice_index}
use Rattle.std.proofs.lemmas.Bool.{cases_lt}
use Rattle.std.proofs.lemmas.List.{length-drop, get_or-drop}
use Rattle.std.proofs.lemmas.Option.{slice_get-get_or}
use Rattle.aq_ring.specs.Fractions.{Amplitude}
use Rattle.aq_ring.specs.Vectors.{IsZeroVector, scaled}
use Rattle.aq_store.specs.declared.node.Node.{Node}
use Rattle.aq_store.specs.declared.lsta.Lsta.{Lsta}
use Rattle.aq_store.specs.Nodes.{HasShape, FitsStore}
use Rattle.aq_store.specs.Words.{IsWord}
use Rattle.aq_store.proofs.TableLemmas.{slice_get-some}
use Rattle.aq_cert.specs.declared.cert.Rel.{Rel}
use Rattle.aq_cert.specs.declared.cert.Macro.{Macro}
use Rattle.aq_cert.specs.declared.cert.Edge.{Edge}
use Rattle.aq_cert.specs.declared.cert.End.{End}
use Rattle.aq_cert.specs.declared.cert.Cert.{Cert}
use Rattle.aq_cert.specs.Meaning.{amplitudes, IsMatched, Included}
use Rattle.aq_cert.specs.Rows.{item_of, item_at, row_at}
use Rattle.aq_cert.specs.Goals.{rest_of, goal_rest, levels_in, FitTogether}
use Rattle.aq_cert.specs.Macros.{IsOfLevel, IsEnd}
use Rattle.aq_cert.specs.Valid.{read_rel, read_macro, left_level, goal_level, IsValid}
use Rattle.aq_cert.specs.Held.{IsHeld}
use Rattle.aq_cert.proofs.MemberLemmas.{item-within, item-some, row-within, in-map, of-map, get-map}
use Rattle.aq_cert.proofs.StepLemmas.{amplitudes-past, amplitudes-long, amplitudes-short, zero-none}
use Rattle.aq_cert.proofs.HeldLemmas.{drop-next, goals_below, edge-holds, end-holds}
use Rattle.aq_cert.proofs.PlaceLemmas.{place-shape, root-place}

-- a level with choices
level-within : (xs : List ℕ) (k n : ℕ) (ys : List ℕ) → drop k xs ≡ n ∷ ys → (k < length xs) × (slice_get xs k ≡ Some n) × (drop (k + 1) xs ≡ ys)
level-within xs k n ys e =
    let l : length xs - k ≡ length (n ∷ ys) = sym (length-drop k xs) ∙ ap (λ (z : List ℕ). length z) e in
    let less : k < length xs = omega (arith, l) in
    let at : get_or xs k 0 ≡ n = ap (λ i. get_or xs i 0) (omega arith) ∙ sym (get_or-drop k xs 0 0) ∙ ap (λ (z : List ℕ). get_or z 0 0) e in
    (less, slice_get-get_or xs k 0 less ∙ ap (λ (z : ℕ). Some z) at, tail xs k n ys e)
  where
    tail : (xs : List ℕ) (k n : ℕ) (ys : List ℕ) → drop k xs ≡ n ∷ ys → drop (k + 1) xs ≡ ys
    tail xs k n ys e = (drop-next xs k n ys e)

module _ {L : Type 0} (parts : L → List Amplitude) (table : List (Node L)) (count : ℕ) (all_parts : (x : L) → length (parts x) ≡ count) (left : Lsta) (goals : List Lsta) (cert : Cert)
    (fit : FitTogether table left goals) (v : IsValid parts table left goals cert) where
  abbrev shape : List ℕ
  shape = left.shape.items

  goal-some : (g : ℕ) → g < length goals → (goal : Lsta) × (slice_get goals g ≡ Some goal)
  goal-some g less = slice_get-some goals g less

  rest-length : (o : Option Lsta) (goal : Lsta) (k : ℕ) → o ≡ Some goal → length goal.shape.items ≡ length shape → length (rest_of o k) ≡ length (drop k shape)
  rest-length o goal k e same =
      ap (λ o. length (rest_of o k)) e ∙ length-drop k goal.shape.items ∙ ap (λ n. n - k) same ∙ sym (length-drop k shape)

  right-shape : (o : Option Lsta) (goal : Lsta) (k p : ℕ) → o ≡ Some goal → FitsStore table goal → p < length (row_at (levels_in table o) k)
      → HasShape table (rest_of o k) (slice_index (row_at (levels_in table o) k) p)
  right-shape o goal k p e fits less =
      subst (λ o. HasShape table (rest_of o k) (slice_index (row_at (levels_in table o) k) p)) (sym e)
      (place-shape table goal fits k p (subst (λ o. p < length (row_at (levels_in table o) k)) e less))

  -- what its places are read as is of their level
  of-level : (k i : ℕ) (m : Macro) → item_at cert.macros k i ≡ Some m → IsOfLevel table (drop k shape) (goal_rest goals k) (read_macro table left goals k m)
  of-level k i m here = record {
    domain = λ x listed.
        let p = of-map (slice_index (left_level table left goals k)) m.domain x listed in
        subst (HasShape table (drop k shape)) (sym p.2) (place-shape table left fit.left_fits k p.0 (v.places.domain k i p.0 m here p.1));
    deep = λ j rel at.
        let r = get-map (read_rel table left goals k) m.rels j rel at in
        let g = goal-some r.0.goal (v.places.goal k i j m r.0 here r.1) in
        ap (λ (z : Rel). length (goal_rest goals k z.goal)) r.2 ∙ rest-length (slice_get goals r.0.goal) g.0 k g.1 (fit.one_length r.0.goal g.0 g.1);
    pairs = λ j rel q at listed.
        let r = get-map (read_rel table left goals k) m.rels j rel at in
        let g = goal-some r.0.goal (v.places.goal k i j m r.0 here r.1) in
        let p = of-map (λ (p : ℕ × ℕ). (slice_index (left_level table left goals k) p.0, slice_index (goal_level table left goals r.0.goal k) p.1)) r.0.pairs q
        (subst (λ (z : Rel). Contains z.pairs q) r.2 listed) in
        let within = v.places.pairs k i j m r.0 p.0 here r.1 p.1 in
        let a : HasShape table (drop k shape) q.0 = subst (λ (z : ℕ × ℕ). HasShape table (drop k shape) z.0) (sym p.2) (place-shape table left fit.left_fits k p.0.0 within.0) in
        let b : HasShape table (goal_rest goals k r.0.goal) q.1 =
        subst (λ (z : ℕ × ℕ). HasShape table (goal_rest goals k r.0.goal) z.1) (sym p.2)
        (right-shape (slice_get goals r.0.goal) g.0 k p.0.1 g.1 (fit.goals_fit r.0.goal g.0 g.1) within.1) in
        (a, subst (λ (z : Rel). HasShape table (goal_rest goals k z.goal) q.1) (sym r.2) b);
  }

  -- at the last level
  last-level : (k i : ℕ) (m : Macro) → [] ≡ drop k shape → item_at cert.macros k i ≡ Some m → k ≡ length shape
  last-level k i m e here =
      let l : 0 ≡ length shape - k = ap (λ (z : List ℕ). length z) e ∙ length-drop k shape in
      omega (arith, l, row-within cert.macros k i m here, v.shape.macro_levels)

  end-of : (k i : ℕ) (m : Macro) → k ≡ length shape → item_at cert.macros k i ≡ Some m → (e : End) × IsEnd parts table (read_macro table left goals k m) e
  end-of k i m last here =
      let at : item_at cert.macros (length shape) i ≡ Some m = subst (λ z. item_at cert.macros z i ≡ Some m) last here in
      let e = slice_get-some cert.ends i (omega (arith, v.shape.ends, item-within cert.macros (length shape) i m at)) in
      (e.0, subst (λ z. IsEnd parts table (read_macro table left goals z m) e.0) (sym last) (v.ends.each i m e.0 at e.1))

  edges-of : (k i n : ℕ) (m : Macro) → k < length shape → slice_get shape k ≡ Some n → item_at cert.macros k i ≡ Some m
      → (es : List Edge) × (item_at cert.edges k i ≡ Some es) × (length es ≡ n)
  edges-of k i n m less at here =
      let es = item-some cert.edges k i (omega (arith, v.shape.edge_lists k less, item-within cert.macros k i m here)) in
      (es.0, es.1, v.shape.choices k i n es.0 at es.1)

  abbrev Holds : ℕ → Macro → List ℕ → Type 0
  Holds k m word = IsHeld parts table (goal_rest goals k) (read_macro table left goals k m) word

  holds : (left_shape : List ℕ) (k i : ℕ) (m : Macro) → left_shape ≡ drop k shape → item_at cert.macros k i ≡ Some m → (word : List ℕ) → Holds k m word
  holds [] k i m e here [] =
      let found = end-of k i m (last-level k i m e here) here in
      end-holds parts table count all_parts (goal_rest goals k) (read_macro table left goals k m)
      (subst (λ (z : List ℕ). IsOfLevel table z (goal_rest goals k) (read_macro table left goals k m)) (sym e) (of-level k i m here)) found.0 found.1
  holds [] k i m e here (c ∷ word) =
      inl (λ x listed. zero-none parts table x (c ∷ word) (amplitudes-long parts table c x word (subst (λ (z : List ℕ). HasShape table z x) (sym e) ((of-level k i m here).domain x listed))))
  holds (n ∷ left_shape) k i m e here [] =
      inl (λ x listed. zero-none parts table x [] (amplitudes-short parts table n x left_shape (subst (λ (z : List ℕ). HasShape table z x) (sym e) ((of-level k i m here).domain x listed))))
  holds (n ∷ left_shape) k i m e here (c ∷ word) = elim (cases_lt c n) [
    | inl less ↦
        let w = level-within shape k n left_shape (sym e) in
        let es = edges-of k i n m w.0 w.1 here in
        let s = slice_get-some es.0 c (omega (arith, es.2)) in
        let t = v.edges.each k i c m s.0 here (ap (λ o. item_of o c) es.1 ∙ s.1) in
        edge-holds parts table c n left_shape (goal_rest goals k) (goal_rest goals (k + 1)) (read_macro table left goals k m) (read_macro table left goals (k + 1) t.to) s.0.from less
        (goals_below goals k) (subst (λ (z : List ℕ). IsOfLevel table z (goal_rest goals k) (read_macro table left goals k m)) (sym e) (of-level k i m here)) t.edge word
        (holds left_shape (k + 1) s.0.to t.to (sym w.2) t.here word)
    | inr past ↦
        inl (λ x listed. zero-none parts table x (c ∷ word)
        (amplitudes-past parts table n c x left_shape word (subst (λ (z : List ℕ). HasShape table z x) (sym e) ((of-level k i m here).domain x listed)) past))
  ]

  -- what the first macro holds has a match
  root-matched : (m : Macro) → item_at cert.macros 0 0 ≡ Some m → (word : List ℕ) → Holds 0 m word → ¬ (IsZeroVector (amplitudes parts table word left.root))
      → IsMatched parts table goals (amplitudes parts table word left.root)
  root-matched m here word (inl zeros) nonzero =
      absurd (nonzero (subst (λ x. IsZeroVector (amplitudes parts table word x)) (root-place table left)
      (zeros (slice_index (left_level table left goals 0) 0) (in-map (slice_index (left_level table left goals 0)) m.domain 0 (v.root.domain m here)))))
  root-matched m here word (inr h) nonzero =
      let r = get-map (read_rel table left goals 0) m.rels h.number h.rel h.here in
      let g = goal-some r.0.goal (v.places.goal 0 0 h.number m r.0 here r.1) in
      let same_goal : h.rel.goal ≡ r.0.goal = ap (λ (z : Rel). z.goal) r.2 in
      let at : slice_get goals h.rel.goal ≡ Some g.0 = ap (slice_get goals) same_goal ∙ g.1 in
      let reads : ℕ × ℕ → ℕ × ℕ = λ p. (slice_index (left_level table left goals 0) p.0, slice_index (goal_level table left goals r.0.goal 0) p.1) in
      let listed : Contains h.rel.pairs (reads (0, 0)) =
      subst (λ (z : Rel). Contains z.pairs (reads (0, 0))) (sym r.2) (in-map reads r.0.pairs (0, 0) (v.root.pairs m h.number r.0 here r.1)) in
      let right : slice_index (goal_level table left goals r.0.goal 0) 0 ≡ g.0.root = ap (λ o. slice_index (row_at (levels_in table o) 0) 0) g.1 ∙ root-place table g.0 in
      record {
        number = h.rel.goal;
        goal = g.0;
        listed = at;
        word = h.other;
        is_word = subst (λ o. IsWord (rest_of o 0) h.other) at h.is_word;
        proportional = record {
          left = h.related.left;
          right = h.related.right;
          left_nonzero = h.related.left_nonzero;
          right_nonzero = h.related.right_nonzero;
          same =
              ap (λ x. scaled h.related.left (amplitudes parts table word x)) (sym (root-place table left)) ∙ h.related.same (reads (0, 0)) listed
              ∙ ap (λ x. scaled h.related.right (amplitudes parts table h.other x)) right;
        };
      }

  pub valid-included : Included parts table left goals
  valid-included word nonzero =
      let first = item-some cert.macros 0 0 v.shape.some in
      root-matched first.0 first.1 word (holds shape 0 0 first.0 refl first.1 word) nonzero
