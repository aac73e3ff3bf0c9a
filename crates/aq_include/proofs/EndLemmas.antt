-- The labels of pairs are proportional exactly where the pairs are related.
use Rattle.std.proofs.Common.{◌≡◌, ℕ, ◌+◌, ◌<◌, ◌≤◌, ◌⊎◌, inl, inr, List, [], ◌∷◌, ◌++◌, length, take, slice_get, get_or, Some, Contains, refl, sym, ap, ap₂, subst, ◌∙◌, arith, sum_by}
use Rattle.std.specs.List.{flat_map}
use Rattle.std.proofs.lemmas.List.{append-nil, take_more}
use Rattle.std.proofs.lemmas.List.Elements.{Contains-get_or, Contains-push_cases}
use Rattle.std.proofs.lemmas.List.Concat.{flat_map-append}
use Rattle.std.proofs.lemmas.List.Sums.{sum_by_push, sum_by-take-le}
use Rattle.std.proofs.lemmas.Bool.{cases_lt}
use Rattle.aq_ring.specs.Fractions.{Amplitude}
use Rattle.aq_ring.specs.Amplitudes.{amplitude_zero, FitsAmplitudeProduct}
use Rattle.aq_ring.specs.Vectors.{IsZeroVector, Proportional}
use Rattle.aq_label.specs.Ratios.{lefts, rights, at, IsRatio, IsSame, IsDifferent, IsWideBy, IsProportionalAndFits}
use Rattle.aq_label.specs.declared.Ratio.{Ratio}
use Rattle.aq_label.specs.declared.Ratio.TheVariants as ratio
use Rattle.aq_store.specs.declared.node.Node.{Node}
use Rattle.aq_store.specs.Nodes.{tree, labels_at}
use Rattle.aq_cert.specs.declared.cert.Rel.{Rel}
use Rattle.aq_cert.specs.declared.cert.Macro.{Macro}
use Rattle.aq_store.specs.Words.{IsWord}
use Rattle.aq_cert.specs.Meaning.{amplitudes}
use Rattle.aq_cert.specs.Macros.{IsOfLevel, IsRelated, IsZeroOn, AreAlike, left_labels, right_labels}
use Rattle.aq_cert.specs.Held.{IsHeld}
use Rattle.aq_cert.proofs.AlikeLemmas.{AreLeaves, labels-length, of-related}
use Rattle.aq_include.specs.Ends.{AreLabels, IsWideIn, Relates}
use Rattle.aq_include.specs.Least.{IsWideAt}
use Rattle.aq_include.proofs.ChildLemmas.{of-flat}

module _ {L : Type 0} (parts : L → List Amplitude) (table : List (Node L)) where
  pub label-amplitudes : (x : ℕ) (l : L) → labels_at table x ≡ l ∷ [] → amplitudes parts table [] x ≡ parts l
  unfolding tree
  label-amplitudes x l e = ap (flat_map parts) e ∙ append-nil (parts l)

  -- zero at one place more
  pub zero-more : (xs : List ℕ) (i d : ℕ) → i < length xs → IsZeroOn parts table (take i xs) [] → IsZeroVector (amplitudes parts table [] (get_or xs i d)) → IsZeroOn parts table (take (i + 1) xs) []
  zero-more xs i d less zeros one x k =
      elim (Contains-push_cases (take i xs) (get_or xs i d) x (subst (λ (l : List ℕ). Contains l x) (take_more xs i d less) k)) [
        | inl old ↦ zeros x old
        | inr new ↦ subst (λ z. IsZeroVector (amplitudes parts table [] z)) new one
      ]

  module _ (count : ℕ) (all_parts : (x : L) → length (parts x) ≡ count) where
    left_of : ℕ × ℕ → List Amplitude
    left_of p = amplitudes parts table [] p.0

    right_of : ℕ × ℕ → List Amplitude
    right_of p = amplitudes parts table [] p.1

    wide-in : (pairs : List (ℕ × ℕ)) (l r : Amplitude) → Contains (flat_map left_of pairs) l → Contains (flat_map right_of pairs) r → ¬ (FitsAmplitudeProduct l r) → IsWideIn parts table pairs l r
    unfolding left_of right_of
    wide-in pairs l r a b unfit =
        let p = of-flat left_of pairs l a in
        let q = of-flat right_of pairs r b in
        record { left_pair = p.0; right_pair = q.0; left_listed = p.1; right_listed = q.1; left = p.2; right = q.2; unfit = unfit }

    wide-of : (pairs : List (ℕ × ℕ)) → AreLeaves parts table count all_parts pairs → (l r : Amplitude) → IsWideBy (flat_map left_of pairs) (flat_map right_of pairs) l r → IsWideIn parts table pairs l r
    wide-of pairs leaves l r w =
        let u : List Amplitude = flat_map left_of pairs in
        let v : List Amplitude = flat_map right_of pairs in
        let n : length u ≡ length v = (unfold left_of right_of in labels-length parts table count all_parts pairs leaves) in
        let before : w.pivot < length u = w.comes.pivot.within in
        let here : w.place < length u = w.comes.within in
        elim w.wide.operands [
          | inl k ↦ wide-in pairs l r
              (subst (λ (z : Amplitude). Contains u z) (sym k.1) (Contains-get_or u w.place amplitude_zero here))
              (subst (λ (z : Amplitude). Contains v z) (sym k.2) (Contains-get_or v w.pivot amplitude_zero (omega (arith, n, before))))
              (subst (λ (z : Amplitude). ¬ (FitsAmplitudeProduct z r)) (sym k.1) (subst (λ (z : Amplitude). ¬ (FitsAmplitudeProduct (at u w.place) z)) (sym k.2) k.0))
          | inr k ↦ wide-in pairs l r
              (subst (λ (z : Amplitude). Contains u z) (sym k.2) (Contains-get_or u w.pivot amplitude_zero before))
              (subst (λ (z : Amplitude). Contains v z) (sym k.3) (Contains-get_or v w.place amplitude_zero (omega (arith, n, here))))
              (subst (λ (z : Amplitude). ¬ (FitsAmplitudeProduct z r)) (sym k.2) (subst (λ (z : Amplitude). ¬ (FitsAmplitudeProduct (at u w.pivot) z)) (sym k.3) k.1))
        ]

    relates-plain : (pairs : List (ℕ × ℕ)) → AreLeaves parts table count all_parts pairs → (r : Ratio) → IsRatio (left_labels parts table pairs) (right_labels parts table pairs) r
        → (IsSame r → IsProportionalAndFits (left_labels parts table pairs) (right_labels parts table pairs)) → (IsDifferent r → ¬ (Proportional (left_labels parts table pairs) (right_labels parts table pairs)))
        → Relates parts table pairs r
    unfolding left_of right_of
    relates-plain pairs leaves ratio.AllZero is same different = inl (is.0, is.1)
    relates-plain pairs leaves (ratio.Same p) is same different = inr (same tt)
    relates-plain pairs leaves (ratio.Different i) is same different = λ r. different tt (of-related parts table count all_parts pairs r)
    relates-plain pairs leaves (ratio.Wide l r) is same different = wide-of pairs leaves l r is

    -- what the comparison says of the pairs
    pub relates : (pairs : List (ℕ × ℕ)) (given labels : List (L × L)) → given ≡ labels → AreLeaves parts table count all_parts pairs → AreLabels parts table pairs labels → (r : Ratio) → IsRatio (lefts parts given) (rights parts given) r
        → (IsSame r → IsProportionalAndFits (lefts parts given) (rights parts given)) → (IsDifferent r → ¬ (Proportional (lefts parts given) (rights parts given)))
        → Relates parts table pairs r
    relates pairs given labels g leaves l r is same different =
        let a : lefts parts given ≡ left_labels parts table pairs = ap (lefts parts) g ∙ l.left in
        let b : rights parts given ≡ right_labels parts table pairs = ap (rights parts) g ∙ l.right in
        relates-plain pairs leaves r
        (subst (λ u. IsRatio u (right_labels parts table pairs) r) a (subst (λ v. IsRatio (lefts parts given) v r) b is))
        (λ k. subst (λ u. IsProportionalAndFits u (right_labels parts table pairs)) a (subst (λ v. IsProportionalAndFits (lefts parts given) v) b (same k)))
        (λ k. subst (λ u. ¬ (Proportional u (right_labels parts table pairs))) a (subst (λ v. ¬ (Proportional (lefts parts given) v)) b (different k)))

  -- a relation that isn't related holds nothing at the end
  pub no-end : (rest : ℕ → List ℕ) (m : Macro) → IsOfLevel table [] rest m → ¬ (IsZeroOn parts table m.domain [])
      → ((k : ℕ) (rel : Rel) → slice_get m.rels k ≡ Some rel → ¬ (IsRelated parts table rel.pairs [] [])) → ¬ (IsHeld parts table rest m [])
  no-end rest m level some none (inl zeros) = some zeros
  no-end rest m level some none (inr h) = by (rest h.rel.goal) (level.deep h.number h.rel h.here) h.other h.is_word h.related
    where
      nothing : (sh : List ℕ) → length sh ≡ 0 → (other : List ℕ) → IsWord sh other → other ≡ []
      nothing [] e [] w = refl
      nothing [] e (c ∷ other) w = absurd (w)
      nothing (n ∷ sh) e other w = absurd (omega arith)

      by : (sh : List ℕ) → length sh ≡ 0 → (other : List ℕ) → IsWord sh other → IsRelated parts table h.rel.pairs [] other → ⊥
      by sh e other w r = none h.number h.rel h.here (subst (λ o. IsRelated parts table h.rel.pairs [] o) (nothing sh e other w) r)

  pub wide-at : (m : Macro) (k : ℕ) (rel : Rel) (l r : Amplitude) → slice_get m.rels k ≡ Some rel → IsWideIn parts table rel.pairs l r → IsWideAt parts table m l r
  wide-at m k rel l r here w = record {
    number = k;
    rel = rel;
    here = here;
    word = [];
    other = [];
    left_pair = w.left_pair;
    right_pair = w.right_pair;
    left_listed = w.left_listed;
    right_listed = w.right_listed;
    left = w.left;
    right = w.right;
    unfit = w.unfit;
  }

  labels-one : (pick : L × L → L) (side : ℕ × ℕ → ℕ) (pairs : List (ℕ × ℕ)) (list : List (L × L)) (i : ℕ) (d : ℕ × ℕ) (m : L × L) → i < length pairs
      → flat_map (λ (q : L × L). parts (pick q)) list ≡ flat_map (λ (p : ℕ × ℕ). amplitudes parts table [] (side p)) (take i pairs) → labels_at table (side (get_or pairs i d)) ≡ pick m ∷ []
      → flat_map (λ (q : L × L). parts (pick q)) (list ++ m ∷ []) ≡ flat_map (λ (p : ℕ × ℕ). amplitudes parts table [] (side p)) (take (i + 1) pairs)
  labels-one pick side pairs list i d m less e here =
      flat_map-append (λ (q : L × L). parts (pick q)) list (m ∷ [])
      ∙ ap₂ (λ u v. u ++ v) e (ap (λ v. v ++ []) (sym (label-amplitudes (side (get_or pairs i d)) (pick m) here)))
      ∙ sym (flat_map-append (λ (p : ℕ × ℕ). amplitudes parts table [] (side p)) (take i pairs) (get_or pairs i d ∷ []))
      ∙ ap (flat_map (λ (p : ℕ × ℕ). amplitudes parts table [] (side p))) (sym (take_more pairs i d less))

  pub labels-more : (pairs : List (ℕ × ℕ)) (list new : List (L × L)) (i : ℕ) (d : ℕ × ℕ) (l r : L) → i < length pairs → AreLabels parts table (take i pairs) list
      → labels_at table (get_or pairs i d).0 ≡ l ∷ [] → labels_at table (get_or pairs i d).1 ≡ r ∷ [] → new ≡ list ++ (l, r) ∷ [] → AreLabels parts table (take (i + 1) pairs) new
  labels-more pairs list new i d l r less h a b e = subst (AreLabels parts table (take (i + 1) pairs)) (sym e) (record {
    left = labels-one (λ q. q.0) (λ p. p.0) pairs list i d (l, r) less h.left a;
    right = labels-one (λ q. q.1) (λ p. p.1) pairs list i d (l, r) less h.right b;
  })

  abbrev NotRelated : Rel → Type 0
  NotRelated rel = ¬ (IsRelated parts table rel.pairs [] [])

  -- one relation more that isn't related
  pub none-more : (xs : List Rel) (n : ℕ) (r : Rel) → slice_get xs n ≡ Some r → NotRelated r → ((k : ℕ) (rel : Rel) → k < n → slice_get xs k ≡ Some rel → NotRelated rel)
      → (k : ℕ) (rel : Rel) → k < n + 1 → slice_get xs k ≡ Some rel → NotRelated rel
  none-more xs n r here not before k rel less there = elim (cases_lt k n) [
    | inl early ↦ before k rel early there
    | inr late ↦
        (let same : n ≡ k = omega arith in
        let e : Some r ≡ Some rel = sym here ∙ ap (slice_get xs) same ∙ there in
        let is : r ≡ rel = cc in
        subst NotRelated is not)
  ]

  pub same-related : (pairs : List (ℕ × ℕ)) (r : Ratio) → ((p : ℕ) × (r ≡ ratio.Same p)) ⊎ (r ≡ ratio.AllZero) → Relates parts table pairs r → AreAlike parts table pairs
  same-related pairs r (inl e) h = subst (Relates parts table pairs) e.1 h
  same-related pairs r (inr e) h = subst (Relates parts table pairs) e h

  pub relates-as : (pairs : List (ℕ × ℕ)) (r s : Ratio) → r ≡ s → Relates parts table pairs r → Relates parts table pairs s
  relates-as pairs r s e h = subst (Relates parts table pairs) e h

  pub pairs-are : (given pairs : List (ℕ × ℕ)) → given ≡ pairs → (r : Ratio) → Relates parts table given r → Relates parts table pairs r
  pairs-are given pairs e r h = subst (λ l. Relates parts table l r) e h

pub sum-more : (xs : List Rel) (k : ℕ) (rel : Rel) → k < length xs → rel ≡ get_or xs k rel
    → sum_by (λ (r : Rel). length r.pairs) (take (k + 1) xs) ≡ sum_by (λ (r : Rel). length r.pairs) (take k xs) + length rel.pairs
sum-more xs k rel less is =
    ap (sum_by (λ (r : Rel). length r.pairs)) (take_more xs k rel less) ∙ sum_by_push (λ (r : Rel). length r.pairs) (take k xs) (get_or xs k rel)
    ∙ ap (λ (r : Rel). sum_by (λ (z : Rel). length z.pairs) (take k xs) + length r.pairs) (sym is)

pub sum-within : (xs ys : List Rel) (k : ℕ) (rel : Rel) → xs ≡ ys → k < length xs → rel ≡ get_or xs k rel
    → sum_by (λ (r : Rel). length r.pairs) (take k xs) + length rel.pairs ≤ sum_by (λ (r : Rel). length r.pairs) ys
sum-within xs ys k rel e less is = omega (arith, sum-more xs k rel less is, sum_by-take-le (λ (r : Rel). length r.pairs) xs (k + 1), ap (sum_by (λ (r : Rel). length r.pairs)) e)
