-- The labels of pairs are proportional exactly where the pairs are related.
use Rattle.std.proofs.Common.{◌≡◌, ℕ, ◌+◌, inl, inr, List, [], ◌∷◌, ◌++◌, length, Contains, refl, sym, ap, ap₂, subst, ◌∙◌}
use Rattle.std.specs.List.{flat_map}
use Rattle.std.proofs.lemmas.List.{append-nil, length-append, length-map}
use Rattle.aq_ring.specs.Fractions.{Amplitude}
use Rattle.aq_ring.specs.Amplitudes.{product}
use Rattle.aq_ring.specs.Vectors.{IsZeroVector, scaled, Proportional}
use Rattle.aq_ring.proofs.ProportionalLaws.{proportional-equivalence}
use Rattle.aq_label.proofs.PartLaws.{one_zero}
use Rattle.aq_store.specs.declared.node.Node.{Node}
use Rattle.aq_store.specs.Nodes.{tree, IsLeaf, labels_of}
use Rattle.aq_cert.specs.Meaning.{amplitudes}
use Rattle.aq_cert.specs.Macros.{IsRelated, AreAlike, left_labels, right_labels}
use Rattle.aq_cert.proofs.MemberLemmas.{of-none, of-cons, in-head, in-tail}
use Rattle.aq_cert.proofs.StepLemmas.{scaled-append, append-split}

module _ {X : Type 0} (f h : X → List Amplitude) (s t : Amplitude) where
  -- one factor for a joined list is one for each part
  pub each-same : (xs : List X) → ((x : X) → Contains xs x → length (f x) ≡ length (h x)) → scaled s (flat_map f xs) ≡ scaled t (flat_map h xs)
      → (x : X) → Contains xs x → scaled s (f x) ≡ scaled t (h x)
  each-same [] same e x k = absurd (of-none x k)
  each-same (y ∷ xs) same e x k =
      let parted = append-split (scaled s (f y)) (scaled s (flat_map f xs)) (scaled t (h y)) (scaled t (flat_map h xs))
      (length-map (f y) (product s) ∙ same y (in-head y xs) ∙ sym (length-map (h y) (product t)))
      (sym (scaled-append s (f y) (flat_map f xs)) ∙ e ∙ scaled-append t (h y) (flat_map h xs)) in
      elim (of-cons y xs x k) [
        | inl is ↦ subst (λ z. scaled s (f z) ≡ scaled t (h z)) (sym is) parted.0
        | inr there ↦ each-same xs (λ z l. same z (in-tail y xs z l)) parted.1 x there
      ]

  pub all-same : (xs : List X) → ((x : X) → Contains xs x → scaled s (f x) ≡ scaled t (h x)) → scaled s (flat_map f xs) ≡ scaled t (flat_map h xs)
  all-same [] e = refl
  all-same (y ∷ xs) e =
      scaled-append s (f y) (flat_map f xs) ∙ ap₂ (λ u v. u ++ v) (e y (in-head y xs)) (all-same xs (λ x k. e x (in-tail y xs x k))) ∙ sym (scaled-append t (h y) (flat_map h xs))

module _ {X : Type 0} (f h : X → List Amplitude) where
  pub flat-length : (xs : List X) → ((x : X) → Contains xs x → length (f x) ≡ length (h x)) → length (flat_map f xs) ≡ length (flat_map h xs)
  flat-length [] same = refl
  flat-length (y ∷ xs) same =
      length-append (f y) (flat_map f xs) ∙ ap₂ (λ m n. m + n) (same y (in-head y xs)) (flat-length xs (λ x k. same x (in-tail y xs x k))) ∙ sym (length-append (h y) (flat_map h xs))

module _ {L : Type 0} (parts : L → List Amplitude) (table : List (Node L)) (count : ℕ) (all_parts : (x : L) → length (parts x) ≡ count) where
  leaf-length : (x : ℕ) → IsLeaf table x → length (amplitudes parts table [] x) ≡ count
  unfolding tree
  leaf-length x h = ap (λ o. length (flat_map parts (labels_of o))) h.here ∙ ap (λ (v : List Amplitude). length v) (append-nil (parts h.label)) ∙ all_parts h.label

  abbrev pub AreLeaves : List (ℕ × ℕ) → Type 0
  AreLeaves pairs = (p : ℕ × ℕ) → Contains pairs p → IsLeaf table p.0 × IsLeaf table p.1

  left_of : ℕ × ℕ → List Amplitude
  left_of p = amplitudes parts table [] p.0

  right_of : ℕ × ℕ → List Amplitude
  right_of p = amplitudes parts table [] p.1

  same-length : (pairs : List (ℕ × ℕ)) → AreLeaves pairs → (p : ℕ × ℕ) → Contains pairs p → length (left_of p) ≡ length (right_of p)
  unfolding left_of right_of
  same-length pairs leaves p k = leaf-length p.0 (leaves p k).0 ∙ sym (leaf-length p.1 (leaves p k).1)

  pub labels-length : (pairs : List (ℕ × ℕ)) → AreLeaves pairs → length (left_labels parts table pairs) ≡ length (right_labels parts table pairs)
  unfolding left_of right_of
  labels-length pairs leaves = flat-length left_of right_of pairs (same-length pairs leaves)

  pub related-of : (pairs : List (ℕ × ℕ)) → AreLeaves pairs → Proportional (left_labels parts table pairs) (right_labels parts table pairs) → IsRelated parts table pairs [] []
  unfolding left_of right_of
  related-of pairs leaves r = record {
    left = r.left;
    right = r.right;
    left_nonzero = r.left_nonzero;
    right_nonzero = r.right_nonzero;
    same = each-same left_of right_of r.left r.right pairs (same-length pairs leaves) r.same;
  }

  pub of-related : (pairs : List (ℕ × ℕ)) → IsRelated parts table pairs [] [] → Proportional (left_labels parts table pairs) (right_labels parts table pairs)
  unfolding left_of right_of
  of-related pairs r = record {
    left = r.left;
    right = r.right;
    left_nonzero = r.left_nonzero;
    right_nonzero = r.right_nonzero;
    same = all-same left_of right_of r.left r.right pairs r.same;
  }

  zero-related : (u v : List Amplitude) → length u ≡ length v → IsZeroVector u → IsZeroVector v → Proportional u v
  zero-related u v e a b = subst (Proportional u) (one_zero u v e a b) (proportional-equivalence.reflexive u)

  pub alike-related : (pairs : List (ℕ × ℕ)) → AreLeaves pairs → AreAlike parts table pairs → IsRelated parts table pairs [] []
  alike-related pairs leaves (inl zeros) = related-of pairs leaves (zero-related _ _ (labels-length pairs leaves) zeros.0 zeros.1)
  alike-related pairs leaves (inr fits) = related-of pairs leaves fits.proportional
