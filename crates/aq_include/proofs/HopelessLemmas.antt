-- Relations that relate no words under two choices.
use Rattle.std.proofs.Common.{◌≡◌, ℕ, ◌+◌, ◌<◌, ◌⊎◌, inl, inr, List, length, take, get_or, slice_get, Some, Contains, refl, subst}
use Rattle.std.proofs.lemmas.List.{take_more}
use Rattle.std.proofs.lemmas.List.Elements.{Contains-push_cases}
use Rattle.std.specs.List.{AllZip}
use Rattle.aq_ring.specs.Fractions.{Amplitude}
use Rattle.aq_ring.specs.Vectors.{Proportional}
use Rattle.aq_ring.proofs.ProportionalLaws.{proportional-keeps, proportional-equivalence}
use Rattle.aq_store.specs.declared.node.Node.{Node}
use Rattle.aq_store.specs.Kinds.{IsNull}
use Rattle.aq_store.specs.Nodes.{HasShape, pairs_at}
use Rattle.aq_store.specs.Words.{IsWord}
use Rattle.aq_cert.specs.declared.cert.Rel.{Rel}
use Rattle.aq_cert.specs.Meaning.{amplitudes}
use Rattle.aq_include.specs.declared.places.Opened.{Opened}
use Rattle.aq_include.specs.Hopeless.{AreNull, AreApart, HasApart, IsHopeless}
use Rattle.aq_include.specs.Steps.{across, IsOpened}
use Rattle.aq_include.proofs.ChildLemmas.{in-flat, in-across, opened-children}

module _ {L : Type 0} (parts : L → List Amplitude) (table : List (Node L)) where
  -- always zero at one place more
  pub null-more : (xs : List ℕ) (i d : ℕ) → i < length xs → AreNull parts table (take i xs) → IsNull parts table (get_or xs i d) → AreNull parts table (take (i + 1) xs)
  null-more xs i d less nulls one x k =
      elim (Contains-push_cases (take i xs) (get_or xs i d) x (subst (λ (l : List ℕ). Contains l x) (take_more xs i d less) k)) [
        | inl old ↦ nulls x old
        | inr new ↦ subst (IsNull parts table) new one
      ]

  -- the pairs of children of an opened pair
  abbrev under : ℕ → Opened → List (ℕ × ℕ)
  under d o = across (Some (o.first, o.second)) (slice_get (pairs_at table o.right) d)

  pub apart-child : (d : ℕ) (os : List Opened) (o : Opened) (p : ℕ × ℕ) → Contains os o → slice_get (pairs_at table o.right) d ≡ Some p
      → AreApart parts table o.first p.0 ⊎ AreApart parts table o.second p.1 → HasApart parts table d os
  apart-child d os o p listed here apart =
      let both = in-across (Some (o.first, o.second)) (slice_get (pairs_at table o.right) d) (o.first, o.second) p refl here in
      elim apart [
        | inl h ↦ record { pair = (o.first, p.0); listed = in-flat (under d) os o (o.first, p.0) listed both.0; apart = h }
        | inr h ↦ record { pair = (o.second, p.1); listed = in-flat (under d) os o (o.second, p.1) listed both.1; apart = h }
      ]

  apart-none : (left later word other : List ℕ) (x y : ℕ) → AreApart parts table x y → HasShape table left x → HasShape table later y → IsWord left word → IsWord later other
      → ¬ (Proportional (amplitudes parts table word x) (amplitudes parts table other y))
  apart-none left later word other x y (inl h) s t w v p =
      h.1.some later other t v (proportional-keeps.zero_together (amplitudes parts table word x) (amplitudes parts table other y) p (h.0.zero word))
  apart-none left later word other x y (inr h) s t w v p =
      h.0.some left word s w
      (proportional-keeps.zero_together (amplitudes parts table other y) (amplitudes parts table word x)
      (proportional-equivalence.symmetric (amplitudes parts table word x) (amplitudes parts table other y) p) (h.1.zero other))

  pub hopeless : (c d : ℕ) (rel : Rel) (os : List Opened) → AllZip (IsOpened table c) rel.pairs os → HasApart parts table d os → IsHopeless parts table c rel d
  hopeless c d rel os opened h = record {
    none = λ left later word other shapes w v r.
        let listed = subst (λ (l : List (ℕ × ℕ)). Contains l h.pair) (opened-children table c d rel.pairs os opened) h.listed in
        let s = shapes h.pair listed in
        apart-none left later word other h.pair.0 h.pair.1 h.apart s.0 s.1 w v
        (record { left = r.left; right = r.right; left_nonzero = r.left_nonzero; right_nonzero = r.right_nonzero; same = r.same h.pair listed });
  }
