-- What a list of children has.
use Rattle.std.proofs.Common.{◌≡◌, ℕ, ◌*◌, ◌<◌, ◌≤◌, ◌⊎◌, inl, inr, List, [], ◌∷◌, ◌++◌, length, slice_get, Option, Some, None, Contains, refl, sym, ap, ap₂, subst, ◌∙◌, arith}
use Rattle.std.specs.List.{AllZip, flat_map}
use Rattle.std.proofs.lemmas.List.{length-append}
use Rattle.std.proofs.lemmas.List.Elements.{Contains-append_left, Contains-append_right, Contains-append_cases}
use Rattle.aq_cert.proofs.MemberLemmas.{in-head, in-tail, of-two, of-none, of-cons}
use Rattle.aq_store.specs.declared.node.Node.{Node}
use Rattle.aq_store.specs.Nodes.{pairs_at}
use Rattle.aq_include.specs.Members.{HasSame}
use Rattle.aq_include.specs.declared.places.Opened.{Opened}
use Rattle.aq_cert.proofs.ReadLemmas.{member-left}
use Rattle.aq_include.specs.Steps.{both, across, children_of, pair_children_of, opened_children_of, IsOpened, IsPairChild}
use Rattle.aq_include.specs.Candidates.{AreChildren, ArePairChildren}

module _ {A B : Type 0} (f : A → List B) where
  pub of-flat : (xs : List A) (y : B) → Contains (flat_map f xs) y → (x : A) × Contains xs x × Contains (f x) y
  of-flat [] y h = absurd (of-none y h)
  of-flat (x ∷ xs) y h = elim (Contains-append_cases (f x) (flat_map f xs) y h) [
    | inl k ↦ (x, in-head x xs, k)
    | inr k ↦ (let r = of-flat xs y k in (r.0, in-tail x xs r.0 r.1, r.2))
  ]

  pub in-flat : (xs : List A) (x : A) (y : B) → Contains xs x → Contains (f x) y → Contains (flat_map f xs) y
  in-flat [] x y h k = absurd (of-none x h)
  in-flat (z ∷ xs) x y h k = elim (of-cons z xs x h) [
    | inl e ↦ Contains-append_left (f z) (flat_map f xs) y (subst (λ w. Contains (f w) y) e k)
    | inr t ↦ Contains-append_right (f z) (flat_map f xs) y (in-flat xs x y t k)
  ]

  pub short-flat : ((x : A) → length (f x) ≤ 2) → (xs : List A) → length (flat_map f xs) ≤ 2 * length xs
  short-flat short [] = omega arith
  short-flat short (x ∷ xs) = omega (arith, length-append (f x) (flat_map f xs), short x, short-flat short xs)

both-short : (o : Option (ℕ × ℕ)) → length (both o) ≤ 2
both-short None = omega arith
both-short (Some p) = omega arith

across-short : (o r : Option (ℕ × ℕ)) → length (across o r) ≤ 2
across-short None r = omega arith
across-short (Some l) None = omega arith
across-short (Some l) (Some r) = omega arith

of-both : (o : Option (ℕ × ℕ)) (y : ℕ) → Contains (both o) y → (p : ℕ × ℕ) × (o ≡ Some p) × ((y ≡ p.0) ⊎ (y ≡ p.1))
of-both None y h = absurd (of-none y h)
of-both (Some p) y h = (p, refl, of-two p.0 p.1 y h)

of-across : (o s : Option (ℕ × ℕ)) (q : ℕ × ℕ) → Contains (across o s) q
    → (l : ℕ × ℕ) × (r : ℕ × ℕ) × (o ≡ Some l) × (s ≡ Some r) × ((q ≡ (l.0, r.0)) ⊎ (q ≡ (l.1, r.1)))
of-across None s q h = absurd (of-none q h)
of-across (Some l) None q h = absurd (of-none q h)
of-across (Some l) (Some r) q h = (l, r, refl, refl, of-two (l.0, r.0) (l.1, r.1) q h)

in-both : (o : Option (ℕ × ℕ)) (p : ℕ × ℕ) → o ≡ Some p → Contains (both o) p.0 × Contains (both o) p.1
in-both o p e = subst (λ r. Contains (both r) p.0 × Contains (both r) p.1) (sym e) (in-head p.0 (p.1 ∷ []), in-tail p.0 (p.1 ∷ []) p.1 (in-head p.1 []))

pub in-across : (o s : Option (ℕ × ℕ)) (l r : ℕ × ℕ) → o ≡ Some l → s ≡ Some r → Contains (across o s) (l.0, r.0) × Contains (across o s) (l.1, r.1)
in-across o s l r e f =
    subst (λ u. Contains (across u s) (l.0, r.0) × Contains (across u s) (l.1, r.1)) (sym e)
    (subst (λ v. Contains (across (Some l) v) (l.0, r.0) × Contains (across (Some l) v) (l.1, r.1)) (sym f)
    (in-head (l.0, r.0) ((l.1, r.1) ∷ []), in-tail (l.0, r.0) ((l.1, r.1) ∷ []) (l.1, r.1) (in-head (l.1, r.1) [])))

module _ {L : Type 0} (table : List (Node L)) where
  under : ℕ → ℕ → List ℕ
  under c x = both (slice_get (pairs_at table x) c)

  pair_under : ℕ → ℕ → ℕ × ℕ → List (ℕ × ℕ)
  pair_under c d p = across (slice_get (pairs_at table p.0) c) (slice_get (pairs_at table p.1) d)

  -- a list with the same members as the list of children
  pub are-children : (c : ℕ) (xs ys zs : List ℕ) → zs ≡ children_of table c xs → HasSame ys zs → length ys ≤ length zs → AreChildren table c xs ys
  unfolding under
  are-children c xs ys zs e same short = record {
    from = λ y h.
        let k = of-flat (under c) xs y (subst (λ (l : List ℕ). Contains l y) e (same.from y h)) in
        let r = of-both (slice_get (pairs_at table k.0) c) y k.2 in
        record { parent = k.0; pair = r.0; listed = k.1; here = r.1; is = r.2 };
    all = λ x p listed here.
        let b = in-both (slice_get (pairs_at table x) c) p here in (
          same.to p.0 (subst (λ (l : List ℕ). Contains l p.0) (sym e) (in-flat (under c) xs x p.0 listed b.0)),
          same.to p.1 (subst (λ (l : List ℕ). Contains l p.1) (sym e) (in-flat (under c) xs x p.1 listed b.1)),
        );
    short = omega (arith, short, ap (λ (l : List ℕ). length l) e, short-flat (under c) (λ x. both-short (slice_get (pairs_at table x) c)) xs);
  }

  pub are-pair-children : (c d : ℕ) (ps qs zs : List (ℕ × ℕ)) → zs ≡ pair_children_of table c d ps → HasSame qs zs → length qs ≤ length zs → ArePairChildren table c d ps qs
  unfolding pair_under
  are-pair-children c d ps qs zs e same short = record {
    from = λ q h.
        let k = of-flat (pair_under c d) ps q (subst (λ (l : List (ℕ × ℕ)). Contains l q) e (same.from q h)) in
        let r = of-across (slice_get (pairs_at table k.0.0) c) (slice_get (pairs_at table k.0.1) d) q k.2 in
        record { parent = k.0; left = r.0; right = r.1; listed = k.1; left_here = r.2; right_here = r.3; is = r.4 };
    all = λ p l r listed left right.
        let b = in-across (slice_get (pairs_at table p.0) c) (slice_get (pairs_at table p.1) d) l r left right in (
          same.to (l.0, r.0) (subst (λ (w : List (ℕ × ℕ)). Contains w (l.0, r.0)) (sym e) (in-flat (pair_under c d) ps p (l.0, r.0) listed b.0)),
          same.to (l.1, r.1) (subst (λ (w : List (ℕ × ℕ)). Contains w (l.1, r.1)) (sym e) (in-flat (pair_under c d) ps p (l.1, r.1) listed b.1)),
        );
    short = omega (
      arith,
      short,
      ap (λ (l : List (ℕ × ℕ)). length l) e,
      short-flat (pair_under c d) (λ p. across-short (slice_get (pairs_at table p.0) c) (slice_get (pairs_at table p.1) d)) ps,
    );
  }

  -- a pair in the list of children is a pair of children, and the other way
  pub child-of : (c d : ℕ) (ps : List (ℕ × ℕ)) (q : ℕ × ℕ) → Contains (pair_children_of table c d ps) q → IsPairChild table c d ps q
  unfolding pair_under
  child-of c d ps q h =
      let k = of-flat (pair_under c d) ps q h in
      let r = of-across (slice_get (pairs_at table k.0.0) c) (slice_get (pairs_at table k.0.1) d) q k.2 in
      record { parent = k.0; left = r.0; right = r.1; listed = k.1; left_here = r.2; right_here = r.3; is = r.4 }

  pub child-listed : (c d : ℕ) (ps : List (ℕ × ℕ)) (q : ℕ × ℕ) → IsPairChild table c d ps q → Contains (pair_children_of table c d ps) q
  unfolding pair_under
  child-listed c d ps q h =
      let b = in-across (slice_get (pairs_at table h.parent.0) c) (slice_get (pairs_at table h.parent.1) d) h.left h.right h.left_here h.right_here in
      in-flat (pair_under c d) ps h.parent q h.listed (elim h.is [
        | inl e ↦ subst (Contains (pair_under c d h.parent)) (sym e) b.0
        | inr e ↦ subst (Contains (pair_under c d h.parent)) (sym e) b.1
      ])

  -- opened pairs have the children that the pairs have
  pub opened-children : (c d : ℕ) (ps : List (ℕ × ℕ)) (os : List Opened) → AllZip (IsOpened table c) ps os → opened_children_of table d os ≡ pair_children_of table c d ps
  opened-children c d [] [] h = refl
  opened-children c d [] (o ∷ os) h = absurd h
  opened-children c d (p ∷ ps) [] h = absurd h
  opened-children c d (p ∷ ps) (o ∷ os) h =
      ap₂ (λ (l : Option (ℕ × ℕ)) (r : ℕ). across l (slice_get (pairs_at table r) d) ++ opened_children_of table d os) (sym h.0.left) h.0.right
      ∙ ap (λ (l : List (ℕ × ℕ)). across (slice_get (pairs_at table p.0) c) (slice_get (pairs_at table p.1) d) ++ l) (opened-children c d ps os h.1)

  -- the children of opened pairs are at most twice as many
  pub opened-short : (d : ℕ) (os : List Opened) → length (opened_children_of table d os) ≤ 2 * length os
  opened-short d os =
      short-flat (λ (o : Opened). across (Some (o.first, o.second)) (slice_get (pairs_at table o.right) d))
      (λ o. across-short (Some (o.first, o.second)) (slice_get (pairs_at table o.right) d)) os

  pub of-opened : (c d : ℕ) (ps qs : List (ℕ × ℕ)) (os : List Opened) → AllZip (IsOpened table c) ps os → HasSame qs (opened_children_of table d os) → length qs ≤ length (opened_children_of table d os)
      → ArePairChildren table c d ps qs
  of-opened c d ps qs os h same short = are-pair-children c d ps qs (opened_children_of table d os) (opened-children c d ps os h) same short

  -- the choices of the right nodes of opened pairs
  pub opened-within : (c d : ℕ) (ps : List (ℕ × ℕ)) (os : List Opened) → AllZip (IsOpened table c) ps os → ((p : ℕ × ℕ) → Contains ps p → d < length (pairs_at table p.1))
      → (o : Opened) → Contains os o → d < length (pairs_at table o.right)
  opened-within c d ps os h within o listed =
      let p = member-left (IsOpened table c) ps os h o listed in
      subst (λ z. d < length (pairs_at table z)) (sym p.2.right) (within p.0 p.1)
