-- The table in which the root was reached, with places for nodes, is a valid certificate.
use Rattle.std.proofs.Common.{◌≡◌, ℕ, zero, suc, ◌+◌, ◌<◌, List, [], ◌∷◌, length, drop, slice_get, get_or, Option, Some, None, Contains, refl, sym, ap, ap₂, subst, ◌∙◌, arith}
use Rattle.std.proofs.lemmas.List.{drop_more, drop_all}
use Rattle.std.proofs.lemmas.Option.{slice_get_within, get_or_from_slice_get}
use Rattle.aq_ring.specs.Fractions.{Amplitude}
use Rattle.aq_store.specs.declared.node.Node.{Node}
use Rattle.aq_store.specs.declared.lsta.Lsta.{Lsta}
use Rattle.aq_store.specs.Levels.{levels_of}
use Rattle.aq_cert.specs.declared.cert.Rel.{Rel}
use Rattle.aq_cert.specs.declared.cert.Macro.{Macro}
use Rattle.aq_cert.specs.declared.cert.Edge.{Edge}
use Rattle.aq_cert.specs.declared.cert.End.{End}
use Rattle.aq_cert.specs.declared.cert.Cert.{Cert}
use Rattle.aq_cert.specs.Rows.{item_of, item_at, row_at}
use Rattle.aq_cert.specs.Goals.{goal_rest, levels_in}
use Rattle.aq_cert.specs.Macros.{IsEdge, IsEnd}
use Rattle.aq_cert.specs.Valid.{read_macro, left_level, goal_level, IsShaped, BeginsAtRoots, HasPlaces, HasEdges, HasEnds, IsValid}
use Rattle.aq_cert.specs.Placed.{IsAt, IsPairAt, IsPlacedRel, IsPlacedMacro, ArePlaced}
use Rattle.aq_cert.proofs.MemberLemmas.{same_item, item-within, item-some, row-within}
use Rattle.aq_cert.proofs.PlaceLemmas.{first-level}
use Rattle.aq_cert.proofs.ReadLemmas.{member-right, member-left, get-left, macro-read, row-left, row-right, rows-length}
use Rattle.aq_include.specs.declared.table.Table.{Table}
use Rattle.aq_include.specs.Good.{IsGood}
use Rattle.aq_include.specs.Least.{IsWholeRoot}
use Rattle.aq_include.specs.Search.{IsTable, IsGoodIn}

only-first : (x p y : ℕ) → slice_get (x ∷ []) p ≡ Some y → p ≡ 0
only-first x zero y e = refl
only-first x (suc p) y e = cc

of-row : {X : Type 0} (o : Option (List X)) (c : ℕ) (x : X) → item_of o c ≡ Some x → (xs : List X) × (o ≡ Some xs) × (slice_get xs c ≡ Some x)
of-row None c x e = cc
of-row (Some xs) c x e = (xs, refl, e)

module _ {L : Type 0} (parts : L → List Amplitude) (table : List (Node L)) where
  good-edges : (goals : List Lsta) (t : Table) (n : ℕ) (later : List ℕ) (k i : ℕ) (es : List Edge) → IsGoodIn parts table goals t (n ∷ later) k i → item_at t.edges.items k i ≡ Some es → length es ≡ n
  unfolding IsGood
  good-edges goals t n later k i es good here = ap (λ (l : List Edge). length l) (same_item _ es good.3.0 here good.3.1) ∙ good.3.2

  good-edge : (goals : List Lsta) (t : Table) (n : ℕ) (later : List ℕ) (k i c : ℕ) (m : Macro) (es : List Edge) (e : Edge) → IsGoodIn parts table goals t (n ∷ later) k i → item_at t.macros.items k i ≡ Some m
      → item_at t.edges.items k i ≡ Some es → slice_get es c ≡ Some e → (to : Macro) × (item_at t.macros.items (k + 1) e.to ≡ Some to) × IsEdge table c (goal_rest goals k) m to e.from
  unfolding IsGood
  good-edge goals t n later k i c m es e good at here listed =
      let same = same_item _ good.0 m good.1 at in
      let r = good.3.3 c e (subst (λ (l : List Edge). slice_get l c ≡ Some e) (same_item _ es good.3.0 here good.3.1) listed) in
      (r.0, r.1, subst (λ (z : Macro). IsEdge table c (goal_rest goals k) z r.0 e.from) same r.2)

  good-end : (goals : List Lsta) (t : Table) (sh : List ℕ) (k i : ℕ) (m : Macro) (e : End) → sh ≡ [] → IsGoodIn parts table goals t sh k i → item_at t.macros.items k i ≡ Some m → slice_get t.ends i ≡ Some e
      → IsEnd parts table m e
  unfolding IsGood
  good-end goals t [] k i m e none good at here =
      let same = same_item _ good.0 m good.1 at in
      let f = same_item _ good.3.0 e good.3.1 here in
      subst (λ (z : Macro). IsEnd parts table z e) same (subst (λ (z : End). IsEnd parts table good.0 z) f good.3.2.is_end)
  good-end goals t (n ∷ sh) k i m e none good at here = absurd (omega (arith, ap (λ (l : List ℕ). length l) none))

  module _ (left : Lsta) (goals : List Lsta) (root : Macro) (t : Table) (rows : List (List Macro)) (r : IsWholeRoot left goals root) (h : IsTable parts table left.shape.items goals t)
      (first : item_at t.macros.items 0 0 ≡ Some root) (p : ArePlaced table left goals t.macros.items rows) where
    abbrev shape : List ℕ
    shape = left.shape.items

    abbrev written : Cert
    written = record { macros = rows; edges = t.edges.items; ends = t.ends }

    abbrev IsPlacedHere : ℕ → Macro → Macro → Type 0
    IsPlacedHere k = IsPlacedMacro (length goals) (left_level table left goals k) (λ g. goal_level table left goals g k)

    abbrev IsRelHere : ℕ → Rel → Rel → Type 0
    IsRelHere k = IsPlacedRel (length goals) (left_level table left goals k) (λ g. goal_level table left goals g k)

    good-at : (k i n : ℕ) (m : Macro) → k < length shape → n ≡ get_or shape k 0 → item_at t.macros.items k i ≡ Some m → IsGoodIn parts table goals t (n ∷ drop (k + 1) shape) k i
    good-at k i n m less is here = subst (λ s. IsGoodIn parts table goals t s k i) (drop_more shape k 0 less ∙ ap (λ z. z ∷ drop (k + 1) shape) (sym is)) (h.good k i m here)

    is-shaped : IsShaped shape written
    is-shaped = record {
      macro_levels = p.levels ∙ h.even.rows;
      edge_levels = h.even.edge_rows;
      some = omega (arith, item-within t.macros.items 0 0 root first, rows-length table left goals t.macros.items rows 0 p);
      edge_lists = λ k less. sym (h.even.inner k less) ∙ sym (rows-length table left goals t.macros.items rows k p);
      choices = λ k i n es at here.
          let less = slice_get_within shape k n at in
          let m = item-some t.macros.items k i (omega (arith, item-within t.edges.items k i es here, h.even.inner k less)) in
          good-edges goals t n (drop (k + 1) shape) k i es (good-at k i n m.0 less (sym (get_or_from_slice_get shape k n 0 at)) m.1) here;
      ends = sym (rows-length table left goals t.macros.items rows (length shape) p ∙ h.even.last);
    }

    has-places : HasPlaces table left goals written
    has-places = record {
      domain = λ k i x n here listed.
          let m = row-left table left goals t.macros.items rows k i n p here in
          let y = member-left (IsAt (left_level table left goals k)) m.0.domain n.domain m.2.domain x listed in
          slice_get_within (left_level table left goals k) x y.0 y.2;
      goal = λ k i j n s here at.
          let m = row-left table left goals t.macros.items rows k i n p here in
          (get-left (IsRelHere k) m.0.rels n.rels j s m.2.rels at).2.there;
      pairs = λ k i j n s q here at listed.
          let m = row-left table left goals t.macros.items rows k i n p here in
          let o = get-left (IsRelHere k) m.0.rels n.rels j s m.2.rels at in
          let y = member-left (IsPairAt (left_level table left goals k) (goal_level table left goals s.goal k)) o.0.pairs s.pairs o.2.pairs q listed in
          (slice_get_within (left_level table left goals k) q.0 y.0.0 y.2.0, slice_get_within (goal_level table left goals s.goal k) q.1 y.0.1 y.2.1);
    }

    -- the root's place is 0
    root-only : (lsta : Lsta) (x y : ℕ) → slice_get (row_at (levels_of table lsta) 0) y ≡ Some x → y ≡ 0
    root-only lsta x y e = only-first lsta.root y x (subst (λ (l : List ℕ). slice_get l y ≡ Some x) (first-level table lsta.shape.items (lsta.root ∷ [])) e)

    at-roots : BeginsAtRoots written
    at-roots = record {
      domain = λ n here.
          let m = row-left table left goals t.macros.items rows 0 0 n p here in
          let same : root ≡ m.0 = same_item _ root m.0 first m.1 in
          let y = member-right (IsAt (left_level table left goals 0)) m.0.domain n.domain m.2.domain left.root (subst (λ (z : Macro). Contains z.domain left.root) same r.is_root.domain) in
          subst (λ z. Contains n.domain z) (root-only left left.root y.0 y.2) y.1;
      pairs = λ n j s here at.
          let m = row-left table left goals t.macros.items rows 0 0 n p here in
          let same : root ≡ m.0 = same_item _ root m.0 first m.1 in
          let o = get-left (IsRelHere 0) m.0.rels n.rels j s m.2.rels at in
          let g = r.is_root.pairs j o.0 (subst (λ (z : Macro). slice_get z.rels j ≡ Some o.0) (sym same) o.1) in
          let there : slice_get goals s.goal ≡ Some g.0 = ap (slice_get goals) o.2.same_goal ∙ g.1 in
          let y = member-right (IsPairAt (left_level table left goals 0) (goal_level table left goals s.goal 0)) o.0.pairs s.pairs o.2.pairs (left.root, g.0.root) g.2 in
          let a : y.0.0 ≡ 0 = root-only left left.root y.0.0 y.2.0 in
          let b : y.0.1 ≡ 0 = root-only g.0 g.0.root y.0.1 (subst (λ v. slice_get (row_at (levels_in table v) 0) y.0.1 ≡ Some g.0.root) there y.2.1) in
          subst (λ (z : ℕ × ℕ). Contains s.pairs z) (ap₂ (λ u v. (u, v)) a b) y.1;
    }

    has-edges : HasEdges table left goals written
    has-edges = record {
      each = λ k i c n e here listed.
          let m = row-left table left goals t.macros.items rows k i n p here in
          let es = of-row (item_at t.edges.items k i) c e listed in
          let less : k < length shape = omega (arith, row-within t.edges.items k i es.0 es.1, h.even.edge_rows) in
          let q = good-edge goals t (get_or shape k 0) (drop (k + 1) shape) k i c m.0 es.0 e (good-at k i (get_or shape k 0) m.0 less refl m.1) m.1 es.1 es.2 in
          let to = row-right table left goals t.macros.items rows (k + 1) e.to q.0 p q.1 in
          record {
            to = to.0;
            here = to.1;
            edge = subst (λ (z : Macro). IsEdge table c (goal_rest goals k) z (read_macro table left goals (k + 1) to.0) e.from) (sym (macro-read table left goals k m.0 n m.2))
                (subst (λ (z : Macro). IsEdge table c (goal_rest goals k) m.0 z e.from) (sym (macro-read table left goals (k + 1) q.0 to.0 to.2)) q.2);
          };
    }

    has-ends : HasEnds table left goals parts written
    has-ends = record {
      each = λ i n e here there.
          let m = row-left table left goals t.macros.items rows (length shape) i n p here in
          subst (λ (z : Macro). IsEnd parts table z e) (sym (macro-read table left goals (length shape) m.0 n m.2))
          (good-end goals t (drop (length shape) shape) (length shape) i m.0 e (drop_all (length shape) shape (omega arith)) (h.good (length shape) i m.0 m.1) m.1 there);
    }

    pub valid-written : IsValid parts table left goals written
    valid-written = record { shape = is-shaped; places = has-places; root = at-roots; edges = has-edges; ends = has-ends }
