-- The table of good macros grows.
use Rattle.std.proofs.Common.{◌≡◌, ◌≢◌, ℕ, ◌+◌, ◌<◌, ◌≤◌, ◌⊎◌, inl, inr, List, [], ◌∷◌, ◌++◌, length, drop, slice_get, get_or, Some, sym, ap, subst, ◌∙◌, arith}
use Rattle.std.proofs.lemmas.List.{drop_more, drop_all}
use Rattle.std.proofs.lemmas.Bool.{cases_lt}
use Rattle.aq_ring.specs.Fractions.{Amplitude}
use Rattle.aq_store.specs.declared.node.Node.{Node}
use Rattle.aq_store.specs.declared.lsta.Lsta.{Lsta}
use Rattle.aq_store.proofs.TableLemmas.{slice_get-push}
use Rattle.aq_cert.specs.declared.cert.Macro.{Macro}
use Rattle.aq_cert.specs.declared.cert.Edge.{Edge}
use Rattle.aq_cert.specs.declared.cert.End.{End}
use Rattle.aq_cert.specs.Rows.{item_at}
use Rattle.aq_cert.specs.Goals.{goal_rest}
use Rattle.aq_cert.specs.Macros.{IsOfLevel, IsEdge}
use Rattle.aq_include.specs.Good.{IsGoodEnd, IsGood}
use Rattle.aq_cert.specs.Held.{IsHeld}
use Rattle.aq_cert.proofs.HeldLemmas.{goals_below, edge-holds}
use Rattle.aq_include.proofs.GoodLemmas.{good-holds}
use Rattle.aq_include.specs.declared.table.Table.{Table}
use Rattle.aq_include.specs.Tables.{RowsExtend, IsPushed}
use Rattle.aq_cert.specs.Rows.{row_length, row_of}
use Rattle.aq_include.specs.Search.{TableExtends, IsGoodIn, IsTable, IsReached, Leads, IsFollowed}
use Rattle.aq_include.proofs.CandidateLemmas.{get-front, get-last}

module _ {X : Type 0} where
  pub rows-refl : (xs : List (List X)) → RowsExtend xs xs
  rows-refl xs = record { keeps = λ k i x e. e }

  pub rows-trans : (a b c : List (List X)) → RowsExtend a b → RowsExtend b c → RowsExtend a c
  rows-trans a b c f g = record { keeps = λ k i x e. g.keeps k i x (f.keeps k i x e) }

pub extends-refl : (t : Table) → TableExtends t t
extends-refl t = record { macros = rows-refl _; edges = rows-refl _; ends = λ i e h. h }

pub extends-trans : (a b c : Table) → TableExtends a b → TableExtends b c → TableExtends a c
extends-trans a b c f g = record { macros = rows-trans _ _ _ f.macros g.macros; edges = rows-trans _ _ _ f.edges g.edges; ends = λ i e h. g.ends i e (f.ends i e h) }

module _ {L : Type 0} (parts : L → List Amplitude) (table : List (Node L)) where
  -- a good macro stays good
  pub good-extends : (goals : List Lsta) (old new : Table) → TableExtends old new → (shape : List ℕ) (k i : ℕ) → IsGoodIn parts table goals old shape k i → IsGoodIn parts table goals new shape k i
  unfolding IsGood
  good-extends goals old new x [] k i h = (h.0, x.macros.keeps k i h.0 h.1, h.2, (h.3.0, x.ends i h.3.0 h.3.1, h.3.2))
  good-extends goals old new x (n ∷ shape) k i h = (
    h.0,
    x.macros.keeps k i h.0 h.1,
    h.2,
    (
      h.3.0,
      x.edges.keeps k i h.3.0 h.3.1,
      h.3.2,
      λ c e listed. (let t = h.3.3 c e listed in (t.0, x.macros.keeps (k + 1) e.to t.0 t.1, t.2, good-extends goals old new x shape (k + 1) e.to t.3)),
    ),
  )

  pub leads-extends : (shape : List ℕ) (goals : List Lsta) (level c : ℕ) (m : Macro) (old new : Table) (e : Edge) → TableExtends old new
      → Leads table shape goals level c m old e → Leads table shape goals level c m new e
  leads-extends shape goals level c m old new e x h = record { to = h.to; here = x.macros.keeps (level + 1) e.to h.to h.here; edge = h.edge }

  -- one edge more
  pub leads-push : (shape : List ℕ) (goals : List Lsta) (level done : ℕ) (m : Macro) (old new : Table) (edges more : List Edge) (edge : Edge) → length edges ≡ done → more ≡ edges ++ edge ∷ [] → TableExtends old new
      → ((c : ℕ) (e : Edge) → slice_get edges c ≡ Some e → Leads table shape goals level c m old e) → Leads table shape goals level done m new edge
      → (c : ℕ) (e : Edge) → slice_get more c ≡ Some e → Leads table shape goals level c m new e
  leads-push shape goals level done m old new edges more edge count is x before last c e here =
      elim (slice_get-push edges edge c e (subst (λ (l : List Edge). slice_get l c ≡ Some e) is here)) [
        | inl k ↦ leads-extends shape goals level c m old new e x (before c e k)
        | inr k ↦ subst (λ z. Leads table shape goals level z m new e) (sym (k.0 ∙ count)) (subst (λ z. Leads table shape goals level done m new z) k.1 last)
      ]

  -- a choice with an edge holds each word
  pub leads-holds : (shape : List ℕ) (goals : List Lsta) (level c n : ℕ) (left : List ℕ) (m : Macro) (t : Table) (e : Edge) → drop level shape ≡ n ∷ left → c < n
      → IsOfLevel table (n ∷ left) (goal_rest goals level) m → IsTable parts table shape goals t → Leads table shape goals level c m t e
      → (word : List ℕ) → IsHeld parts table (goal_rest goals level) m (c ∷ word)
  leads-holds shape goals level c n left m t e is less h k l word =
      edge-holds parts table c n left (goal_rest goals level) (goal_rest goals (level + 1)) m l.to e.from less (goals_below goals level) h l.edge word
      (good-holds parts table goals t.macros.items t.edges.items t.ends (drop (level + 1) shape) (level + 1) e.to l.to (k.good (level + 1) e.to l.to l.here) l.here word)

  -- the new macro of an inner level
  new-good : (shape : List ℕ) (goals : List Lsta) (level i n : ℕ) (m : Macro) (es : List Edge) (old new : Table) → TableExtends old new → IsTable parts table shape goals old
      → drop level shape ≡ n ∷ drop (level + 1) shape → IsOfLevel table (drop level shape) (goal_rest goals level) m
      → item_at new.macros.items level i ≡ Some m → item_at new.edges.items level i ≡ Some es → length es ≡ n
      → ((c : ℕ) (e : Edge) → slice_get es c ≡ Some e → Leads table shape goals level c m old e)
      → IsGoodIn parts table goals new (drop level shape) level i
  unfolding IsGood
  new-good shape goals level i n m es old new x k is h here there count leads =
      subst (λ s. IsGoodIn parts table goals new s level i) (sym is) (
        m,
        here,
        subst (λ s. IsOfLevel table s (goal_rest goals level) m) is h,
        (
          es,
          there,
          count,
          λ c e listed. (let l = leads c e listed in
              (l.to, x.macros.keeps (level + 1) e.to l.to l.here, l.edge, good-extends goals old new x (drop (level + 1) shape) (level + 1) e.to (k.good (level + 1) e.to l.to l.here))),
        ),
      )

  new-end : (shape : List ℕ) (goals : List Lsta) (level i : ℕ) (m : Macro) (e : End) (new : Table) → drop level shape ≡ [] → IsOfLevel table (drop level shape) (goal_rest goals level) m
      → item_at new.macros.items level i ≡ Some m → slice_get new.ends i ≡ Some e → IsGoodEnd parts table (goal_rest goals level) m e → IsGoodIn parts table goals new (drop level shape) level i
  unfolding IsGood
  new-end shape goals level i m e new is h here there ends =
      subst (λ s. IsGoodIn parts table goals new s level i) (sym is) (m, here, subst (λ s. IsOfLevel table s (goal_rest goals level) m) is h, (e, there, ends))

  -- one macro more on an inner level
  pub table-add : (shape : List ℕ) (goals : List Lsta) (level i j n : ℕ) (m : Macro) (es : List Edge) (old new : Table) → level < length shape → IsTable parts table shape goals old
      → IsOfLevel table (drop level shape) (goal_rest goals level) m → n ≡ get_or shape level 0 → length es ≡ n
      → ((c : ℕ) (e : Edge) → slice_get es c ≡ Some e → Leads table shape goals level c m old e)
      → IsPushed level m i old.macros.items new.macros.items → IsPushed level es j old.edges.items new.edges.items → new.ends ≡ old.ends
      → IsReached parts table shape goals level m old new i
  table-add shape goals level i j n m es old new less k h is count leads p q ends =
      let extends : TableExtends old new = record { macros = p.keeps; edges = q.keeps; ends = λ a e here. subst (λ (l : List End). slice_get l a ≡ Some e) (sym ends) here } in
      let split : drop level shape ≡ n ∷ drop (level + 1) shape = drop_more shape level 0 less ∙ ap (λ z. z ∷ drop (level + 1) shape) (sym is) in
      let place : i ≡ j = p.place ∙ k.even.inner level less ∙ sym q.place in
      let there : item_at new.edges.items level i ≡ Some es = ap (item_at new.edges.items level) place ∙ q.here in
      let fresh = new-good shape goals level i n m es old new extends k split h p.here there count leads in
      record {
        here = p.here;
        keeps = extends;
        upper = λ a less. p.others a (λ e. absurd (omega (arith, e, less)));
        fresh = inr p.place;
        grown = record {
          even = record {
            rows = p.rows ∙ k.even.rows;
            edge_rows = q.rows ∙ k.even.edge_rows;
            inner = λ a inside. elim (same_or a level) [
              | inl e ↦ (let x : row_length new.macros.items a ≡ i + 1 = ap (row_length new.macros.items) e ∙ p.longer in
                  let y : row_length new.edges.items a ≡ j + 1 = ap (row_length new.edges.items) e ∙ q.longer in
                  x ∙ ap (λ z. z + 1) place ∙ sym y)
              | inr o ↦ ap row_of (p.others a o) ∙ k.even.inner a inside ∙ sym (ap row_of (q.others a o))
            ];
            last = ap row_of (p.others (length shape) (λ e. absurd (omega (arith, e)))) ∙ k.even.last ∙ ap (λ (l : List End). length l) (sym ends);
          };
          good = λ a b x here. elim (p.only a b x here) [
            | inl before ↦ good-extends goals old new extends (drop a shape) a b (k.good a b x before)
            | inr now ↦ subst (λ z. IsGoodIn parts table goals new (drop z shape) z b) (sym now.0) (subst (λ z. IsGoodIn parts table goals new (drop level shape) level z) (sym now.1) fresh)
          ];
        };
      }
    where
      same_or : (a b : ℕ) → (a ≡ b) ⊎ (a ≢ b)
      same_or a b = elim (cases_lt a b) [
        | inl l ↦ inr (λ e. absurd (omega (arith, e)))
        | inr g ↦ elim (cases_lt b a) [ inl l ↦ inr (λ e. absurd (omega (arith, e))) | inr h ↦ inl (omega arith) ]
      ]

  -- one macro more on the last level
  pub table-end : (shape : List ℕ) (goals : List Lsta) (level i : ℕ) (m : Macro) (end' : End) (old new : Table) → level ≡ length shape → IsTable parts table shape goals old
      → IsOfLevel table (drop level shape) (goal_rest goals level) m → IsGoodEnd parts table (goal_rest goals level) m end'
      → IsPushed level m i old.macros.items new.macros.items → new.edges ≡ old.edges → new.ends ≡ old.ends ++ end' ∷ []
      → IsReached parts table shape goals level m old new i
  table-end shape goals level i m end' old new at k h is p edges ends =
      let extends : TableExtends old new = record {
        macros = p.keeps;
        edges = record { keeps = λ a b x here. ap (λ v. item_at v.items a b) edges ∙ here };
        ends = λ a e here. subst (λ (l : List End). slice_get l a ≡ Some e) (sym ends) (get-front old.ends (end' ∷ []) a e here);
      } in
      let place : i ≡ length old.ends = p.place ∙ ap (row_length old.macros.items) at ∙ k.even.last in
      let there : slice_get new.ends i ≡ Some end' = subst (λ (l : List End). slice_get l i ≡ Some end') (sym ends) (ap (slice_get (old.ends ++ end' ∷ [])) place ∙ get-last old.ends end') in
      let fresh = new-end shape goals level i m end' new (drop_all level shape (omega (arith, at))) h p.here there is in
      record {
        here = p.here;
        keeps = extends;
        upper = λ a less. p.others a (λ e. absurd (omega (arith, e, less)));
        fresh = inr p.place;
        grown = record {
          even = record {
            rows = p.rows ∙ k.even.rows;
            edge_rows = ap (λ v. length v.items) edges ∙ k.even.edge_rows;
            inner = λ a inside. ap row_of (p.others a (λ e. absurd (omega (arith, e, at)))) ∙ k.even.inner a inside ∙ sym (ap (λ v. row_length v.items a) edges);
            last = ap (row_length new.macros.items) (sym at) ∙ p.longer ∙ ap (λ z. z + 1) place ∙ sym (ap (λ (l : List End). length l) ends ∙ length-one old.ends end');
          };
          good = λ a b x here. elim (p.only a b x here) [
            | inl before ↦ good-extends goals old new extends (drop a shape) a b (k.good a b x before)
            | inr now ↦ subst (λ z. IsGoodIn parts table goals new (drop z shape) z b) (sym now.0) (subst (λ z. IsGoodIn parts table goals new (drop level shape) level z) (sym now.1) fresh)
          ];
        };
      }
    where
      length-one : (xs : List End) (e : End) → length (xs ++ e ∷ []) ≡ length xs + 1
      length-one [] e = omega arith
      length-one (x ∷ xs) e = omega (arith, length-one xs e)

module _ {L : Type 0} (parts : L → List Amplitude) (table : List (Node L)) where
  pub reached-from : (shape : List ℕ) (goals : List Lsta) (level : ℕ) (m : Macro) (first old new : Table) (i : ℕ) → TableExtends first old
      → ((k : ℕ) → k ≤ level → slice_get old.macros.items k ≡ slice_get first.macros.items k) → i ≡ row_length old.macros.items level
      → IsReached parts table shape goals level m old new i → IsReached parts table shape goals level m first new i
  reached-from shape goals level m first old new i x up place h = record {
    here = h.here;
    grown = h.grown;
    keeps = extends-trans first old new x h.keeps;
    upper = λ k less. h.upper k less ∙ up k (omega arith);
    fresh = inr (place ∙ ap row_of (up level (omega arith)));
  }

  pub followed : (shape : List ℕ) (goals : List Lsta) (level c : ℕ) (m to : Macro) (old new : Table) (i : ℕ) (from : List (ℕ × ℕ)) → IsReached parts table shape goals (level + 1) to old new i
      → IsEdge table c (goal_rest goals level) m to from → IsFollowed parts table shape goals level c m old new (record { to = i; from = from })
  followed shape goals level c m to old new i from h e = record {
    leads = record { to = to; here = h.here; edge = e };
    grown = h.grown;
    keeps = h.keeps;
    upper = λ k less. h.upper k (omega arith);
  }
