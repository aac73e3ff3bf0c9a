-- What holds of the macro that an edge leads to holds of the one that it leaves.
use Rattle.std.proofs.Common.{◌≡◌, ℕ, ◌+◌, ◌<◌, inl, inr, List, [], ◌∷◌, ◌++◌, length, drop, slice_get, Option, Some, None, Contains, refl, sym, ap, ap₂, subst, ◌∙◌, arith}
use Rattle.std.proofs.lemmas.List.{drop-drop}
use Rattle.aq_ring.specs.Fractions.{Amplitude}
use Rattle.aq_ring.specs.Vectors.{IsZeroVector, scaled}
use Rattle.aq_store.specs.declared.node.Node.{Node}
use Rattle.aq_store.specs.declared.lsta.Lsta.{Lsta}
use Rattle.aq_store.specs.Nodes.{HasShape, IsLeaf}
use Rattle.aq_store.specs.Words.{IsWord}
use Rattle.aq_store.proofs.TableLemmas.{slice_get-some}
use Rattle.std.proofs.lemmas.Option.{slice_get_within}
use Rattle.aq_cert.specs.declared.cert.Rel.{Rel}
use Rattle.aq_cert.specs.declared.cert.Macro.{Macro}
use Rattle.aq_cert.specs.declared.cert.End.{End}
use Rattle.aq_cert.specs.declared.cert.End.TheVariants as «end»
use Rattle.aq_cert.specs.Meaning.{amplitudes}
use Rattle.aq_cert.specs.Goals.{rest_of, goal_rest}
use Rattle.aq_cert.specs.Macros.{IsOfLevel, IsStepOf, IsEdge, IsRelated, IsEnd}
use Rattle.aq_cert.specs.Held.{IsHeld}
use Rattle.aq_cert.proofs.StepLemmas.{zero-append, scaled-append, children, amplitudes-step}
use Rattle.aq_cert.proofs.AlikeLemmas.{alike-related}

-- what is left of the goals' shapes one level below
pub record IsBelow (rest below : ℕ → List ℕ) : Type 0 where
  pub later : (g n : ℕ) (shape : List ℕ) → rest g ≡ n ∷ shape → below g ≡ shape

pub drop-next : (xs : List ℕ) (k n : ℕ) (ys : List ℕ) → drop k xs ≡ n ∷ ys → drop (k + 1) xs ≡ ys
drop-next xs k n ys e = sym (drop-drop 1 k xs) ∙ ap (drop 1) e

pub goals_below : (goals : List Lsta) (k : ℕ) → IsBelow (goal_rest goals k) (goal_rest goals (k + 1))
goals_below goals k = record { later = λ g n shape e. at (slice_get goals g) n shape e }
  where
    at : (o : Option Lsta) (n : ℕ) (shape : List ℕ) → rest_of o k ≡ n ∷ shape → rest_of o (k + 1) ≡ shape
    at None n shape e = cc
    at (Some goal) n shape e = drop-next goal.shape.items k n shape e

module _ {L : Type 0} (parts : L → List Amplitude) (table : List (Node L)) where
  -- what holds of the macro that an edge leads to holds of the one that it leaves
  step-related : (c n : ℕ) (left : List ℕ) (rest : ℕ → List ℕ) (m : Macro) (s : ℕ × ℕ) (to : Rel) (word other : List ℕ) → c < n
      → IsOfLevel table (n ∷ left) rest m → (st : IsStepOf table c rest m.rels s to) → IsRelated parts table to.pairs word other
      → IsRelated parts table st.source.pairs (c ∷ word) (s.1 ∷ other)
  step-related c n left rest m s to word other less level st r = record {
    left = r.left;
    right = r.right;
    left_nonzero = r.left_nonzero;
    right_nonzero = r.right_nonzero;
    same = λ p listed.
        let shapes = level.pairs s.0 st.source p st.here listed in
        let a = children table n left c p.0 shapes.0 less in
        let b = children table st.choices st.later s.1 p.1 (subst (λ sh. HasShape table sh p.1) st.shape shapes.1) st.choice in
        let both = st.pairs p a.0 b.0 listed a.1.here b.1.here in
        ap (scaled r.left) (amplitudes-step parts table c p.0 a.0 word a.1.here)
        ∙ scaled-append r.left (amplitudes parts table word a.0.0) (amplitudes parts table word a.0.1)
        ∙ ap₂ (λ u v. u ++ v) (r.same (a.0.0, b.0.0) both.0) (r.same (a.0.1, b.0.1) both.1)
        ∙ sym (scaled-append r.right (amplitudes parts table other b.0.0) (amplitudes parts table other b.0.1))
        ∙ sym (ap (scaled r.right) (amplitudes-step parts table s.1 p.1 b.0 other b.1.here));
  }

  pub edge-holds : (c n : ℕ) (left : List ℕ) (rest below : ℕ → List ℕ) (m to : Macro) (from : List (ℕ × ℕ)) → c < n → IsBelow rest below
      → IsOfLevel table (n ∷ left) rest m → IsEdge table c rest m to from → (word : List ℕ)
      → IsHeld parts table below to word → IsHeld parts table rest m (c ∷ word)
  edge-holds c n left rest below m to from less under level e word (inl zero) =
      inl (λ x listed.
      let a = children table n left c x (level.domain x listed) less in
      let both = e.domain x a.0 listed a.1.here in
      subst IsZeroVector (sym (amplitudes-step parts table c x a.0 word a.1.here)) (zero-append _ _ (zero a.0.0 both.0) (zero a.0.1 both.1)))
  edge-holds c n left rest below m to from less under level e word (inr h) =
      let s = slice_get-some from h.number (omega (arith, e.one_each, slice_get_within to.rels h.number h.rel h.here)) in
      let st = e.steps h.number s.0 h.rel s.1 h.here in
      let fits : IsWord (st.choices ∷ st.later) (s.0.1 ∷ h.other) =
      (st.choice, subst (λ sh. IsWord sh h.other) (ap below (sym st.same_goal) ∙ under.later st.source.goal st.choices st.later st.shape) h.is_word) in
      inr (record {
        number = s.0.0;
        rel = st.source;
        here = st.here;
        other = s.0.1 ∷ h.other;
        is_word = subst (λ sh. IsWord sh (s.0.1 ∷ h.other)) (sym st.shape) fits;
        related = step-related c n left rest m s.0 h.rel word h.other less level st h.related;
      })

  ended : (xs : List ℕ) → length xs ≡ 0 → xs ≡ []
  ended [] e = refl
  ended (x ∷ xs) e = absurd (omega arith)

  pub leaf-of : (x : ℕ) → HasShape table [] x → IsLeaf table x
  unfolding HasShape
  leaf-of x h = h

  leaves-of : (x y : ℕ) (sh : List ℕ) → sh ≡ [] → HasShape table [] x × HasShape table sh y → IsLeaf table x × IsLeaf table y
  leaves-of x y sh e h = (leaf-of x h.0, leaf-of y (subst (λ (z : List ℕ). HasShape table z y) e h.1))

  -- the pairs of a macro of the last level are leaves
  pub end-leaves : (rest : ℕ → List ℕ) (m : Macro) → IsOfLevel table [] rest m → (k : ℕ) (rel : Rel) → slice_get m.rels k ≡ Some rel → (p : ℕ × ℕ) → Contains rel.pairs p
      → IsLeaf table p.0 × IsLeaf table p.1
  end-leaves rest m level k rel here p listed = leaves-of p.0 p.1 (rest rel.goal) (ended (rest rel.goal) (level.deep k rel here)) (level.pairs k rel p here listed)

  pub end-holds : (count : ℕ) → ((x : L) → length (parts x) ≡ count) → (rest : ℕ → List ℕ) (m : Macro) → IsOfLevel table [] rest m → (e : End) → IsEnd parts table m e → IsHeld parts table rest m []
  end-holds count all_parts rest m level («end».Zero) h = inl h
  end-holds count all_parts rest m level («end».Rel r) h = inr (record {
    number = r;
    rel = h.0;
    here = h.1;
    other = [];
    is_word = subst (λ sh. IsWord sh []) (sym (ended (rest h.0.goal) (level.deep r h.0 h.1))) (let ok : IsWord [] [] = tt in ok);
    related = alike-related parts table count all_parts h.0.pairs (end-leaves rest m level r h.0 h.1) h.2;
  })
