-- Lists of pairs of leaves grow, and what was built stays.
use Rattle.std.proofs.Common.{◌≡◌, ℕ, zero, suc, inl, inr, List, [], ◌∷◌, ◌++◌, length, slice_get, Some, sym, subst, ◌∙◌}
use Rattle.aq_store.specs.declared.node.Node.{Node}
use Rattle.aq_store.specs.declared.lsta.Lsta.{Lsta}
use Rattle.aq_store.specs.Nodes.{EachPair, Extends, HasShape, FitsStore}
use Rattle.aq_cert.specs.Goals.{FitTogether}
use Rattle.aq_store.proofs.ShapeLemmas.{EachPair-none, EachPair-more}
use Rattle.aq_store.proofs.TableLemmas.{slice_get-push, EachPair-map, HasShape-Extends}

each-push : (P : ℕ → Type 0) (ps new : List (ℕ × ℕ)) (a b : ℕ) → EachPair P ps → P a → P b → new ≡ ps ++ (a, b) ∷ [] → EachPair P new
each-push P ps new a b h x y is = record {
  left = λ c p e. elim (slice_get-push ps (a, b) c p (subst (λ (l : List (ℕ × ℕ)). slice_get l c ≡ Some p) is e)) [ inl k ↦ h.left c p k | inr k ↦ subst (λ (z : ℕ × ℕ). P z.0) k.1 x ];
  right = λ c p e. elim (slice_get-push ps (a, b) c p (subst (λ (l : List (ℕ × ℕ)). slice_get l c ≡ Some p) is e)) [ inl k ↦ h.right c p k | inr k ↦ subst (λ (z : ℕ × ℕ). P z.1) k.1 y ];
}

module _ {L : Type 0} where
  pub extends-then : (a b c : List (Node L)) → Extends a b → Extends b c → Extends a c
  extends-then a b c f g = record { keeps = λ id node e. g.keeps id node (f.keeps id node e) }

  -- a pair of leaves more, in a table that has grown
  pub leaves-push : (old new : List (Node L)) (ps more : List (ℕ × ℕ)) (a b : ℕ) → Extends old new → EachPair (HasShape old []) ps → HasShape new [] a → HasShape new [] b → more ≡ ps ++ (a, b) ∷ []
      → EachPair (HasShape new []) more
  leaves-push old new ps more a b keeps h x y is =
      each-push (HasShape new []) ps more a b (EachPair-map (HasShape old []) (HasShape new []) ps (λ i k. HasShape-Extends old new keeps [] i k) h) x y is

  -- the roots of two automata with one choice
  pub two-roots : (a b : List (Node L)) (left right : Lsta) (ps : List (ℕ × ℕ)) → FitsStore a left → Extends a b → FitsStore b right → left.shape.items ≡ 1 ∷ [] → right.shape.items ≡ 1 ∷ []
      → ps ≡ (left.root, right.root) ∷ [] → EachPair (HasShape b (1 ∷ [])) ps
  two-roots a b left right ps l e r one two is =
      let first : HasShape a (1 ∷ []) left.root = subst (λ s. HasShape a s left.root) one l in
      let second : HasShape b (1 ∷ []) right.root = subst (λ s. HasShape b s right.root) two r in
      subst (EachPair (HasShape b (1 ∷ []))) (sym is)
      (EachPair-more (HasShape b (1 ∷ [])) left.root right.root [] (HasShape-Extends a b e (1 ∷ []) left.root first) second (EachPair-none (HasShape b (1 ∷ []))))

  -- two automata of two levels, made one after the other
  pub fit-one : (a t : List (Node L)) (left goal : Lsta) (goals : List Lsta) → FitsStore a left → Extends a t → FitsStore t goal
      → length left.shape.items ≡ 2 → length goal.shape.items ≡ 2 → goals ≡ goal ∷ [] → FitTogether t left goals
  fit-one a t left goal goals l e g one two is = subst (FitTogether t left) (sym is) (record {
    left_fits = HasShape-Extends a t e left.shape.items left.root l;
    goals_fit = fits;
    one_length = lengths;
  })
    where
      fits : (k : ℕ) (other : Lsta) → slice_get (goal ∷ []) k ≡ Some other → FitsStore t other
      fits zero other e = (let same : goal ≡ other = cc in subst (FitsStore t) same g)
      fits (suc k) other e = cc

      lengths : (k : ℕ) (other : Lsta) → slice_get (goal ∷ []) k ≡ Some other → length other.shape.items ≡ length left.shape.items
      lengths zero other e = (let same : goal ≡ other = cc in subst (λ (z : Lsta). length z.shape.items ≡ length left.shape.items) same (two ∙ sym one))
      lengths (suc k) other e = cc

  -- three automata of one level, made one after the other
  pub fit-two : (a b t : List (Node L)) (left first second : Lsta) (goals : List Lsta) → FitsStore a left → Extends a b → FitsStore b first → Extends b t → FitsStore t second
      → length left.shape.items ≡ 1 → length first.shape.items ≡ 1 → length second.shape.items ≡ 1 → goals ≡ first ∷ second ∷ [] → FitTogether t left goals
  fit-two a b t left first second goals l f m g s one two three is = subst (FitTogether t left) (sym is) (record {
    left_fits = HasShape-Extends b t g left.shape.items left.root (HasShape-Extends a b f left.shape.items left.root l);
    goals_fit = fits;
    one_length = lengths;
  })
    where
      fits : (k : ℕ) (goal : Lsta) → slice_get (first ∷ second ∷ []) k ≡ Some goal → FitsStore t goal
      fits zero goal e = (let same : first ≡ goal = cc in subst (FitsStore t) same (HasShape-Extends b t g first.shape.items first.root m))
      fits (suc zero) goal e = (let same : second ≡ goal = cc in subst (FitsStore t) same s)
      fits (suc (suc k)) goal e = cc

      lengths : (k : ℕ) (goal : Lsta) → slice_get (first ∷ second ∷ []) k ≡ Some goal → length goal.shape.items ≡ length left.shape.items
      lengths zero goal e = (let same : first ≡ goal = cc in subst (λ (z : Lsta). length z.shape.items ≡ length left.shape.items) same (two ∙ sym one))
      lengths (suc zero) goal e = (let same : second ≡ goal = cc in subst (λ (z : Lsta). length z.shape.items ≡ length left.shape.items) same (three ∙ sym one))
      lengths (suc (suc k)) goal e = cc
