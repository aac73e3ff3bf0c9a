-- The first word that a macro doesn't hold comes from that of the macro under its first choice.
use Rattle.std.proofs.Common.{◌≡◌, ℕ, ◌<◌, ◌⊎◌, inl, inr, List, [], ◌∷◌, length, slice_get, Some, Contains, sym, ap, subst, ◌∙◌}
use Rattle.std.proofs.lemmas.List.Elements.{Contains-append_left, Contains-append_right}
use Rattle.aq_ring.specs.Fractions.{Amplitude}
use Rattle.aq_ring.specs.Vectors.{IsZeroVector, scaled}
use Rattle.aq_store.specs.declared.node.Node.{Node}
use Rattle.aq_store.specs.declared.lsta.Lsta.{Lsta}
use Rattle.aq_store.specs.Nodes.{pairs_at}
use Rattle.aq_cert.specs.declared.cert.Macro.{Macro}
use Rattle.aq_store.specs.Words.{IsWord}
use Rattle.aq_cert.specs.Meaning.{IsBefore, amplitudes, IsMatched, IsLeastEscape}
use Rattle.aq_cert.specs.Goals.{goal_rest, rest_of}
use Rattle.aq_cert.specs.Macros.{IsOfLevel, IsEdge}
use Rattle.aq_cert.specs.Held.{IsHeldBy, IsHeld}
use Rattle.aq_cert.proofs.StepLemmas.{amplitudes-step}
use Rattle.aq_cert.proofs.HeldLemmas.{IsBelow, edge-holds}
use Rattle.aq_include.proofs.GoodLemmas.{root-matched}
use Rattle.aq_include.specs.Hopeless.{AreNull}
use Rattle.aq_include.specs.Steps.{IsBack, Keeps}
use Rattle.aq_include.specs.Least.{IsLeast, IsWideAt, IsWholeRoot}
use Rattle.aq_include.proofs.BackLemmas.{held-back}

module _ {L : Type 0} (parts : L → List Amplitude) (count : ℕ) (all_parts : (x : L) → length (parts x) ≡ count) (table : List (Node L)) where
  earlier-held : (c n : ℕ) (left : List ℕ) (rest below : ℕ → List ℕ) (m to : Macro) (from : List (ℕ × ℕ)) → c < n → IsBelow rest below
      → IsOfLevel table (n ∷ left) rest m → IsEdge table c rest m to from
      → ((d : ℕ) (word : List ℕ) → d < c → IsHeld parts table rest m (d ∷ word)) → (word : List ℕ) → IsLeast parts table left below to word
      → (earlier : List ℕ) → IsBefore earlier (c ∷ word) → IsHeld parts table rest m earlier
  unfolding IsBefore
  earlier-held c n left rest below m to from less under level e before word h [] b = absurd b
  earlier-held c n left rest below m to from less under level e before word h (d ∷ other) (inl b) = before d other b
  earlier-held c n left rest below m to from less under level e before word h (d ∷ other) (inr b) =
      subst (λ i. IsHeld parts table rest m (i ∷ other)) (sym b.0) (edge-holds parts table c n left rest below m to from less under level e other (h.least other b.1))

  pub least-step : (c n : ℕ) (left : List ℕ) (rest below : ℕ → List ℕ) (m to : Macro) (from : List (ℕ × ℕ)) → c < n → IsBelow rest below
      → IsOfLevel table (n ∷ left) rest m → IsEdge table c rest m to from → IsBack table c m to → AreNull parts table to.domain ⊎ Keeps parts table c left rest below m to
      → ((d : ℕ) (word : List ℕ) → d < c → IsHeld parts table rest m (d ∷ word)) → (word : List ℕ) → IsLeast parts table left below to word
      → IsLeast parts table (n ∷ left) rest m (c ∷ word)
  least-step c n left rest below m to from less under level e back keeps before word h = record {
    is_word = (less, h.is_word);
    escapes = λ held. h.escapes (held-back parts count all_parts table c n left rest below m to less under level back keeps word h.is_word held);
    least = earlier-held c n left rest below m to from less under level e before word h;
  }

  -- the first word that the roots don't hold is the least that escapes
  pub least-escape : (left : Lsta) (goals : List Lsta) (m : Macro) → IsWholeRoot left goals m → (word : List ℕ)
      → IsLeast parts table left.shape.items (goal_rest goals 0) m word → IsLeastEscape parts table left goals word
  least-escape left goals m root word h = record {
    is_word = h.is_word;
    escapes = record {
      nonzero = λ zero. h.escapes (inl (λ x listed. subst (λ i. IsZeroVector (amplitudes parts table word i)) (sym (root.only x listed)) zero));
      unmatched = λ k. h.escapes (inr (matched k));
    };
    least = λ earlier b k. k.unmatched (root-matched parts table left goals m root.is_root earlier (h.least earlier b) k.nonzero);
  }
    where
      matched : IsMatched parts table goals (amplitudes parts table word left.root) → IsHeldBy parts table (goal_rest goals 0) m word
      matched k =
          let r = root.each k.number k.goal k.listed in
          record {
            number = r.0;
            rel = r.1;
            here = r.2;
            other = k.word;
            is_word = subst (λ o. IsWord (rest_of o 0) k.word) (sym (ap (slice_get goals) r.3 ∙ k.listed)) k.is_word;
            related = record {
              left = k.proportional.left;
              right = k.proportional.right;
              left_nonzero = k.proportional.left_nonzero;
              right_nonzero = k.proportional.right_nonzero;
              same = λ p listed.
                  let o = root.only_roots r.0 r.1 p r.2 listed in
                  let g : o.0 ≡ k.goal = (let e : Some o.0 ≡ Some k.goal = sym o.1 ∙ ap (slice_get goals) r.3 ∙ k.listed in cc) in
                  let f : p ≡ (left.root, k.goal.root) = o.2 ∙ ap (λ (z : Lsta). (left.root, z.root)) g in
                  subst (λ (z : ℕ × ℕ). scaled k.proportional.left (amplitudes parts table word z.0) ≡ scaled k.proportional.right (amplitudes parts table k.word z.1)) (sym f) k.proportional.same;
            };
          }

module _ {L : Type 0} (parts : L → List Amplitude) (table : List (Node L)) where
  -- an entry at a child is one at the place
  entry-child : (c x y : ℕ) (p : ℕ × ℕ) (word : List ℕ) (a : Amplitude) → slice_get (pairs_at table x) c ≡ Some p → (y ≡ p.0) ⊎ (y ≡ p.1)
      → Contains (amplitudes parts table word y) a → Contains (amplitudes parts table (c ∷ word) x) a
  entry-child c x y p word a here (inl e) k =
      subst (λ v. Contains v a) (sym (amplitudes-step parts table c x p word here))
      (Contains-append_left _ (amplitudes parts table word p.1) a (subst (λ i. Contains (amplitudes parts table word i) a) e k))
  entry-child c x y p word a here (inr e) k =
      subst (λ v. Contains v a) (sym (amplitudes-step parts table c x p word here))
      (Contains-append_right (amplitudes parts table word p.0) _ a (subst (λ i. Contains (amplitudes parts table word i) a) e k))

  firsts : (q : ℕ × ℕ) (l r : ℕ × ℕ) → (q ≡ (l.0, r.0)) ⊎ (q ≡ (l.1, r.1)) → (q.0 ≡ l.0) ⊎ (q.0 ≡ l.1)
  firsts q l r (inl e) = inl (ap (λ (z : ℕ × ℕ). z.0) e)
  firsts q l r (inr e) = inr (ap (λ (z : ℕ × ℕ). z.0) e)

  seconds : (q : ℕ × ℕ) (l r : ℕ × ℕ) → (q ≡ (l.0, r.0)) ⊎ (q ≡ (l.1, r.1)) → (q.1 ≡ r.0) ⊎ (q.1 ≡ r.1)
  seconds q l r (inl e) = inl (ap (λ (z : ℕ × ℕ). z.1) e)
  seconds q l r (inr e) = inr (ap (λ (z : ℕ × ℕ). z.1) e)

  -- what doesn't fit below a macro doesn't fit at it
  pub wide-step : (c : ℕ) (rest : ℕ → List ℕ) (m to : Macro) (l r : Amplitude) → IsBack table c m to → IsWideAt parts table to l r → IsWideAt parts table m l r
  wide-step c rest m to l r back w =
      let s = back.sources w.number w.rel w.here in
      let a = s.is.only w.left_pair w.left_listed in
      let b = s.is.only w.right_pair w.right_listed in
      record {
        number = s.number;
        rel = s.rel;
        here = s.here;
        word = c ∷ w.word;
        other = s.choice ∷ w.other;
        left_pair = a.parent;
        right_pair = b.parent;
        left_listed = a.listed;
        right_listed = b.listed;
        left = entry-child c a.parent.0 w.left_pair.0 a.left w.word l a.left_here (firsts w.left_pair a.left a.right a.is) w.left;
        right = entry-child s.choice b.parent.1 w.right_pair.1 b.right w.other r b.right_here (seconds w.right_pair b.left b.right b.is) w.right;
        unfit = w.unfit;
      }
