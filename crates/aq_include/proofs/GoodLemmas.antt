-- A good macro holds every word, so a table of good macros shows inclusion.
use Rattle.std.proofs.Common.{◌≡◌, ℕ, ◌+◌, inl, inr, List, [], ◌∷◌, Some, Contains, sym, subst, arith}
use Rattle.std.proofs.lemmas.Bool.{cases_lt}
use Rattle.aq_ring.specs.Fractions.{Amplitude}
use Rattle.aq_ring.specs.Vectors.{IsZeroVector}
use Rattle.aq_store.specs.declared.node.Node.{Node}
use Rattle.aq_store.specs.declared.lsta.Lsta.{Lsta}
use Rattle.aq_store.specs.Words.{IsWord}
use Rattle.aq_store.proofs.TableLemmas.{slice_get-some}
use Rattle.aq_cert.specs.declared.cert.Macro.{Macro}
use Rattle.aq_cert.specs.declared.cert.Edge.{Edge}
use Rattle.aq_cert.specs.declared.cert.End.{End}
use Rattle.aq_cert.specs.Meaning.{amplitudes, IsMatched}
use Rattle.aq_cert.specs.Rows.{item_at}
use Rattle.aq_cert.specs.Goals.{rest_of, goal_rest}
use Rattle.aq_cert.specs.Held.{IsHeld}
use Rattle.aq_cert.proofs.MemberLemmas.{same_item}
use Rattle.aq_cert.proofs.StepLemmas.{amplitudes-past, amplitudes-long, amplitudes-short, zero-none}
use Rattle.aq_cert.proofs.HeldLemmas.{goals_below, edge-holds}
use Rattle.aq_include.specs.Good.{IsRoot, IsGood}

module _ {L : Type 0} (parts : L → List Amplitude) (table : List (Node L)) where
  pub good-holds : (goals : List Lsta) (macros : List (List Macro)) (edges : List (List (List Edge))) (ends : List End) (shape : List ℕ) (k i : ℕ) (m : Macro)
      → IsGood parts table goals macros edges ends shape k i → item_at macros k i ≡ Some m
      → (word : List ℕ) → IsHeld parts table (goal_rest goals k) m word
  unfolding IsGood
  good-holds goals macros edges ends [] k i m good here [] =
      let e = same_item _ good.0 m good.1 here in
      subst (λ q. IsHeld parts table (goal_rest goals k) q []) e good.3.2.holds
  good-holds goals macros edges ends [] k i m good here (c ∷ word) =
      let e = same_item _ good.0 m good.1 here in
      inl (λ x listed. zero-none parts table x (c ∷ word) (amplitudes-long parts table c x word (good.2.domain x (subst (λ q. Contains q.domain x) (sym e) listed))))
  good-holds goals macros edges ends (n ∷ shape) k i m good here [] =
      let e = same_item _ good.0 m good.1 here in
      inl (λ x listed. zero-none parts table x [] (amplitudes-short parts table n x shape (good.2.domain x (subst (λ q. Contains q.domain x) (sym e) listed))))
  good-holds goals macros edges ends (n ∷ shape) k i m good here (c ∷ word) =
      let e = same_item _ good.0 m good.1 here in
      subst (λ q. IsHeld parts table (goal_rest goals k) q (c ∷ word)) e (elim (cases_lt c n) [
        | inl less ↦
            let s = slice_get-some good.3.0 c (omega (arith, good.3.2)) in
            let t = good.3.3 c s.0 s.1 in
            edge-holds parts table c n shape (goal_rest goals k) (goal_rest goals (k + 1)) good.0 t.0 s.0.from less (goals_below goals k) good.2 t.2 word
            (good-holds goals macros edges ends shape (k + 1) s.0.to t.0 t.3 t.1 word)
        | inr past ↦ inl (λ x listed. zero-none parts table x (c ∷ word) (amplitudes-past parts table n c x shape word (good.2.domain x listed) past))
      ])

  -- what the first macro holds has a match
  pub root-matched : (left : Lsta) (goals : List Lsta) (m : Macro) → IsRoot left goals m → (word : List ℕ) → IsHeld parts table (goal_rest goals 0) m word
      → ¬ (IsZeroVector (amplitudes parts table word left.root)) → IsMatched parts table goals (amplitudes parts table word left.root)
  root-matched left goals m root word (inl zero) nonzero = absurd (nonzero (zero left.root root.domain))
  root-matched left goals m root word (inr h) nonzero =
      let g = root.pairs h.number h.rel h.here in
      record {
        number = h.rel.goal;
        goal = g.0;
        listed = g.1;
        word = h.other;
        is_word = subst (λ o. IsWord (rest_of o 0) h.other) g.1 h.is_word;
        proportional = record {
          left = h.related.left;
          right = h.related.right;
          left_nonzero = h.related.left_nonzero;
          right_nonzero = h.related.right_nonzero;
          same = h.related.same (left.root, g.0.root) g.2;
        };
      }
