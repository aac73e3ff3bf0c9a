-- Pairs that lead to the same nodes on both sides, one by one.
use Rattle.std.proofs.Common.{◌≡◌, ℕ, ◌+◌, ◌<◌, ◌≤◌, List, length, slice_get, get_or, Some, Contains, sym, ap, ap₂, subst, ◌∙◌, arith}
use Rattle.std.proofs.lemmas.List.{get_or_default}
use Rattle.std.proofs.lemmas.List.Elements.{Contains-get_or}
use Rattle.aq_store.specs.declared.node.Node.{Node}
use Rattle.aq_store.specs.Nodes.{pairs_at}
use Rattle.aq_store.specs.declared.lsta.Lsta.{Lsta}
use Rattle.aq_cert.specs.declared.cert.Rel.{Rel}
use Rattle.aq_cert.specs.Goals.{goal_rest}
use Rattle.aq_include.specs.declared.own.Own.{Own}
use Rattle.aq_include.specs.Steps.{IsOwn}
use Rattle.aq_include.specs.Candidates.{IsOwnOf}
use Rattle.aq_include.proofs.StepLemmas.{AtRel}

module _ {L : Type 0} (table : List (Node L)) where
  -- one pair leads to the same nodes
  pub record IsSame (c d : ℕ) (p : ℕ × ℕ) : Type 0 where
    pub same : slice_get (pairs_at table p.0) c ≡ slice_get (pairs_at table p.1) d

  pub same-here : (c d : ℕ) (p : ℕ × ℕ) (a b : ℕ) (l r : ℕ × ℕ) → a ≡ p.0 → b ≡ p.1 → slice_get (pairs_at table a) c ≡ Some l → slice_get (pairs_at table b) d ≡ Some r → l.0 ≡ r.0 → l.1 ≡ r.1 → IsSame c d p
  same-here c d p a b l r e f left right first second = record {
    same = sym (ap (λ z. slice_get (pairs_at table z) c) e) ∙ left ∙ ap₂ (λ x y. Some (x, y)) first second ∙ sym right ∙ ap (λ z. slice_get (pairs_at table z) d) f;
  }

  pub all-same : (c d : ℕ) (pairs : List (ℕ × ℕ)) (n : ℕ) → length pairs ≤ n → 0 < length pairs → ((k : ℕ) → k < n → IsSame c d (get_or pairs k (0, 0))) → IsOwn table c d pairs
  all-same c d pairs n all some f = record {
    some = some;
    same = λ p listed. (subst (IsSame c d) (get_or_default pairs listed.0 (0, 0) p listed.1 ∙ listed.2) (f listed.0 (omega (arith, listed.1)))).same;
  }

  -- the choices of an item
  pub item-within : (P : ℕ × ℕ → Type 0) (pairs : List (ℕ × ℕ)) (k : ℕ) → k < length pairs → ((p : ℕ × ℕ) → Contains pairs p → P p) → P (get_or pairs k (0, 0))
  item-within P pairs k less f = f (get_or pairs k (0, 0)) (Contains-get_or pairs k (0, 0) less)

  pub is-own-of : (goals : List Lsta) (level c : ℕ) (rels : List Rel) (k : ℕ) (rel : Rel) (count : ℕ) (own : Own) (given : List (ℕ × ℕ)) → slice_get rels k ≡ Some rel → own.number ≡ k → AtRel table goals level c rel count
      → own.choice < count → given ≡ rel.pairs → IsOwn table c own.choice given → IsOwnOf table c (goal_rest goals level) rels own
  is-own-of goals level c rels k rel count own given here number at less same is = record {
    rel = rel;
    here = ap (slice_get rels) number ∙ here;
    choices = count;
    later = goal_rest goals (level + 1) rel.goal;
    shape = at.shape;
    choice = less;
    same = subst (IsOwn table c own.choice) same is;
  }
