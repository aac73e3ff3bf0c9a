-- Calls that make nodes, one after the other.
use Rattle.std.proofs.Common.{◌≡◌, ℕ, ◌+◌, ◌≤◌, inl, inr, List, Result, refl, sym, subst, ◌∙◌, arith}
use Rattle.aq_ring.specs.Fractions.{Amplitude}
use Rattle.aq_store.specs.Count.{Count}
use Rattle.aq_store.specs.Nodes.{Adds, IsRefused, Extends, total_cost, cost}
use Rattle.aq_store.specs.Stops.{GivesUp}
use Rattle.aq_store.specs.declared.node.Node.{Node}
use Rattle.aq_store.specs.declared.store.Stop.{Stop}
use Rattle.aq_store.specs.declared.store.Stop.TheVariants.{Spent, Wide, WideParts, Memory}
use Rattle.aq_store.proofs.TableLemmas.{Extends-refl, Extends-trans}
use Rattle.aq_store.proofs.StopLemmas.{adds_limit}
use Rattle.aq_set_build.specs.Growth.{Grows, StopsFor}

module _ {L : Type 0} where
  pub grows_none : (table : List (Node L)) (count : Count) → total_cost table ≤ count.taken → Grows 0 table table count count
  grows_none table count paid = record { keeps = Extends-refl table; paid = paid; limit = refl; cheap = omega arith }

  -- one call after the other, of which each has its bound
  pub grows_then : (m n k : ℕ) (a b c : List (Node L)) (s t u : Count) → Grows m a b s t → Grows n b c t u → m + n ≤ k → Grows k a c s u
  grows_then m n k a b c s t u g h le = record {
    keeps = Extends-trans a b c g.keeps h.keeps;
    paid = h.paid;
    limit = h.limit ∙ g.limit;
    cheap = omega (arith, g.cheap, h.cheap);
  }

  pub grows_within : (m k : ℕ) (a b : List (Node L)) (s t : Count) → Grows m a b s t → m ≤ k → Grows k a b s t
  grows_within m k a b s t g le = record { keeps = g.keeps; paid = g.paid; limit = g.limit; cheap = omega (arith, g.cheap) }

  -- a call that adds a node
  pub grows_adds : (node : Node L) (k : ℕ) (a b : List (Node L)) (s t : Count) (r : Result ℕ (Stop L)) → Adds node a b s t r → total_cost b ≤ t.taken → Extends a b
      → t.taken ≤ s.taken + k → Grows k a b s t
  grows_adds node k a b s t r adds paid keeps cheap = record { keeps = keeps; paid = paid; limit = adds_limit node a b s t r adds; cheap = cheap }

  -- what stays where only the counter goes on
  pub grows_steps : (k : ℕ) (table : List (Node L)) (s t : Count) → total_cost table ≤ s.taken → s.taken ≤ t.taken → t.limit ≡ s.limit → t.taken ≤ s.taken + k
      → Grows k table table s t
  grows_steps k table s t paid later limit cheap = record { keeps = Extends-refl table; paid = omega (arith, paid, later); limit = limit; cheap = cheap }

  -- a call that gives up after others, with its own cause
  pub stops_then : (P Q : Amplitude → Amplitude → Type 0) (m n k : ℕ) (a b : List (Node L)) (s t u : Count) (why : Stop L) → Grows m a b s t → m + n ≤ k
      → ((l r : Amplitude) → P l r → Q l r) → StopsFor P n t u why → StopsFor Q k s u why
  stops_then P Q m n k a b s t u Spent g le f h = (h.0, omega (arith, g.cheap, g.limit, h.1))
  stops_then P Q m n k a b s t u (Wide l r) g le f h = h
  stops_then P Q m n k a b s t u (WideParts l r) g le f h = f l r h
  stops_then P Q m n k a b s t u Memory g le f h = tt

  pub stops_within : (P Q : Amplitude → Amplitude → Type 0) (n k : ℕ) (t u : Count) (why : Stop L) → n ≤ k
      → ((l r : Amplitude) → P l r → Q l r) → StopsFor P n t u why → StopsFor Q k t u why
  stops_within P Q n k t u Spent le f h = (h.0, omega (arith, h.1))
  stops_within P Q n k t u (Wide l r) le f h = h
  stops_within P Q n k t u (WideParts l r) le f h = f l r h
  stops_within P Q n k t u Memory le f h = tt

  pub stops_gives_up : (P : Amplitude → Amplitude → Type 0) (n : ℕ) (t u : Count) (why : Stop L) → GivesUp n t u why → StopsFor P n t u why
  stops_gives_up P n t u why g = elim g.alone [
    | inl e ↦ subst (StopsFor P n t u) (sym e) (g.full e, g.spent e)
    | inr e ↦ subst (StopsFor P n t u) (sym e) tt
  ]

  pub stops_refused : (P : Amplitude → Amplitude → Type 0) (node : Node L) (a b : List (Node L)) (t u : Count) (why : Stop L) → IsRefused node a b t u why → StopsFor P (cost node) t u why
  stops_refused P node a b t u why r = elim r.alone [
    | inl e ↦ subst (StopsFor P (cost node) t u) (sym e) (r.spent e)
    | inr e ↦ subst (StopsFor P (cost node) t u) (sym e) tt
  ]
