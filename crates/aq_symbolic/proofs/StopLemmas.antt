-- Calls that give up within others.
use Rattle.std.proofs.Common.{◌≡◌, ℕ, ◌+◌, ◌≤◌, ◌⊎◌, inl, inr, List, refl, sym, subst, ◌∙◌, arith}
use Rattle.aq_store.specs.Count.{Count}
use Rattle.aq_store.specs.Nodes.{total_cost}
use Rattle.aq_store.specs.Stops.{GivesUp}
use Rattle.aq_store.specs.declared.node.Node.{Node}
use Rattle.aq_store.specs.declared.store.Stop.{Stop}
use Rattle.aq_store.specs.declared.store.Stop.TheVariants.{Spent, Wide, WideParts, Memory}
use Rattle.aq_store.proofs.TableLemmas.{Extends-refl, Extends-trans}
use Rattle.aq_gate_ops.specs.Accounts.{IsStopped}
use Rattle.aq_gate_ops.specs.Causes.{IsCause}
use Rattle.aq_symbolic.specs.Steps.{Keeps}

module _ {L : Type 0} where
  pub cause_map : (P Q : L → L → Type 0) → ((l r : L) → P l r → Q l r) → (why : Stop L) → IsCause P why → IsCause Q why
  cause_map P Q f Spent h = tt
  cause_map P Q f (Wide l r) h = f l r h
  cause_map P Q f (WideParts l r) h = h
  cause_map P Q f Memory h = tt

  -- want of steps or of memory is a cause, whatever doesn't fit
  pub alone_cause : (P : L → L → Type 0) (why : Stop L) → (why ≡ Spent) ⊎ (why ≡ Memory) → IsCause P why
  alone_cause P why h = elim h [ inl e ↦ subst (IsCause P) (sym e) tt | inr e ↦ subst (IsCause P) (sym e) tt ]

  -- a call within one with a larger bound
  pub stopped_within : (start before now : Count) (b c : ℕ) (why : Stop L) → before.limit ≡ start.limit → before.taken + b ≤ start.taken + c → IsStopped b before now why → IsStopped c start now why
  stopped_within start before now b c why same le s = record {
    cheap = let h = s.cheap in omega arith;
    full = s.full;
    spent = λ e. (let h = s.spent e in omega arith);
  }

  pub stopped_memory : (start now : Count) (c : ℕ) → now.taken ≤ start.taken + c → IsStopped {L = L} c start now Memory
  stopped_memory start now c le = record { cheap = le; full = λ e. cc; spent = λ e. cc }

  pub stopped_alone : (before now : Count) (b : ℕ) (why : Stop L) → now.taken ≤ before.taken + b → GivesUp b before now why → IsStopped b before now why
  stopped_alone before now b why le g = record { cheap = le; full = g.full; spent = g.spent }

  pub keeps_none : (table : List (Node L)) (c : Count) → total_cost table ≤ c.taken → Keeps table table c c
  keeps_none table c paid = record { table = Extends-refl table; paid = paid; limit = refl }

  -- the counter alone goes on
  pub keeps_paid : (table : List (Node L)) (c0 c1 : Count) → total_cost table ≤ c0.taken → c0.taken ≤ c1.taken → c1.limit ≡ c0.limit → Keeps table table c0 c1
  keeps_paid table c0 c1 paid later limit = record { table = Extends-refl table; paid = omega (arith, paid, later); limit = limit }

  pub keeps_then : (s0 s1 s2 : List (Node L)) (c0 c1 c2 : Count) → Keeps s0 s1 c0 c1 → Keeps s1 s2 c1 c2 → Keeps s0 s2 c0 c2
  keeps_then s0 s1 s2 c0 c1 c2 a b = record { table = Extends-trans s0 s1 s2 a.table b.table; paid = b.paid; limit = b.limit ∙ a.limit }
