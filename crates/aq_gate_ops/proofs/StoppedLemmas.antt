-- Calls that give up within others, and what they have taken and added.
use Rattle.std.proofs.Common.{◌≡◌, ℕ, ◌+◌, ◌≤◌, inl, inr, List, sym, ap, ◌∙◌, arith}
use Rattle.aq_store.specs.Count.{Count}
use Rattle.aq_store.specs.Nodes.{IsAdded, IsRefused, cost, total_cost}
use Rattle.aq_store.specs.Stops.{GivesUp}
use Rattle.aq_store.specs.declared.node.Node.{Node}
use Rattle.aq_store.specs.declared.store.Stop.{Stop}
use Rattle.aq_store.specs.declared.store.Stop.TheVariants.{Spent, Memory}
use Rattle.std.proofs.lemmas.List.Sums.{sum_by_push}
use Rattle.aq_gate_ops.specs.Accounts.{IsStopped}

module _ {L : Type 0} where
  pub stopped_within : (start before now : Count) (b c : ℕ) (why : Stop L) → before.limit ≡ start.limit → before.taken + b ≤ start.taken + c → IsStopped b before now why → IsStopped c start now why
  stopped_within start before now b c why same le s = record {
    cheap = let h = s.cheap in omega arith;
    full = s.full;
    spent = λ e. (let h = s.spent e in omega arith);
  }

  -- for another cause
  pub stopped_else : (start now : Count) (c : ℕ) (why : Stop L) → now.taken ≤ start.taken + c → (why ≡ Spent → ⊥) → IsStopped c start now why
  stopped_else start now c why le other = record { cheap = le; full = λ e. absurd (other e); spent = λ e. absurd (other e) }

  pub stopped_memory : (start now : Count) (c : ℕ) (why : Stop L) → now.taken ≤ start.taken + c → why ≡ Memory → IsStopped c start now why
  stopped_memory start now c why le is = stopped_else start now c why le (λ e. (let z = sym e ∙ is in cc))

  pub stopped_put : (before now : Count) (b : ℕ) (why : Stop L) → now.taken ≤ before.taken + b → GivesUp b before now why → IsStopped b before now why
  stopped_put before now b why le g = record { cheap = le; full = g.full; spent = g.spent }

  pub stopped_add : (node : Node L) (old new : List (Node L)) (before now : Count) (why : Stop L) → IsRefused node old new before now why → IsStopped (cost node) before now why
  stopped_add node old new before now why r = record { cheap = r.cheap; full = λ e. (r.spent e).0; spent = λ e. (r.spent e).1 }

  -- a node that is added is paid for
  pub added_besides : (node : Node L) (old new : List (Node L)) (before now : Count) (id : ℕ) → IsAdded node old new before now id → now.taken + total_cost old ≡ before.taken + total_cost new
  added_besides node old new before now id h = elim h.change [
    | inl same ↦ (let a = ap (λ (c : Count). c.taken) same.1 in let b : total_cost old ≡ total_cost new = ap total_cost (sym same.0) in omega arith)
    | inr more ↦ (let a = ap (λ (c : Count). c.taken) more.2 in
        let b : total_cost new ≡ total_cost old + cost node = ap total_cost more.1 ∙ sum_by_push cost old node in
        omega arith)
  ]
