-- Calls that give up within other calls.
use Rattle.std.proofs.Common.{◌≡◌, ℕ, ◌+◌, ◌≤◌, inl, inr, List, Result, Ok, Err, IsErr, IsErrAnd, IfErr, sym, ap, subst, ◌∙◌, arith}
use Rattle.aq_store.specs.Count.{Count}
use Rattle.aq_store.specs.Stops.{GivesUp}
use Rattle.aq_store.specs.declared.store.Stop.{Stop}
use Rattle.aq_store.specs.declared.store.Stop.TheVariants.{Memory}
use Rattle.aq_store.specs.declared.node.Node.{Node}
use Rattle.aq_store.specs.Nodes.{Adds, IsRefused, cost}

module _ {L : Type 0} where
  pub GivesUp-within : (start before now : Count) (b c : ℕ) (why : Stop L) → before.limit ≡ start.limit → before.taken + b ≤ start.taken + c → GivesUp b before now why → GivesUp c start now why
  GivesUp-within start before now b c why same le g = record {
    alone = g.alone;
    full = g.full;
    spent = λ e. (let h = g.spent e in omega arith);
  }

  pub GivesUp-memory : (start now : Count) (c : ℕ) (why : Stop L) → why ≡ Memory → GivesUp c start now why
  GivesUp-memory start now c why e = record {
    alone = inr e;
    full = λ f. (let z = sym f ∙ e in cc);
    spent = λ f. absurd (let z = sym f ∙ e in cc);
  }

  pub refused_gives_up : (node : Node L) (old new : List (Node L)) (before now : Count) (why : Stop L) → IsRefused node old new before now why → GivesUp (cost node) before now why
  refused_gives_up node old new before now why r = record { alone = r.alone; full = λ e. (r.spent e).0; spent = λ e. (r.spent e).1 }

  pub adds_limit : (node : Node L) (old new : List (Node L)) (before now : Count) (r : Result ℕ (Stop L)) → Adds node old new before now r → now.limit ≡ before.limit
  adds_limit node old new before now (Ok id) h = elim h.change [ inl same ↦ ap (λ (c : Count). c.limit) same.1 | inr more ↦ ap (λ (c : Count). c.limit) more.2 ]
  adds_limit node old new before now (Err why) h = h.limit

-- the exit of a `?` that hands on what the call has answered
pub passed_on : {T E : Type 0} (P : E → Type 0) (r : Result T E) (e : E) → IsErr r × IsErrAnd r (λ x. x ≡ e) → P e → IfErr r P
passed_on P (Ok x) e h p = tt
passed_on P (Err y) e h p = subst P (sym h.1) p
