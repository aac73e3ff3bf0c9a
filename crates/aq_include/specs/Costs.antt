-- What a call takes of a counter.
use Rattle.std.specs.Prelude.{◌≡◌, ℕ, ◌+◌, ◌*◌, ◌<◌, ◌≤◌, List, [], ◌∷◌, length, sum_by}
use Rattle.aq_store.specs.Count.{Count}
use Rattle.aq_store.specs.Words.{words}
use Rattle.aq_cert.specs.declared.cert.Rel.{Rel}
use Rattle.aq_cert.specs.declared.cert.Macro.{Macro}
use Rattle.aq_store.specs.declared.store.Stop.{Stop}
use Rattle.aq_store.specs.declared.store.Stop.TheVariants as stop

-- at most so many steps were taken
pub record Takes (bound : ℕ) (before now : Count) : Type 0 where
  pub later : before.taken ≤ now.taken
  pub cheap : now.taken ≤ before.taken + bound
  pub same : now.limit ≡ before.limit

-- steps are missing only where so many are more than are left
abbrev pub IsCause : {L : Type 0} → ℕ → Count → Stop L → Type 0
IsCause bound before stop.Spent = before.limit < before.taken + bound
IsCause bound before (stop.Wide l r) = Unit {0}
IsCause bound before (stop.WideParts l r) = Unit {0}
IsCause bound before stop.Memory = Unit {0}

-- what a relation may still cost: its pairs, once for each word of what is left of its goal
abbrev pub rel_weight : (ℕ → List ℕ) → Rel → ℕ
rel_weight rest rel = length rel.pairs * words (rest rel.goal)

-- what a choice at a macro costs at most; it doubles with each level
abbrev pub weight : (ℕ → List ℕ) → Macro → ℕ
weight rest m = length m.domain + sum_by (rel_weight rest) m.rels

-- how much a macro takes in a certificate
abbrev pub size : Macro → ℕ
size m = length m.domain + sum_by (λ (r : Rel). length r.pairs) m.rels

-- the search below a macro of this weight, with no macro found again
unfoldable pub budget : List ℕ → ℕ → ℕ
budget [] w = w
budget (n ∷ shape) w = n * (w + budget shape (2 * w))

-- a choice at a macro of this weight, and the search below it
abbrev pub turn_budget : List ℕ → ℕ → ℕ
turn_budget shape w = w + budget shape (2 * w)
