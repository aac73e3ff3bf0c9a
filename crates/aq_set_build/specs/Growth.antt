-- What a call that makes nodes does to a store and to its counter.
use Rattle.std.specs.Prelude.{◌≡◌, ℕ, ◌+◌, ◌<◌, ◌≤◌, List}
use Rattle.aq_ring.specs.Fractions.{Amplitude}
use Rattle.aq_store.specs.Count.{Count}
use Rattle.aq_store.specs.Nodes.{Extends, total_cost}
use Rattle.aq_store.specs.declared.node.Node.{Node}
use Rattle.aq_store.specs.declared.store.Stop.{Stop}
use Rattle.aq_store.specs.declared.store.Stop.TheVariants.{Spent, Wide, WideParts, Memory}

module _ {L : Type 0} where
  -- Nodes keep their meaning, and what there is is paid for. At most so many steps were taken.
  pub record Grows (bound : ℕ) (old new : List (Node L)) (before now : Count) : Type 0 where
    pub keeps : Extends old new
    pub paid : total_cost new ≤ now.taken
    pub limit : now.limit ≡ before.limit
    pub cheap : now.taken ≤ before.taken + bound

  -- Why a call gives up that is to take at most so many steps: for want of steps, where there were fewer than the bound, and
  -- the counter then stands at its limit; for a product that doesn't fit, of whose operands P tells; or for want of memory.
  abbrev pub StopsFor : (Amplitude → Amplitude → Type 0) → ℕ → Count → Count → Stop L → Type 0
  StopsFor P bound before now Spent = (now.taken ≡ now.limit) × (before.limit < before.taken + bound)
  StopsFor P bound before now (Wide l r) = ⊥
  StopsFor P bound before now (WideParts l r) = P l r
  StopsFor P bound before now Memory = Unit {0}
