-- Why a decision gives up.
use Rattle.std.specs.Prelude.{ℕ, ◌+◌, ◌<◌}
use Rattle.aq_ring.specs.Fractions.{Amplitude}
use Rattle.aq_store.specs.Count.{Count}
use Rattle.aq_store.specs.declared.store.Stop.{Stop}
use Rattle.aq_store.specs.declared.store.Stop.TheVariants.{Spent, Wide, WideParts, Memory}

-- for want of steps only where what was taken before and the bound together are more than the limit; for a number that
-- doesn't fit only as this says; and want of memory is free
abbrev pub GivesUpFor : Type 0 → ℕ → Count → Stop Amplitude → Type 0
GivesUpFor IsWide bound before Spent = before.limit < before.taken + bound
GivesUpFor IsWide bound before (Wide l r) = IsWide
GivesUpFor IsWide bound before (WideParts l r) = IsWide
GivesUpFor IsWide bound before Memory = Unit {0}
