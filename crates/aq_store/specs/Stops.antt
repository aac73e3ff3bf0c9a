-- Why a call that counts steps gives up.
use Rattle.std.specs.Prelude.{◌≡◌, ℕ, ◌+◌, ◌<◌, ◌⊎◌}
use Rattle.aq_store.specs.Count.{Count}
use Rattle.aq_store.specs.declared.store.Stop.{Stop}
use Rattle.aq_store.specs.declared.store.Stop.TheVariants.{Spent, Memory}

-- The call gives up for want of steps or of memory alone. Steps are wanting only where what was taken before and the bound
-- together are more than the limit, and then the counter stands at its limit.
pub record GivesUp {L : Type 0} (bound : ℕ) (before now : Count) (why : Stop L) : Type 0 where
  pub alone : (why ≡ Spent) ⊎ (why ≡ Memory)
  pub full : why ≡ Spent → now.taken ≡ now.limit
  pub spent : why ≡ Spent → before.limit < before.taken + bound
