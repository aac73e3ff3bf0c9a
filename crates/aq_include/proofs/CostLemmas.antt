-- What is within a bound is within a larger one.
use Rattle.std.proofs.Common.{ℕ, ◌≤◌, arith}
use Rattle.aq_store.specs.Count.{Count}
use Rattle.aq_store.specs.declared.store.Stop.{Stop}
use Rattle.aq_store.specs.declared.store.Stop.TheVariants as stop
use Rattle.aq_include.specs.Costs.{Takes, IsCause}

pub takes-within : (a b : ℕ) (s t : Count) → a ≤ b → Takes a s t → Takes b s t
takes-within a b s t le h = record { later = h.later; cheap = omega (arith, h.cheap); same = h.same }

pub cause-within : {L : Type 0} → (a b : ℕ) (s : Count) (why : Stop L) → a ≤ b → IsCause a s why → IsCause b s why
cause-within a b s stop.Spent le h = omega (arith, h)
cause-within a b s (stop.Wide l r) le h = tt
cause-within a b s (stop.WideParts l r) le h = tt
cause-within a b s stop.Memory le h = tt
