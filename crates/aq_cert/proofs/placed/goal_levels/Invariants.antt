use Rattle.std.proofs.Common.{◌≡◌, ◌<◌, ℕ, length, slice_get}
use Rattle.aq_cert.specs.Goals.{goal_levels}
use Rattle.aq_cert.specs.Placed.{lists_in}
use Rattle.aq_cert.proofs.placed.goal_levels.Given as goal

abbrev pub invariant-loop-goal : goal.invariant-loop-goal
invariant-loop-goal g l = record {
  count : length l.all.items ≡ l.goal-index;
  each : (k : ℕ) → k < l.goal-index → lists_in (slice_get l.all.items k) ≡ goal_levels l.store l.goals k;
}
