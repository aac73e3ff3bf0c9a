use Rattle.std.proofs.Common.{◌<◌, ℕ, get_or}
use Rattle.aq_include.proofs.OwnLemmas.{IsSame}
use Rattle.aq_include.proofs.own.leads_to_same.Given as goal

abbrev pub invariant-loop-left : goal.invariant-loop-left
invariant-loop-left g l = (k : ℕ) → k < l.left-index → IsSame l.store l.choice l.goal_choice (get_or l.pairs k (0, 0))
