use Rattle.std.proofs.Common.{◌≡◌, ◌++◌, drop, Ok}
use Rattle.aq_base.specs.Checks.{all_checked, ◌>>=◌}
use Rattle.aq_top.specs.Replay.{outcome_of}
use Rattle.aq_top.proofs.outcomes.outcomes_of.Given as goal

abbrev pub invariant-loop-byte : goal.invariant-loop-byte
invariant-loop-byte l = all_checked outcome_of l.text ≡ (all_checked outcome_of (drop l.byte-index l.text) >>= λ rest. Ok (l.outcomes ++ rest))
