use Rattle.std.proofs.Common.{◌≡◌, ◌++◌, drop, map, Ok}
use Rattle.aq_base.specs.Checks.{all_checked, ◌>>=◌}
use Rattle.aq_owing.specs.Asking.{bound_claim}
use Rattle.aq_owing.proofs.bind.cases_of_all.Given as goal

abbrev pub invariant-loop-claim : goal.invariant-loop-claim
invariant-loop-claim l = all_checked (bound_claim l.program l.sets) (map (λ c. c.now) l.claims) ≡ (all_checked (bound_claim l.program l.sets) (map (λ c. c.now) (drop l.claim-index l.claims)) >>= λ rest. Ok (l.list ++ rest))
