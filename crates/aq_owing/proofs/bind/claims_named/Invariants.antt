use Rattle.std.proofs.Common.{◌≡◌, ◌++◌, drop, map, Ok}
use Rattle.aq_base.specs.Checks.{all_checked, ◌>>=◌}
use Rattle.aq_owing.specs.Asking.{claim_named}
use Rattle.aq_owing.proofs.bind.claims_named.Given as goal

abbrev pub invariant-loop-name : goal.invariant-loop-name
invariant-loop-name l = all_checked (claim_named l.sets) l.names ≡ (all_checked (claim_named l.sets) (drop l.name-index l.names) >>= λ rest. Ok (map (λ c. c.now) l.claims.items ++ rest))
