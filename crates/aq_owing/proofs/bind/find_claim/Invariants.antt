use Rattle.std.proofs.Common.{◌≡◌, drop}
use Rattle.std.specs.List.{find}
use Rattle.std.specs.Str.{bytes_eq}
use Rattle.aq_owing.proofs.bind.find_claim.Given as goal

abbrev pub invariant-loop-claim : goal.invariant-loop-claim
invariant-loop-claim l = find (λ c. bytes_eq c.name l.name) (drop l.claim-index l.claims) ≡ find (λ c. bytes_eq c.name l.name) l.claims
