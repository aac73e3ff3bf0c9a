use Rattle.std.proofs.Common.{◌≡◌, ◌++◌, drop, Ok}
use Rattle.aq_base.specs.Checks.{all_checked, ◌>>=◌}
use Rattle.aq_owing.specs.Asking.{bound_case}
use Rattle.aq_owing.proofs.bind.cases_of.Given as goal

abbrev pub invariant-loop-case : goal.invariant-loop-case
invariant-loop-case l = all_checked (bound_case l.program l.sets l.claim.name) l.claim.cases ≡ (all_checked (bound_case l.program l.sets l.claim.name) (drop l.case-index l.claim.cases) >>= λ rest. Ok (l.cases ++ rest))
