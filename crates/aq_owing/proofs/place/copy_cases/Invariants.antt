use Rattle.std.proofs.Common.{◌≡◌, take}
use Rattle.aq_owing.proofs.place.copy_cases.Given as goal

abbrev pub invariant-loop-case : goal.invariant-loop-case
invariant-loop-case l = l.list ≡ take l.case-index l.cases
