use Rattle.std.proofs.Common.{take}
use Rattle.aq_obligations.specs.Claims.{CaseHolds}
use Rattle.aq_obligations.specs.Worlds.{filled}
use Rattle.aq_plain_judge.specs.Finding.{WideCase}
use Rattle.aq_plain_judge.specs.Listing.{claims_of}
use Rattle.aq_plain_judge.proofs.SearchLaws.{SoFar}
use Rattle.aq_plain_judge.proofs.find.find_in_goal.Given as goal

-- what is known of the cases before
abbrev pub invariant-loop-case : goal.invariant-loop-case
invariant-loop-case l = SoFar (CaseHolds (filled l.bits) l.end.amps) (WideCase (filled l.bits) l.end.amps) l.wide (claims_of l.goal) (claims_of (take l.case-index l.goal))
