use Rattle.std.proofs.Common.{All, take}
use Rattle.aq_obligations.specs.Worlds.{filled}
use Rattle.aq_worlds.specs.Playing.{amps_of}
use Rattle.aq_plain_judge.specs.Finding.{IsKeptBy}
use Rattle.aq_plain_judge.specs.Listing.{claims_of}
use Rattle.aq_plain_judge.proofs.find.first_lost.Given as goal

-- the vectors before are kept
abbrev pub invariant-loop-place : goal.invariant-loop-place
invariant-loop-place l = All (IsKeptBy (claims_of l.goal) (filled l.world.bits)) (amps_of (take l.place l.world.vectors.items))
