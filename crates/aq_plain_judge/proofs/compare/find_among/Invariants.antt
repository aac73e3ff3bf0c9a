use Rattle.std.proofs.Common.{take}
use Rattle.aq_ring.specs.Vectors.{Proportional}
use Rattle.aq_worlds.specs.Playing.{amps_of}
use Rattle.aq_plain_judge.specs.Finding.{WideProduct}
use Rattle.aq_plain_judge.proofs.SearchLaws.{SoFar}
use Rattle.aq_plain_judge.proofs.compare.find_among.Given as goal

-- what is known of those before
abbrev pub invariant-loop-goal : goal.invariant-loop-goal
invariant-loop-goal l = SoFar (Proportional l.end.amps) (WideProduct l.end.amps) l.wide (amps_of l.allowed) (amps_of (take l.goal-index l.allowed))
