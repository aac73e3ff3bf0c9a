use Rattle.std.proofs.Common.{map, take}
use Rattle.aq_obligations.specs.Asking.{case_of, meaning_of}
use Rattle.aq_worlds.specs.Playing.{world_of}
use Rattle.aq_plain_judge.specs.Refuting.{AreKept}
use Rattle.aq_plain_judge.proofs.worlds.judge_worlds.Given as goal

-- the worlds before are kept
abbrev pub invariant-loop-world : goal.invariant-loop-world
invariant-loop-world l = AreKept (meaning_of l.program l.sets l.obligation) (map (world_of (case_of l.sets l.case)) (take l.world-index l.worlds))
