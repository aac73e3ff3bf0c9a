use Rattle.std.proofs.Common.{take}
use Rattle.aq_obligations.specs.Asking.{meaning_of}
use Rattle.aq_plain_judge.specs.Refuting.{AreKept}
use Rattle.aq_plain_judge.proofs.JudgeLaws.{worlds_in}
use Rattle.aq_plain_judge.proofs.worlds.judge_cases.Given as goal

-- the worlds of the cases before are kept
abbrev pub invariant-loop-case : goal.invariant-loop-case
invariant-loop-case l = AreKept (meaning_of l.program l.sets l.obligation) (worlds_in (meaning_of l.program l.sets l.obligation) l.sets (take l.case-index l.obligation.from))
