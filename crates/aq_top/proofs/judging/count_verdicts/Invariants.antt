use Rattle.aq_top.proofs.ReportLemmas.{CountedSoFar}
use Rattle.aq_top.proofs.judging.count_verdicts.Given as goal

-- the obligations so far have their verdicts, and these were counted
abbrev pub invariant-loop-owed : goal.invariant-loop-owed
invariant-loop-owed l = CountedSoFar l.limit l.loaded.program l.loaded.sets l.loaded.obligations l.owed-index l.counts
