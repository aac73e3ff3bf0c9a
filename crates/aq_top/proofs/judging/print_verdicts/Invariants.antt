use Rattle.aq_top.proofs.ReportLemmas.{SoFar}
use Rattle.aq_top.proofs.judging.print_verdicts.Given as goal

-- the obligations so far have their verdicts, and the lines of these were printed
abbrev pub invariant-loop-index : goal.invariant-loop-index
invariant-loop-index g l = SoFar g.K.Sink.meaning l.fn.out l.out l.steps l.loaded.program l.loaded.sets l.loaded.obligations l.index l.tally
