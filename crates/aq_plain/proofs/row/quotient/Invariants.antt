use Rattle.std.proofs.Common.{◌≡◌}
use Rattle.aq_prog.specs.Gates.{divided, FitsDivided}
use Rattle.aq_plain.proofs.row.quotient.Given as goal

abbrev pub invariant-loop-i : goal.invariant-loop-i
invariant-loop-i l = (l.rest ≡ divided l.i l.fn.amp) × FitsDivided l.i l.fn.amp
