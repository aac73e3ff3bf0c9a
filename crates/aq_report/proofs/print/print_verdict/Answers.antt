use Rattle.aq_world.proofs.PrintsLemmas.{Prints-then}
use Rattle.aq_report.proofs.print.print_verdict.Goals as goal

pub returns : goal.returns
returns g c = Prints-then c.print_head.ensures c.in_ok-print_head.was c.print_outcome.ensures
