use Rattle.aq_world.proofs.PrintsLemmas.{Prints-then}
use Rattle.aq_report.proofs.print.print_refuted.Goals as goal

pub returns : goal.returns
returns g c = Prints-then c.print_refuted_line.ensures c.in_ok-print_refuted_line.was c.print_refutation.ensures
