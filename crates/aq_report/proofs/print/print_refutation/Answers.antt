use Rattle.aq_world.proofs.PrintsLemmas.{Prints-then}
use Rattle.aq_report.specs.Texts.{refutation_text}
use Rattle.aq_report.proofs.print.print_refutation.Goals as goal

pub returns : goal.returns
unfolding refutation_text
returns g c = Prints-then c.print_start.ensures c.in_ok-print_start.was c.print_ending.ensures
