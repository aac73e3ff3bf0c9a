use Rattle.aq_world.proofs.PrintsLemmas.{Prints-then}
use Rattle.aq_report.specs.Texts.{state_text}
use Rattle.aq_report.proofs.print.print_replay.Goals as goal

pub returns : goal.returns
unfolding state_text
returns g c = rw c.as_slice.ensures at (Prints-then c.print_bits.ensures c.in_ok-print_bits.was c.print_entries.ensures)
