use Rattle.std.proofs.Common.{length}
use Rattle.aq_trial.proofs.texts.+add_lines.Given as goal

abbrev pub decreases-add_lines : goal.decreases-add_lines
decreases-add_lines c = length c.gates.now
