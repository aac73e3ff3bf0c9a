use Rattle.std.proofs.Common.{length}
use Rattle.aq_trial.proofs.texts.+add_undoing.Given as goal

abbrev pub decreases-add_undoing : goal.decreases-add_undoing
decreases-add_undoing c = length c.gates.now
