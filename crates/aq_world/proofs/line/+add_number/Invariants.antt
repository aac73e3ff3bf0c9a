use Rattle.aq_world.proofs.line.+add_number.Given as goal

abbrev pub decreases-add_number : goal.decreases-add_number
decreases-add_number g l = l.number
