use Rattle.aq_symbolic.proofs.drawn.+state.Given as goal

abbrev pub decreases-state : goal.decreases-state
decreases-state l = l.levels
