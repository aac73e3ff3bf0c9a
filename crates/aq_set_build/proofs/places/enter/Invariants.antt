use Rattle.aq_set_build.specs.Places.{Enters}
use Rattle.aq_set_build.proofs.places.enter.Given as goal

abbrev pub invariant-loop-side : goal.invariant-loop-side
invariant-loop-side l = Enters l.exprs l.fn.expr l.fn.word l.side.before l.side.expr l.side.word.items

abbrev pub decreases-loop-side : goal.decreases-loop-side
decreases-loop-side l = l.side.expr
