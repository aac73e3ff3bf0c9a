use Rattle.aq_include.proofs.hopeless.count_to_apart.Given as goal

abbrev pub invariant-loop-index : goal.invariant-loop-index
invariant-loop-index g l = Unit {0}
