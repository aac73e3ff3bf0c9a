use Rattle.std.proofs.Common.{◌≡◌, take}
use Rattle.aq_sets.specs.Caps.{capped_sizes}
use Rattle.aq_sets.proofs.sizes.expr_sizes.Given as goal

abbrev pub invariant-loop-i : goal.invariant-loop-i
invariant-loop-i l = l.list ≡ capped_sizes (take l.i l.exprs)
