use Rattle.std.proofs.Common.{◌≡◌}
use Rattle.aq_ring.specs.Fractions.{reduced}
use Rattle.aq_ring.proofs.lowest.Given as goal

abbrev pub invariant-loop-power : goal.invariant-loop-power
invariant-loop-power l = reduced l.power l.num ≡ reduced l.fn.power l.fn.num

abbrev pub decreases-loop-power : goal.decreases-loop-power
decreases-loop-power l = l.power
