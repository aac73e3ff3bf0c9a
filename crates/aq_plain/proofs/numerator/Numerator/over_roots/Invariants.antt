use Rattle.std.proofs.Common.{◌≡◌}
use Rattle.aq_ring.specs.Fractions.{reduced}
use Rattle.aq_plain.specs.Small.{IsBelow}
use Rattle.aq_plain.proofs.numerator.Numerator.over_roots.Given as goal

abbrev pub invariant-loop-power : goal.invariant-loop-power
invariant-loop-power l = (reduced l.power l.number ≡ reduced l.fn.power l.fn.self) × IsBelow 126 l.number

abbrev pub decreases-loop-power : goal.decreases-loop-power
decreases-loop-power l = l.power
