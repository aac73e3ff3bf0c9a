use Rattle.std.proofs.Common.{◌≡◌}
use Rattle.aq_ring.specs.Quads.{times_roots}
use Rattle.aq_plain.proofs.numerator.Numerator.times_roots.Given as goal

abbrev pub invariant-loop-i : goal.invariant-loop-i
invariant-loop-i l = l.number ≡ times_roots l.i l.fn.self
