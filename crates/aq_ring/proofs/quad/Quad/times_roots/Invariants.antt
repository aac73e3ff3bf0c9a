use Rattle.std.proofs.Common.{◌≡◌}
use Rattle.aq_ring.specs.Quads.{times_roots}
use Rattle.aq_ring.specs.Fractions.{IsInRange}
use Rattle.aq_ring.proofs.quad.Quad.times_roots.Given as goal

abbrev pub invariant-loop-i : goal.invariant-loop-i
invariant-loop-i l = (l.number ≡ times_roots l._i l.fn.self) × IsInRange l.number
