use Rattle.std.proofs.Common.{◌≡◌}
use Rattle.aq_ring.specs.Quads.{turned_by}
use Rattle.aq_plain.proofs.numerator.Numerator.turned_slowly.Given as goal

abbrev pub invariant-loop-i : goal.invariant-loop-i
invariant-loop-i l = l.number ≡ turned_by l.i l.fn.self
