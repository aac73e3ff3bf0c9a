use Rattle.std.proofs.Common.{◌≡◌}
use Rattle.aq_ring.specs.Quads.{turned_by}
use Rattle.aq_ring.proofs.Amp.turn.Given as goal

abbrev pub invariant-loop-i : goal.invariant-loop-i
invariant-loop-i l = l.num ≡ turned_by l.i l.fn.self.num
