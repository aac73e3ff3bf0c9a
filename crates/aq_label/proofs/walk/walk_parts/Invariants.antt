use Rattle.std.proofs.Common.{◌≡◌, ◌+◌, List, ◌++◌, take}
use Rattle.aq_ring.specs.Fractions.{Amplitude}
use Rattle.aq_label.specs.Walks.{IsWalked}
use Rattle.aq_label.proofs.walk.walk_parts.Given as goal

abbrev pub invariant-loop-i : goal.invariant-loop-i
invariant-loop-i g l = record {
  walked : (u v : List Amplitude) → IsWalked u v l.fn.walk → IsWalked (u ++ take l.i (g.L.Label.parts l.left)) (v ++ take l.i (g.L.Label.parts l.right)) l.walk;
  position : l.walk.position ≡ l.fn.walk.position + l.i;
}
