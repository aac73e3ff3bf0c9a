use Rattle.std.proofs.Common.{◌≡◌, length, map, take}
use Rattle.aq_worlds.specs.Playing.{with_gate}
use Rattle.aq_worlds.proofs.vectors.play_all.Given as goal

abbrev pub invariant-loop-vector : goal.invariant-loop-vector
invariant-loop-vector l = l.list.items ≡ map (with_gate l.gate) (take (length l.yielded) l.fn.vectors.items)
