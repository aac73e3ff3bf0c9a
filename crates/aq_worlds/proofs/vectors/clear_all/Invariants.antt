use Rattle.std.proofs.Common.{◌≡◌, length, map, take}
use Rattle.aq_worlds.specs.Playing.{with_reset}
use Rattle.aq_worlds.proofs.vectors.clear_all.Given as goal

abbrev pub invariant-loop-vector : goal.invariant-loop-vector
invariant-loop-vector l = l.list.items ≡ map (with_reset l.qubit l.outcome) (take (length l.yielded) l.fn.vectors.items)
