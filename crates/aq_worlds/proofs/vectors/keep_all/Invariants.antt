use Rattle.std.proofs.Common.{◌≡◌, length, map, take}
use Rattle.aq_worlds.specs.Playing.{with_half}
use Rattle.aq_worlds.proofs.vectors.keep_all.Given as goal

abbrev pub invariant-loop-vector : goal.invariant-loop-vector
invariant-loop-vector l = l.list.items ≡ map (with_half l.qubit l.outcome) (take (length l.yielded) l.fn.vectors.items)
