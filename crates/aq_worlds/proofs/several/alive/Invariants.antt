use Rattle.std.proofs.Common.{◌≡◌, length, take, filter}
use Rattle.aq_worlds.specs.Playing.{lives}
use Rattle.aq_worlds.proofs.several.alive.Given as goal

abbrev pub invariant-loop-world : goal.invariant-loop-world
invariant-loop-world l = l.list.items ≡ filter lives (take (length l.yielded) l.fn.worlds.items)
