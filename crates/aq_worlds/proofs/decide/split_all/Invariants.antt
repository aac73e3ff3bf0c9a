use Rattle.std.proofs.Common.{length, take}
use Rattle.aq_worlds.specs.Starting.{Halves}
use Rattle.aq_worlds.proofs.decide.split_all.Given as goal

-- the list is what comes of the worlds so far
abbrev pub invariant-loop-world : goal.invariant-loop-world
invariant-loop-world l = Halves l.bit l.fn.worlds.items (take (length l.yielded) l.fn.worlds.items) l.list.items
