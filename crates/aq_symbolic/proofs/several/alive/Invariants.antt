use Rattle.std.proofs.Common.{length, take}
use Rattle.aq_symbolic.specs.Steps.{AreAlive}
use Rattle.aq_symbolic.proofs.several.alive.Given as goal

abbrev pub invariant-loop-world : goal.invariant-loop-world
invariant-loop-world g l = AreAlive g.L.Label.parts g.L.Label.part_count l.store (take (length l.yielded) l.fn.worlds.items) l.list.items
