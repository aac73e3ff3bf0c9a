use Rattle.std.proofs.Common.{length, take}
use Rattle.aq_symbolic.specs.Splitting.{AreSplit}
use Rattle.aq_symbolic.proofs.fragment.split.Given as goal

abbrev pub invariant-loop-world : goal.invariant-loop-world
invariant-loop-world l = AreSplit l.bit (take (length l.yielded) l.fn.worlds.items) l.list.items
