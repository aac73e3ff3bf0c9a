use Rattle.std.proofs.Common.{◌≡◌, take}
use Rattle.aq_worlds.proofs.vectors.copy_all.Given as goal

abbrev pub invariant-loop-vector : goal.invariant-loop-vector
invariant-loop-vector l = l.list.items ≡ take l.vector-index l.vectors
