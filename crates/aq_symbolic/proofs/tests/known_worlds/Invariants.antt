use Rattle.aq_symbolic.specs.Worlds.{AreSized}
use Rattle.aq_symbolic.proofs.tests.known_worlds.Given as goal

abbrev pub invariant-loop-world : goal.invariant-loop-world
invariant-loop-world l = AreSized 1 1 l.store l.list.items
