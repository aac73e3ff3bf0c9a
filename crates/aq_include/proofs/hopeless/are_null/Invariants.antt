use Rattle.std.proofs.Common.{take}
use Rattle.aq_include.specs.Hopeless.{AreNull}
use Rattle.aq_include.proofs.hopeless.are_null.Given as goal

abbrev pub invariant-loop-place : goal.invariant-loop-place
invariant-loop-place g l = AreNull g.L.Label.parts l.store (take l.place-index l.places)
