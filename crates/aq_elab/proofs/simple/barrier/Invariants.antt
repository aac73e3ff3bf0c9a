use Rattle.std.proofs.Common.{◌≡◌, drop}
use Rattle.aq_elab.specs.Behind.{barred}
use Rattle.aq_elab.proofs.simple.barrier.Given as goal

abbrev pub invariant-loop-spot : goal.invariant-loop-spot
invariant-loop-spot l = barred l.scope (drop l.spot-index l.spots) ≡ barred l.fn.scope l.fn.spots
