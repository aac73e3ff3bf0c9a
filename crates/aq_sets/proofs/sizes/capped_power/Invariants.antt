use Rattle.std.proofs.Common.{◌≡◌, ◌^◌}
use Rattle.aq_sets.specs.Caps.{capped}
use Rattle.aq_sets.proofs.sizes.capped_power.Given as goal

abbrev pub invariant-loop-i : goal.invariant-loop-i
invariant-loop-i l = l.power ≡ capped (l.base ^ l.i)
