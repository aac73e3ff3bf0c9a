use Rattle.std.proofs.Common.{◌≡◌, drop}
use Rattle.aq_top.specs.Replay.{set_named}
use Rattle.aq_top.proofs.state.set_named.Given as goal

abbrev pub invariant-loop-set : goal.invariant-loop-set
invariant-loop-set l = set_named (drop l.set-index l.sets) l.name ≡ set_named l.sets l.name
