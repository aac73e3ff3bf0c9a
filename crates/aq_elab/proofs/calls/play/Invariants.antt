use Rattle.std.proofs.Common.{◌≡◌, Ok}
use Rattle.aq_prog.specs.Digits.{tabulate}
use Rattle.aq_elab.specs.Calls.{played, instance}
use Rattle.aq_elab.proofs.calls.play.Given as goal

abbrev pub invariant-loop-index : goal.invariant-loop-index
invariant-loop-index l = played l.recipe l.spots (tabulate l.index (instance l.spans)) ≡ Ok l.gates
