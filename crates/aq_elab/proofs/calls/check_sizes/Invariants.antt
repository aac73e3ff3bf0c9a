use Rattle.std.proofs.Common.{◌≡◌, drop, length}
use Rattle.aq_elab.specs.Calls.{same_sizes}
use Rattle.aq_elab.proofs.calls.check_sizes.Given as goal

abbrev pub invariant-loop-spot : goal.invariant-loop-spot
invariant-loop-spot l = same_sizes l.times (drop (length l.yielded) l.spots) (drop (length l.yielded) l.spans) ≡ same_sizes l.times l.spots l.spans
