use Rattle.std.proofs.Common.{◌≡◌, drop}
use Rattle.aq_elab.specs.Calls.{times_of}
use Rattle.aq_elab.proofs.calls.times_of.Given as goal

abbrev pub invariant-loop-span : goal.invariant-loop-span
invariant-loop-span l = times_of (drop l.span-index l.spans) ≡ times_of l.spans
