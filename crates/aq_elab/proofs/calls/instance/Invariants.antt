use Rattle.std.proofs.Common.{◌≡◌, take}
use Rattle.aq_elab.specs.Calls.{instance}
use Rattle.aq_elab.proofs.calls.instance.Given as goal

abbrev pub invariant-loop-span : goal.invariant-loop-span
invariant-loop-span l = l.qubits.items ≡ instance (take l.span-index l.spans) l.index
