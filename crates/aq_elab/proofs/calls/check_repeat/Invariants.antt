use Rattle.std.proofs.Common.{◌≡◌, [], take, drop}
use Rattle.aq_elab.specs.Calls.{no_repeat}
use Rattle.aq_elab.proofs.calls.check_repeat.Given as goal

abbrev pub invariant-loop-i : goal.invariant-loop-i
invariant-loop-i l = no_repeat (take l.i l.qubits) (drop l.i l.spots) (drop l.i l.qubits) ≡ no_repeat [] l.spots l.qubits
