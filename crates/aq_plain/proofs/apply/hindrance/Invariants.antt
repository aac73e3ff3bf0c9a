use Rattle.std.proofs.Common.{◌≡◌, drop}
use Rattle.aq_prog.specs.Gates.{is_controlled}
use Rattle.aq_plain.proofs.apply.hindrance.Given as goal

abbrev pub invariant-loop-control : goal.invariant-loop-control
invariant-loop-control l = is_controlled l.qubits (drop l.control-index l.gate.controls) l.index ≡ is_controlled l.qubits l.gate.controls l.index
