use Rattle.aq_prog.specs.Gates.{flip_gate}
use Rattle.aq_prog.proofs.VectorLaws.{apply_gate-proportional, project-proportional, apply_gate-zero, project-zero, length-apply_gate, length-apply_gates, length-project}
use Rattle.aq_prog.proofs.laws.vectors.Goals as goal

pub returns : goal.returns
returns c = record {
  proportional = record { gate = apply_gate-proportional; projection = project-proportional; flip = λ n q. apply_gate-proportional n (flip_gate q) };
  zero = record { gate = apply_gate-zero; projection = project-zero };
  size = record { gate = length-apply_gate; gates = length-apply_gates; projection = length-project };
}
