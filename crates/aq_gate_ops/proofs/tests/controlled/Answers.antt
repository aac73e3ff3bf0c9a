use Rattle.std.proofs.Common.{◌∙◌}
use Rattle.aq_gate_ops.proofs.TestLemmas.{valid_one}
use Rattle.aq_gate_ops.proofs.tests.controlled.Goals as goal

pub returns : goal.returns
returns c =
    let made = c.new.ensures in
    valid_one c.args.qubits c.args.control c.new.result (made.controls ∙ c.in_ok-controls.ensures) (rw made.rows c.in_ok-rows.ensures) (rw made.target c.requires.target)
    c.requires.control (rw made.target c.requires.other)
