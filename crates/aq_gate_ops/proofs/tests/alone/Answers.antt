use Rattle.std.proofs.Common.{◌∙◌}
use Rattle.aq_gate_ops.proofs.TestLemmas.{valid_alone}
use Rattle.aq_gate_ops.proofs.tests.alone.Goals as goal

pub returns : goal.returns
returns c =
    let made = c.new-2.ensures in
    valid_alone c.args.qubits c.new-2.result (made.controls ∙ c.new.ensures) (rw made.rows c.in_ok-rows.ensures) (rw made.target c.requires)
