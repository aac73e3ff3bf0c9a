use Rattle.std.proofs.Common.{◌∙◌, arith}
use Rattle.aq_plain.proofs.ValidLaws.{valid_alone}
use Rattle.aq_plain_judge.proofs.ExampleLaws.{gate_small}
use Rattle.aq_plain_judge.proofs.tests.gate.Goals as goal

pub returns : goal.returns
returns c =
    let made = c.new-gate.ensures in
    gate_small c.new-gate.result (valid_alone 1 c.new-gate.result (made.controls ∙ c.new.ensures) (rw made.rows c.in_ok-rows.ensures) (rw made.target (omega arith)))
