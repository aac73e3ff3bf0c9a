use Rattle.std.proofs.Common.{◌∙◌}
use Rattle.aq_plain.proofs.ValidLaws.{valid_two}
use Rattle.aq_plain.proofs.tests.twice_controlled.Goals as goal

pub returns : goal.returns
returns c =
    let made = c.new.ensures in
    valid_two c.args.qubits c.args.first c.args.second c.new.result (made.controls ∙ c.in_ok-controls.ensures) (rw made.rows c.in_ok-rows.ensures) (rw made.target c.requires.target)
    c.requires.first c.requires.second (rw made.target c.requires.first_other) (rw made.target c.requires.second_other) c.requires.two
