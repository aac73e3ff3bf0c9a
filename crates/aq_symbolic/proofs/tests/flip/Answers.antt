use Rattle.std.proofs.Common.{◌∙◌, arith}
use Rattle.aq_plain.proofs.ValidLaws.{valid_alone}
use Rattle.aq_symbolic.proofs.tests.flip.Goals as goal

pub returns-in-Some : goal.returns-in-Some
returns-in-Some c =
    let made = c.new-in-Some.ensures in
    valid_alone 1 c.new-in-Some.result (made.controls ∙ c.new.ensures) (rw made.rows c.in-Some.ensures.entries) (rw made.target (omega arith))
