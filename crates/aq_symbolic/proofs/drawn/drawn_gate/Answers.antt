use Rattle.std.proofs.Common.{sym, ◌∙◌}
use Rattle.aq_plain.proofs.ValidLaws.{valid_alone, valid_one, valid_two}
use Rattle.aq_symbolic.proofs.drawn.drawn_gate.Goals as goal

pub returns-then-first-target : goal.returns-then-first-target
returns-then-first-target c =
    let made = c.new-then-first-target.ensures in
    valid_alone 4 c.new-then-first-target.result (made.controls ∙ c.new.ensures) (rw made.rows c.in_ok-rows.ensures) (rw made.target c.below-target.ensures)

pub returns-then-second-target : goal.returns-then-second-target
returns-then-second-target c =
    let made = c.new-then-second-target.ensures in
    valid_one 4 c.below-first.result c.new-then-second-target.result (made.controls ∙ c.in_ok-one.ensures) (rw made.rows c.in_ok-rows.ensures) (rw made.target c.below-target.ensures) c.below-first.ensures (rw made.target c.if-first-target.false)

pub returns : goal.returns
returns c =
    let made = c.new-2.ensures in
    valid_two 4 c.below-first.result c.below-second.result c.new-2.result (made.controls ∙ c.in_ok-two.ensures) (rw made.rows c.in_ok-rows.ensures) (rw made.target c.below-target.ensures) c.below-first.ensures c.below-second.ensures
    (rw made.target c.if-first-target.false) (rw made.target c.if-second-target.false) (λ e. c.if-second-first.false (sym e))
