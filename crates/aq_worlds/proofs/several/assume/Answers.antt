use Rattle.std.proofs.Common.{sym, ◌∙◌}
use Rattle.aq_worlds.proofs.SeveralLaws.{decided_given, held_given, none_given}
use Rattle.aq_worlds.proofs.several.assume.Goals as goal

pub returns-then-is_open : goal.returns-then-is_open
returns-then-is_open c = λ n m case s.
    let made = c.fixed-decided.ensures in
    decided_given n m c.args.guard.now case c.args.world c.fixed-decided.result _ _ (sym c.is_open.ensures ∙ c.if-is_open.true) s (made.decided case) (λ i. (made.vectors i).items) c.in_ok-left.ensures c.in_ok-list.ensures

pub returns-then-holds : goal.returns-then-holds
returns-then-holds c = λ n m case s. held_given n m c.args.guard.now case c.args.world _ _ (sym c.holds.ensures ∙ c.if-holds.true) s c.in_ok-same.ensures c.in_ok-rest.ensures

pub returns : goal.returns
returns c = λ n m case s. none_given n m c.args.guard.now case c.args.world _ (sym c.is_open.ensures ∙ c.if-is_open.false) (sym c.holds.ensures ∙ c.if-holds.false) c.new.ensures.items
