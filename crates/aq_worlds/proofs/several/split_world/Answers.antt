use Rattle.std.proofs.Common.{sym, ◌∙◌}
use Rattle.aq_worlds.proofs.SeveralLaws.{halves_given, same_given}
use Rattle.aq_worlds.proofs.several.split_world.Goals as goal

pub returns-then-is_open : goal.returns-then-is_open
returns-then-is_open c = λ n m case s.
    let copy = c.in_ok-copy.ensures in
    let zero = c.fixed-zero.ensures in
    let other = c.fixed-other.ensures in
    halves_given n m c.args.bit case c.args.world c.in_ok-copy.copy c.fixed-zero.result c.fixed-other.result _ (sym c.is_open.ensures ∙ c.if-is_open.true) s (copy.same case) copy.vectors (zero.decided case) (λ i. (zero.vectors i).items) (other.decided case) (λ i. (other.vectors i).items) c.in_ok-halves.ensures

pub returns : goal.returns
returns c = λ n m case s. same_given n m c.args.bit case c.args.world _ (sym c.is_open.ensures ∙ c.if-is_open.false) s c.in_ok-same.ensures
