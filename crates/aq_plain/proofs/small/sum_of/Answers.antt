use Rattle.std.proofs.Common.{◌-◌, sym, ◌∙◌, subst, arith}
use Rattle.aq_plain.specs.Small.{IsBelow}
use Rattle.aq_plain.proofs.SmallLaws.{roots_low, below_later, below_sum, made_over}
use Rattle.aq_plain.proofs.small.sum_of.Goals as goal

pub sum-requires-clause-left : goal.sum-requires-clause-left
sum-requires-clause-left c =
    let m = c.max-power.ensures in
    below_later 125 126 _ (omega arith) (roots_low (c.max-power.result - c.args.left.power) c.args.left.num _ (omega arith) c.requires.left c.times_roots-first.ensures)

pub sum-requires-clause-right : goal.sum-requires-clause-right
sum-requires-clause-right c =
    let m = c.max-power.ensures in
    below_later 125 126 _ (omega arith) (roots_low (c.max-power.result - c.args.right.power) c.args.right.num _ (omega arith) c.requires.right c.times_roots-second.ensures)

pub over_roots-requires : goal.over_roots-requires
over_roots-requires c =
    let m = c.max-power.ensures in
    subst (IsBelow 126) (sym c.sum.ensures) (below_sum 125 _ _
    (roots_low (c.max-power.result - c.args.left.power) c.args.left.num _ (omega arith) c.requires.left c.times_roots-first.ensures)
    (roots_low (c.max-power.result - c.args.right.power) c.args.right.num _ (omega arith) c.requires.right c.times_roots-second.ensures))

pub returns : goal.returns
returns c = c.over_roots.ensures ∙ made_over c.args.left.power c.args.right.power c.max-power.result _ _ _ _ _ c.max-power.ensures c.times_roots-first.ensures c.times_roots-second.ensures c.sum.ensures
