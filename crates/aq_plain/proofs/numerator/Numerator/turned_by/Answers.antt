use Rattle.std.proofs.Common.{sym, ap, ◌∙◌, arith, subst}
use Rattle.aq_ring.specs.Quads.{quad_neg}
use Rattle.aq_plain.proofs.SmallLaws.{below_turned_by, turned_by-half}
use Rattle.aq_plain.specs.Small.{IsBelow}
use Rattle.aq_plain.proofs.numerator.Numerator.turned_by.Goals as goal

pub negated-requires : goal.negated-requires
negated-requires c = subst (IsBelow 126) (sym c.turned_slowly.ensures) (below_turned_by _ 126 c.args.self c.requires)

pub returns-then-turn-ge4 : goal.returns-then-turn-ge4
returns-then-turn-ge4 c = turned_by-half _ c.args.turn c.args.self _ (omega arith) (c.negated.ensures ∙ ap quad_neg c.turned_slowly.ensures)
