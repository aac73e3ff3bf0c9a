use Rattle.std.proofs.Common.{◌≡◌, ap, ◌∙◌, arith, rules}
use Rattle.aq_ring.specs.Amplitudes.{amplitude_zero}
use Rattle.aq_ring.specs.Quads.{turned_by}
use Rattle.aq_plain.proofs.SmallLaws.{fraction_is, term_of_zero}
use Rattle.aq_plain.proofs.small.fraction_of.Goals as goal

pub returns-then-is_zero : goal.returns-then-is_zero
returns-then-is_zero c = let z : c.args.amp ≡ amplitude_zero = search rules in term_of_zero c.args.entry c.args.amp z

pub returns-else-is_zero : goal.returns-else-is_zero
returns-else-is_zero c =
    fraction_is c.in-Unit.turn c.in-Unit.roots c.args.entry c.args.amp _ c.in-Unit.is c.requires.entry c.requires.small
    (c.turned_by.ensures ∙ ap (turned_by c.in-Unit.turn) c.of.ensures) (omega (arith, c.power.ensures, c.from.ensures))
