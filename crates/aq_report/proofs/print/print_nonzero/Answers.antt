use Rattle.std.proofs.Common.{sym, ◌∙◌}
use Rattle.aq_ring.proofs.VectorLaws.{is_zero_is}
use Rattle.aq_world.proofs.PrintsLemmas.{Prints-none}
use Rattle.aq_report.proofs.print.print_nonzero.Goals as goal

pub returns-then-is_zero : goal.returns-then-is_zero
returns-then-is_zero g c =
    rw (sym (is_zero_is c.args.amp.now c.is_zero.result c.is_zero.ensures) ∙ c.if-is_zero.true)
    (Prints-none _ _ tt)

pub returns : goal.returns
returns g c = rw (sym (is_zero_is c.args.amp.now c.is_zero.result c.is_zero.ensures) ∙ c.if-is_zero.false) c.print_entry.ensures
