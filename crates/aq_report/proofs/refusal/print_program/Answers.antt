use Rattle.std.proofs.Common.{append_assoc}
use Rattle.aq_report.specs.Refusals.{program_line}
use Rattle.aq_report.specs.Texts.{newline}
use Rattle.aq_report.proofs.refusal.print_program.Goals as goal

pub returns : goal.returns
unfolding program_line
returns g c = rw (append_assoc c.args.name.now c.args.word.now newline, ← c.from.ensures, ← c.from-2.ensures) c.put_pieces.ensures
