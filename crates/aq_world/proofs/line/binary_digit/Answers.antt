use Rattle.std.proofs.Common.{ap, sym, ◌+◌, arith}
use Rattle.aq_world.proofs.LinesLemmas.{high_bit}
use Rattle.aq_world.proofs.line.binary_digit.Goals as goal

pub returns-else-place-lt64 : goal.returns-else-place-lt64
returns-else-place-lt64 c = ap (λ n. 48 + n) (sym (high_bit c.args.number c.args.place (omega arith) (omega arith)))
