use Rattle.std.proofs.Common.{arith}
use Rattle.aq_obligations.proofs.StepLaws.{two_large}
use Rattle.aq_obligations.proofs.steps.power_of_two.Goals as goal

pub returns-else-exponent-lt64 : goal.returns-else-exponent-lt64
returns-else-exponent-lt64 c = λ e h. two_large c.args.exponent e h (omega (arith, c.if-exponent-lt64.false))
