use Rattle.std.proofs.Common.{arith}
use Rattle.aq_set_parse.proofs.NumberLemmas.{too_long}
use Rattle.aq_set_parse.proofs.scan.number_class.Goals as goal

pub returns-then-number-gt-GREATEST_TENTH : goal.returns-then-number-gt-GREATEST_TENTH
returns-then-number-gt-GREATEST_TENTH c = too_long c.loop-digit.number c.args.digits.now c.loop-digit.digit-index c.loop-digit.invariant.0 (omega arith) (omega arith)

pub returns-then-number-gt-GREATEST : goal.returns-then-number-gt-GREATEST
returns-then-number-gt-GREATEST c = too_long c.loop-digit.number c.args.digits.now c.loop-digit.digit-index c.loop-digit.invariant.0 (omega arith) (omega arith)
