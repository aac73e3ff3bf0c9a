use Rattle.std.proofs.Common.{◌≡◌, drop}
use Rattle.aq_obligations.specs.Enough.{conditions}
use Rattle.aq_obligations.specs.Counting.{is_named}
use Rattle.aq_obligations.proofs.steps.is_condition.Given as goal

-- the bit is named by all cases where it is named by those to come
abbrev pub invariant-loop-case : goal.invariant-loop-case
invariant-loop-case l = is_named l.bit (conditions (drop l.case-index l.cases)) ≡ is_named l.bit (conditions l.cases)
