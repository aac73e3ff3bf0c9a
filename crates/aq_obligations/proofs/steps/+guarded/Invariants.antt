use Rattle.std.proofs.Common.{◌≡◌, drop}
use Rattle.aq_obligations.specs.Enough.{guards}
use Rattle.aq_obligations.specs.Counting.{is_named}
use Rattle.aq_obligations.proofs.steps.+guarded.Given as goal

-- the bit is named in all of the body where it is named in what is to come
abbrev pub invariant-is_guarded-loop-stmt : goal.invariant-is_guarded-loop-stmt
invariant-is_guarded-loop-stmt l = is_named l.bit (guards (drop l.stmt-index l.body)) ≡ is_named l.bit (guards l.body)
