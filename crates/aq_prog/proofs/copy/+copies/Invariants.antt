use Rattle.std.proofs.Common.{◌≡◌, take}
use Rattle.aq_prog.proofs.copy.+copies.Given as goal

-- the statements before
abbrev pub invariant-copy_body-loop-stmt : goal.invariant-copy_body-loop-stmt
invariant-copy_body-loop-stmt l = l.list ≡ take l.stmt-index l.body
