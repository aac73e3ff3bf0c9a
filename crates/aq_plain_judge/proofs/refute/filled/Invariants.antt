use Rattle.std.proofs.Common.{◌≡◌, take}
use Rattle.aq_obligations.specs.Worlds.{filled}
use Rattle.aq_plain_judge.proofs.refute.filled.Given as goal

abbrev pub invariant-loop-bit : goal.invariant-loop-bit
invariant-loop-bit l = l.list ≡ filled (take l.bit-index l.bits)
