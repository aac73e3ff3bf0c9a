use Rattle.std.proofs.Common.{◌≡◌}
use Rattle.aq_obligations.specs.Correct.{zeros}
use Rattle.aq_top.proofs.replay.zero_bits.Given as goal

abbrev pub invariant-loop : goal.invariant-loop
invariant-loop l = l.bits ≡ zeros l.counter
