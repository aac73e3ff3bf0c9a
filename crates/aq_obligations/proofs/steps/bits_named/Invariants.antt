use Rattle.std.proofs.Common.{◌≡◌, ◌≤◌}
use Rattle.std.specs.List.{count_by, range_with_len}
use Rattle.aq_obligations.specs.Counting.{is_named_in}
use Rattle.aq_obligations.proofs.steps.bits_named.Given as goal

-- the bits before that are named
abbrev pub invariant-loop-bit : goal.invariant-loop-bit
invariant-loop-bit l = record {
  few : l.count ≤ l.bit;
  counted : l.count ≡ count_by (λ bit. is_named_in bit l.obligation) (range_with_len 0 l.bit);
}
