use Rattle.std.proofs.Common.{◌≡◌, ◌+◌, ◌≤◌}
use Rattle.aq_decide.specs.Budgets.{split_budget}
use Rattle.aq_decide.specs.Splitting.{AreDecided, asked_bits}
use Rattle.aq_decide.proofs.split.split_all.Given as goal

-- the worlds are split at the bits so far, and those that are added are paid for
abbrev pub invariant-loop-bit : goal.invariant-loop-bit
invariant-loop-bit l = record {
  decided : AreDecided (asked_bits l.cases l.bit) l.fn.worlds.items l.left.items;
  left : l.steps.taken + split_budget l.cases l.left.items ≤ l.fn.steps.taken + split_budget l.cases l.fn.worlds.items;
  later : l.fn.steps.taken ≤ l.steps.taken;
  limit : l.steps.limit ≡ l.fn.steps.limit;
}
