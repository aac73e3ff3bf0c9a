use Rattle.std.proofs.Common.{◌≡◌, ◌≤◌, ◌+◌, ◌*◌, ℕ, length, drop}
use Rattle.aq_sets.specs.Caps.{capped}
use Rattle.aq_obligations.specs.OwingCounts.{numbers}
use Rattle.aq_owing.proofs.WeightLaws.{weight, weight_of}
use Rattle.aq_owing.proofs.counting.+numbering.Given as goal

-- those from a position on are counted
abbrev pub invariant-numbers-loop-left : goal.invariant-numbers-loop-left
invariant-numbers-loop-left l = record {
  within : l.left ≤ length l.body;
  counts : (b : ℕ) → l.fn.behind ≡ capped b → l.count ≡ capped (numbers (drop l.left l.body) b);
}

abbrev pub decreases-numbers-loop-left : goal.decreases-numbers-loop-left
decreases-numbers-loop-left l = l.left

-- the statements inside a statement are fewer
abbrev pub decreases-number : goal.decreases-number
decreases-number l = 2 * weight l.stmt.now

abbrev pub decreases-numbers : goal.decreases-numbers
decreases-numbers l = 2 * weight_of l.body.now + 1
