use Rattle.std.proofs.Common.{◌≤◌, ◌+◌, ◌*◌, length, drop}
use Rattle.aq_obligations.specs.OwingCounts.{Total, totals}
use Rattle.aq_owing.specs.Making.{IsTold}
use Rattle.aq_owing.proofs.WeightLaws.{weight_of}
use Rattle.aq_owing.proofs.counting.+totalling.Given as goal

-- those from a position on are counted
abbrev pub invariant-totals-loop-left : goal.invariant-totals-loop-left
invariant-totals-loop-left l = record {
  within : l.left ≤ length l.body;
  counts : (b : Total) → IsTold l.fn.behind b → IsTold l.count (totals (drop l.left l.body) b);
}

abbrev pub decreases-totals-loop-left : goal.decreases-totals-loop-left
decreases-totals-loop-left l = l.left

-- the statements inside a statement are fewer
abbrev pub decreases-total : goal.decreases-total
decreases-total l = 2 * weight_of l.body.now

abbrev pub decreases-totals : goal.decreases-totals
decreases-totals l = 2 * weight_of l.body.now + 1
