use Rattle.std.proofs.Common.{◌≡◌, ◌++◌, length, reverse}
use Rattle.aq_plain_judge.proofs.listing.into_vec.Given as goal

-- what was taken off the end stands in the `Vec`, last first
abbrev pub invariant-loop-vector : goal.invariant-loop-vector
invariant-loop-vector l = l.fn.list ≡ l.list ++ reverse l.vectors.items

abbrev pub decreases-loop-vector : goal.decreases-loop-vector
decreases-loop-vector l = length l.list
