use Rattle.std.proofs.Common.{◌≡◌, take}
use Rattle.aq_sets.specs.Vectors.{tensors, all_pairs}
use Rattle.aq_plain.specs.Listing.{AllFit}
use Rattle.aq_plain.proofs.tensors.tensor_rows.Given as goal

abbrev pub invariant-loop-row : goal.invariant-loop-row
invariant-loop-row l = record {
  made : l.rows.items ≡ tensors (take l.row-index l.left) l.right;
  fits : AllFit (all_pairs (take l.row-index l.left) l.right);
}
