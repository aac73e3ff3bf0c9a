use Rattle.std.proofs.Common.{◌≡◌, ◌++◌, take}
use Rattle.std.specs.Prelude.{map}
use Rattle.std.specs.List.{flat_map}
use Rattle.aq_sets.specs.Vectors.{tensor, pairs}
use Rattle.aq_plain.specs.Listing.{AllFit}
use Rattle.aq_plain.proofs.tensors.push_tensors.Given as goal

abbrev pub invariant-loop-row : goal.invariant-loop-row
invariant-loop-row l = record {
  made : l.rows.items ≡ l.fn.rows.items ++ map (tensor l.left) (take l.row-index l.right);
  fits : AllFit (flat_map (pairs l.left) (take l.row-index l.right));
}
