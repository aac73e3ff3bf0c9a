use Rattle.std.proofs.Common.{◌≡◌, take}
use Rattle.aq_sets.specs.Vectors.{tensor, pairs}
use Rattle.aq_plain.specs.Listing.{AllFit}
use Rattle.aq_plain.proofs.tensors.tensor_row.Given as goal

abbrev pub invariant-loop-amp : goal.invariant-loop-amp
invariant-loop-amp l = record {
  made : l.amps.items ≡ tensor (take l.amp-index l.left) l.right;
  fits : AllFit (pairs (take l.amp-index l.left) l.right);
}
