use Rattle.std.proofs.Common.{◌≡◌, ◌++◌, take}
use Rattle.std.specs.Prelude.{map}
use Rattle.aq_ring.specs.Amplitudes.{product}
use Rattle.aq_plain.specs.Listing.{AllFit}
use Rattle.aq_plain.proofs.tensors.push_products.Given as goal

abbrev pub invariant-loop-amp : goal.invariant-loop-amp
invariant-loop-amp l = record {
  made : l.amps.items ≡ l.fn.amps.items ++ map (product l.left) (take l.amp-index l.right);
  fits : AllFit (map (λ b. (l.left, b)) (take l.amp-index l.right));
}
