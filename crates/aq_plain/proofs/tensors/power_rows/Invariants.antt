use Rattle.std.proofs.Common.{◌≡◌}
use Rattle.aq_sets.specs.Vectors.{listed, power}
use Rattle.aq_plain.specs.Listing.{AllFit}
use Rattle.aq_plain.proofs.tensors.power_rows.Given as goal

abbrev pub invariant-loop-i : goal.invariant-loop-i
invariant-loop-i l = record {
  made : l.rows.items ≡ (power l.i (listed l.base)).vectors;
  fits : AllFit (power l.i (listed l.base)).products;
}
