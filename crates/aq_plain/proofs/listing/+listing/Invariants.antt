use Rattle.std.proofs.Common.{◌≡◌, ◌+◌, ◌*◌, take}
use Rattle.aq_plain.specs.Listing.{lists_in_turn, AllFit}
use Rattle.aq_plain.proofs.listing.+listing.Given as goal

abbrev pub decreases-list_rows : goal.decreases-list_rows
decreases-list_rows l = 2 * l.expr + 1

abbrev pub decreases-part_rows : goal.decreases-part_rows
decreases-part_rows l = 2 * l.part

abbrev pub invariant-list_rows-loop-part : goal.invariant-list_rows-loop-part
invariant-list_rows-loop-part l = record {
  made : l.rows.items ≡ (lists_in_turn l.exprs (take l.part-index l.part-items)).vectors;
  fits : AllFit (lists_in_turn l.exprs (take l.part-index l.part-items)).products;
}
