use Rattle.std.proofs.Common.{◌≡◌, length, take}
use Rattle.aq_plain.specs.Listing.{states_of}
use Rattle.aq_plain.proofs.listing.vectors_of_rows.Given as goal

abbrev pub invariant-loop-row : goal.invariant-loop-row
invariant-loop-row l = l.list ≡ states_of l.fn.qubits (take (length l.yielded) l.fn.rows.items)
