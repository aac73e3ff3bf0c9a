use Rattle.std.proofs.Common.{◌≡◌, length}
use Rattle.aq_grammar.specs.Readers.{with_front, many}
use Rattle.aq_set_parse.specs.Reading.{item_at, goes_on}
use Rattle.aq_set_parse.proofs.items.items.Given as goal

abbrev pub invariant-loop-alloc : goal.invariant-loop-alloc
invariant-loop-alloc l = with_front l.items (many goes_on (item_at l.room) l.rest) ≡ many goes_on (item_at l.fn.room) l.fn.tokens

abbrev pub decreases-loop-alloc : goal.decreases-loop-alloc
decreases-loop-alloc l = length l.rest
