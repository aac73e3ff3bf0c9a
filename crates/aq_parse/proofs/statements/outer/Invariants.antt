use Rattle.std.proofs.Common.{◌≡◌, length}
use Rattle.aq_grammar.specs.Readers.{many, with_front}
use Rattle.aq_parse.specs.Reading.{item_at, body_at, open_outside}
use Rattle.aq_parse.proofs.statements.outer.Given as goal

abbrev pub invariant-loop-alloc : goal.invariant-loop-alloc
invariant-loop-alloc l = with_front l.items (many open_outside (item_at (body_at l.room)) l.rest) ≡ many open_outside (item_at (body_at l.fn.room)) l.fn.tokens

abbrev pub decreases-loop-alloc : goal.decreases-loop-alloc
decreases-loop-alloc l = length l.rest
