use Rattle.std.proofs.Common.{◌≡◌, ◌+◌, ◌*◌, length}
use Rattle.aq_grammar.specs.Readers.{many, with_front}
use Rattle.aq_parse.specs.Reading.{item_at, body_at, open_inside}
use Rattle.aq_parse.proofs.statements.+statements.Given as goal

abbrev pub decreases-body : goal.decreases-body
decreases-body l = 7 * l.room

abbrev pub decreases-branch : goal.decreases-branch
decreases-branch l = 7 * l.room + 1

abbrev pub decreases-repeat : goal.decreases-repeat
decreases-repeat l = 7 * l.room + 1

abbrev pub decreases-bare : goal.decreases-bare
decreases-bare l = 7 * l.room + 2

abbrev pub decreases-statement : goal.decreases-statement
decreases-statement l = 7 * l.room + 3

abbrev pub decreases-inner : goal.decreases-inner
decreases-inner l = 7 * l.room + 4

abbrev pub invariant-inner-loop-alloc : goal.invariant-inner-loop-alloc
invariant-inner-loop-alloc l = with_front l.items (many open_inside (item_at (body_at l.room)) l.rest) ≡ many open_inside (item_at (body_at l.fn.room)) l.fn.tokens

abbrev pub decreases-inner-loop-alloc : goal.decreases-inner-loop-alloc
decreases-inner-loop-alloc l = length l.rest

abbrev pub decreases-block : goal.decreases-block
decreases-block l = 7 * l.room + 5

abbrev pub decreases-inside : goal.decreases-inside
decreases-inside l = 7 * l.room + 6
