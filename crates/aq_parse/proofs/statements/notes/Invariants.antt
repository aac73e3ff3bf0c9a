use Rattle.std.proofs.Common.{◌≡◌, length}
use Rattle.aq_grammar.specs.Readers.{with_front, many}
use Rattle.aq_parse.specs.Tokens.{begins_note, note_at}
use Rattle.aq_parse.specs.Reading.{notes_at}
use Rattle.aq_parse.proofs.statements.notes.Given as goal

abbrev pub invariant-loop-alloc : goal.invariant-loop-alloc
invariant-loop-alloc l = with_front l.notes (many begins_note note_at l.rest) ≡ notes_at l.fn.tokens

abbrev pub decreases-loop-alloc : goal.decreases-loop-alloc
decreases-loop-alloc l = length l.rest
