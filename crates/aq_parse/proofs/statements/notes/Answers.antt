use Rattle.std.proofs.Common.{sym, ◌∙◌}
use Rattle.aq_grammar.proofs.Reading.{loop_goes_on, loop_ends}
use Rattle.aq_parse.specs.Tokens.{begins_note, note_at}
use Rattle.aq_parse.specs.Reading.{notes_at}
use Rattle.aq_parse.proofs.Simples.{note_goes}
use Rattle.aq_parse.proofs.statements.notes.Goals as goal

pub loop-alloc-preserved : goal.loop-alloc-preserved
loop-alloc-preserved c =
    rw c.in_ok-push.ensures.ok (loop_goes_on begins_note note_at note_goes c.loop-alloc.notes c.loop-alloc.rest.now c.in_ok-next.after.now c.in_ok-next.next (notes_at c.args.tokens.now) (sym c.starts_note.ensures ∙ c.loop-alloc-test.true) c.in_ok-next.ensures c.loop-alloc.invariant)

pub returns : goal.returns
returns c = loop_ends begins_note note_at note_goes c.loop-alloc.notes c.loop-alloc.rest.now (notes_at c.args.tokens.now) (sym c.starts_note.ensures ∙ c.loop-alloc-test.false) c.loop-alloc.invariant
