use Rattle.std.proofs.Common.{sym, ap, ◌∙◌}
use Rattle.std.specs.Prelude.{not}
use Rattle.std.proofs.lemmas.Result.{err_from_is_err_and}
use Rattle.aq_grammar.specs.Readers.{many}
use Rattle.aq_grammar.proofs.Reading.{loop_goes_on, loop_ends}
use Rattle.aq_grammar.proofs.Loops.{loop_fails}
use Rattle.aq_set_parse.specs.Reading.{item_at, goes_on}
use Rattle.aq_set_parse.proofs.FileLaws.{item_goes}
use Rattle.aq_set_parse.proofs.items.items.Goals as goal

pub returns-in_err-next : goal.returns-in_err-next
returns-in_err-next c =
    let p = err_from_is_err_and c.from_residual-in_err-next.result c.from_residual-in_err-next.ensures.1 in
    rw (p.1, p.2) (loop_fails goes_on (item_at c.args.room) (item_goes c.args.room) c.in_err-next.field-0.0 c.loop-alloc.items c.loop-alloc.rest.now (many goes_on (item_at c.args.room) c.args.tokens.now) (ap not (sym c.starts.ensures ∙ c.loop-alloc-test.true)) c.in_err-next.ensures c.loop-alloc.invariant)

pub loop-alloc-smaller : goal.loop-alloc-smaller
loop-alloc-smaller c = item_goes c.args.room c.loop-alloc.rest.now (c.in_ok-next.next, c.in_ok-next.after.now) c.in_ok-next.ensures

pub loop-alloc-preserved : goal.loop-alloc-preserved
loop-alloc-preserved c =
    rw c.in_ok-push.ensures.ok (loop_goes_on goes_on (item_at c.args.room) (item_goes c.args.room) c.loop-alloc.items c.loop-alloc.rest.now c.in_ok-next.after.now c.in_ok-next.next (many goes_on (item_at c.args.room) c.args.tokens.now) (ap not (sym c.starts.ensures ∙ c.loop-alloc-test.true)) c.in_ok-next.ensures c.loop-alloc.invariant)

pub returns : goal.returns
returns c = loop_ends goes_on (item_at c.args.room) (item_goes c.args.room) c.loop-alloc.items c.loop-alloc.rest.now (many goes_on (item_at c.args.room) c.args.tokens.now) (ap not (sym c.starts.ensures ∙ c.loop-alloc-test.false)) c.loop-alloc.invariant
