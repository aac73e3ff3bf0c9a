use Rattle.std.proofs.Common.{sym, ◌∙◌}
use Rattle.std.proofs.lemmas.Result.{err_from_is_err_and}
use Rattle.aq_grammar.specs.Readers.{after}
use Rattle.aq_grammar.proofs.Reading.{loop_goes_on, loop_ends}
use Rattle.aq_grammar.proofs.Loops.{loop_fails}
use Rattle.aq_set_parse.specs.Tokens.{begins, mark_at}
use Rattle.aq_set_parse.specs.Reading.{case_at, cases_at}
use Rattle.aq_set_parse.specs.declared.mark.SetMark.TheVariants as marks
use Rattle.aq_set_parse.proofs.FileLaws.{next_case_goes}
use Rattle.aq_set_parse.proofs.items.cases.Goals as goal

pub returns-in_err-next : goal.returns-in_err-next
returns-in_err-next c =
    let p = err_from_is_err_and c.from_residual-in_err-next.result c.from_residual-in_err-next.ensures.1 in
    rw (p.1, p.2) (loop_fails (begins marks.Comma) (after (mark_at marks.Comma) (case_at c.args.room)) (next_case_goes c.args.room) c.in_err-next.field-0.0 c.loop-alloc.cases c.loop-alloc.rest.now (cases_at c.args.room c.args.tokens.now) (sym c.starts.ensures ∙ c.loop-alloc-test.true) c.in_err-next.ensures c.loop-alloc.invariant)

pub loop-alloc-smaller : goal.loop-alloc-smaller
loop-alloc-smaller c = next_case_goes c.args.room c.loop-alloc.rest.now (c.in_ok-next.next, c.in_ok-next.after.now) c.in_ok-next.ensures

pub loop-alloc-preserved : goal.loop-alloc-preserved
loop-alloc-preserved c =
    rw c.in_ok-push-2.ensures.ok (loop_goes_on (begins marks.Comma) (after (mark_at marks.Comma) (case_at c.args.room)) (next_case_goes c.args.room) c.loop-alloc.cases c.loop-alloc.rest.now c.in_ok-next.after.now c.in_ok-next.next (cases_at c.args.room c.args.tokens.now) (sym c.starts.ensures ∙ c.loop-alloc-test.true) c.in_ok-next.ensures c.loop-alloc.invariant)

pub returns : goal.returns
returns c = loop_ends (begins marks.Comma) (after (mark_at marks.Comma) (case_at c.args.room)) (next_case_goes c.args.room) c.loop-alloc.cases c.loop-alloc.rest.now (cases_at c.args.room c.args.tokens.now) (sym c.starts.ensures ∙ c.loop-alloc-test.false) c.loop-alloc.invariant
