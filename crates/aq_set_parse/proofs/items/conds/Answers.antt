use Rattle.std.proofs.Common.{sym, ◌∙◌}
use Rattle.std.proofs.lemmas.Result.{err_from_is_err_and}
use Rattle.aq_grammar.specs.Readers.{after}
use Rattle.aq_grammar.proofs.Reading.{loop_goes_on, loop_ends}
use Rattle.aq_grammar.proofs.Loops.{loop_fails}
use Rattle.aq_set_parse.specs.Tokens.{begins, mark_at}
use Rattle.aq_set_parse.specs.Reading.{cond_at, conds_at}
use Rattle.aq_set_parse.specs.declared.mark.SetMark.TheVariants as marks
use Rattle.aq_set_parse.proofs.TermLaws.{next_cond_goes}
use Rattle.aq_set_parse.proofs.items.conds.Goals as goal

pub returns-in_err-next : goal.returns-in_err-next
returns-in_err-next c =
    let p = err_from_is_err_and c.from_residual-in_err-next.result c.from_residual-in_err-next.ensures.1 in
    rw (p.1, p.2) (loop_fails (begins marks.And) (after (mark_at marks.And) cond_at) next_cond_goes c.in_err-next.field-0.0 c.loop-alloc.conds c.loop-alloc.rest.now (conds_at c.args.tokens.now) (sym c.starts.ensures ∙ c.loop-alloc-test.true) c.in_err-next.ensures c.loop-alloc.invariant)

pub loop-alloc-smaller : goal.loop-alloc-smaller
loop-alloc-smaller c = next_cond_goes c.loop-alloc.rest.now (c.in_ok-next.next, c.in_ok-next.after.now) c.in_ok-next.ensures

pub loop-alloc-preserved : goal.loop-alloc-preserved
loop-alloc-preserved c =
    rw c.in_ok-push-2.ensures.ok (loop_goes_on (begins marks.And) (after (mark_at marks.And) cond_at) next_cond_goes c.loop-alloc.conds c.loop-alloc.rest.now c.in_ok-next.after.now c.in_ok-next.next (conds_at c.args.tokens.now) (sym c.starts.ensures ∙ c.loop-alloc-test.true) c.in_ok-next.ensures c.loop-alloc.invariant)

pub returns : goal.returns
returns c = loop_ends (begins marks.And) (after (mark_at marks.And) cond_at) next_cond_goes c.loop-alloc.conds c.loop-alloc.rest.now (conds_at c.args.tokens.now) (sym c.starts.ensures ∙ c.loop-alloc-test.false) c.loop-alloc.invariant
