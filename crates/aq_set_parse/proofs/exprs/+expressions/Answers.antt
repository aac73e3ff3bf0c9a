use Rattle.std.proofs.Common.{◌≡◌, ℕ, zero, suc, ◌-◌, ◌<◌, List, sym, ◌∙◌, arith, refl, Err}
use Rattle.std.proofs.lemmas.Result.{err_from_is_err_and}
use Rattle.aq_grammar.specs.Readers.{after}
use Rattle.aq_grammar.proofs.Reading.{loop_goes_on, loop_ends}
use Rattle.aq_grammar.proofs.Loops.{loop_fails}
use Rattle.aq_set_parse.specs.Piece.{SetPiece}
use Rattle.aq_set_parse.specs.Tokens.{begins, mark_at}
use Rattle.aq_set_parse.specs.Reading.{link_at, factor_of, powered_at, factors_at, part_of, tensor_at, parts_at, inside_at, group_at}
use Rattle.aq_set_parse.specs.declared.mark.SetMark.TheVariants as marks
use Rattle.aq_set_parse.specs.declared.reader.Fault.TheVariants as faults
use Rattle.aq_set_parse.proofs.ExprLaws.{next_factor_goes, next_part_goes}
use Rattle.aq_set_parse.proofs.exprs.+expressions.Goals as goal

pub factors-returns-in_err-next : goal.factors-returns-in_err-next
factors-returns-in_err-next t c =
    let p = err_from_is_err_and c.from_residual-in_err-next.result c.from_residual-in_err-next.ensures.1 in
    rw (p.1, p.2) (loop_fails (begins marks.Star) (link_at factor_of (after (mark_at marks.Star) (powered_at (group_at c.args.room)))) (next_factor_goes c.args.room) c.in_err-next.field-0.0 c.loop-alloc.factors c.loop-alloc.rest.now (factors_at (group_at c.args.room) c.args.tokens.now) (sym c.starts.ensures ∙ c.loop-alloc-test.true) c.in_err-next.ensures c.loop-alloc.invariant)

pub factors-loop-alloc-smaller : goal.factors-loop-alloc-smaller
factors-loop-alloc-smaller t c = next_factor_goes c.args.room c.loop-alloc.rest.now (c.in_ok-next.next, c.in_ok-next.after.now) c.in_ok-next.ensures

pub factors-loop-alloc-preserved : goal.factors-loop-alloc-preserved
factors-loop-alloc-preserved t c =
    rw c.in_ok-push-2.ensures.ok (loop_goes_on (begins marks.Star) (link_at factor_of (after (mark_at marks.Star) (powered_at (group_at c.args.room)))) (next_factor_goes c.args.room) c.loop-alloc.factors c.loop-alloc.rest.now c.in_ok-next.after.now c.in_ok-next.next (factors_at (group_at c.args.room) c.args.tokens.now) (sym c.starts.ensures ∙ c.loop-alloc-test.true) c.in_ok-next.ensures c.loop-alloc.invariant)

pub factors-returns : goal.factors-returns
factors-returns t c = loop_ends (begins marks.Star) (link_at factor_of (after (mark_at marks.Star) (powered_at (group_at c.args.room)))) (next_factor_goes c.args.room) c.loop-alloc.factors c.loop-alloc.rest.now (factors_at (group_at c.args.room) c.args.tokens.now) (sym c.starts.ensures ∙ c.loop-alloc-test.false) c.loop-alloc.invariant

pub parts-returns-in_err-next : goal.parts-returns-in_err-next
parts-returns-in_err-next t c =
    let p = err_from_is_err_and c.from_residual-in_err-next.result c.from_residual-in_err-next.ensures.1 in
    rw (p.1, p.2) (loop_fails (begins marks.Union) (link_at part_of (after (mark_at marks.Union) (tensor_at (group_at c.args.room)))) (next_part_goes c.args.room) c.in_err-next.field-0.0 c.loop-alloc.parts c.loop-alloc.rest.now (parts_at (group_at c.args.room) c.args.tokens.now) (sym c.starts.ensures ∙ c.loop-alloc-test.true) c.in_err-next.ensures c.loop-alloc.invariant)

pub parts-loop-alloc-smaller : goal.parts-loop-alloc-smaller
parts-loop-alloc-smaller t c = next_part_goes c.args.room c.loop-alloc.rest.now (c.in_ok-next.next, c.in_ok-next.after.now) c.in_ok-next.ensures

pub parts-loop-alloc-preserved : goal.parts-loop-alloc-preserved
parts-loop-alloc-preserved t c =
    rw c.in_ok-push-2.ensures.ok (loop_goes_on (begins marks.Union) (link_at part_of (after (mark_at marks.Union) (tensor_at (group_at c.args.room)))) (next_part_goes c.args.room) c.loop-alloc.parts c.loop-alloc.rest.now c.in_ok-next.after.now c.in_ok-next.next (parts_at (group_at c.args.room) c.args.tokens.now) (sym c.starts.ensures ∙ c.loop-alloc-test.true) c.in_ok-next.ensures c.loop-alloc.invariant)

pub parts-returns : goal.parts-returns
parts-returns t c = loop_ends (begins marks.Union) (link_at part_of (after (mark_at marks.Union) (tensor_at (group_at c.args.room)))) (next_part_goes c.args.room) c.loop-alloc.parts c.loop-alloc.rest.now (parts_at (group_at c.args.room) c.args.tokens.now) (sym c.starts.ensures ∙ c.loop-alloc-test.false) c.loop-alloc.invariant

no_room : (n : ℕ) (ts : List SetPiece) → n ≡ 0 → group_at n ts ≡ Err (faults.TooDeep, ts)
unfolding group_at
no_room zero ts e = refl
no_room (suc n) ts e = absurd (omega arith)

some_room : (n : ℕ) (ts : List SetPiece) → 0 < n → inside_at (group_at (n - 1)) ts ≡ group_at n ts
unfolding group_at
some_room zero ts lt = absurd (omega arith)
some_room (suc n) ts lt = let e : suc n - 1 ≡ n = omega arith in rw e refl

pub group-returns-then-room-eq0 : goal.group-returns-then-room-eq0
group-returns-then-room-eq0 t c = no_room c.args.room c.args.tokens.now (omega arith)

pub group-returns : goal.group-returns
group-returns t c = rw (← some_room c.args.room c.args.tokens.now (omega arith)) c.inside.ensures
