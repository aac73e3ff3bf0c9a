use Rattle.std.proofs.Common.{◌≡◌, ℕ, zero, suc, ◌-◌, ◌<◌, List, sym, ap, ◌∙◌, arith, refl, Err}
use Rattle.std.specs.Prelude.{not}
use Rattle.std.proofs.lemmas.Result.{err_from_is_err_and}
use Rattle.aq_grammar.specs.Readers.{many}
use Rattle.aq_grammar.proofs.Reading.{loop_goes_on, loop_ends}
use Rattle.aq_grammar.proofs.Loops.{loop_fails}
use Rattle.aq_parse.specs.Piece.{Piece}
use Rattle.aq_parse.specs.declared.reader.Fault.TheVariants as faults
use Rattle.aq_parse.specs.Reading.{item_at, body_at, inside_at, open_inside}
use Rattle.aq_parse.proofs.Bodies.{statement_goes}
use Rattle.aq_parse.proofs.statements.+statements.Goals as goal

pub inner-loop-alloc-smaller : goal.inner-loop-alloc-smaller
inner-loop-alloc-smaller t c = statement_goes c.args.room c.loop-alloc.rest.now (c.in_ok-next.next, c.in_ok-next.after.now) c.in_ok-next.ensures

pub inner-loop-alloc-preserved : goal.inner-loop-alloc-preserved
inner-loop-alloc-preserved t c =
    rw c.in_ok-push.ensures.ok (loop_goes_on open_inside (item_at (body_at c.args.room)) (statement_goes c.args.room) c.loop-alloc.items c.loop-alloc.rest.now c.in_ok-next.after.now c.in_ok-next.next (many open_inside (item_at (body_at c.args.room)) c.args.tokens.now) (ap not (sym c.starts.ensures ∙ c.loop-alloc-test.true)) c.in_ok-next.ensures c.loop-alloc.invariant)

pub inner-returns : goal.inner-returns
inner-returns t c = loop_ends open_inside (item_at (body_at c.args.room)) (statement_goes c.args.room) c.loop-alloc.items c.loop-alloc.rest.now (many open_inside (item_at (body_at c.args.room)) c.args.tokens.now) (ap not (sym c.starts.ensures ∙ c.loop-alloc-test.false)) c.loop-alloc.invariant

no_room : (n : ℕ) (ts : List Piece) → n ≡ 0 → body_at n ts ≡ Err (faults.TooDeep, ts)
unfolding body_at
no_room zero ts e = refl
no_room (suc n) ts e = absurd (omega arith)

some_room : (n : ℕ) (ts : List Piece) → 0 < n → inside_at (body_at (n - 1)) ts ≡ body_at n ts
unfolding body_at
some_room zero ts lt = absurd (omega arith)
some_room (suc n) ts lt = let e : suc n - 1 ≡ n = omega arith in rw e refl

pub body-returns-then-room-eq0 : goal.body-returns-then-room-eq0
body-returns-then-room-eq0 t c = no_room c.args.room c.args.tokens.now (omega arith)

pub body-returns : goal.body-returns
body-returns t c = rw (← some_room c.args.room c.args.tokens.now (omega arith)) c.inside.ensures

pub inner-returns-in_err-next : goal.inner-returns-in_err-next
inner-returns-in_err-next t c =
    let p = err_from_is_err_and c.from_residual-in_err-next.result c.from_residual-in_err-next.ensures.1 in
    rw (p.1, p.2) (loop_fails open_inside (item_at (body_at c.args.room)) (statement_goes c.args.room) c.in_err-next.field-0.0 c.loop-alloc.items c.loop-alloc.rest.now (many open_inside (item_at (body_at c.args.room)) c.args.tokens.now) (ap not (sym c.starts.ensures ∙ c.loop-alloc-test.true)) c.in_err-next.ensures c.loop-alloc.invariant)
