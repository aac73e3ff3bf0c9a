use Rattle.std.proofs.Common.{arith, ◌-◌, sym, ap₂, ◌∙◌}
use Rattle.std.proofs.lemmas.Result.{err_from_is_err_and}
use Rattle.aq_elab.proofs.StatementLaws.{statement_goes_on, statement_stops, statement_strays, statement_longer}
use Rattle.aq_elab.proofs.statements.+statements.Goals as goal

pub statement-returns-in_err-invariant : goal.statement-returns-in_err-invariant
statement-returns-in_err-invariant t c =
    let p = err_from_is_err_and c.from_residual.result c.from_residual.ensures.1 in
    rw (p.1, p.2) (λ h. statement_strays c.args.item.now c.args.inside c.args.scope.now c.args.out.now c.is_loop.result c.as_slice.result.now c.is_loop.ensures c.as_slice.ensures c.in_err-invariant.field-0.0 (c.in_err-invariant.ensures h))

pub statement-returns-then-is_misplaced : goal.statement-returns-then-is_misplaced
statement-returns-then-is_misplaced t c = λ h.
    statement_stops c.args.item.now c.args.inside c.args.scope.now c.args.out.now c.is_loop.result c.as_slice.result.now c.is_loop.ensures c.as_slice.ensures _ c.in_ok-invariant.ensures (sym c.is_misplaced.ensures ∙ c.if-is_misplaced.true)

pub statement-overflow_sub-asserts : goal.statement-overflow_sub-asserts
statement-overflow_sub-asserts t c =
    let longer = statement_longer c.args.item.now c.args.inside c.args.scope.now c.args.out.now c.is_loop.result c.as_slice.result.now c.is_loop.ensures c.as_slice.ensures _ c.in_ok-invariant.ensures in
    omega (arith, longer, c.len.ensures, c.len-before.ensures)

pub statement-returns : goal.statement-returns
statement-returns t c =
    rw (statement_goes_on c.args.item.now c.args.inside c.args.scope.now c.args.out.now c.is_loop.result c.as_slice.result.now c.is_loop.ensures c.as_slice.ensures _ (c.len.result - c.len-before.result) c.in_ok-invariant.ensures (sym c.is_misplaced.ensures ∙ c.if-is_misplaced.false) (ap₂ (λ m n. m - n) c.len.ensures c.len-before.ensures)) c.node.ensures
