use Rattle.std.proofs.Common.{arith, ap, ◌∙◌, Err, ◌∷◌, [], ◌+◌, ◌%◌}
use Rattle.std.proofs.lemmas.Fmt.{decimal_step_wide, decimal_digit}
use Rattle.std.proofs.lemmas.Result.{err_from_is_err_and}
use Rattle.aq_world.proofs.LinesLemmas.{Stopped-more, Adds-then, Adds-stops}
use Rattle.aq_world.proofs.line.+add_number.Goals as goal

pub returns-then-number-lt10 : goal.returns-then-number-lt10
returns-then-number-lt10 g t c = rw (decimal_digit c.args.number (omega arith)) c.add_byte.ensures

pub returns-in_err-add_number : goal.returns-in_err-add_number
returns-in_err-add_number g t c =
    let p = err_from_is_err_and c.from_residual.result c.from_residual.ensures.1 in
    rw (decimal_step_wide c.args.number (omega arith) (omega arith))
    (Adds-stops _ (Stopped-more ((48 + c.args.number % 10) ∷ []) c.in_err-add_number.ensures) (p.1 ∙ ap (λ e. Err e) p.2))

pub returns-in_ok-add_number : goal.returns-in_ok-add_number
returns-in_ok-add_number g t c =
    rw (decimal_step_wide c.args.number (omega arith) (omega arith))
    (Adds-then _ _ _ _ c.in_ok-add_number.ensures c.add_byte-else-number-lt10.ensures)
