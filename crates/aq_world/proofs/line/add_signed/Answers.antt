use Rattle.std.proofs.Common.{◌∙◌, ap, sym, Err, ◌∷◌, ◌<ℤ◌, pos, ◌≡◌, unsigned_abs, arith}
use Rattle.std.proofs.lemmas.Int.{ints}
use Rattle.std.specs.Fmt.{decimal}
use Rattle.std.proofs.lemmas.Result.{err_from_is_err_and}
use Rattle.aq_world.proofs.LinesLemmas.{Stopped-more, Adds-then, Adds-stops, negative-text}
use Rattle.aq_world.proofs.line.add_signed.Goals as goal

pub returns-in_err-add_byte : goal.returns-in_err-add_byte
returns-in_err-add_byte g c =
    let negative : c.args.number <ℤ pos 0 = grind (arith, ints) in
    let size : c.unsigned_abs-size.result ≡ unsigned_abs c.args.number = grind (arith, ints) in
    let p = err_from_is_err_and c.from_residual.result c.from_residual.ensures.1 in
    rw (negative-text c.args.number negative ∙ ap (λ n. 45 ∷ decimal n) (sym size))
    (Adds-stops _ (Stopped-more (decimal c.unsigned_abs-size.result) c.in_err-add_byte.ensures) (p.1 ∙ ap (λ e. Err e) p.2))

pub returns-in_ok-add_byte : goal.returns-in_ok-add_byte
returns-in_ok-add_byte g c =
    let negative : c.args.number <ℤ pos 0 = grind (arith, ints) in
    let size : c.unsigned_abs-size.result ≡ unsigned_abs c.args.number = grind (arith, ints) in
    rw (negative-text c.args.number negative ∙ ap (λ n. 45 ∷ decimal n) (sym size))
    (Adds-then _ _ _ _ c.in_ok-add_byte.ensures c.add_number.ensures)
