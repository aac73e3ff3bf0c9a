use Rattle.std.proofs.Common.{refl, ◌∙◌, ap, Err, arith}
use Rattle.std.proofs.lemmas.Result.{err_from_is_err_and}
use Rattle.aq_world.proofs.PrintsLemmas.{part-more}
use Rattle.aq_world.proofs.LinesLemmas.{Added-none, Added-then, Stopped-then, Adds-stops, part-stops, digits-left}
use Rattle.aq_world.proofs.line.add_binary.Goals as goal

pub loop-place-init : goal.loop-place-init
loop-place-init g c = (_, Added-none _ _ _, refl)

pub loop-place-preserved : goal.loop-place-preserved
loop-place-preserved g c =
    let i = c.loop-place.invariant in
    (_, Added-then i.1 c.in_ok-add_byte.ensures, part-more _ _ _ _ _ (digits-left c.loop-place.place c.args.number _ (omega arith) c.binary_digit.ensures) i.2)

pub returns-in_err-add_byte : goal.returns-in_err-add_byte
returns-in_err-add_byte g c =
    let p = err_from_is_err_and c.from_residual.result c.from_residual.ensures.1 in
    let i = c.loop-place.invariant in
    Adds-stops _
    (part-stops _ _ _ _ _ (digits-left c.loop-place.place c.args.number _ (omega arith) c.binary_digit.ensures) i.2 (Stopped-then i.1 c.in_err-add_byte.ensures))
    (p.1 ∙ ap (λ e. Err e) p.2)
