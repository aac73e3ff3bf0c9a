use Rattle.std.proofs.Common.{◌∙◌, ap, Err, ◌∷◌, []}
use Rattle.std.proofs.lemmas.Result.{err_from_is_err_and}
use Rattle.aq_world.proofs.LinesLemmas.{Adds-stops, Stopped-more}
use Rattle.aq_world.proofs.line.add_byte.Goals as goal

pub returns-in_err-make_room : goal.returns-in_err-make_room
returns-in_err-make_room g c =
    let p = err_from_is_err_and c.from_residual.result c.from_residual.ensures.1 in
    Adds-stops _ (Stopped-more (c.args.byte ∷ []) c.in_err-make_room.ensures.adds) (p.1 ∙ ap (λ e. Err e) p.2)
