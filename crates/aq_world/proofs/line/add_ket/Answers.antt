use Rattle.std.proofs.Common.{◌∙◌, ap, Err, ◌++◌, ◌∷◌, []}
use Rattle.std.proofs.lemmas.Result.{err_from_is_err_and}
use Rattle.aq_world.specs.Pieces.{binary_digits}
use Rattle.aq_world.proofs.LinesLemmas.{Stopped-then, Stopped-more, Adds-then, Adds-stops}
use Rattle.aq_world.proofs.line.add_ket.Goals as goal

pub returns-in_err-add_byte : goal.returns-in_err-add_byte
returns-in_err-add_byte g c =
    let p = err_from_is_err_and c.from_residual.result c.from_residual.ensures.1 in
    Adds-stops _ (Stopped-more (binary_digits c.args.qubits c.args.index ++ 62 ∷ []) c.in_err-add_byte.ensures) (p.1 ∙ ap (λ e. Err e) p.2)

pub returns-in_err-add_binary : goal.returns-in_err-add_binary
returns-in_err-add_binary g c =
    let q = c.from_residual-in_err-add_binary in
    let p = err_from_is_err_and q.result q.ensures.1 in
    Adds-stops _ (Stopped-then c.in_ok-add_byte.ensures (Stopped-more (62 ∷ []) c.in_err-add_binary.ensures)) (p.1 ∙ ap (λ e. Err e) p.2)

pub returns : goal.returns
returns g c = Adds-then _ _ _ _ c.in_ok-add_byte.ensures (Adds-then _ _ _ _ c.in_ok-add_binary.ensures c.add_byte-2.ensures)
