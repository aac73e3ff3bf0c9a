use Rattle.std.proofs.Common.{◌∙◌, ◌++◌, ◌∷◌, [], List, ap, sym, arith}
use Rattle.std.specs.Prelude.{map}
use Rattle.std.specs.List.{range_with_len}
use Rattle.std.proofs.lemmas.List.FromFn.{map-range_with_len_more}
use Rattle.aq_sets.specs.Vectors.{Vector, basis_vector}
use Rattle.aq_plain.proofs.rows.basis_rows.Goals as goal

pub loop-index-preserved : goal.loop-index-preserved
loop-index-preserved c =
    let f = basis_vector c.args.qubits in
    c.in_ok-push.ensures.items ∙ ap (λ (rows : List Vector). rows ++ c.in_ok-basis_row.field-0 ∷ []) c.loop-index.invariant
    ∙ ap (λ (row : Vector). map f (range_with_len 0 c.loop-index.index) ++ row ∷ []) c.in_ok-basis_row.ensures
    ∙ sym (map-range_with_len_more f 0 c.loop-index.index c.loop-index.index (omega arith))
