use Rattle.std.proofs.Common.{◌≡◌, ◌∙◌, ◌≤◌, List, ℕ, length, refl, subst, sym}
use Rattle.std.specs.Prelude.{slice_get, Some}
use Rattle.std.proofs.lemmas.Option.{slice_get_read}
use Rattle.aq_base.specs.Limits.{most_qubits}
use Rattle.aq_sets.specs.Sizes.{qubits_step}
use Rattle.aq_sets.specs.declared.sets.Expr.{Expr}
use Rattle.aq_sets.proofs.QubitLaws.{few_by_step}
use Rattle.aq_sets.proofs.qubit_counts.qubits_of_all.Goals as goal

pub qubits_by-requires : goal.qubits_by-requires
qubits_by-requires c =
    let exprs = c.as_slice-expr-items.result.now in
    let read : slice_get exprs c.loop-expr.expr-index ≡ Some c.expr-item.result = slice_get_read exprs (length exprs) c.loop-expr.expr-index c.expr-item.result refl c.loop-expr-test.true c.expr-item.is in
    let here : slice_get c.args.sets.now.exprs c.loop-expr.expr-index ≡ Some c.expr-item.result = subst (λ (es : List Expr). slice_get es c.loop-expr.expr-index ≡ Some c.expr-item.result) c.as_slice-expr-items.ensures read in
    let few = few_by_step c.args.sets.now c.loop-expr.expr-index c.expr-item.result c.requires here in
    subst (λ (done : List ℕ). qubits_step done c.expr-item.result ≤ most_qubits) (sym (c.as_slice.ensures ∙ c.loop-expr.invariant)) few
