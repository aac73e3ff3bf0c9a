use Rattle.std.proofs.Common.{◌∙◌, ap, List, ℕ}
use Rattle.aq_sets.specs.Tables.{at_position}
use Rattle.aq_sets.proofs.QubitLaws.{at_size}
use Rattle.aq_sets.proofs.qubit_counts.qubits.Goals as goal

pub returns : goal.returns
returns c = c.at_position.ensures ∙ ap (λ (list : List ℕ). at_position 0 list c.args.expr) (c.as_slice.ensures ∙ c.in_ok-list.ensures) ∙ at_size c.args.sets.now.exprs c.args.expr
