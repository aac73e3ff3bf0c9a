use Rattle.std.proofs.Common.{◌∙◌, sym}
use Rattle.aq_sets.specs.Sizes.{size_of}
use Rattle.aq_sets.specs.Vectors.{vectors_of}
use Rattle.aq_top.proofs.StateLemmas.{only_one}
use Rattle.aq_top.proofs.state.only_vector.Goals as goal

pub returns-in-Some-clause-ok : goal.returns-in-Some-clause-ok
returns-in-Some-clause-ok c =
    let exprs = c.args.sets.now.exprs in
    let given = c.in-Ok.ensures in
    let one = only_one (size_of exprs c.args.expr).qubits (vectors_of exprs c.args.expr) _ _ given.0 (sym given.1 ∙ c.in-Some.ensures) in
    record { one = one.0; fits = given.2 }

pub returns-in-Some-clause-qubits : goal.returns-in-Some-clause-qubits
returns-in-Some-clause-qubits c =
    let exprs = c.args.sets.now.exprs in
    let given = c.in-Ok.ensures in
    let one = only_one (size_of exprs c.args.expr).qubits (vectors_of exprs c.args.expr) _ _ given.0 (sym given.1 ∙ c.in-Some.ensures) in
    one.1

pub returns-in-Err-Wide-clause-fault : goal.returns-in-Err-Wide-clause-fault
returns-in-Err-Wide-clause-fault c =
    let wide = rw c.in-Err-Wide.field-0-is at c.in-Err-Wide.ensures in
    (wide.0, _, _, wide.1)
