use Rattle.std.proofs.Common.{◌∙◌}
use Rattle.aq_owing.proofs.BoundLaws.{are_qubits}
use Rattle.aq_owing.proofs.bind.bind.Goals as goal

pub cases_of-requires-clause-qubits : goal.cases_of-requires-clause-qubits
cases_of-requires-clause-qubits c = are_qubits c.args.sets.now.exprs c.as_slice.result.now (c.as_slice.ensures ∙ c.in_ok-qubits.ensures)

pub cases_of-requires-2-clause-qubits : goal.cases_of-requires-2-clause-qubits
cases_of-requires-2-clause-qubits c = are_qubits c.args.sets.now.exprs c.as_slice-2.result.now (c.as_slice-2.ensures ∙ c.in_ok-qubits.ensures)

pub cases_of_all-requires-clause-qubits : goal.cases_of_all-requires-clause-qubits
cases_of_all-requires-clause-qubits c = are_qubits c.args.sets.now.exprs c.as_slice-3.result.now (c.as_slice-3.ensures ∙ c.in_ok-qubits.ensures)
