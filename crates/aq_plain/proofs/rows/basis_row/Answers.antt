use Rattle.std.proofs.Common.{◌∙◌, set}
use Rattle.aq_plain.proofs.RowLaws.{basis_made}
use Rattle.aq_plain.proofs.rows.basis_row.Goals as goal

pub returns : goal.returns
returns c = c.set.ensures ∙ (λ k. set (c.in_ok-row.ensures k) c.args.index (c.one.ensures k)) ∙ basis_made c.args.qubits c.args.index c.requires.within
