use Rattle.std.proofs.Common.{ap, arith}
use Rattle.aq_sets.specs.declared.sizes.Size as told
use Rattle.aq_sets.proofs.ToldLaws.{length-told, told_at}
use Rattle.aq_plain.proofs.listing.numbers_of.Goals as goal

pub returns-clause-qubits : goal.returns-clause-qubits
returns-clause-qubits c = λ exprs is.
    ap (λ (s : told.Size). s.qubits) (told_at exprs c.args.sizes.now c.args.expr c.index-sizes-expr.result is (omega (arith, length-told exprs c.args.sizes.now is, c.requires)) c.index-sizes-expr.is)

pub returns-clause-count : goal.returns-clause-count
returns-clause-count c = λ exprs is.
    ap (λ (s : told.Size). s.count) (told_at exprs c.args.sizes.now c.args.expr c.index-sizes-expr.result is (omega (arith, length-told exprs c.args.sizes.now is, c.requires)) c.index-sizes-expr.is)
