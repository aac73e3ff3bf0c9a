use Rattle.std.proofs.Common.{◌∙◌, arith}
use Rattle.std.proofs.lemmas.Result.{err_from_is_err_and}
use Rattle.aq_plain.specs.Listing.{states_of}
use Rattle.aq_sets.proofs.ToldLaws.{valid_exprs, length-told}
use Rattle.aq_plain.proofs.WholeLaws.{too_many, not_too_many, long_rows, gives_stop}
use Rattle.aq_plain.proofs.listing.vectors_by_sizes.Goals as goal

pub returns-then-count-from : goal.returns-then-count-from
returns-then-count-from c =
    let count = c.numbers_of-qubits.ensures.count c.args.sets.now.exprs c.requires.told in
    too_many c.args.sets.now.exprs (valid_exprs _ c.requires.valid) c.args.expr c.numbers_of-qubits.result.1 c.args.most c.requires.within count (omega arith)

pub returns-in_err-rows : goal.returns-in_err-rows
returns-in_err-rows c =
    let p = err_from_is_err_and c.from_residual.result c.from_residual.ensures.1 in
    let count = c.numbers_of-qubits.ensures.count c.args.sets.now.exprs c.requires.told in
    let h = rw c.as_slice-exprs.ensures at c.in_err-rows.ensures in
    rw (p.1, p.2)
    (gives_stop c.args.sets.now.exprs c.args.expr c.args.most _
    (not_too_many c.args.sets.now.exprs (valid_exprs _ c.requires.valid) c.args.expr c.numbers_of-qubits.result.1 c.args.most c.requires.within count (omega arith) (omega arith)) h)

pub vectors_of_rows-requires-clause-long : goal.vectors_of_rows-requires-clause-long
vectors_of_rows-requires-clause-long c =
    let qubits = c.numbers_of-qubits.ensures.qubits c.args.sets.now.exprs c.requires.told in
    let rows = rw c.as_slice-exprs.ensures at c.in_ok-rows.ensures.0 in
    long_rows c.args.sets.now.exprs (valid_exprs _ c.requires.valid) c.args.expr c.numbers_of-qubits.result.0 c.in_ok-rows.rows.items c.requires.within qubits rows

pub returns : goal.returns
returns c =
    let count = c.numbers_of-qubits.ensures.count c.args.sets.now.exprs c.requires.told in
    let qubits = c.numbers_of-qubits.ensures.qubits c.args.sets.now.exprs c.requires.told in
    let rows = rw c.as_slice-exprs.ensures at c.in_ok-rows.ensures in (
      not_too_many c.args.sets.now.exprs (valid_exprs _ c.requires.valid) c.args.expr c.numbers_of-qubits.result.1 c.args.most c.requires.within count (omega arith) (omega arith),
      c.in_ok-list.ensures ∙ (λ k. states_of (qubits k) (rows.0 k)),
      rows.1,
    )

pub numbers_of-qubits-requires : goal.numbers_of-qubits-requires
numbers_of-qubits-requires c = omega (arith, length-told c.args.sets.now.exprs c.args.sizes.now c.requires.told, c.requires.within)
