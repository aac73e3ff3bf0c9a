use Rattle.std.proofs.Common.{◌∙◌, ◌-◌, length, ap, arith}
use Rattle.aq_sets.proofs.SizeLaws.{length-kets_vector}
use Rattle.aq_plain.proofs.RowLaws.{kets_start, kets_step, index_within}
use Rattle.aq_plain.proofs.rows.kets_row.Goals as goal

pub loop-i-init : goal.loop-i-init
loop-i-init c = c.in_ok-row.ensures ∙ kets_start c.args.qubits c.args.terms.now

pub set-requires : goal.set-requires
set-requires c =
    let below = index_within c.args.qubits c.args.terms.now (c.loop-i.i - 1) c.index-terms-i.result c.requires.within (omega arith) c.index-terms-i.is in
    let size = ap length c.loop-i.invariant ∙ length-kets_vector c.args.qubits _ in
    omega arith

pub loop-i-preserved : goal.loop-i-preserved
loop-i-preserved c =
    let below = index_within c.args.qubits c.args.terms.now (c.loop-i.i - 1) c.index-terms-i.result c.requires.within (omega arith) c.index-terms-i.is in
    kets_step c.args.qubits c.args.terms.now (c.loop-i.i - 1) c.loop-i.i c.index-terms-i.result c.loop-i.row c.set.new.self (omega arith) (omega arith)
    c.index-terms-i.is below c.loop-i.invariant c.set.ensures
