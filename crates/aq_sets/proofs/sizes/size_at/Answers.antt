use Rattle.std.proofs.Common.{arith}
use Rattle.aq_sets.proofs.ToldLaws.{gives_same, expr_at, length-done, done_at, told_kets, few_all, told_all, few_tensor, told_tensor-at, same_shapes, told_union-at, few_power, told_power-at}
use Rattle.aq_sets.proofs.sizes.size_at.Goals as goal

pub basis_size-requires : goal.basis_size-requires
basis_size-requires c =
    let h = expr_at c.args.exprs.now c.args.i _ _ c.requires.within c.index-exprs-i.is c.in-All.is in
    few_all c.args.exprs.now c.requires.valid c.args.i c.in-All.qubits h

pub bounds-done-left : goal.bounds-done-left
bounds-done-left c =
    let h = expr_at c.args.exprs.now c.args.i _ _ c.requires.within c.index-exprs-i.is c.in-Tensor.is in
    let v = c.requires.valid.each c.args.i _ h in
    omega (arith, v.0, length-done c.args.exprs.now c.args.done.now c.args.i c.requires.within c.requires.done)

pub bounds-done-right : goal.bounds-done-right
bounds-done-right c =
    let h = expr_at c.args.exprs.now c.args.i _ _ c.requires.within c.index-exprs-i.is c.in-Tensor.is in
    let v = c.requires.valid.each c.args.i _ h in
    omega (arith, v.1, length-done c.args.exprs.now c.args.done.now c.args.i c.requires.within c.requires.done)

pub tensor_size-requires : goal.tensor_size-requires
tensor_size-requires c =
    let h = expr_at c.args.exprs.now c.args.i _ _ c.requires.within c.index-exprs-i.is c.in-Tensor.is in
    let v = c.requires.valid.each c.args.i _ h in
    few_tensor c.args.exprs.now c.requires.valid c.args.i c.in-Tensor.left c.in-Tensor.right c.index-done-left.result c.index-done-right.result h
    (done_at c.args.exprs.now c.args.done.now c.args.i c.in-Tensor.left c.index-done-left.result c.requires.within c.requires.done v.0 c.index-done-left.is)
    (done_at c.args.exprs.now c.args.done.now c.args.i c.in-Tensor.right c.index-done-right.result c.requires.within c.requires.done v.1 c.index-done-right.is)

pub bounds-done-left-in-Union : goal.bounds-done-left-in-Union
bounds-done-left-in-Union c =
    let h = expr_at c.args.exprs.now c.args.i _ _ c.requires.within c.index-exprs-i.is c.in-Union.is in
    let v = c.requires.valid.each c.args.i _ h in
    omega (arith, v.0, length-done c.args.exprs.now c.args.done.now c.args.i c.requires.within c.requires.done)

pub bounds-done-right-in-Union : goal.bounds-done-right-in-Union
bounds-done-right-in-Union c =
    let h = expr_at c.args.exprs.now c.args.i _ _ c.requires.within c.index-exprs-i.is c.in-Union.is in
    let v = c.requires.valid.each c.args.i _ h in
    omega (arith, v.1, length-done c.args.exprs.now c.args.done.now c.args.i c.requires.within c.requires.done)

pub union_size-requires : goal.union_size-requires
union_size-requires c =
    let h = expr_at c.args.exprs.now c.args.i _ _ c.requires.within c.index-exprs-i.is c.in-Union.is in
    let v = c.requires.valid.each c.args.i _ h in
    same_shapes c.args.exprs.now c.requires.valid c.args.i c.in-Union.left c.in-Union.right c.index-done-left-in-Union.result c.index-done-right-in-Union.result h
    (done_at c.args.exprs.now c.args.done.now c.args.i c.in-Union.left c.index-done-left-in-Union.result c.requires.within c.requires.done v.0 c.index-done-left-in-Union.is)
    (done_at c.args.exprs.now c.args.done.now c.args.i c.in-Union.right c.index-done-right-in-Union.result c.requires.within c.requires.done v.1 c.index-done-right-in-Union.is)

pub bounds-done-base : goal.bounds-done-base
bounds-done-base c =
    let h = expr_at c.args.exprs.now c.args.i _ _ c.requires.within c.index-exprs-i.is c.in-Power.is in
    let v = c.requires.valid.each c.args.i _ h in
    omega (arith, v, length-done c.args.exprs.now c.args.done.now c.args.i c.requires.within c.requires.done)

pub power_size-requires : goal.power_size-requires
power_size-requires c =
    let h = expr_at c.args.exprs.now c.args.i _ _ c.requires.within c.index-exprs-i.is c.in-Power.is in
    let v = c.requires.valid.each c.args.i _ h in
    few_power c.args.exprs.now c.requires.valid c.args.i c.in-Power.base c.in-Power.times c.index-done-base.result h
    (done_at c.args.exprs.now c.args.done.now c.args.i c.in-Power.base c.index-done-base.result c.requires.within c.requires.done v c.index-done-base.is)

pub returns-in-Kets : goal.returns-in-Kets
returns-in-Kets c =
    let h = expr_at c.args.exprs.now c.args.i _ _ c.requires.within c.index-exprs-i.is c.in-Kets.is in
    gives_same c.bracket_size.result _ _ (told_kets c.args.exprs.now c.requires.valid c.args.i c.in-Kets.qubits c.in-Kets.terms h)
    (rw (← c.len.ensures) c.bracket_size.ensures)

pub returns-in-All : goal.returns-in-All
returns-in-All c =
    let h = expr_at c.args.exprs.now c.args.i _ _ c.requires.within c.index-exprs-i.is c.in-All.is in
    gives_same c.basis_size.result _ _ (told_all c.args.exprs.now c.requires.valid c.args.i c.in-All.qubits h) c.basis_size.ensures

pub returns-in-Tensor : goal.returns-in-Tensor
returns-in-Tensor c =
    let h = expr_at c.args.exprs.now c.args.i _ _ c.requires.within c.index-exprs-i.is c.in-Tensor.is in
    let v = c.requires.valid.each c.args.i _ h in
    gives_same c.tensor_size.result _ _
    (told_tensor-at c.args.exprs.now c.requires.valid c.args.i c.in-Tensor.left c.in-Tensor.right c.index-done-left.result c.index-done-right.result h
    (done_at c.args.exprs.now c.args.done.now c.args.i c.in-Tensor.left c.index-done-left.result c.requires.within c.requires.done v.0 c.index-done-left.is)
    (done_at c.args.exprs.now c.args.done.now c.args.i c.in-Tensor.right c.index-done-right.result c.requires.within c.requires.done v.1 c.index-done-right.is))
    c.tensor_size.ensures

pub returns-in-Union : goal.returns-in-Union
returns-in-Union c =
    let h = expr_at c.args.exprs.now c.args.i _ _ c.requires.within c.index-exprs-i.is c.in-Union.is in
    let v = c.requires.valid.each c.args.i _ h in
    gives_same c.union_size.result _ _
    (told_union-at c.args.exprs.now c.requires.valid c.args.i c.in-Union.left c.in-Union.right c.index-done-left-in-Union.result c.index-done-right-in-Union.result h
    (done_at c.args.exprs.now c.args.done.now c.args.i c.in-Union.left c.index-done-left-in-Union.result c.requires.within c.requires.done v.0 c.index-done-left-in-Union.is)
    (done_at c.args.exprs.now c.args.done.now c.args.i c.in-Union.right c.index-done-right-in-Union.result c.requires.within c.requires.done v.1 c.index-done-right-in-Union.is))
    c.union_size.ensures

pub returns-in-Power : goal.returns-in-Power
returns-in-Power c =
    let h = expr_at c.args.exprs.now c.args.i _ _ c.requires.within c.index-exprs-i.is c.in-Power.is in
    let v = c.requires.valid.each c.args.i _ h in
    gives_same c.power_size.result _ _
    (told_power-at c.args.exprs.now c.requires.valid c.args.i c.in-Power.base c.in-Power.times c.index-done-base.result h
    (done_at c.args.exprs.now c.args.done.now c.args.i c.in-Power.base c.index-done-base.result c.requires.within c.requires.done v c.index-done-base.is))
    c.power_size.ensures
