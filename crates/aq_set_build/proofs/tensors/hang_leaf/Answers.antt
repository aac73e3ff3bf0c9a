use Rattle.std.proofs.Common.{arith, ap}
use Rattle.aq_store.proofs.StopLemmas.{passed_on}
use Rattle.aq_set_build.specs.Budgets.{walk_budget}
use Rattle.aq_set_build.specs.Tensors.{IsScaleCause, IsHangCause}
use Rattle.aq_set_build.proofs.GrowthLemmas.{stops_within}
use Rattle.aq_set_build.proofs.HangLemmas.{hung_leaf, hang_leaf_cause}
use Rattle.aq_set_build.proofs.tensors.hang_leaf.Goals as goal

pub returns-in_err-made-clause-stops : goal.returns-in_err-made-clause-stops
returns-in_err-made-clause-stops c =
    let e = ap (walk_budget 1) c.as_slice-shape.ensures.value in
    passed_on _ c.from_residual.result c.in_err-made.field-0.0 c.from_residual.ensures
    (stops_within (IsScaleCause c.label-factor.result c.args.store.now c.args.below.now.root) (IsHangCause c.args.store.now c.args.below.now c.args.id)
    (walk_budget 1 c.as_slice-shape.result.now) (walk_budget 1 c.args.below.now.shape.items) c.args.steps.now c.scale_at.new.steps c.in_err-made.field-0.0 (omega arith)
    (hang_leaf_cause c.args.below.now c.args.store.now c.args.id c.label-factor.result c.requires.leaf c.label-factor.ensures)
    c.in_err-made.ensures.stops)

pub returns-clause-made : goal.returns-clause-made
returns-clause-made c =
    hung_leaf c.args.below.now c.args.store.now c.scale_at.new.store c.args.id c.in_ok-made.made c.label-factor.result c.requires.leaf c.label-factor.ensures
    c.as_slice-shape.result.now c.as_slice-shape.ensures.value c.in_ok-made.ensures.made
