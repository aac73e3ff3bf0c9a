use Rattle.std.proofs.Common.{◌≡◌, suc, ◌+◌, ◌-◌, ◌*◌, ◌++◌, ap, arith}
use Rattle.std.specs.List.{repeat}
use Rattle.aq_store.proofs.TableLemmas.{HasShape-Extends}
use Rattle.aq_store.proofs.StopLemmas.{passed_on}
use Rattle.aq_set_build.specs.Budgets.{weight}
use Rattle.aq_set_build.specs.Powers.{IsPowerCause}
use Rattle.aq_set_build.specs.Tensors.{IsTensorCause}
use Rattle.aq_set_build.proofs.GrowthLemmas.{grows_then, grows_within, stops_then, stops_within}
use Rattle.aq_set_build.proofs.WeightLemmas.{shape_some}
use Rattle.aq_set_build.proofs.PowerLemmas.{first_weight, more_weight, first_cost, more_cost, last_cost, power_first, power_more, power_cause_first, power_cause_more, power_at}
use Rattle.aq_set_build.proofs.powers.power.Goals as goal

pub returns-in_err-made-clause-grows : goal.returns-in_err-made-clause-grows
returns-in_err-made-clause-grows c =
    let b = c.args.base.now.shape.items in
    let some = shape_some c.args.store.now b c.args.base.now.root c.requires.fits in
    grows_within (2 * weight (b ++ b)) _ _ _ _ _ c.tensor.ensures.grows
    (first_cost c.args.times (weight (repeat c.args.times b)) (weight (b ++ b)) c.requires.some (first_weight c.args.times b some c.requires.some))

pub returns-in_err-made-clause-stops : goal.returns-in_err-made-clause-stops
returns-in_err-made-clause-stops c =
    let b = c.args.base.now.shape.items in
    let some = shape_some c.args.store.now b c.args.base.now.root c.requires.fits in
    passed_on _ c.from_residual.result c.in_err-made.field-0.0 c.from_residual.ensures
    (stops_within (IsTensorCause c.args.store.now c.args.base.now c.args.base.now) (IsPowerCause c.args.times c.args.store.now c.args.base.now) (2 * weight (b ++ b))
    ((c.args.times - 1) * (2 * weight (repeat c.args.times b))) c.args.steps.now c.tensor.new.steps c.in_err-made.field-0.0
    (first_cost c.args.times (weight (repeat c.args.times b)) (weight (b ++ b)) c.requires.some (first_weight c.args.times b some c.requires.some))
    (power_cause_first c.args.times c.args.store.now c.args.base.now c.requires.some) c.in_err-made.ensures.stops)

pub loop-done-init : goal.loop-done-init
loop-done-init c =
    let b = c.args.base.now.shape.items in
    let some = shape_some c.args.store.now b c.args.base.now.root c.requires.fits in
    let le = first_weight c.args.times b some c.requires.some in
    record {
      made = power_first c.args.store.now c.tensor.new.store c.args.base.now c.in_ok-made.made c.in_ok-made.ensures.made;
      grows = grows_within (2 * weight (b ++ b)) _ _ _ _ _ c.tensor.ensures.grows (omega arith);
    }

pub tensor-requires-in-loop-done-clause-right : goal.tensor-requires-in-loop-done-clause-right
tensor-requires-in-loop-done-clause-right c =
    HasShape-Extends c.args.store.now c.loop-done.store c.loop-done.invariant.grows.keeps c.args.base.now.shape.items c.args.base.now.root c.requires.fits

pub returns-in_err-made-2-clause-grows : goal.returns-in_err-made-2-clause-grows
returns-in_err-made-2-clause-grows c =
    let b = c.args.base.now.shape.items in
    let w = weight (repeat c.args.times b) in
    let some = shape_some c.args.store.now b c.args.base.now.root c.requires.fits in
    let le = more_weight c.loop-done.done c.args.times b c.loop-done.made.shape.items some c.loop-done.invariant.made.shape (omega (arith, c.loop-done-test.true)) in
    let more = more_cost c.loop-done.done w (weight (c.loop-done.made.shape.items ++ b)) (omega (arith, c.loop-done.auto.done)) le in
    let last = last_cost c.loop-done.done c.args.times w c.loop-done-test.true in
    grows_then ((c.loop-done.done - 1) * (2 * w)) (2 * weight (c.loop-done.made.shape.items ++ b)) _ _ _ _ _ _ _ c.loop-done.invariant.grows c.tensor-in-loop-done.ensures.grows (omega arith)

pub returns-in_err-made-2-clause-stops : goal.returns-in_err-made-2-clause-stops
returns-in_err-made-2-clause-stops c =
    let b = c.args.base.now.shape.items in
    let w = weight (repeat c.args.times b) in
    let some = shape_some c.args.store.now b c.args.base.now.root c.requires.fits in
    let le = more_weight c.loop-done.done c.args.times b c.loop-done.made.shape.items some c.loop-done.invariant.made.shape (omega (arith, c.loop-done-test.true)) in
    let more = more_cost c.loop-done.done w (weight (c.loop-done.made.shape.items ++ b)) (omega (arith, c.loop-done.auto.done)) le in
    let last = last_cost c.loop-done.done c.args.times w c.loop-done-test.true in
    let next : c.loop-done.done ≡ suc (c.loop-done.done - 1) = omega (arith, c.loop-done.auto.done) in
    let here = power_at c.loop-done.done (suc (c.loop-done.done - 1)) next c.args.store.now c.loop-done.store c.args.base.now c.loop-done.made c.loop-done.invariant.made in
    passed_on _ c.from_residual-in_err-made-2.result c.in_err-made-2.field-0.0 c.from_residual-in_err-made-2.ensures
    (stops_then (IsTensorCause c.loop-done.store c.loop-done.made c.args.base.now) (IsPowerCause c.args.times c.args.store.now c.args.base.now)
    ((c.loop-done.done - 1) * (2 * w)) (2 * weight (c.loop-done.made.shape.items ++ b)) ((c.args.times - 1) * (2 * w)) _ _ _ _ _ c.in_err-made-2.field-0.0 c.loop-done.invariant.grows (omega arith)
    (power_cause_more c.args.times (c.loop-done.done - 1) c.args.store.now c.loop-done.store c.loop-done.invariant.grows.keeps c.args.base.now c.loop-done.made c.requires.fits here
    (omega (arith, c.loop-done-test.true, c.loop-done.auto.done)))
    c.in_err-made-2.ensures.stops)

pub loop-done-preserved : goal.loop-done-preserved
loop-done-preserved c =
    let b = c.args.base.now.shape.items in
    let w = weight (repeat c.args.times b) in
    let some = shape_some c.args.store.now b c.args.base.now.root c.requires.fits in
    let le = more_weight c.loop-done.done c.args.times b c.loop-done.made.shape.items some c.loop-done.invariant.made.shape (omega (arith, c.loop-done-test.true)) in
    let more = more_cost c.loop-done.done w (weight (c.loop-done.made.shape.items ++ b)) (omega (arith, c.loop-done.auto.done)) le in
    let next : c.loop-done.done ≡ suc (c.loop-done.done - 1) = omega (arith, c.loop-done.auto.done) in
    let last : suc (suc (c.loop-done.done - 1)) ≡ c.loop-done.done + 1 = omega (arith, c.loop-done.auto.done) in
    let here = power_at c.loop-done.done (suc (c.loop-done.done - 1)) next c.args.store.now c.loop-done.store c.args.base.now c.loop-done.made c.loop-done.invariant.made in
    let same : (c.loop-done.done + 1 - 1) * (2 * w) ≡ c.loop-done.done * (2 * w) = ap (λ k. k * (2 * w)) (let e : c.loop-done.done + 1 - 1 ≡ c.loop-done.done = omega arith in e) in
    record {
      made = power_at (suc (suc (c.loop-done.done - 1))) (c.loop-done.done + 1) last c.args.store.now c.tensor-in-loop-done.new.store c.args.base.now c.in_ok-made-2.made
          (power_more c.args.store.now c.loop-done.store c.tensor-in-loop-done.new.store c.loop-done.invariant.grows.keeps (c.loop-done.done - 1) c.args.base.now c.loop-done.made c.in_ok-made-2.made
          c.requires.fits here c.in_ok-made-2.ensures.made);
      grows = grows_then ((c.loop-done.done - 1) * (2 * w)) (2 * weight (c.loop-done.made.shape.items ++ b)) ((c.loop-done.done + 1 - 1) * (2 * w)) _ _ _ _ _ _ c.loop-done.invariant.grows c.tensor-in-loop-done.ensures.grows (omega arith);
    }
