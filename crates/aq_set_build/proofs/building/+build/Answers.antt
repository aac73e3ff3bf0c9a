use Rattle.std.proofs.Common.{◌≡◌, ◌+◌, ◌-◌, ◌*◌, ◌^◌, ◌<◌, ◌++◌, [], ◌∷◌, length, map, take, get_or, IfSome, Some, refl, sym, ap, ap₂, subst, ◌∙◌, arith, rules}
use Rattle.std.specs.List.{repeat}
use Rattle.aq_store.proofs.TableLemmas.{HasShape-Extends}
use Rattle.aq_store.proofs.StopLemmas.{passed_on}
use Rattle.aq_store.specs.Words as store
use Rattle.aq_store.specs.declared.lsta.Lsta.{Lsta}
use Rattle.std.proofs.lemmas.List.{append-nil, take_more}
use Rattle.std.proofs.lemmas.Option.{slice_get_read}
use Rattle.aq_measure_ops.specs.Joining as joining
use Rattle.aq_measure_ops.specs.Joining.{shape_of, HaveLevels, AreUnited}
use Rattle.aq_store.specs.Stops.{GivesUp}
use Rattle.aq_set_build.specs.Growth.{Grows}
use Rattle.aq_sets.specs.Sizes.{size_of}
use Rattle.aq_sets.specs.Vectors.{products_of}
use Rattle.aq_sets.specs.declared.sets.Expr.TheVariants as expr
use Rattle.aq_sets.proofs.ToldLaws.{expr_at}
use Rattle.aq_sets.proofs.ExprLaws.{some_times}
use Rattle.aq_set_build.specs.Budgets.{weight, build_budget, new_budget, parts_budget}
use Rattle.aq_set_build.specs.Built.{built_at, IsCopy}
use Rattle.aq_set_build.specs.Powers.{IsPowerCause}
use Rattle.aq_set_build.specs.Products.{IsWideAmong}
use Rattle.aq_set_build.specs.Tensors.{IsTensorCause}
use Rattle.aq_set_build.specs.Unions.{AreMade, AreAlike, IsOpening, nodes_all}
use Rattle.aq_set_build.proofs.GrowthLemmas.{grows_none, grows_then, grows_within, grows_steps, stops_then, stops_within, stops_gives_up}
use Rattle.aq_set_build.proofs.ExprLemmas.{made_tensor, made_power_at, wide_left, wide_right, wide_tensor, wide_base_at, wide_power}
use Rattle.aq_set_build.proofs.CoverLemmas.{covered, tensor_within, power_within}
use Rattle.aq_set_build.proofs.BoundLemmas.{tensor_budget, power_budget, union_budget, opening_budget, parts_step, parts_front, budget_some, get_or_any}
use Rattle.aq_set_build.proofs.BuiltLemmas.{made-Extends, made_copy, build_memo-Extends, build_memo-put}
use Rattle.aq_set_build.proofs.MadeLemmas.{all_made-none, all_made-push, all_made-Extends, all_made_fit, all_made_levels, all_made-length, below_level, parts_shape, parts_some, alike_shape, made_union, wide_part, within_of}
use Rattle.aq_set_build.proofs.PartLemmas.{opening_union, fewer_union, opening_power, fewer_power}
use Rattle.aq_set_build.proofs.building.+build.Goals as goal

pub build_at-returns-in-Some-clause-made : goal.build_at-returns-in-Some-clause-made
build_at-returns-in-Some-clause-made t c =
    let f : (x : Lsta) × (built_at c.args.memo.now c.args.expr ≡ Some x) × IsCopy x c.in-Some.made = subst (λ o. IfSome o (λ copy. (x : Lsta) × (built_at c.args.memo.now c.args.expr ≡ Some x) × IsCopy x copy)) c.in-Some.is c.in_ok-before.ensures.copy in
    made_copy c.args.exprs.now c.args.expr c.args.store.now f.0 c.in-Some.made f.2 (c.requires.memo.each c.args.expr f.0 f.1)

pub build_at-returns-clause-memo : goal.build_at-returns-clause-memo
build_at-returns-clause-memo t c =
    build_memo-put c.args.exprs.now c.build_new.new.store (built_at c.build_new.new.memo) (built_at c.put.new.self) c.args.expr c.in_ok-made.made c.in_ok-made.ensures.memo c.in_ok-made.ensures.made c.in_ok-put.ensures.puts

pub build_at-returns-in_err-made-clause-grows : goal.build_at-returns-in_err-made-clause-grows
build_at-returns-in_err-made-clause-grows t c =
    grows_within (new_budget c.args.exprs.now c.args.expr) (build_budget c.args.exprs.now c.args.expr) _ _ _ _ c.build_new.ensures.grows (omega arith)

pub build_at-returns-in_err-made-clause-stops : goal.build_at-returns-in_err-made-clause-stops
build_at-returns-in_err-made-clause-stops t c =
    passed_on _ c.from_residual-in_err-made.result c.in_err-made.field-0.0 c.from_residual-in_err-made.ensures
    (stops_within (IsWideAmong (products_of c.args.exprs.now c.args.expr)) (IsWideAmong (products_of c.args.exprs.now c.args.expr)) (new_budget c.args.exprs.now c.args.expr) (build_budget c.args.exprs.now c.args.expr) c.args.steps.now c.build_new.new.steps c.in_err-made.field-0.0 (omega arith) (λ x y h. h) c.in_err-made.ensures.stops)

pub build_at-returns-in_err-count-clause-grows : goal.build_at-returns-in_err-count-clause-grows
build_at-returns-in_err-count-clause-grows t c =
    let some = budget_some c.args.exprs.now c.requires.valid c.args.expr c.requires.there in
    let g : Grows 1 c.build_new.new.store c.build_new.new.store c.build_new.new.steps c.count.new.steps = grows_steps 1 c.build_new.new.store c.build_new.new.steps c.count.new.steps c.build_new.ensures.grows.paid c.count.ensures.later c.count.ensures.limit c.count.ensures.cheap in
    grows_then (new_budget c.args.exprs.now c.args.expr) 1 (build_budget c.args.exprs.now c.args.expr) _ _ _ _ _ _ c.build_new.ensures.grows g (omega arith)

pub build_at-returns-in_err-put-clause-grows : goal.build_at-returns-in_err-put-clause-grows
build_at-returns-in_err-put-clause-grows t c =
    let some = budget_some c.args.exprs.now c.requires.valid c.args.expr c.requires.there in
    let g : Grows 1 c.build_new.new.store c.build_new.new.store c.build_new.new.steps c.count.new.steps = grows_steps 1 c.build_new.new.store c.build_new.new.steps c.count.new.steps c.build_new.ensures.grows.paid c.count.ensures.later c.count.ensures.limit c.count.ensures.cheap in
    grows_then (new_budget c.args.exprs.now c.args.expr) 1 (build_budget c.args.exprs.now c.args.expr) _ _ _ _ _ _ c.build_new.ensures.grows g (omega arith)

pub build_at-returns-clause-grows : goal.build_at-returns-clause-grows
build_at-returns-clause-grows t c =
    let some = budget_some c.args.exprs.now c.requires.valid c.args.expr c.requires.there in
    let g : Grows 1 c.build_new.new.store c.build_new.new.store c.build_new.new.steps c.count.new.steps = grows_steps 1 c.build_new.new.store c.build_new.new.steps c.count.new.steps c.build_new.ensures.grows.paid c.count.ensures.later c.count.ensures.limit c.count.ensures.cheap in
    grows_then (new_budget c.args.exprs.now c.args.expr) 1 (build_budget c.args.exprs.now c.args.expr) _ _ _ _ _ _ c.build_new.ensures.grows g (omega arith)

pub build_at-returns-in_err-count-clause-stops : goal.build_at-returns-in_err-count-clause-stops
build_at-returns-in_err-count-clause-stops t c =
    let some = budget_some c.args.exprs.now c.requires.valid c.args.expr c.requires.there in
    passed_on _ c.from_residual-in_err-count.result c.in_err-count.field-0.0 c.from_residual-in_err-count.ensures
    (stops_then (IsWideAmong (products_of c.args.exprs.now c.args.expr)) (IsWideAmong (products_of c.args.exprs.now c.args.expr)) (new_budget c.args.exprs.now c.args.expr) 1 (build_budget c.args.exprs.now c.args.expr) _ _ _ _ _ c.in_err-count.field-0.0 c.build_new.ensures.grows (omega arith) (λ x y h. h)
    (stops_gives_up (IsWideAmong (products_of c.args.exprs.now c.args.expr)) 1 c.build_new.new.steps c.count.new.steps c.in_err-count.field-0.0 c.in_err-count.ensures.refused))

pub build_tensor-build_at-requires : goal.build_tensor-build_at-requires
build_tensor-build_at-requires t c =
    let v = c.requires.valid in
    let w = tensor_within c.args.exprs.now v c.args.expr c.args.left c.args.right c.requires.tensor in
    let lt = v.each c.args.expr (expr.Tensor c.args.left c.args.right) c.requires.tensor in
    let a = lt.0 in
    let d = w.0 in
    search rules

pub build_tensor-build_at-requires-2 : goal.build_tensor-build_at-requires-2
build_tensor-build_at-requires-2 t c =
    let v = c.requires.valid in
    let w = tensor_within c.args.exprs.now v c.args.expr c.args.left c.args.right c.requires.tensor in
    let lt = v.each c.args.expr (expr.Tensor c.args.left c.args.right) c.requires.tensor in
    let a = lt.1 in
    let d = w.1 in
    search rules

pub build_tensor-returns-in_err-first-clause-grows : goal.build_tensor-returns-in_err-first-clause-grows
build_tensor-returns-in_err-first-clause-grows t c =
    let v = c.requires.valid in
    let w = tensor_within c.args.exprs.now v c.args.expr c.args.left c.args.right c.requires.tensor in
    let b = tensor_budget c.args.exprs.now v c.args.expr c.args.left c.args.right c.requires.tensor w.0 w.1 in
    grows_within (build_budget c.args.exprs.now c.args.left) (new_budget c.args.exprs.now c.args.expr) _ _ _ _ c.build_at.ensures.grows (omega arith)

pub build_tensor-returns-in_err-first-clause-stops : goal.build_tensor-returns-in_err-first-clause-stops
build_tensor-returns-in_err-first-clause-stops t c =
    let v = c.requires.valid in
    let w = tensor_within c.args.exprs.now v c.args.expr c.args.left c.args.right c.requires.tensor in
    let b = tensor_budget c.args.exprs.now v c.args.expr c.args.left c.args.right c.requires.tensor w.0 w.1 in
    passed_on _ c.from_residual.result c.in_err-first.field-0.0 c.from_residual.ensures
    (stops_within (IsWideAmong (products_of c.args.exprs.now c.args.left)) (IsWideAmong (products_of c.args.exprs.now c.args.expr)) (build_budget c.args.exprs.now c.args.left) (new_budget c.args.exprs.now c.args.expr) c.args.steps.now c.build_at.new.steps c.in_err-first.field-0.0 (omega arith) (wide_left c.args.exprs.now v c.args.expr c.args.left c.args.right c.requires.tensor) c.in_err-first.ensures.stops)

pub build_tensor-returns-in_err-second-clause-grows : goal.build_tensor-returns-in_err-second-clause-grows
build_tensor-returns-in_err-second-clause-grows t c =
    let v = c.requires.valid in
    let w = tensor_within c.args.exprs.now v c.args.expr c.args.left c.args.right c.requires.tensor in
    let b = tensor_budget c.args.exprs.now v c.args.expr c.args.left c.args.right c.requires.tensor w.0 w.1 in
    grows_then (build_budget c.args.exprs.now c.args.left) (build_budget c.args.exprs.now c.args.right) (new_budget c.args.exprs.now c.args.expr) _ _ _ _ _ _ c.build_at.ensures.grows c.build_at-2.ensures.grows (omega arith)

pub build_tensor-returns-in_err-second-clause-stops : goal.build_tensor-returns-in_err-second-clause-stops
build_tensor-returns-in_err-second-clause-stops t c =
    let v = c.requires.valid in
    let w = tensor_within c.args.exprs.now v c.args.expr c.args.left c.args.right c.requires.tensor in
    let b = tensor_budget c.args.exprs.now v c.args.expr c.args.left c.args.right c.requires.tensor w.0 w.1 in
    passed_on _ c.from_residual-in_err-second.result c.in_err-second.field-0.0 c.from_residual-in_err-second.ensures
    (stops_then (IsWideAmong (products_of c.args.exprs.now c.args.right)) (IsWideAmong (products_of c.args.exprs.now c.args.expr)) (build_budget c.args.exprs.now c.args.left) (build_budget c.args.exprs.now c.args.right) (new_budget c.args.exprs.now c.args.expr) _ _ _ _ _ c.in_err-second.field-0.0 c.build_at.ensures.grows (omega arith) (wide_right c.args.exprs.now v c.args.expr c.args.left c.args.right c.requires.tensor) c.in_err-second.ensures.stops)

pub build_tensor-tensor-requires-clause-left : goal.build_tensor-tensor-requires-clause-left
build_tensor-tensor-requires-clause-left t c =
    HasShape-Extends c.build_at.new.store c.build_at-2.new.store c.build_at-2.ensures.grows.keeps c.in_ok-first.first.shape.items c.in_ok-first.first.root c.in_ok-first.ensures.made.built.fits_store

pub build_tensor-returns-in_err-made-clause-grows : goal.build_tensor-returns-in_err-made-clause-grows
build_tensor-returns-in_err-made-clause-grows t c =
    let v = c.requires.valid in
    let w = tensor_within c.args.exprs.now v c.args.expr c.args.left c.args.right c.requires.tensor in
    let b = tensor_budget c.args.exprs.now v c.args.expr c.args.left c.args.right c.requires.tensor w.0 w.1 in
    let m = ap₂ (λ x y. 2 * weight (x ++ y)) c.in_ok-first.ensures.made.built.shape c.in_ok-second.ensures.made.built.shape in
    let g : Grows ((build_budget c.args.exprs.now c.args.left) + (build_budget c.args.exprs.now c.args.right)) c.args.store.now c.build_at-2.new.store c.args.steps.now c.build_at-2.new.steps = grows_then (build_budget c.args.exprs.now c.args.left) (build_budget c.args.exprs.now c.args.right) ((build_budget c.args.exprs.now c.args.left) + (build_budget c.args.exprs.now c.args.right)) _ _ _ _ _ _ c.build_at.ensures.grows c.build_at-2.ensures.grows (omega arith) in
    grows_then ((build_budget c.args.exprs.now c.args.left) + (build_budget c.args.exprs.now c.args.right)) (2 * weight (c.in_ok-first.first.shape.items ++ c.in_ok-second.second.shape.items)) (new_budget c.args.exprs.now c.args.expr) _ _ _ _ _ _ g c.tensor.ensures.grows (omega arith)

pub build_tensor-returns-in_err-made-clause-stops : goal.build_tensor-returns-in_err-made-clause-stops
build_tensor-returns-in_err-made-clause-stops t c =
    let v = c.requires.valid in
    let w = tensor_within c.args.exprs.now v c.args.expr c.args.left c.args.right c.requires.tensor in
    let b = tensor_budget c.args.exprs.now v c.args.expr c.args.left c.args.right c.requires.tensor w.0 w.1 in
    let m = ap₂ (λ x y. 2 * weight (x ++ y)) c.in_ok-first.ensures.made.built.shape c.in_ok-second.ensures.made.built.shape in
    let g : Grows ((build_budget c.args.exprs.now c.args.left) + (build_budget c.args.exprs.now c.args.right)) c.args.store.now c.build_at-2.new.store c.args.steps.now c.build_at-2.new.steps = grows_then (build_budget c.args.exprs.now c.args.left) (build_budget c.args.exprs.now c.args.right) ((build_budget c.args.exprs.now c.args.left) + (build_budget c.args.exprs.now c.args.right)) _ _ _ _ _ _ c.build_at.ensures.grows c.build_at-2.ensures.grows (omega arith) in
    let p = made-Extends c.args.exprs.now c.args.left c.build_at.new.store c.build_at-2.new.store c.build_at-2.ensures.grows.keeps c.in_ok-first.first c.in_ok-first.ensures.made in
    passed_on _ c.from_residual-in_err-made.result c.in_err-made.field-0.0 c.from_residual-in_err-made.ensures
    (stops_then (IsTensorCause c.build_at-2.new.store c.in_ok-first.first c.in_ok-second.second) (IsWideAmong (products_of c.args.exprs.now c.args.expr)) ((build_budget c.args.exprs.now c.args.left) + (build_budget c.args.exprs.now c.args.right)) (2 * weight (c.in_ok-first.first.shape.items ++ c.in_ok-second.second.shape.items)) (new_budget c.args.exprs.now c.args.expr) _ _ _ _ _ c.in_err-made.field-0.0 g (omega arith)
    (wide_tensor c.args.exprs.now v c.args.expr c.args.left c.args.right c.requires.tensor c.build_at-2.new.store c.in_ok-first.first c.in_ok-second.second p.built c.in_ok-second.ensures.made.built) c.in_err-made.ensures.stops)

pub build_tensor-returns-clause-made : goal.build_tensor-returns-clause-made
build_tensor-returns-clause-made t c =
    let v = c.requires.valid in
    let w = tensor_within c.args.exprs.now v c.args.expr c.args.left c.args.right c.requires.tensor in
    let p = made-Extends c.args.exprs.now c.args.left c.build_at.new.store c.build_at-2.new.store c.build_at-2.ensures.grows.keeps c.in_ok-first.first c.in_ok-first.ensures.made in
    made_tensor c.args.exprs.now v c.args.expr c.args.left c.args.right c.requires.tensor w.0 w.1 (covered c.args.exprs.now v c.args.left w.0) (covered c.args.exprs.now v c.args.right w.1) c.build_at-2.new.store c.tensor.new.store c.in_ok-first.first c.in_ok-second.second c.in_ok-made.made p c.in_ok-second.ensures.made c.in_ok-made.ensures.made

pub build_tensor-returns-clause-memo : goal.build_tensor-returns-clause-memo
build_tensor-returns-clause-memo t c =
    build_memo-Extends c.args.exprs.now c.build_at-2.new.store c.tensor.new.store c.tensor.ensures.grows.keeps (built_at c.build_at-2.new.memo) c.in_ok-second.ensures.memo

pub build_tensor-returns-clause-grows : goal.build_tensor-returns-clause-grows
build_tensor-returns-clause-grows t c =
    let v = c.requires.valid in
    let w = tensor_within c.args.exprs.now v c.args.expr c.args.left c.args.right c.requires.tensor in
    let b = tensor_budget c.args.exprs.now v c.args.expr c.args.left c.args.right c.requires.tensor w.0 w.1 in
    let m = ap₂ (λ x y. 2 * weight (x ++ y)) c.in_ok-first.ensures.made.built.shape c.in_ok-second.ensures.made.built.shape in
    let g : Grows ((build_budget c.args.exprs.now c.args.left) + (build_budget c.args.exprs.now c.args.right)) c.args.store.now c.build_at-2.new.store c.args.steps.now c.build_at-2.new.steps = grows_then (build_budget c.args.exprs.now c.args.left) (build_budget c.args.exprs.now c.args.right) ((build_budget c.args.exprs.now c.args.left) + (build_budget c.args.exprs.now c.args.right)) _ _ _ _ _ _ c.build_at.ensures.grows c.build_at-2.ensures.grows (omega arith) in
    grows_then ((build_budget c.args.exprs.now c.args.left) + (build_budget c.args.exprs.now c.args.right)) (2 * weight (c.in_ok-first.first.shape.items ++ c.in_ok-second.second.shape.items)) (new_budget c.args.exprs.now c.args.expr) _ _ _ _ _ _ g c.tensor.ensures.grows (omega arith)

pub build_power-build_at-requires : goal.build_power-build_at-requires
build_power-build_at-requires t c =
    let v = c.requires.valid in
    let w = power_within c.args.exprs.now v c.args.expr c.args.base c.args.times c.requires.power in
    let lt = v.each c.args.expr (expr.Power c.args.base c.args.times) c.requires.power in
    search rules

pub build_power-returns-in_err-factor-clause-grows : goal.build_power-returns-in_err-factor-clause-grows
build_power-returns-in_err-factor-clause-grows t c =
    let v = c.requires.valid in
    let w = power_within c.args.exprs.now v c.args.expr c.args.base c.args.times c.requires.power in
    let some = some_times c.args.exprs.now v c.args.expr c.args.base c.args.times c.requires.power in
    let b = power_budget c.args.exprs.now v c.args.expr c.args.base c.args.times c.requires.power w some in
    grows_within (build_budget c.args.exprs.now c.args.base) (new_budget c.args.exprs.now c.args.expr) _ _ _ _ c.build_at.ensures.grows (omega arith)

pub build_power-returns-in_err-factor-clause-stops : goal.build_power-returns-in_err-factor-clause-stops
build_power-returns-in_err-factor-clause-stops t c =
    let v = c.requires.valid in
    let w = power_within c.args.exprs.now v c.args.expr c.args.base c.args.times c.requires.power in
    let some = some_times c.args.exprs.now v c.args.expr c.args.base c.args.times c.requires.power in
    let b = power_budget c.args.exprs.now v c.args.expr c.args.base c.args.times c.requires.power w some in
    passed_on _ c.from_residual.result c.in_err-factor.field-0.0 c.from_residual.ensures
    (stops_within (IsWideAmong (products_of c.args.exprs.now c.args.base)) (IsWideAmong (products_of c.args.exprs.now c.args.expr)) (build_budget c.args.exprs.now c.args.base) (new_budget c.args.exprs.now c.args.expr) c.args.steps.now c.build_at.new.steps c.in_err-factor.field-0.0 (omega arith) (wide_base_at c.args.exprs.now v c.args.expr c.args.base c.args.times w c.requires.power) c.in_err-factor.ensures.stops)

pub build_power-power-requires-clause-some : goal.build_power-power-requires-clause-some
build_power-power-requires-clause-some t c =
    let v = c.requires.valid in
    let some = some_times c.args.exprs.now v c.args.expr c.args.base c.args.times c.requires.power in
    omega (arith, c.requires.some)

pub build_power-returns-in_err-made-clause-grows : goal.build_power-returns-in_err-made-clause-grows
build_power-returns-in_err-made-clause-grows t c =
    let v = c.requires.valid in
    let w = power_within c.args.exprs.now v c.args.expr c.args.base c.args.times c.requires.power in
    let some = some_times c.args.exprs.now v c.args.expr c.args.base c.args.times c.requires.power in
    let b = power_budget c.args.exprs.now v c.args.expr c.args.base c.args.times c.requires.power w some in
    let m = ap (λ x. (c.args.times - 1) * (2 * weight (repeat c.args.times x))) c.in_ok-factor.ensures.made.built.shape in
    grows_then (build_budget c.args.exprs.now c.args.base) ((c.args.times - 1) * (2 * weight (repeat c.args.times c.in_ok-factor.factor.shape.items))) (new_budget c.args.exprs.now c.args.expr) _ _ _ _ _ _ c.build_at.ensures.grows c.power.ensures.grows (omega arith)

pub build_power-returns-in_err-made-clause-stops : goal.build_power-returns-in_err-made-clause-stops
build_power-returns-in_err-made-clause-stops t c =
    let v = c.requires.valid in
    let w = power_within c.args.exprs.now v c.args.expr c.args.base c.args.times c.requires.power in
    let some = some_times c.args.exprs.now v c.args.expr c.args.base c.args.times c.requires.power in
    let b = power_budget c.args.exprs.now v c.args.expr c.args.base c.args.times c.requires.power w some in
    let m = ap (λ x. (c.args.times - 1) * (2 * weight (repeat c.args.times x))) c.in_ok-factor.ensures.made.built.shape in
    passed_on _ c.from_residual-in_err-made.result c.in_err-made.field-0.0 c.from_residual-in_err-made.ensures
    (stops_then (IsPowerCause c.args.times c.build_at.new.store c.in_ok-factor.factor) (IsWideAmong (products_of c.args.exprs.now c.args.expr)) (build_budget c.args.exprs.now c.args.base) ((c.args.times - 1) * (2 * weight (repeat c.args.times c.in_ok-factor.factor.shape.items))) (new_budget c.args.exprs.now c.args.expr) _ _ _ _ _ c.in_err-made.field-0.0 c.build_at.ensures.grows (omega arith)
    (wide_power c.args.exprs.now v c.args.base w c.args.expr c.args.times c.requires.power c.build_at.new.store c.in_ok-factor.factor c.in_ok-factor.ensures.made.built) c.in_err-made.ensures.stops)

pub build_power-returns-clause-made : goal.build_power-returns-clause-made
build_power-returns-clause-made t c =
    let v = c.requires.valid in
    let w = power_within c.args.exprs.now v c.args.expr c.args.base c.args.times c.requires.power in
    made_power_at c.args.exprs.now v c.args.expr c.args.base c.args.times w c.requires.power (covered c.args.exprs.now v c.args.base w) c.build_at.new.store c.power.new.store c.in_ok-factor.factor c.in_ok-made.made c.in_ok-factor.ensures.made c.in_ok-made.ensures.made

pub build_power-returns-clause-memo : goal.build_power-returns-clause-memo
build_power-returns-clause-memo t c =
    build_memo-Extends c.args.exprs.now c.build_at.new.store c.power.new.store c.power.ensures.grows.keeps (built_at c.build_at.new.memo) c.in_ok-factor.ensures.memo

pub build_power-returns-clause-grows : goal.build_power-returns-clause-grows
build_power-returns-clause-grows t c =
    let v = c.requires.valid in
    let w = power_within c.args.exprs.now v c.args.expr c.args.base c.args.times c.requires.power in
    let some = some_times c.args.exprs.now v c.args.expr c.args.base c.args.times c.requires.power in
    let b = power_budget c.args.exprs.now v c.args.expr c.args.base c.args.times c.requires.power w some in
    let m = ap (λ x. (c.args.times - 1) * (2 * weight (repeat c.args.times x))) c.in_ok-factor.ensures.made.built.shape in
    grows_then (build_budget c.args.exprs.now c.args.base) ((c.args.times - 1) * (2 * weight (repeat c.args.times c.in_ok-factor.factor.shape.items))) (new_budget c.args.exprs.now c.args.expr) _ _ _ _ _ _ c.build_at.ensures.grows c.power.ensures.grows (omega arith)

pub build_union-returns-in_err-parts-clause-grows : goal.build_union-returns-in_err-parts-clause-grows
build_union-returns-in_err-parts-clause-grows t c =
    let v = c.requires.valid in
    let o = opening_budget c.args.exprs.now v c.args.expr c.requires.there in
    grows_steps (new_budget c.args.exprs.now c.args.expr) c.args.store.now c.args.steps.now c.parts_of.new.steps c.requires.paid c.parts_of.ensures.later c.parts_of.ensures.limit (omega arith)

pub build_union-returns-in_err-parts-clause-stops : goal.build_union-returns-in_err-parts-clause-stops
build_union-returns-in_err-parts-clause-stops t c =
    let v = c.requires.valid in
    let o = opening_budget c.args.exprs.now v c.args.expr c.requires.there in
    passed_on _ c.from_residual.result c.in_err-parts.field-0.0 c.from_residual.ensures
    (stops_within (IsWideAmong (products_of c.args.exprs.now c.args.expr)) (IsWideAmong (products_of c.args.exprs.now c.args.expr)) (nodes_all c.args.exprs.now c.args.sides.items) (new_budget c.args.exprs.now c.args.expr) c.args.steps.now c.parts_of.new.steps c.in_err-parts.field-0.0 (omega arith) (λ x y h. h) (stops_gives_up (IsWideAmong (products_of c.args.exprs.now c.args.expr)) (nodes_all c.args.exprs.now c.args.sides.items) c.args.steps.now c.parts_of.new.steps c.in_err-parts.field-0.0 c.in_err-parts.ensures.refused))

pub build_union-returns-in_err-list-clause-grows : goal.build_union-returns-in_err-list-clause-grows
build_union-returns-in_err-list-clause-grows t c =
    let v = c.requires.valid in
    let u = union_budget c.args.exprs.now v c.args.expr c.as_slice-numbers.result.now (c.parts_of.new.steps.taken - c.args.steps.now.taken) c.requires.there (let n = c.in_ok-parts.ensures.nodes in let e = ap (nodes_all c.args.exprs.now) c.as_slice-numbers.ensures.value in omega arith) in
    let g : Grows (c.parts_of.new.steps.taken - c.args.steps.now.taken) c.args.store.now c.args.store.now c.args.steps.now c.parts_of.new.steps = grows_steps (c.parts_of.new.steps.taken - c.args.steps.now.taken) c.args.store.now c.args.steps.now c.parts_of.new.steps c.requires.paid c.parts_of.ensures.later c.parts_of.ensures.limit (omega (arith, c.parts_of.ensures.later)) in
    grows_then (c.parts_of.new.steps.taken - c.args.steps.now.taken) (parts_budget c.args.exprs.now c.args.expr c.as_slice-numbers.result.now) (new_budget c.args.exprs.now c.args.expr) _ _ _ _ _ _ g c.build_parts.ensures.grows (omega arith)

pub build_union-returns-in_err-list-clause-stops : goal.build_union-returns-in_err-list-clause-stops
build_union-returns-in_err-list-clause-stops t c =
    let v = c.requires.valid in
    let u = union_budget c.args.exprs.now v c.args.expr c.as_slice-numbers.result.now (c.parts_of.new.steps.taken - c.args.steps.now.taken) c.requires.there (let n = c.in_ok-parts.ensures.nodes in let e = ap (nodes_all c.args.exprs.now) c.as_slice-numbers.ensures.value in omega arith) in
    let g : Grows (c.parts_of.new.steps.taken - c.args.steps.now.taken) c.args.store.now c.args.store.now c.args.steps.now c.parts_of.new.steps = grows_steps (c.parts_of.new.steps.taken - c.args.steps.now.taken) c.args.store.now c.args.steps.now c.parts_of.new.steps c.requires.paid c.parts_of.ensures.later c.parts_of.ensures.limit (omega (arith, c.parts_of.ensures.later)) in
    passed_on _ c.from_residual-in_err-list.result c.in_err-list.field-0.0 c.from_residual-in_err-list.ensures
    (stops_then (IsWideAmong (products_of c.args.exprs.now c.args.expr)) (IsWideAmong (products_of c.args.exprs.now c.args.expr)) (c.parts_of.new.steps.taken - c.args.steps.now.taken) (parts_budget c.args.exprs.now c.args.expr c.as_slice-numbers.result.now) (new_budget c.args.exprs.now c.args.expr) _ _ _ _ _ c.in_err-list.field-0.0 g (omega arith) (λ x y h. h) c.in_err-list.ensures.stops)

pub build_union-union_of-requires-clause-some : goal.build_union-union_of-requires-clause-some
build_union-union_of-requires-clause-some t c =
    let v = c.requires.valid in
    let op = subst (λ ps. IsOpening c.args.exprs.now c.args.expr ps []) (sym c.as_slice-numbers.ensures.value) (c.in_ok-parts.ensures.parts c.args.expr c.requires.union) in
    let alike = subst (AreAlike c.args.exprs.now (c.args.expr ∷ [])) (append-nil c.as_slice-numbers.result.now) op.alike in
    let n = parts_some c.args.exprs.now v c.args.expr c.as_slice-numbers.result.now c.requires.there alike in
    let k = all_made-length c.args.exprs.now v c.build_parts.new.store c.as_slice-numbers.result.now c.in_ok-list.list.items c.in_ok-list.ensures.made in
    let e = ap length c.as_slice-automata.ensures.value in
    omega arith

pub build_union-union_of-requires-clause-fits : goal.build_union-union_of-requires-clause-fits
build_union-union_of-requires-clause-fits t c =
    let v = c.requires.valid in
    subst (λ ls. joining.AllFit c.build_parts.new.store ls) (sym c.as_slice-automata.ensures.value) (all_made_fit c.args.exprs.now v c.build_parts.new.store c.as_slice-numbers.result.now c.in_ok-list.list.items c.in_ok-list.ensures.made)

pub build_union-union_of-requires-clause-levels : goal.build_union-union_of-requires-clause-levels
build_union-union_of-requires-clause-levels t c =
    let v = c.requires.valid in
    let op = subst (λ ps. IsOpening c.args.exprs.now c.args.expr ps []) (sym c.as_slice-numbers.ensures.value) (c.in_ok-parts.ensures.parts c.args.expr c.requires.union) in
    let alike = subst (AreAlike c.args.exprs.now (c.args.expr ∷ [])) (append-nil c.as_slice-numbers.result.now) op.alike in
    let some = (v.qubits c.args.expr c.requires.there).0 in
    ((size_of c.args.exprs.now c.args.expr).qubits, some, subst (HaveLevels (size_of c.args.exprs.now c.args.expr).qubits) (sym c.as_slice-automata.ensures.value) (all_made_levels c.args.exprs.now v (size_of c.args.exprs.now c.args.expr).qubits c.build_parts.new.store c.as_slice-numbers.result.now c.in_ok-list.list.items c.in_ok-list.ensures.made (below_level c.args.exprs.now v c.args.expr c.as_slice-numbers.result.now c.requires.there op.below)))

pub build_union-returns-in_err-made-clause-grows : goal.build_union-returns-in_err-made-clause-grows
build_union-returns-in_err-made-clause-grows t c =
    let v = c.requires.valid in
    let op = subst (λ ps. IsOpening c.args.exprs.now c.args.expr ps []) (sym c.as_slice-numbers.ensures.value) (c.in_ok-parts.ensures.parts c.args.expr c.requires.union) in
    let alike = subst (AreAlike c.args.exprs.now (c.args.expr ∷ [])) (append-nil c.as_slice-numbers.result.now) op.alike in
    let u = union_budget c.args.exprs.now v c.args.expr c.as_slice-numbers.result.now (c.parts_of.new.steps.taken - c.args.steps.now.taken) c.requires.there (let n = c.in_ok-parts.ensures.nodes in let e = ap (nodes_all c.args.exprs.now) c.as_slice-numbers.ensures.value in omega arith) in
    let g : Grows (c.parts_of.new.steps.taken - c.args.steps.now.taken) c.args.store.now c.args.store.now c.args.steps.now c.parts_of.new.steps = grows_steps (c.parts_of.new.steps.taken - c.args.steps.now.taken) c.args.store.now c.args.steps.now c.parts_of.new.steps c.requires.paid c.parts_of.ensures.later c.parts_of.ensures.limit (omega (arith, c.parts_of.ensures.later)) in
    let s = ap (λ ls. store.united_shapes (map shape_of ls)) c.as_slice-automata.ensures.value ∙ parts_shape c.args.exprs.now v c.args.expr c.as_slice-numbers.result.now c.build_parts.new.store c.in_ok-list.list.items alike c.in_ok-list.ensures.made in
    let z = ap (λ x. 2 * store.words x * 2 ^ (length x + 1)) s in
    let h : Grows (2 * weight (size_of c.args.exprs.now c.args.expr).shape) c.build_parts.new.store c.union_of.new.store c.build_parts.new.steps c.union_of.new.steps = record { keeps = c.union_of.ensures.keeps; paid = c.union_of.ensures.paid; limit = c.union_of.ensures.limit; cheap = omega (arith, c.union_of.ensures.steps) } in
    let k : Grows ((c.parts_of.new.steps.taken - c.args.steps.now.taken) + (parts_budget c.args.exprs.now c.args.expr c.as_slice-numbers.result.now)) c.args.store.now c.build_parts.new.store c.args.steps.now c.build_parts.new.steps = grows_then (c.parts_of.new.steps.taken - c.args.steps.now.taken) (parts_budget c.args.exprs.now c.args.expr c.as_slice-numbers.result.now) ((c.parts_of.new.steps.taken - c.args.steps.now.taken) + (parts_budget c.args.exprs.now c.args.expr c.as_slice-numbers.result.now)) _ _ _ _ _ _ g c.build_parts.ensures.grows (omega arith) in
    grows_then ((c.parts_of.new.steps.taken - c.args.steps.now.taken) + (parts_budget c.args.exprs.now c.args.expr c.as_slice-numbers.result.now)) (2 * weight (size_of c.args.exprs.now c.args.expr).shape) (new_budget c.args.exprs.now c.args.expr) _ _ _ _ _ _ k h (omega arith)

pub build_union-returns-in_err-made-clause-stops : goal.build_union-returns-in_err-made-clause-stops
build_union-returns-in_err-made-clause-stops t c =
    let v = c.requires.valid in
    let op = subst (λ ps. IsOpening c.args.exprs.now c.args.expr ps []) (sym c.as_slice-numbers.ensures.value) (c.in_ok-parts.ensures.parts c.args.expr c.requires.union) in
    let alike = subst (AreAlike c.args.exprs.now (c.args.expr ∷ [])) (append-nil c.as_slice-numbers.result.now) op.alike in
    let u = union_budget c.args.exprs.now v c.args.expr c.as_slice-numbers.result.now (c.parts_of.new.steps.taken - c.args.steps.now.taken) c.requires.there (let n = c.in_ok-parts.ensures.nodes in let e = ap (nodes_all c.args.exprs.now) c.as_slice-numbers.ensures.value in omega arith) in
    let g : Grows (c.parts_of.new.steps.taken - c.args.steps.now.taken) c.args.store.now c.args.store.now c.args.steps.now c.parts_of.new.steps = grows_steps (c.parts_of.new.steps.taken - c.args.steps.now.taken) c.args.store.now c.args.steps.now c.parts_of.new.steps c.requires.paid c.parts_of.ensures.later c.parts_of.ensures.limit (omega (arith, c.parts_of.ensures.later)) in
    let s = ap (λ ls. store.united_shapes (map shape_of ls)) c.as_slice-automata.ensures.value ∙ parts_shape c.args.exprs.now v c.args.expr c.as_slice-numbers.result.now c.build_parts.new.store c.in_ok-list.list.items alike c.in_ok-list.ensures.made in
    let z = ap (λ x. 2 * store.words x * 2 ^ (length x + 1)) s in
    let k : Grows ((c.parts_of.new.steps.taken - c.args.steps.now.taken) + (parts_budget c.args.exprs.now c.args.expr c.as_slice-numbers.result.now)) c.args.store.now c.build_parts.new.store c.args.steps.now c.build_parts.new.steps = grows_then (c.parts_of.new.steps.taken - c.args.steps.now.taken) (parts_budget c.args.exprs.now c.args.expr c.as_slice-numbers.result.now) ((c.parts_of.new.steps.taken - c.args.steps.now.taken) + (parts_budget c.args.exprs.now c.args.expr c.as_slice-numbers.result.now)) _ _ _ _ _ _ g c.build_parts.ensures.grows (omega arith) in
    passed_on _ c.from_residual-in_err-made.result c.in_err-made.field-0.0 c.from_residual-in_err-made.ensures
    (stops_then (IsWideAmong (products_of c.args.exprs.now c.args.expr)) (IsWideAmong (products_of c.args.exprs.now c.args.expr)) ((c.parts_of.new.steps.taken - c.args.steps.now.taken) + (parts_budget c.args.exprs.now c.args.expr c.as_slice-numbers.result.now)) (2 * weight (size_of c.args.exprs.now c.args.expr).shape) (new_budget c.args.exprs.now c.args.expr) _ _ _ _ _ c.in_err-made.field-0.0 k (omega arith) (λ x y h. h)
    (stops_gives_up (IsWideAmong (products_of c.args.exprs.now c.args.expr)) (2 * weight (size_of c.args.exprs.now c.args.expr).shape) c.build_parts.new.steps c.union_of.new.steps c.in_err-made.field-0.0 (subst (λ n. GivesUp n c.build_parts.new.steps c.union_of.new.steps c.in_err-made.field-0.0) (z ∙ (let y : 2 * store.words (size_of c.args.exprs.now c.args.expr).shape * 2 ^ (length (size_of c.args.exprs.now c.args.expr).shape + 1) ≡ (2 * weight (size_of c.args.exprs.now c.args.expr).shape) = omega arith in y)) c.in_err-made.ensures.refused)))

pub build_union-returns-clause-made : goal.build_union-returns-clause-made
build_union-returns-clause-made t c =
    let v = c.requires.valid in
    let op = subst (λ ps. IsOpening c.args.exprs.now c.args.expr ps []) (sym c.as_slice-numbers.ensures.value) (c.in_ok-parts.ensures.parts c.args.expr c.requires.union) in
    let alike = subst (AreAlike c.args.exprs.now (c.args.expr ∷ [])) (append-nil c.as_slice-numbers.result.now) op.alike in
    made_union c.args.exprs.now v c.args.expr c.requires.there c.as_slice-numbers.result.now c.in_ok-list.list.items c.build_parts.new.store c.union_of.new.store c.in_ok-made.made alike op.below c.in_ok-list.ensures.made (subst (λ ls. AreUnited c.build_parts.new.store c.union_of.new.store ls c.in_ok-made.made) c.as_slice-automata.ensures.value c.in_ok-made.ensures.united)

pub build_union-returns-clause-memo : goal.build_union-returns-clause-memo
build_union-returns-clause-memo t c =
    build_memo-Extends c.args.exprs.now c.build_parts.new.store c.union_of.new.store c.union_of.ensures.keeps (built_at c.build_parts.new.memo) c.in_ok-list.ensures.memo

pub build_union-returns-clause-grows : goal.build_union-returns-clause-grows
build_union-returns-clause-grows t c =
    let v = c.requires.valid in
    let op = subst (λ ps. IsOpening c.args.exprs.now c.args.expr ps []) (sym c.as_slice-numbers.ensures.value) (c.in_ok-parts.ensures.parts c.args.expr c.requires.union) in
    let alike = subst (AreAlike c.args.exprs.now (c.args.expr ∷ [])) (append-nil c.as_slice-numbers.result.now) op.alike in
    let u = union_budget c.args.exprs.now v c.args.expr c.as_slice-numbers.result.now (c.parts_of.new.steps.taken - c.args.steps.now.taken) c.requires.there (let n = c.in_ok-parts.ensures.nodes in let e = ap (nodes_all c.args.exprs.now) c.as_slice-numbers.ensures.value in omega arith) in
    let g : Grows (c.parts_of.new.steps.taken - c.args.steps.now.taken) c.args.store.now c.args.store.now c.args.steps.now c.parts_of.new.steps = grows_steps (c.parts_of.new.steps.taken - c.args.steps.now.taken) c.args.store.now c.args.steps.now c.parts_of.new.steps c.requires.paid c.parts_of.ensures.later c.parts_of.ensures.limit (omega (arith, c.parts_of.ensures.later)) in
    let s = ap (λ ls. store.united_shapes (map shape_of ls)) c.as_slice-automata.ensures.value ∙ parts_shape c.args.exprs.now v c.args.expr c.as_slice-numbers.result.now c.build_parts.new.store c.in_ok-list.list.items alike c.in_ok-list.ensures.made in
    let z = ap (λ x. 2 * store.words x * 2 ^ (length x + 1)) s in
    let h : Grows (2 * weight (size_of c.args.exprs.now c.args.expr).shape) c.build_parts.new.store c.union_of.new.store c.build_parts.new.steps c.union_of.new.steps = record { keeps = c.union_of.ensures.keeps; paid = c.union_of.ensures.paid; limit = c.union_of.ensures.limit; cheap = omega (arith, c.union_of.ensures.steps) } in
    let k : Grows ((c.parts_of.new.steps.taken - c.args.steps.now.taken) + (parts_budget c.args.exprs.now c.args.expr c.as_slice-numbers.result.now)) c.args.store.now c.build_parts.new.store c.args.steps.now c.build_parts.new.steps = grows_then (c.parts_of.new.steps.taken - c.args.steps.now.taken) (parts_budget c.args.exprs.now c.args.expr c.as_slice-numbers.result.now) ((c.parts_of.new.steps.taken - c.args.steps.now.taken) + (parts_budget c.args.exprs.now c.args.expr c.as_slice-numbers.result.now)) _ _ _ _ _ _ g c.build_parts.ensures.grows (omega arith) in
    grows_then ((c.parts_of.new.steps.taken - c.args.steps.now.taken) + (parts_budget c.args.exprs.now c.args.expr c.as_slice-numbers.result.now)) (2 * weight (size_of c.args.exprs.now c.args.expr).shape) (new_budget c.args.exprs.now c.args.expr) _ _ _ _ _ _ k h (omega arith)

pub build_parts-loop-part-init : goal.build_parts-loop-part-init
build_parts-loop-part-init t c =
    let v = c.requires.valid in
    record {
      made = subst (λ ls. AreMade c.args.exprs.now c.args.store.now [] ls) (sym c.new-list.ensures.items) (all_made-none c.args.exprs.now v c.args.store.now);
      memo = c.requires.memo;
      grows = grows_within 0 _ _ _ _ _ (grows_none c.args.store.now c.args.steps.now c.requires.paid) (omega arith);
    }

pub build_parts-returns-in_err-made-clause-grows : goal.build_parts-returns-in_err-made-clause-grows
build_parts-returns-in_err-made-clause-grows t c =
    let v = c.requires.valid in
    let a = subst (AreAlike c.args.exprs.now (c.args.expr ∷ [])) (append-nil c.args.parts.now) c.requires.union.alike in
    let st = parts_step c.args.exprs.now v c.args.expr c.args.parts.now c.loop-part.part-index (alike_shape c.args.exprs.now v c.args.expr c.args.parts.now a) (within_of c.args.exprs.now v c.args.expr c.args.parts.now c.requires.there c.requires.union.below) (omega arith) in
    let fr = parts_front c.args.exprs.now v c.args.expr c.args.parts.now (c.loop-part.part-index + 1) in
    grows_then (parts_budget c.args.exprs.now c.args.expr (take c.loop-part.part-index c.args.parts.now)) (build_budget c.args.exprs.now (get_or c.args.parts.now c.loop-part.part-index 0)) (parts_budget c.args.exprs.now c.args.expr c.args.parts.now) _ _ _ _ _ _ c.loop-part.invariant.grows c.build_at.ensures.grows (omega arith)

pub build_parts-returns-in_err-made-clause-stops : goal.build_parts-returns-in_err-made-clause-stops
build_parts-returns-in_err-made-clause-stops t c =
    let v = c.requires.valid in
    let a = subst (AreAlike c.args.exprs.now (c.args.expr ∷ [])) (append-nil c.args.parts.now) c.requires.union.alike in
    let st = parts_step c.args.exprs.now v c.args.expr c.args.parts.now c.loop-part.part-index (alike_shape c.args.exprs.now v c.args.expr c.args.parts.now a) (within_of c.args.exprs.now v c.args.expr c.args.parts.now c.requires.there c.requires.union.below) (omega arith) in
    let fr = parts_front c.args.exprs.now v c.args.expr c.args.parts.now (c.loop-part.part-index + 1) in
    passed_on _ c.from_residual.result c.in_err-made.field-0.0 c.from_residual.ensures
    (stops_then (IsWideAmong (products_of c.args.exprs.now (get_or c.args.parts.now c.loop-part.part-index 0))) (IsWideAmong (products_of c.args.exprs.now c.args.expr)) (parts_budget c.args.exprs.now c.args.expr (take c.loop-part.part-index c.args.parts.now)) (build_budget c.args.exprs.now (get_or c.args.parts.now c.loop-part.part-index 0)) (parts_budget c.args.exprs.now c.args.expr c.args.parts.now) _ _ _ _ _ c.in_err-made.field-0.0 c.loop-part.invariant.grows (omega arith) (wide_part c.args.exprs.now v c.args.expr c.args.parts.now a c.loop-part.part-index (get_or c.args.parts.now c.loop-part.part-index 0) (slice_get_read c.args.parts.now (length c.args.parts.now) c.loop-part.part-index (get_or c.args.parts.now c.loop-part.part-index 0) refl (omega arith) (get_or_any c.args.parts.now c.loop-part.part-index (omega arith)))) c.in_err-made.ensures.stops)

pub build_parts-returns-in_default-clause-grows : goal.build_parts-returns-in_default-clause-grows
build_parts-returns-in_default-clause-grows t c =
    let v = c.requires.valid in
    let a = subst (AreAlike c.args.exprs.now (c.args.expr ∷ [])) (append-nil c.args.parts.now) c.requires.union.alike in
    let st = parts_step c.args.exprs.now v c.args.expr c.args.parts.now c.loop-part.part-index (alike_shape c.args.exprs.now v c.args.expr c.args.parts.now a) (within_of c.args.exprs.now v c.args.expr c.args.parts.now c.requires.there c.requires.union.below) (omega arith) in
    let fr = parts_front c.args.exprs.now v c.args.expr c.args.parts.now (c.loop-part.part-index + 1) in
    grows_then (parts_budget c.args.exprs.now c.args.expr (take c.loop-part.part-index c.args.parts.now)) (build_budget c.args.exprs.now (get_or c.args.parts.now c.loop-part.part-index 0)) (parts_budget c.args.exprs.now c.args.expr c.args.parts.now) _ _ _ _ _ _ c.loop-part.invariant.grows c.build_at.ensures.grows (omega arith)

pub build_parts-loop-part-preserved : goal.build_parts-loop-part-preserved
build_parts-loop-part-preserved t c =
    let v = c.requires.valid in
    let a = subst (AreAlike c.args.exprs.now (c.args.expr ∷ [])) (append-nil c.args.parts.now) c.requires.union.alike in
    let st = parts_step c.args.exprs.now v c.args.expr c.args.parts.now c.loop-part.part-index (alike_shape c.args.exprs.now v c.args.expr c.args.parts.now a) (within_of c.args.exprs.now v c.args.expr c.args.parts.now c.requires.there c.requires.union.below) (omega arith) in
    let m = all_made-push c.args.exprs.now v c.build_at.new.store (take c.loop-part.part-index c.args.parts.now) c.loop-part.list.items (get_or c.args.parts.now c.loop-part.part-index 0) c.in_ok-made.made (all_made-Extends c.args.exprs.now v c.loop-part.store c.build_at.new.store c.build_at.ensures.grows.keeps (take c.loop-part.part-index c.args.parts.now) c.loop-part.list.items c.loop-part.invariant.made) c.in_ok-made.ensures.made in
    record {
      made = subst (λ ls. AreMade c.args.exprs.now c.build_at.new.store (take (c.loop-part.part-index + 1) c.args.parts.now) ls) (sym c.in-Ok.ensures.items) (subst (λ js. AreMade c.args.exprs.now c.build_at.new.store js (c.loop-part.list.items ++ c.in_ok-made.made ∷ [])) (sym (take_more c.args.parts.now c.loop-part.part-index 0 (omega arith))) m);
      memo = c.in_ok-made.ensures.memo;
      grows = grows_then (parts_budget c.args.exprs.now c.args.expr (take c.loop-part.part-index c.args.parts.now)) (build_budget c.args.exprs.now (get_or c.args.parts.now c.loop-part.part-index 0)) (parts_budget c.args.exprs.now c.args.expr (take (c.loop-part.part-index + 1) c.args.parts.now)) _ _ _ _ _ _ c.loop-part.invariant.grows c.build_at.ensures.grows st;
    }

pub build_new-returns-in_ok-bracket-in-Kets-clause-memo : goal.build_new-returns-in_ok-bracket-in-Kets-clause-memo
build_new-returns-in_ok-bracket-in-Kets-clause-memo t c =
    build_memo-Extends c.args.exprs.now c.args.store.now c.build_kets.new.store c.build_kets.ensures.grows.keeps (built_at c.args.memo.now) c.requires.memo

pub build_new-returns-in_ok-basis-in-All-clause-memo : goal.build_new-returns-in_ok-basis-in-All-clause-memo
build_new-returns-in_ok-basis-in-All-clause-memo t c =
    build_memo-Extends c.args.exprs.now c.args.store.now c.build_all.new.store c.build_all.ensures.grows.keeps (built_at c.args.memo.now) c.requires.memo

pub build_new-build_power-requires : goal.build_new-build_power-requires
build_new-build_power-requires t c =
    let h = expr_at c.args.exprs.now c.args.expr _ _ c.requires.there c.index-exprs-expr.is c.in-Power.is in
    let n = c.if-times-eq1.false in
    search rules

pub build_new-build_union-requires : goal.build_new-build_union-requires
build_new-build_union-requires t c =
    let v = c.requires.valid in
    let h = expr_at c.args.exprs.now c.args.expr _ _ c.requires.there c.index-exprs-expr.is c.in-Union.is in
    let e : c.push_all.new.list.items ≡ c.in-Union.right ∷ c.in-Union.left ∷ [] = c.in_ok-push_all-in-Union.ensures.pushed ∙ ap (λ xs. xs ++ (c.in-Union.right ∷ c.in-Union.left ∷ [])) c.new-sides.ensures.items in
    let u = subst (λ xs. IsOpening c.args.exprs.now c.args.expr [] xs) (sym e) (opening_union c.args.exprs.now v c.args.expr c.in-Union.left c.in-Union.right h) in
    let f = subst (λ xs. nodes_all c.args.exprs.now xs < (size_of c.args.exprs.now c.args.expr).nodes) (sym e) (fewer_union c.args.exprs.now v c.args.expr c.in-Union.left c.in-Union.right h) in
    search rules

pub build_new-build_union-requires-then-times-eq1 : goal.build_new-build_union-requires-then-times-eq1
build_new-build_union-requires-then-times-eq1 t c =
    let v = c.requires.valid in
    let h = expr_at c.args.exprs.now c.args.expr _ _ c.requires.there c.index-exprs-expr.is c.in-Power.is in
    let e : c.push_all-then-times-eq1.new.list.items ≡ c.in-Power.base ∷ [] = c.in_ok-push_all-in-Power.ensures.pushed ∙ ap (λ xs. xs ++ (c.in-Power.base ∷ [])) c.new-sides-then-times-eq1.ensures.items in
    let u = subst (λ xs. IsOpening c.args.exprs.now c.args.expr [] xs) (sym e) (opening_power c.args.exprs.now v c.args.expr c.in-Power.base c.in-Power.times c.if-times-eq1.true h) in
    let f = subst (λ xs. nodes_all c.args.exprs.now xs < (size_of c.args.exprs.now c.args.expr).nodes) (sym e) (fewer_power c.args.exprs.now v c.args.expr c.in-Power.base c.in-Power.times c.if-times-eq1.true h) in
    search rules
