use Rattle.std.proofs.Common.{rules, ◌≡◌, ◌+◌, ◌-◌, ◌*◌, ◌<◌, ◌≤◌, length, take, drop, sym, ap, ◌∙◌, arith}
use Rattle.std.proofs.lemmas.List.{take_rest}
use Rattle.aq_sets.specs.Caps.{capped}
use Rattle.aq_sets.specs.Sizes.{size_of, place, power_place}
use Rattle.aq_sets.proofs.ToldLaws.{expr_at}
use Rattle.aq_set_build.proofs.PlaceLemmas.{part_is, part_long, part_within, front_long, back_long, base_within, factors_within, base_told, factors_told, tensor_told, power_told, power_step, kets_told, basis_told}
use Rattle.aq_set_build.proofs.places.+place.Goals as goal

pub place_power-bounds-sizes-base : goal.place_power-bounds-sizes-base
place_power-bounds-sizes-base t c = (base_within c.args.exprs.now c.requires.valid c.args.sizes.now c.requires.sizes c.args.expr c.args.base c.args.times c.requires.power).1

pub place_power-overflow_add-start : goal.place_power-overflow_add-start
place_power-overflow_add-start t c =
    let w = base_within c.args.exprs.now c.requires.valid c.args.sizes.now c.requires.sizes c.args.expr c.args.base c.args.times c.requires.power in
    let b = base_told c.args.exprs.now c.requires.valid c.args.sizes.now c.requires.sizes c.args.expr c.args.base c.args.times c.requires.power _ c.index-sizes-base.is in
    let n : c.loop-done.start + c.index-sizes-base.result.qubits ≤ length c.args.word.now = part_within _ c.loop-done.done c.args.times _ _ _ c.loop-done.invariant.start (ap (λ z. z.qubits) b.0) (omega arith) (c.requires.long ∙ b.3) in
    let m : c.loop-done.start + c.index-sizes-base.result.qubits ≤ 16 = omega (arith, w.3, c.requires.long) in
    search rules

pub place_power-offset_bounds-word-start : goal.place_power-offset_bounds-word-start
place_power-offset_bounds-word-start t c =
    let w = base_within c.args.exprs.now c.requires.valid c.args.sizes.now c.requires.sizes c.args.expr c.args.base c.args.times c.requires.power in
    let b = base_told c.args.exprs.now c.requires.valid c.args.sizes.now c.requires.sizes c.args.expr c.args.base c.args.times c.requires.power _ c.index-sizes-base.is in
    let n : c.loop-done.start + c.index-sizes-base.result.qubits ≤ length c.args.word.now = part_within _ c.loop-done.done c.args.times _ _ _ c.loop-done.invariant.start (ap (λ z. z.qubits) b.0) (omega arith) (c.requires.long ∙ b.3) in
    let m : c.loop-done.start ≤ 16 = omega (arith, w.3, c.requires.long) in
    search rules

pub place_power-slice_bounds-place_at-end : goal.place_power-slice_bounds-place_at-end
place_power-slice_bounds-place_at-end t c =
    let b = base_told c.args.exprs.now c.requires.valid c.args.sizes.now c.requires.sizes c.args.expr c.args.base c.args.times c.requires.power _ c.index-sizes-base.is in
    let n : c.loop-done.start + c.index-sizes-base.result.qubits ≤ length c.args.word.now = part_within _ c.loop-done.done c.args.times _ _ _ c.loop-done.invariant.start (ap (λ z. z.qubits) b.0) (omega arith) (c.requires.long ∙ b.3) in
    search rules

pub place_power-place_at-requires : goal.place_power-place_at-requires
place_power-place_at-requires t c =
    let v = c.requires.valid in
    let w = base_within c.args.exprs.now c.requires.valid c.args.sizes.now c.requires.sizes c.args.expr c.args.base c.args.times c.requires.power in
    let b = base_told c.args.exprs.now c.requires.valid c.args.sizes.now c.requires.sizes c.args.expr c.args.base c.args.times c.requires.power _ c.index-sizes-base.is in
    let n : c.loop-done.start + c.index-sizes-base.result.qubits ≤ length c.args.word.now = part_within _ c.loop-done.done c.args.times _ _ _ c.loop-done.invariant.start (ap (λ z. z.qubits) b.0) (omega arith) (c.requires.long ∙ b.3) in
    let lt : c.args.base < c.args.expr = w.0 in
    let there : c.args.base < length c.args.exprs.now = w.2 in
    let long : length (take (c.loop-done.start + c.index-sizes-base.result.qubits - c.loop-done.start) (drop c.loop-done.start c.args.word.now)) ≡ (size_of c.args.exprs.now c.args.base).qubits =
    part_long c.args.word.now c.loop-done.start c.index-sizes-base.result.qubits n ∙ ap (λ z. z.qubits) b.0 in
    search rules

pub place_power-loop-done-preserved : goal.place_power-loop-done-preserved
place_power-loop-done-preserved t c =
    let b = base_told c.args.exprs.now c.requires.valid c.args.sizes.now c.requires.sizes c.args.expr c.args.base c.args.times c.requires.power _ c.index-sizes-base.is in
    let q : c.index-sizes-base.result.qubits ≡ (size_of c.args.exprs.now c.args.base).qubits = ap (λ z. z.qubits) b.0 in
    let n : c.index-sizes-base.result.count ≡ capped (size_of c.args.exprs.now c.args.base).count = ap (λ z. z.count) b.0 in
    let start = c.loop-done.invariant.start in
    let part = part_is c.args.word.now c.loop-done.start c.index-sizes-base.result.qubits (size_of c.args.exprs.now c.args.base).qubits c.loop-done.done start in
    record {
      start = omega arith;
      told = c.capped_sum-whole.ensures ∙ ap (λ z. capped (z + c.in_ok-digit.digit)) c.capped_product.ensures
          ∙ power_step c.args.exprs.now c.requires.valid c.args.base c.loop-done.done c.index-sizes-base.result.qubits c.loop-done.whole c.index-sizes-base.result.count c.in_ok-digit.digit c.args.word.now
          q n c.loop-done.invariant.told (c.in_ok-digit.ensures.told ∙ ap (λ z. capped (place c.args.exprs.now c.args.base z)) part);
    }

pub place_power-returns : goal.place_power-returns
place_power-returns t c =
    let b = base_told c.args.exprs.now c.requires.valid c.args.sizes.now c.requires.sizes c.args.expr c.args.base c.args.times c.requires.power _ c.index-sizes-base.is in
    let all : c.loop-done.done ≡ c.args.times = omega arith in
    record {
      told = power_told c.args.exprs.now c.requires.valid c.args.expr c.args.base c.args.times c.loop-done.whole c.args.word.now c.requires.power (c.requires.long ∙ b.3)
          (c.loop-done.invariant.told ∙ ap (λ k. capped (power_place k (size_of c.args.exprs.now c.args.base) (place c.args.exprs.now c.args.base) (take ((size_of c.args.exprs.now c.args.base).qubits * k) c.args.word.now))) all);
    }

pub place_tensor-bounds-sizes-left : goal.place_tensor-bounds-sizes-left
place_tensor-bounds-sizes-left t c = (factors_within c.args.exprs.now c.requires.valid c.args.sizes.now c.requires.sizes c.args.expr c.args.left c.args.right c.requires.tensor).2

pub place_tensor-bounds-sizes-right : goal.place_tensor-bounds-sizes-right
place_tensor-bounds-sizes-right t c = (factors_within c.args.exprs.now c.requires.valid c.args.sizes.now c.requires.sizes c.args.expr c.args.left c.args.right c.requires.tensor).3

pub place_tensor-slice_bounds-place_at-end : goal.place_tensor-slice_bounds-place_at-end
place_tensor-slice_bounds-place_at-end t c =
    let f = factors_told c.args.exprs.now c.requires.valid c.args.sizes.now c.requires.sizes c.args.expr c.args.left c.args.right c.requires.tensor _ _ c.index-sizes-left.is c.index-sizes-right.is in
    let n : c.index-sizes-left.result.qubits ≤ length c.args.word.now = omega (arith, f.2, c.requires.long) in
    let e = front_long c.args.word.now c.index-sizes-left.result.qubits n in
    let d = sym e in
    search rules

pub place_tensor-place_at-requires : goal.place_tensor-place_at-requires
place_tensor-place_at-requires t c =
    let v = c.requires.valid in
    let w = factors_within c.args.exprs.now c.requires.valid c.args.sizes.now c.requires.sizes c.args.expr c.args.left c.args.right c.requires.tensor in
    let f = factors_told c.args.exprs.now c.requires.valid c.args.sizes.now c.requires.sizes c.args.expr c.args.left c.args.right c.requires.tensor _ _ c.index-sizes-left.is c.index-sizes-right.is in
    let n : c.index-sizes-left.result.qubits ≤ length c.args.word.now = omega (arith, f.2, c.requires.long) in
    let lt : c.args.left < c.args.expr = w.0 in
    let there : c.args.left < length c.args.exprs.now = w.4 in
    let long : length (take c.index-sizes-left.result.qubits c.args.word.now) ≡ (size_of c.args.exprs.now c.args.left).qubits =
    front_long c.args.word.now c.index-sizes-left.result.qubits n ∙ ap (λ z. z.qubits) f.0 in
    search rules

pub place_tensor-slice_bounds-place_at-count : goal.place_tensor-slice_bounds-place_at-count
place_tensor-slice_bounds-place_at-count t c =
    let f = factors_told c.args.exprs.now c.requires.valid c.args.sizes.now c.requires.sizes c.args.expr c.args.left c.args.right c.requires.tensor _ _ c.index-sizes-left.is c.index-sizes-right.is in
    omega (arith, f.2, c.requires.long)

pub place_tensor-slice_bounds-place_at-start : goal.place_tensor-slice_bounds-place_at-start
place_tensor-slice_bounds-place_at-start t c =
    let f = factors_told c.args.exprs.now c.requires.valid c.args.sizes.now c.requires.sizes c.args.expr c.args.left c.args.right c.requires.tensor _ _ c.index-sizes-left.is c.index-sizes-right.is in
    let n : c.index-sizes-left.result.qubits ≤ length c.args.word.now = omega (arith, f.2, c.requires.long) in
    search rules

pub place_tensor-place_at-requires-2 : goal.place_tensor-place_at-requires-2
place_tensor-place_at-requires-2 t c =
    let v = c.requires.valid in
    let w = factors_within c.args.exprs.now c.requires.valid c.args.sizes.now c.requires.sizes c.args.expr c.args.left c.args.right c.requires.tensor in
    let f = factors_told c.args.exprs.now c.requires.valid c.args.sizes.now c.requires.sizes c.args.expr c.args.left c.args.right c.requires.tensor _ _ c.index-sizes-left.is c.index-sizes-right.is in
    let lt : c.args.right < c.args.expr = w.1 in
    let there : c.args.right < length c.args.exprs.now = w.5 in
    let back : length (take (length c.args.word.now - c.index-sizes-left.result.qubits) (drop c.index-sizes-left.result.qubits c.args.word.now)) ≡ length c.args.word.now - c.index-sizes-left.result.qubits =
    back_long c.args.word.now c.index-sizes-left.result.qubits in
    let r = ap (λ z. z.qubits) f.1 in
    let long : length (take (length c.args.word.now - c.index-sizes-left.result.qubits) (drop c.index-sizes-left.result.qubits c.args.word.now)) ≡ (size_of c.args.exprs.now c.args.right).qubits =
    omega (arith, back, r, f.2, c.requires.long) in
    search rules

pub place_tensor-returns : goal.place_tensor-returns
place_tensor-returns t c =
    let f = factors_told c.args.exprs.now c.requires.valid c.args.sizes.now c.requires.sizes c.args.expr c.args.left c.args.right c.requires.tensor _ _ c.index-sizes-left.is c.index-sizes-right.is in
    let rest = take_rest c.args.word.now c.index-sizes-left.result.qubits in
    record {
      told = c.capped_sum.ensures ∙ ap (λ z. capped (z + c.in_ok-low.low)) c.capped_product.ensures
          ∙ tensor_told c.args.exprs.now c.requires.valid c.args.expr c.args.left c.args.right c.in_ok-high.high c.in_ok-low.low c.args.word.now c.index-sizes-left.result c.index-sizes-right.result
          c.requires.tensor f.0 f.1 c.in_ok-high.ensures.told (c.in_ok-low.ensures.told ∙ ap (λ z. capped (place c.args.exprs.now c.args.right z)) rest);
    }

pub place_whole-returns-in-Kets : goal.place_whole-returns-in-Kets
place_whole-returns-in-Kets t c =
    let h = expr_at c.args.exprs.now c.args.expr _ _ c.requires.there c.index-exprs-expr.is c.in-Kets.is in
    record { told = kets_told c.args.exprs.now c.requires.valid c.args.expr c.in-Kets.qubits c.in-Kets.terms c.args.word.now h }

pub place_whole-returns-in-All : goal.place_whole-returns-in-All
place_whole-returns-in-All t c =
    let h = expr_at c.args.exprs.now c.args.expr _ _ c.requires.there c.index-exprs-expr.is c.in-All.is in
    record { told = c.number.ensures ∙ basis_told c.args.exprs.now c.requires.valid c.args.expr c.in-All.qubits c.args.word.now h }

pub place_whole-returns-in-Union : goal.place_whole-returns-in-Union
place_whole-returns-in-Union t c =
    let h = expr_at c.args.exprs.now c.args.expr _ _ c.requires.there c.index-exprs-expr.is c.in-Union.is in
    absurd (c.requires.whole.none c.in-Union.left c.in-Union.right h)
