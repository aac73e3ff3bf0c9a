use Rattle.std.proofs.Common.{◌≡◌, ℕ, ◌+◌, ◌<◌, ◌≤◌, length, take, map, arith, ap, sym, ◌∙◌, refl}
use Rattle.std.proofs.lemmas.Option.{slice_get_read}
use Rattle.aq_store.specs.Count.{Count}
use Rattle.aq_store.specs.Words.{first_number, united_shapes}
use Rattle.aq_store.proofs.StopLemmas.{GivesUp-within, passed_on}
use Rattle.aq_measure_ops.specs.Joining.{shape_of}
use Rattle.aq_measure_ops.proofs.UnitedLemmas.{many_like, front_levels, front_first, same_levels, shapes_more}
use Rattle.aq_measure_ops.proofs.joining.united_all.Goals as goal

pub united-requires : goal.united-requires
united-requires g c =
    let at = slice_get_read c.args.parts.now (length c.args.parts.now) c.loop-part.part-index c.part-item.result refl c.loop-part-test.true c.part-item.is in
    let n = c.requires.levels.0 in
    record {
      same = same_levels c.as_slice-before.result.now (united_shapes (map shape_of (take c.loop-part.part-index c.args.parts.now))) c.as_slice-more.result.now n
          (c.as_slice-before.ensures.value ∙ c.loop-part.invariant.shape)
          (many_like n (take c.loop-part.part-index c.args.parts.now) (front_levels n c.args.parts.now c.loop-part.part-index c.requires.levels.1))
          (ap length c.as_slice-more.ensures.value ∙ c.requires.levels.1.each c.loop-part.part-index c.part-item.result at);
    }

pub returns-in_err-shape-clause-cheap : goal.returns-in_err-shape-clause-cheap
returns-in_err-shape-clause-cheap g c =
    let at = slice_get_read c.args.parts.now (length c.args.parts.now) c.loop-part.part-index c.part-item.result refl c.loop-part-test.true c.part-item.is in
    let most = front_first c.requires.levels.0 c.args.parts.now c.loop-part.part-index c.part-item.result c.as_slice-before.result.now c.as_slice-more.result.now
    c.requires.levels.1 at (c.as_slice-before.ensures.value ∙ c.loop-part.invariant.shape) c.as_slice-more.ensures.value in
    omega (arith, most, c.united.ensures.cheap, ap (λ (n : Count). n.taken) c.loop-part.invariant.still)

pub returns-in_err-shape-clause-refused : goal.returns-in_err-shape-clause-refused
returns-in_err-shape-clause-refused g c =
    let at = slice_get_read c.args.parts.now (length c.args.parts.now) c.loop-part.part-index c.part-item.result refl c.loop-part-test.true c.part-item.is in
    let most = front_first c.requires.levels.0 c.args.parts.now c.loop-part.part-index c.part-item.result c.as_slice-before.result.now c.as_slice-more.result.now
    c.requires.levels.1 at (c.as_slice-before.ensures.value ∙ c.loop-part.invariant.shape) c.as_slice-more.ensures.value in
    passed_on _ c.from_residual.result c.in_err-shape.field-0.0 c.from_residual.ensures
    (GivesUp-within c.args.steps.now c.loop-part.steps c.united.new.steps (first_number c.as_slice-before.result.now + first_number c.as_slice-more.result.now) (first_number
    (united_shapes (map shape_of c.args.parts.now))) _
    (ap (λ (n : Count). n.limit) c.loop-part.invariant.still) (omega (arith, most, ap (λ (n : Count). n.taken) c.loop-part.invariant.still)) c.in_err-shape.ensures.refused)
