use Rattle.std.proofs.Common.{List, [], ◌∷◌, ◌∙◌, length, sym, ap, subst, ◌+◌, Some}
use Rattle.std.proofs.lemmas.List.{length-append}
use Rattle.std.proofs.lemmas.Option.{slice_get-get_or}
use Rattle.aq_cert.specs.declared.cert.Macro.{Macro}
use Rattle.aq_store.specs.Levels.{lists_of}
use Rattle.aq_cert.specs.Placed.{AreGoalLevels}
use Rattle.aq_cert.proofs.PlacedLemmas.{rows-more, stands-moved, at-row}
use Rattle.aq_cert.proofs.placed.with_places.Goals as goal

pub place_level-requires : goal.place_level-requires
place_level-requires g c = λ i m here.
    stands-moved c.args.store.now c.args.left.now c.args.goals.now c.as_slice.result.now c.as_slice-in-loop-level.result.now c.loop-level.level m (ap lists_of c.as_slice.ensures.value ∙ c.in_ok-left_levels.ensures)
    (subst (AreGoalLevels c.args.store.now c.args.goals.now) (sym c.as_slice-in-loop-level.ensures.value) c.in_ok-all.ensures)
    (c.requires.stand.each c.loop-level.level i m
    (at-row c.args.store.now c.args.left.now c.args.goals.now c.args.macros.now c.loop-level.level i c.index-macros-level.result c.as_slice-in-loop-level-2.result.now m
    (slice_get-get_or c.args.macros.now c.loop-level.level c.index-macros-level.result c.loop-level-test.true ∙ ap (λ (z : List Macro). Some z) (sym c.index-macros-level.is))
    c.as_slice-in-loop-level-2.ensures here))

pub loop-level-preserved : goal.loop-level-preserved
loop-level-preserved g c = record {
  count = ap (λ (l : List (List Macro)). length l) c.in_ok-push.ensures.ok ∙ length-append c.loop-level.rows (c.in_ok-place_level.field-0 ∷ []) ∙ ap (λ n. n + 1) c.loop-level.invariant.count;
  each = rows-more c.args.store.now c.args.left.now c.args.goals.now c.args.macros.now c.loop-level.rows c.push.new.self c.loop-level.level c.index-macros-level.result c.in_ok-place_level.field-0
      c.as_slice-in-loop-level-2.result.now c.as_slice.result.now c.as_slice-in-loop-level.result.now c.loop-level-test.true
      (slice_get-get_or c.args.macros.now c.loop-level.level c.index-macros-level.result c.loop-level-test.true ∙ ap (λ (z : List Macro). Some z) (sym c.index-macros-level.is))
      c.as_slice-in-loop-level-2.ensures c.loop-level.invariant.count c.in_ok-push.ensures.ok (ap lists_of c.as_slice.ensures.value ∙ c.in_ok-left_levels.ensures)
      (subst (AreGoalLevels c.args.store.now c.args.goals.now) (sym c.as_slice-in-loop-level.ensures.value) c.in_ok-all.ensures) c.in_ok-place_level.ensures c.loop-level.invariant.each;
}
