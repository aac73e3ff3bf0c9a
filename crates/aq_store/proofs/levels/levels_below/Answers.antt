use Rattle.std.proofs.Common.{◌≡◌, slice_get, ap, sym, ◌∙◌}
use Rattle.aq_store.specs.Levels.{next_level}
use Rattle.aq_store.proofs.LevelLemmas.{level_some, level_next, levels_more, levels_done}
use Rattle.aq_store.proofs.levels.levels_below.Goals as goal

pub below-requires : goal.below-requires
below-requires g c = λ k i e.
    level_some c.args.store.now c.args.shape.now c.loop-choices.level.items c.loop-choices._choices-index c.loop-choices-test.true c.loop-choices.invariant.shaped k i
    (ap (λ l. slice_get l k) (sym c.as_slice.ensures.value) ∙ e)

pub loop-choices-preserved : goal.loop-choices-preserved
loop-choices-preserved g c =
    let is : c.in_ok-next.next.items ≡ next_level c.args.store.now c.loop-choices.level.items = c.in_ok-next.ensures ∙ ap (next_level c.args.store.now) c.as_slice.ensures.value in
    record {
      shaped = level_next c.args.store.now c.args.shape.now c.loop-choices.level.items c.in_ok-next.next.items c.loop-choices._choices-index c.loop-choices-test.true
          c.loop-choices.invariant.shaped is;
      done = levels_more c.args.store.now c.args.shape.now c.in_ok-next.next.items c.loop-choices.levels.items c.push-in-loop-choices.new.self.items c.loop-choices.level
          c.loop-choices._choices-index _
          c.loop-choices-test.true c.in_ok-push-2.ensures.items is c.loop-choices.invariant.done;
    }

pub returns : goal.returns
returns g c =
    levels_done c.args.store.now c.args.shape.now c.loop-choices.levels.items c.push-2.new.self.items c.loop-choices.level c.loop-choices._choices-index _ c.loop-choices-test.false
    c.in_ok-push-3.ensures.items c.loop-choices.invariant.done
