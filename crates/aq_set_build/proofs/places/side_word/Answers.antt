use Rattle.std.proofs.Common.{◌<◌, arith, get_or}
use Rattle.aq_sets.specs.Caps.{most_told}
use Rattle.aq_set_build.proofs.PlaceLemmas.{cut_more}
use Rattle.aq_set_build.proofs.places.side_word.Goals as goal

pub loop-level-preserved : goal.loop-level-preserved
loop-level-preserved c = λ numbers e.
    let few : get_or c.args.word.now c.loop-level.level 0 < most_told = omega arith in
    cut_more numbers c.args.shape.now c.args.word.now c.loop-level.list.items c.push-in-loop-level.new.self.items c.args.first c.loop-level.level c.min-choice.result c.saturating_sub-last.result
    c.requires.same (omega arith) (omega arith) e (c.loop-level.invariant numbers e) c.in_ok-push-2.ensures.items c.saturating_sub-last.ensures c.min-choice.ensures few
