use Rattle.std.proofs.Common.{List, [], ◌∷◌, ◌∙◌, length, ap, ◌+◌}
use Rattle.std.proofs.lemmas.List.{length-append}
use Rattle.aq_cert.specs.declared.index.Index.{Index}
use Rattle.aq_cert.proofs.PlacedLemmas.{indexes-more}
use Rattle.aq_cert.proofs.placed.goal_indexes.Goals as goal

pub loop-levels-preserved : goal.loop-levels-preserved
loop-levels-preserved c = record {
  count = ap (λ (l : List Index). length l) c.in_ok-push.ensures.items ∙ length-append c.loop-levels.indexes.items (c.in_ok-of_level.field-0 ∷ []) ∙ ap (λ n. n + 1) c.loop-levels.invariant.count;
  each = indexes-more c.args.all.now c.args.level c.loop-levels.indexes.items c.push.new.self.items c.loop-levels.levels-index c.levels-item.result c.as_slice.result.now c.in_ok-of_level.field-0 c.loop-levels-test.true
      c.levels-item.is c.as_slice.ensures.value c.loop-levels.invariant.count c.in_ok-push.ensures.items c.in_ok-of_level.ensures c.loop-levels.invariant.each;
}
