use Rattle.std.proofs.Common.{◌≡◌, ℕ, ◌+◌, ◌<◌, ◌≤◌, ◌++◌, ◌∷◌, [], length, arith, ap₂, sym, ◌∙◌}
use Rattle.aq_measure_ops.proofs.UnitedLemmas.{united_push}
use Rattle.aq_measure_ops.proofs.joining.united.Goals as goal

pub loop-level-preserved : goal.loop-level-preserved
loop-level-preserved g c =
    c.in-Ok-push-2.ensures.items ∙ ap₂ (λ l n. l ++ n ∷ []) c.loop-level.invariant c.max-number.ensures
    ∙ sym (united_push c.args.left.now c.args.right.now c.loop-level.level (c.requires.same (omega (arith, c.loop-level-test.true))) c.loop-level.auto.level c.loop-level-test.true)
