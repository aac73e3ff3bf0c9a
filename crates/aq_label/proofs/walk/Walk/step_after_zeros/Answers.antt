use Rattle.std.proofs.Common.{◌≡◌, ◌≢◌, refl, rules}
use Rattle.aq_ring.specs.Amplitudes.{amplitude_zero}
use Rattle.aq_label.proofs.WalkLemmas.{step_first}
use Rattle.aq_label.proofs.walk.Walk.step_after_zeros.Goals as goal
use Rattle.aq_label.proofs.walk.Walk.step_after_zeros.Goals.{else-is_zero-via-then-is_zero+else-is_zero-2, else-is_zero-via-else-is_zero}

pub returns-clause-walked : goal.returns-clause-walked
returns-clause-walked c =
    let nonzero : c.args.left ≡ amplitude_zero → c.args.right ≢ amplitude_zero =
    elim c.else-is_zero.branch [ else-is_zero-via-then-is_zero+else-is_zero-2 w ↦ search rules | else-is_zero-via-else-is_zero w ↦ search rules ] in
    λ u v h. step_first u v _ c.args.self c.args.left c.args.right c.step_from.result h c.requires.zeros nonzero refl refl refl c.step_from.ensures.step
