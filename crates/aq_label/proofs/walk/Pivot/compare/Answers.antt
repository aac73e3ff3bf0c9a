use Rattle.std.proofs.Common.{◌≡◌, rules}
use Rattle.aq_ring.specs.Amplitudes.{amplitude_zero}
use Rattle.aq_label.proofs.RatioLemmas.{zeros-agree}
use Rattle.aq_label.proofs.walk.Pivot.compare.Goals as goal

pub returns-in-true-true : goal.returns-in-true-true
returns-in-true-true c =
    let left : c.args.left ≡ amplitude_zero = search rules in
    let right : c.args.right ≡ amplitude_zero = search rules in
    zeros-agree _ _ _ _ left right
