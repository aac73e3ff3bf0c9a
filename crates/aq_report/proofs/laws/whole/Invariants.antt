use Rattle.std.proofs.Common.{ℕ, ◌<◌, get_or}
use Rattle.aq_ring.specs.Fractions.{Amplitude}
use Rattle.aq_report.specs.Shown.{IsSmall}
use Rattle.aq_report.proofs.laws.whole.Given as goal

-- each entry before this one is small
abbrev pub invariant-loop-amp : goal.invariant-loop-amp
invariant-loop-amp l = (k : ℕ) (d : Amplitude) → k < l.amp-index → IsSmall (get_or l.vector.amps k d)
