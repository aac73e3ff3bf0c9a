use Rattle.std.proofs.Common.{◌≡◌, rules}
use Rattle.aq_ring.specs.Amplitudes.{amplitude_zero}
use Rattle.aq_plain.proofs.SmallLaws.{zero_is_small}
use Rattle.aq_plain.proofs.small.is_small.Goals as goal

pub returns-then-is_zero : goal.returns-then-is_zero
returns-then-is_zero c = let z : c.args.amp ≡ amplitude_zero = search rules in zero_is_small c.args.amp z
