use Rattle.std.proofs.Common.{◌≡◌, rules}
use Rattle.aq_ring.specs.Amplitudes.{amplitude_zero}
use Rattle.aq_plain.proofs.SmallLaws.{zero_is_near}
use Rattle.aq_plain.proofs.near.is_near.Goals as goal

pub returns-then-is_zero : goal.returns-then-is_zero
returns-then-is_zero c = let z : c.args.amp ≡ amplitude_zero = search rules in zero_is_near c.args.low c.args.amp z
