use Rattle.std.proofs.Common.{◌≡◌, ◌^◌, ◌<◌, take}
use Rattle.aq_set_read.specs.Meaning.{binary}
use Rattle.aq_set_read.proofs.kets.binary.Given as goal

abbrev pub invariant-loop-digit : goal.invariant-loop-digit
invariant-loop-digit l = (l.number ≡ binary (take l.digit-index l.digits)) × (l.number < 2 ^ l.digit-index)
