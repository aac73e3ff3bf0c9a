use Rattle.std.proofs.Common.{◌≡◌, take}
use Rattle.aq_sets.specs.Sizes.{number_of}
use Rattle.aq_sets.specs.Caps.{capped}
use Rattle.aq_set_build.proofs.places.number.Given as goal

abbrev pub invariant-loop-digit : goal.invariant-loop-digit
invariant-loop-digit l = l.number ≡ capped (number_of (take l.digit-index l.word))
