use Rattle.std.proofs.Common.{◌≡◌, take}
use Rattle.aq_sets.specs.Sizes.{words}
use Rattle.aq_sets.specs.Caps.{capped}
use Rattle.aq_sets.proofs.sizes.words_of.Given as goal

abbrev pub invariant-loop-number : goal.invariant-loop-number
invariant-loop-number l = l.product ≡ capped (words (take l.number-index l.shape))
