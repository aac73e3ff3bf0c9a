use Rattle.std.proofs.Common.{◌≡◌, take}
use Rattle.std.specs.Prelude.{map}
use Rattle.aq_sets.specs.Sizes.{united_shape}
use Rattle.aq_sets.specs.Caps.{capped}
use Rattle.aq_sets.proofs.sizes.united.Given as goal

abbrev pub invariant-loop-i : goal.invariant-loop-i
invariant-loop-i l = l.shape ≡ map capped (take l.i (united_shape l.left l.right))
