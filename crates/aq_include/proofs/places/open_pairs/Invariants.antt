use Rattle.std.proofs.Common.{take}
use Rattle.std.specs.List.{AllZip}
use Rattle.aq_include.specs.Steps.{IsOpened}
use Rattle.aq_include.proofs.places.open_pairs.Given as goal

abbrev pub invariant-loop-left : goal.invariant-loop-left
invariant-loop-left g l = AllZip (IsOpened l.store l.choice) (take l.left-index l.pairs) l.list.items
