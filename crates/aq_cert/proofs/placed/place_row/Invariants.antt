use Rattle.std.proofs.Common.{take}
use Rattle.std.specs.List.{AllZip}
use Rattle.aq_cert.specs.Placed.{IsMacroFound}
use Rattle.aq_cert.proofs.placed.place_row.Given as goal

abbrev pub invariant-loop-here : goal.invariant-loop-here
invariant-loop-here l = AllZip (IsMacroFound l.left l.goals) (take l.here-index l.row) l.list
