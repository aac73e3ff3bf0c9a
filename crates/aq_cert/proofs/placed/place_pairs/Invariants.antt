use Rattle.std.proofs.Common.{take}
use Rattle.std.specs.List.{AllZip}
use Rattle.aq_cert.specs.Placed.{IsPairFound}
use Rattle.aq_cert.proofs.placed.place_pairs.Given as goal

abbrev pub invariant-loop-first : goal.invariant-loop-first
invariant-loop-first l = AllZip (IsPairFound l.left l.right) (take l.first-index l.nodes) l.places
