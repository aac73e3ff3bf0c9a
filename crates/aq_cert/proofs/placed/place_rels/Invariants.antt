use Rattle.std.proofs.Common.{take}
use Rattle.std.specs.List.{AllZip}
use Rattle.aq_cert.specs.Placed.{IsRelFound}
use Rattle.aq_cert.proofs.placed.place_rels.Given as goal

abbrev pub invariant-loop-rel : goal.invariant-loop-rel
invariant-loop-rel l = AllZip (IsRelFound l.left l.goals) (take l.rel-index l.rels) l.list
