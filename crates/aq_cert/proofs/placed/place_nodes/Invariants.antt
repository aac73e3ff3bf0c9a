use Rattle.std.proofs.Common.{take}
use Rattle.std.specs.List.{AllZip}
use Rattle.aq_cert.specs.Placed.{IsFound}
use Rattle.aq_cert.proofs.placed.place_nodes.Given as goal

abbrev pub invariant-loop-node : goal.invariant-loop-node
invariant-loop-node l = AllZip (IsFound l.index) (take l.node-index l.nodes) l.places
