use Rattle.std.proofs.Common.{◌≡◌, map, drop}
use Rattle.aq_prog.specs.Table.{gate_among, seen}
use Rattle.aq_prog.proofs.table.find.Given as goal

abbrev pub invariant-loop-named : goal.invariant-loop-named
invariant-loop-named l = gate_among (map seen (drop l.named-index l.table)) l.name ≡ gate_among (map seen l.table) l.name
