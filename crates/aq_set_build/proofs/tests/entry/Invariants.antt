use Rattle.std.proofs.Common.{drop}
use Rattle.aq_store.specs.Nodes.{HasShape}
use Rattle.aq_set_build.proofs.tests.entry.Given as goal

abbrev pub invariant-loop-level : goal.invariant-loop-level
invariant-loop-level l = HasShape l.store (drop l.level l.lsta.shape.items) l.id
