use Rattle.std.proofs.Common.{drop}
use Rattle.aq_symbolic.specs.Steps.{Keeps}
use Rattle.aq_symbolic.proofs.LeadLemmas.{LeadsOn}
use Rattle.aq_symbolic.proofs.spread.play.Given as goal

-- what the statements that are left come to from the worlds of now, all come to
abbrev pub invariant-loop-stmt : goal.invariant-loop-stmt
invariant-loop-stmt g l = record {
  keeps : Keeps l.fn.store l.store l.fn.steps l.steps;
  leads : LeadsOn g.L.Label.parts g.L.Label.part_count l.body l.fn.store l.fn.steps l.fn.worlds.items (drop l.stmt-index l.body) l.store l.steps l.left.items;
}
