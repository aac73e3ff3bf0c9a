use Rattle.std.proofs.Common.{take}
use Rattle.aq_sets.specs.declared.sets.Sets.{Sets}
use Rattle.aq_set_build.specs.Tensors.{Table}
use Rattle.aq_decide.specs.Goals.{AreBuilt, met_cases}
use Rattle.aq_decide.proofs.goals.goals_in.Given as goal

-- the automata of those of the cases so far
abbrev pub invariant-loop-index : goal.invariant-loop-index
invariant-loop-index l = (s : Sets) (table : Table) → AreBuilt s l.cases table l.goals → AreBuilt s (met_cases (take l.index l.cases) l.bits) table l.list.items
