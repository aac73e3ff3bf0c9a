use Rattle.std.proofs.Common.{take}
use Rattle.aq_set_build.specs.Built.{built_at, IsBuildMemo}
use Rattle.aq_set_build.specs.Growth.{Grows}
use Rattle.aq_decide.specs.Budgets.{build_all}
use Rattle.aq_decide.specs.Goals.{AreMade}
use Rattle.aq_decide.proofs.building.automata.Given as goal

-- the automata of the cases so far, and the memo that they share
abbrev pub invariant-loop-case : goal.invariant-loop-case
invariant-loop-case l = record {
  made : AreMade l.sets (take l.case-index l.cases) l.store l.list.items;
  memo : IsBuildMemo l.sets.exprs l.store (built_at l.memo);
  grows : Grows (build_all l.sets (take l.case-index l.cases)) l.fn.store l.store l.fn.steps l.steps;
}
