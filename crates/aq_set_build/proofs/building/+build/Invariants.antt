use Rattle.std.proofs.Common.{◌+◌, ◌*◌, take}
use Rattle.aq_set_build.specs.Budgets.{parts_budget}
use Rattle.aq_set_build.specs.Built.{built_at, IsBuildMemo}
use Rattle.aq_set_build.specs.Growth.{Grows}
use Rattle.aq_set_build.specs.Unions.{AreMade}
use Rattle.aq_set_build.proofs.building.+build.Given as goal

abbrev pub decreases-build_at : goal.decreases-build_at
decreases-build_at l = 4 * l.expr + 3

abbrev pub decreases-build_new : goal.decreases-build_new
decreases-build_new l = 4 * l.expr + 2

abbrev pub decreases-build_tensor : goal.decreases-build_tensor
decreases-build_tensor l = 4 * l.expr + 1

abbrev pub decreases-build_power : goal.decreases-build_power
decreases-build_power l = 4 * l.expr + 1

abbrev pub decreases-build_union : goal.decreases-build_union
decreases-build_union l = 4 * l.expr + 1

abbrev pub decreases-build_parts : goal.decreases-build_parts
decreases-build_parts l = 4 * l.expr

-- the automata of the first parts are made
abbrev pub invariant-build_parts-loop-part : goal.invariant-build_parts-loop-part
invariant-build_parts-loop-part l = record {
  made : AreMade l.exprs l.store (take l.part-index l.parts) l.list.items;
  memo : IsBuildMemo l.exprs l.store (built_at l.memo);
  grows : Grows (parts_budget l.exprs l.expr (take l.part-index l.parts)) l.fn.store l.store l.fn.steps l.steps;
}
