use Rattle.std.proofs.Common.{◌-◌, ◌*◌}
use Rattle.std.specs.List.{repeat}
use Rattle.aq_set_build.specs.Growth.{Grows}
use Rattle.aq_set_build.specs.Budgets.{weight}
use Rattle.aq_set_build.specs.Powers.{IsPower}
use Rattle.aq_set_build.proofs.powers.power.Given as goal

abbrev pub invariant-loop-done : goal.invariant-loop-done
invariant-loop-done l = record {
  made : IsPower l.done l.fn.store l.store l.base l.made;
  grows : Grows ((l.done - 1) * (2 * weight (repeat l.times l.base.shape.items))) l.fn.store l.store l.fn.steps l.steps;
}
