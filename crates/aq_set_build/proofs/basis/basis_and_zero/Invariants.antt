use Rattle.std.proofs.Common.{◌+◌, ◌*◌}
use Rattle.aq_set_build.specs.Growth.{Grows}
use Rattle.aq_set_build.specs.Bases.{IsBasis, IsNothing}
use Rattle.aq_set_build.proofs.basis.basis_and_zero.Given as goal

abbrev pub invariant-loop-level : goal.invariant-loop-level
invariant-loop-level l = record {
  basis : IsBasis l.level l.store l.basis;
  zero : IsNothing l.level l.store l.zero;
  grows : Grows (2 + 4 * l.level) l.fn.store l.store l.fn.steps l.steps;
}
