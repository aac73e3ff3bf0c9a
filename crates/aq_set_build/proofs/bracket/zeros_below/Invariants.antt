use Rattle.std.proofs.Common.{◌≡◌, length}
use Rattle.aq_set_build.specs.Growth.{Grows}
use Rattle.aq_set_build.specs.Brackets.{AreZeros}
use Rattle.aq_set_build.proofs.bracket.zeros_below.Given as goal

abbrev pub invariant-loop-level : goal.invariant-loop-level
invariant-loop-level l = record {
  zeros : AreZeros l.store l.zeros.items;
  long : length l.zeros.items ≡ l.level;
  grows : Grows l.level l.fn.store l.store l.fn.steps l.steps;
}
