use Rattle.std.proofs.Common.{◌^◌, ◌*◌, ◌≤◌, take}
use Rattle.aq_label.specs.Ratios.{lefts, rights}
use Rattle.aq_label.specs.Walks.{IsWalked}
use Rattle.aq_label.proofs.walk.walk_all.Given as goal

abbrev pub invariant-loop-left : goal.invariant-loop-left
invariant-loop-left g l = record {
  walked : IsWalked (lefts g.L.Label.parts (take l.left-index l.pairs)) (rights g.L.Label.parts (take l.left-index l.pairs)) l.walk;
  position : l.walk.position ≤ 2 ^ 32 * l.left-index;
}
