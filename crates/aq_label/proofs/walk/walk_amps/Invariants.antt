use Rattle.std.proofs.Common.{◌≡◌, take}
use Rattle.aq_label.specs.Walks.{IsWalked}
use Rattle.aq_label.proofs.walk.walk_amps.Given as goal

-- the walk is over the pairs before
abbrev pub invariant-loop-i : goal.invariant-loop-i
invariant-loop-i l = record {
  walked : IsWalked (take l.i l.left) (take l.i l.right) l.walk;
  position : l.walk.position ≡ l.i;
}
