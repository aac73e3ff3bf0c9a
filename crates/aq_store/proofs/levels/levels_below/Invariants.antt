use Rattle.std.proofs.Common.{◌≡◌, [], ◌∷◌, ◌++◌, drop}
use Rattle.aq_store.specs.Nodes.{HasShape}
use Rattle.aq_store.specs.Levels.{levels_from, lists_of}
use Rattle.aq_store.proofs.LevelLemmas.{Each}
use Rattle.aq_store.proofs.levels.levels_below.Given as goal

-- the levels that are done, and those from this one on, are all
abbrev pub invariant-loop-choices : goal.invariant-loop-choices
invariant-loop-choices g l = record {
  shaped : Each (HasShape l.store (drop l._choices-index l.shape)) l.level.items;
  done : lists_of l.levels.items ++ levels_from l.store (drop l._choices-index l.shape) l.level.items ≡ levels_from l.store l.shape (l.fn.root ∷ []);
}
