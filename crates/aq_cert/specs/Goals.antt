-- Goals by their numbers.
use Rattle.std.specs.Prelude.{◌≡◌, ℕ, List, [], length, drop, slice_get, Option, None, Some}
use Rattle.aq_store.specs.declared.node.Node.{Node}
use Rattle.aq_store.specs.declared.lsta.Lsta.{Lsta}
use Rattle.aq_store.specs.Nodes.{FitsStore}
use Rattle.aq_store.specs.Levels.{levels_of}

-- what is left of a shape at a level
abbrev pub rest_of : Option Lsta → ℕ → List ℕ
rest_of None k = []
rest_of (Some goal) k = drop k goal.shape.items

-- what is left of a goal's shape at a level: the numbers of choices from there on
abbrev pub goal_rest : List Lsta → ℕ → ℕ → List ℕ
goal_rest goals k g = rest_of (slice_get goals g) k

module _ {L : Type 0} (table : List (Node L)) where
  -- the levels of an automaton that may be there
  abbrev pub levels_in : Option Lsta → List (List ℕ)
  levels_in None = []
  levels_in (Some lsta) = levels_of table lsta

  -- the levels of a goal
  abbrev pub goal_levels : List Lsta → ℕ → List (List ℕ)
  goal_levels goals g = levels_in (slice_get goals g)

  -- all fit the table, and have as many levels
  pub record FitTogether (left : Lsta) (goals : List Lsta) : Type 0 where
    pub left_fits : FitsStore table left
    pub goals_fit : (g : ℕ) (goal : Lsta) → slice_get goals g ≡ Some goal → FitsStore table goal
    pub one_length : (g : ℕ) (goal : Lsta) → slice_get goals g ≡ Some goal → length goal.shape.items ≡ length left.shape.items
