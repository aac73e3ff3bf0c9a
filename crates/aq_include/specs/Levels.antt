-- The goals at a level.
use Rattle.std.specs.Prelude.{◌≡◌, ℕ, ◌+◌, ◌<◌, List, ◌∷◌, length, get_or, slice_get, Some}
use Rattle.aq_store.specs.declared.lsta.Lsta.{Lsta}
use Rattle.aq_cert.specs.Goals.{goal_rest}

-- what a goal has at a level
pub record HasLevel (goals : List Lsta) (level g : ℕ) : Type 0 where
  pub goal : Lsta
  pub listed : slice_get goals g ≡ Some goal
  pub within : level < length goal.shape.items
  pub shape : goal_rest goals level g ≡ get_or goal.shape.items level 0 ∷ goal_rest goals (level + 1) g
