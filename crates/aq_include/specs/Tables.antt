-- Rows of items that grow at their ends.
use Rattle.std.specs.Prelude.{◌≡◌, ◌≢◌, ◌⊎◌, ℕ, ◌+◌, List, length, slice_get, Some}
use Rattle.aq_cert.specs.Rows.{item_at, row_length}

-- each item of the old rows is at its place in the new ones
pub record RowsExtend {X : Type 0} (old new : List (List X)) : Type 0 where
  pub keeps : (k i : ℕ) (x : X) → item_at old k i ≡ Some x → item_at new k i ≡ Some x

-- the item is the last of the row, and all others are as before
pub record IsPushed {X : Type 0} (k : ℕ) (x : X) (i : ℕ) (old new : List (List X)) : Type 0 where
  pub place : i ≡ row_length old k
  pub here : item_at new k i ≡ Some x
  pub keeps : RowsExtend old new
  pub only : (l j : ℕ) (y : X) → item_at new l j ≡ Some y → (item_at old l j ≡ Some y) ⊎ ((l ≡ k) × (j ≡ i) × (y ≡ x))
  pub longer : row_length new k ≡ i + 1
  pub others : (l : ℕ) → l ≢ k → slice_get new l ≡ slice_get old l
  pub rows : length new ≡ length old
