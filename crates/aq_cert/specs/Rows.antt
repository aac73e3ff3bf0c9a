-- Lists of rows.
use Rattle.std.specs.Prelude.{ℕ, List, [], length, slice_get, Option, None, Some}

-- the item of a row
abbrev pub item_of : {X : Type 0} → Option (List X) → ℕ → Option X
item_of None i = None
item_of (Some xs) i = slice_get xs i

-- the item at a place of a row
abbrev pub item_at : {X : Type 0} → List (List X) → ℕ → ℕ → Option X
item_at rows k i = item_of (slice_get rows k) i

-- the list that may be there, else none
abbrev pub list_of : {X : Type 0} → Option (List X) → List X
list_of None = []
list_of (Some xs) = xs

-- a row, without items where there is none
abbrev pub row_at : {X : Type 0} → List (List X) → ℕ → List X
row_at rows k = list_of (slice_get rows k)

-- how many items a row has that may be there
abbrev pub row_of : {X : Type 0} → Option (List X) → ℕ
row_of None = 0
row_of (Some xs) = length xs

-- how many items a row has
abbrev pub row_length : {X : Type 0} → List (List X) → ℕ → ℕ
row_length rows k = row_of (slice_get rows k)
