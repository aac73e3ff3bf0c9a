-- How many nodes levels have, and how many ordered pairs of nodes of one level.
use Rattle.std.specs.Prelude.{ℕ, ◌+◌, ◌*◌, List, [], ◌∷◌, length}

abbrev pub node_count : List (List ℕ) → ℕ
node_count [] = 0
node_count (l ∷ levels) = length l + node_count levels

abbrev pub pair_count : List (List ℕ) → ℕ
pair_count [] = 0
pair_count (l ∷ levels) = length l * length l + pair_count levels
