-- Bounds on steps.
use Rattle.std.specs.Prelude.{ℕ, ◌+◌, List, [], ◌∷◌}

-- the choices of all levels together
unfoldable pub total : List ℕ → ℕ
total [] = 0
total (n ∷ shape) = n + total shape
