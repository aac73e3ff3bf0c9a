-- Sizes that are told up to a limit.
use Rattle.std.specs.Prelude.{ℕ, ◌^◌, min, List, map}
use Rattle.aq_sets.specs.Tables.{table}
use Rattle.aq_sets.specs.Sizes.{Size, size_step}
use Rattle.aq_sets.specs.declared.sets.Expr.{Expr}
use Rattle.aq_sets.specs.declared.sizes.Size as told

-- the largest number that is told
abbrev pub most_told : ℕ
most_told = 2 ^ 64

-- the number, or the largest where it is above
abbrev pub capped : ℕ → ℕ
capped n = min n most_told

-- a size with each of its numbers capped but the qubits, which are few
abbrev pub capped_size : Size → told.Size
capped_size s = record { qubits = s.qubits; count = capped s.count; shape = map capped s.shape; nodes = capped s.nodes }

-- the size of each expression, in order
unfoldable pub capped_sizes : List Expr → List told.Size
capped_sizes exprs = map capped_size (table size_step exprs)
