-- Expressions that are well put together, of one to sixteen qubits each.
use Rattle.std.specs.Prelude.{◌≡◌, ℕ, ◌^◌, ◌<◌, ◌≤◌, List, length, slice_get, Some}
use Rattle.aq_base.specs.Limits.{most_qubits}
use Rattle.aq_sets.specs.Sizes.{size_of}
use Rattle.aq_sets.specs.Valid.{IsValidExpr}
use Rattle.aq_sets.specs.declared.sets.Expr.{Expr}

pub record AreValidExprs (exprs : List Expr) : Type 0 where
  pub each : (i : ℕ) (e : Expr) → slice_get exprs i ≡ Some e → IsValidExpr exprs i e
  pub qubits : (i : ℕ) → i < length exprs → (0 < (size_of exprs i).qubits) × ((size_of exprs i).qubits ≤ most_qubits)
  pub short : length exprs < 2 ^ 32
