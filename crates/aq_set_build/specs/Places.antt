-- Words that lead from one expression into another.
use Rattle.std.specs.Prelude.{◌≡◌, ℕ, ◌+◌, ◌≤◌, List, length, slice_get, Some}
use Rattle.aq_sets.specs.Caps.{capped}
use Rattle.aq_sets.specs.Sizes.{size_of, place}
use Rattle.aq_sets.specs.declared.sets.Expr.{Expr}
use Rattle.aq_sets.specs.declared.sets.Expr.TheVariants as expr

-- the expression at position i is no union
pub record IsNoUnion (exprs : List Expr) (i : ℕ) : Type 0 where
  pub none : (left right : ℕ) → slice_get exprs i ≡ Some (expr.Union left right) → ⊥

-- A word of i leads to where a word of j leads, behind some vectors of i, whose number is told up to the limit. The
-- expression j is on as many qubits as i, and stands no later.
pub record Enters (exprs : List Expr) (i : ℕ) (word : List ℕ) (told j : ℕ) (rest : List ℕ) : Type 0 where
  pub earlier : j ≤ i
  pub level : (size_of exprs j).qubits ≡ (size_of exprs i).qubits
  pub long : length rest ≡ length word
  pub before : ℕ
  pub is_told : told ≡ capped before
  pub leads : place exprs i word ≡ before + place exprs j rest
