-- Definitions over the expressions of a set file, each of which names earlier ones: what an expression has is told from what
-- those before it have.
use Rattle.std.specs.Prelude.{ℕ, List, [], ◌∷◌, ◌++◌, slice_index_or}
use Rattle.std.specs.List.{fold}
use Rattle.aq_sets.specs.declared.sets.Expr.{Expr}

-- what each expression has, in order
abbrev pub table : {A : Type 0} → (List A → Expr → A) → List Expr → List A
table step exprs = fold (λ done e. done ++ step done e ∷ []) [] exprs

-- what the expression at a position has, or the default where there is none
abbrev pub at_position : {A : Type 0} → A → List A → ℕ → A
at_position default done i = slice_index_or done i default
