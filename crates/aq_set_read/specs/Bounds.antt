-- How many expressions there can be.
use Rattle.std.specs.Prelude.{ℕ, ◌≤◌, List, length}
use Rattle.aq_base.specs.Limits.{most_nodes}
use Rattle.aq_sets.specs.declared.sets.Expr.{Expr}

-- each expression is a node, and the nodes are within their limit
pub record IsWithin (exprs : List Expr) (nodes : ℕ) : Type 0 where
  pub few : nodes ≤ most_nodes
  pub counted : length exprs ≤ nodes
