-- Automata of lists of vectors, and of expressions.
use Rattle.std.specs.Prelude.{◌≡◌, ℕ, List, slice_get, Some}
use Rattle.aq_store.specs.declared.lsta.Lsta.{Lsta}
use Rattle.aq_store.specs.Nodes.{FitsStore, vector_of}
use Rattle.aq_store.specs.Words.{IsWord}
use Rattle.aq_sets.specs.Vectors.{Vector, vectors_of, products_of}
use Rattle.aq_sets.specs.Sizes.{size_of, Placing, place}
use Rattle.aq_sets.specs.declared.sets.Expr.{Expr}
use Rattle.aq_set_build.specs.Products.{AllFit}
use Rattle.aq_set_build.specs.Tensors.{Table}

-- the automaton has these levels, and of each word of them the vector to which it leads in the list
pub record Lists (vs : List Vector) (leads : Placing) (levels : List ℕ) (table : Table) (made : Lsta) : Type 0 where
  pub shape : made.shape.items ≡ levels
  pub fits_store : FitsStore table made
  pub words : (word : List ℕ) → IsWord levels word → slice_get vs (leads word) ≡ Some (vector_of table made word)

-- the automaton of the expression at a position: of each word of the expression's shape it has the vector at the word's place
abbrev pub IsBuilt : List Expr → ℕ → Table → Lsta → Type 0
IsBuilt exprs i table made = Lists (vectors_of exprs i) (place exprs i) (size_of exprs i).shape table made

-- the same, and each product of a tensor or a power in the expression fits
pub record IsMade (exprs : List Expr) (i : ℕ) (table : Table) (made : Lsta) : Type 0 where
  pub built : IsBuilt exprs i table made
  pub fits : AllFit (products_of exprs i)
