-- Automata by what their words give.
use Rattle.std.specs.Prelude.{◌≡◌, ℕ, List}
use Rattle.aq_store.specs.declared.lsta.Lsta.{Lsta}
use Rattle.aq_store.specs.Nodes.{FitsStore, vector_of}
use Rattle.aq_store.specs.Means.{Means}
use Rattle.aq_store.specs.Words.{IsWord}
use Rattle.aq_sets.specs.Vectors.{Vector}
use Rattle.aq_set_build.specs.Tensors.{Table}

-- the place has the shape, and of each word of it the vector that f tells
abbrev pub Gives : (List ℕ → Vector) → Table → List ℕ → ℕ → Type 0
Gives f table shape id = Means (λ word v. IsWord shape word → v ≡ f word) table shape id

-- the automaton has the shape, and of each word of it the vector that f tells
pub record IsFamily (f : List ℕ → Vector) (table : Table) (levels : List ℕ) (made : Lsta) : Type 0 where
  pub shape : made.shape.items ≡ levels
  pub fits_store : FitsStore table made
  pub words : (word : List ℕ) → IsWord levels word → vector_of table made word ≡ f word
