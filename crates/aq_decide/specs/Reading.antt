-- Words that lead from a place of a table down to leaves.
use Rattle.std.specs.Prelude.{ℕ, List}
use Rattle.aq_store.specs.Nodes.{HasShape}
use Rattle.aq_store.specs.Words.{IsWord}
use Rattle.aq_set_build.specs.Tensors.{Table}

-- the place has a shape of which the list is a word
pub record Reads (table : Table) (word : List ℕ) (id : ℕ) : Type 0 where
  pub shape : List ℕ
  pub shaped : HasShape table shape id
  pub is_word : IsWord shape word
