-- Automata with more choices: a choice past the old ones means the last old one.
use Rattle.std.specs.Prelude.{◌≡◌, ℕ, ◌-◌, List, ◌++◌, length, drop, Option, Some}
use Rattle.aq_store.specs.declared.node.Node.{Node}
use Rattle.aq_store.specs.declared.lsta.Lsta.{Lsta}
use Rattle.aq_store.specs.Nodes.{tree, HasShape, FitsStore, vector_of}
use Rattle.aq_store.specs.Means.{Means, MeanPairs}
use Rattle.aq_store.specs.Words.{IsWord, shortened}

module _ {L : Type 0} where
  -- for the words of the new shape, the labels are the place's of the shortened word
  abbrev pub Padded : List (Node L) → List ℕ → List ℕ → ℕ → List ℕ → List L → Type 0
  Padded table from to i word v = IsWord to word → v ≡ tree table (shortened from word) i

  -- the same for a pair of places
  abbrev pub PaddedPair : List (Node L) → List ℕ → List ℕ → ℕ × ℕ → List ℕ → List L → Type 0
  PaddedPair table from to p word v = IsWord to word → v ≡ tree table (shortened from word) p.0 ++ tree table (shortened from word) p.1

  -- pairs are appended, and they mean what R leaves under their choices
  pub record Appends (R : List ℕ → List L → Type 0) (table : List (Node L)) (shape : List ℕ) (count : ℕ) (old new : List (ℕ × ℕ)) : Type 0 where
    pub added : List (ℕ × ℕ)
    pub is : new ≡ old ++ added
    pub long : length added ≡ count
    pub mean : MeanPairs R table shape added

  -- each entry of a memo is its place, padded to the last numbers of the new shape
  pub record IsPadMemo (table : List (Node L)) (to : List ℕ) (at : ℕ → Option ℕ) : Type 0 where
    pub each : (i j : ℕ) → at i ≡ Some j
        → (from : List ℕ) × HasShape table from i × Means (Padded table from (drop (length to - length from) to) i) table (drop (length to - length from) to) j

  -- made has the new shape, and of each of its words the vector of the shortened word
  pub record IsPadded (old new : List (Node L)) (lsta : Lsta) (wide : List ℕ) (made : Lsta) : Type 0 where
    pub shape : made.shape.items ≡ wide
    pub fits : FitsStore new made
    pub words : (word : List ℕ) → IsWord wide word → vector_of new made word ≡ vector_of old lsta (shortened lsta.shape.items word)
