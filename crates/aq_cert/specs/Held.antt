-- What a macro says of the rest of a word.
use Rattle.std.specs.Prelude.{◌≡◌, ◌⊎◌, ℕ, List, slice_get, Some}
use Rattle.aq_ring.specs.Fractions.{Amplitude}
use Rattle.aq_store.specs.declared.node.Node.{Node}
use Rattle.aq_store.specs.Words.{IsWord}
use Rattle.aq_cert.specs.declared.cert.Rel.{Rel}
use Rattle.aq_cert.specs.declared.cert.Macro.{Macro}
use Rattle.aq_cert.specs.Macros.{IsZeroOn, IsRelated}

module _ {L : Type 0} (parts : L → List Amplitude) (table : List (Node L)) where
  -- some relation relates the vectors of the word to those of a word of its goal
  pub record IsHeldBy (rest : ℕ → List ℕ) (m : Macro) (word : List ℕ) : Type 0 where
    pub number : ℕ
    pub rel : Rel
    pub here : slice_get m.rels number ≡ Some rel
    pub other : List ℕ
    pub is_word : IsWord (rest rel.goal) other
    pub related : IsRelated parts table rel.pairs word other

  -- the word's vectors are all zero, or have a match
  abbrev pub IsHeld : (ℕ → List ℕ) → Macro → List ℕ → Type 0
  IsHeld rest m word = IsZeroOn parts table m.domain word ⊎ IsHeldBy rest m word
