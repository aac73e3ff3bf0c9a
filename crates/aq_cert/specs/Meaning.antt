-- The vectors of automata, and when each of one has a match in others.
use Rattle.std.specs.Prelude.{◌≡◌, ◌⊎◌, ℕ, ◌<◌, List, [], ◌∷◌, slice_get, Some, flat_map}
use Rattle.aq_ring.specs.Fractions.{Amplitude}
use Rattle.aq_ring.specs.Vectors.{IsZeroVector, Proportional}
use Rattle.aq_store.specs.declared.node.Node.{Node}
use Rattle.aq_store.specs.declared.lsta.Lsta.{Lsta}
use Rattle.aq_store.specs.Nodes.{tree}
use Rattle.aq_store.specs.Words.{IsWord}

-- words of one length in the order of their choices
unfoldable pub IsBefore : List ℕ → List ℕ → Type 0
IsBefore [] v = ⊥
IsBefore (c ∷ w) [] = ⊥
IsBefore (c ∷ w) (d ∷ v) = (c < d) ⊎ ((c ≡ d) × IsBefore w v)

module _ {L : Type 0} (parts : L → List Amplitude) (table : List (Node L)) where
  -- the vector of a word at a node: the parts of its labels, in their order
  abbrev pub amplitudes : List ℕ → ℕ → List Amplitude
  amplitudes word id = flat_map parts (tree table word id)

  -- some goal has a word whose vector is proportional to this one
  pub record IsMatched (goals : List Lsta) (v : List Amplitude) : Type 0 where
    pub number : ℕ
    pub goal : Lsta
    pub listed : slice_get goals number ≡ Some goal
    pub word : List ℕ
    pub is_word : IsWord goal.shape.items word
    pub proportional : Proportional v (amplitudes word goal.root)

  -- each nonzero vector of the left has a match
  abbrev pub Included : Lsta → List Lsta → Type 0
  Included left goals = (word : List ℕ) → ¬ (IsZeroVector (amplitudes word left.root)) → IsMatched goals (amplitudes word left.root)

  -- the word's vector isn't zero and has no match
  pub record IsEscape (left : Lsta) (goals : List Lsta) (word : List ℕ) : Type 0 where
    pub nonzero : ¬ (IsZeroVector (amplitudes word left.root))
    pub unmatched : ¬ (IsMatched goals (amplitudes word left.root))

  -- it is the first such word
  pub record IsLeastEscape (left : Lsta) (goals : List Lsta) (word : List ℕ) : Type 0 where
    pub is_word : IsWord left.shape.items word
    pub escapes : IsEscape left goals word
    pub least : (earlier : List ℕ) → IsBefore earlier word → ¬ (IsEscape left goals earlier)
