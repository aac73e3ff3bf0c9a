-- The first word that a macro doesn't hold.
use Rattle.std.specs.Prelude.{◌≡◌, ℕ, List, slice_get, Some, Contains}
use Rattle.aq_ring.specs.Fractions.{Amplitude}
use Rattle.aq_ring.specs.Amplitudes.{FitsAmplitudeProduct}
use Rattle.aq_store.specs.declared.node.Node.{Node}
use Rattle.aq_store.specs.declared.lsta.Lsta.{Lsta}
use Rattle.aq_cert.specs.declared.cert.Rel.{Rel}
use Rattle.aq_cert.specs.declared.cert.Macro.{Macro}
use Rattle.aq_store.specs.Words.{IsWord}
use Rattle.aq_cert.specs.Meaning.{IsBefore, amplitudes}
use Rattle.aq_include.specs.Good.{IsRoot}
use Rattle.aq_cert.specs.Held.{IsHeld}

module _ {L : Type 0} (parts : L → List Amplitude) (table : List (Node L)) where
  -- the word is the first that the macro doesn't hold
  pub record IsLeast (shape : List ℕ) (rest : ℕ → List ℕ) (m : Macro) (word : List ℕ) : Type 0 where
    pub is_word : IsWord shape word
    pub escapes : ¬ (IsHeld parts table rest m word)
    pub least : (earlier : List ℕ) → IsBefore earlier word → IsHeld parts table rest m earlier

  -- a product of an entry of a left vector and one of a vector of a relation's goal, for words of one length, doesn't fit
  pub record IsWideAt (m : Macro) (l r : Amplitude) : Type 0 where
    pub number : ℕ
    pub rel : Rel
    pub here : slice_get m.rels number ≡ Some rel
    pub word : List ℕ
    pub other : List ℕ
    pub left_pair : ℕ × ℕ
    pub right_pair : ℕ × ℕ
    pub left_listed : Contains rel.pairs left_pair
    pub right_listed : Contains rel.pairs right_pair
    pub left : Contains (amplitudes parts table word left_pair.0) l
    pub right : Contains (amplitudes parts table other right_pair.1) r
    pub unfit : ¬ (FitsAmplitudeProduct l r)

-- the relations are those of the roots, one for each goal
pub record IsWholeRoot (left : Lsta) (goals : List Lsta) (m : Macro) : Type 0 where
  pub is_root : IsRoot left goals m
  pub only : (x : ℕ) → Contains m.domain x → x ≡ left.root
  pub each : (g : ℕ) (goal : Lsta) → slice_get goals g ≡ Some goal
      → (k : ℕ) × (rel : Rel) × (slice_get m.rels k ≡ Some rel) × (rel.goal ≡ g)
  pub only_roots : (k : ℕ) (rel : Rel) (p : ℕ × ℕ) → slice_get m.rels k ≡ Some rel → Contains rel.pairs p
      → (goal : Lsta) × (slice_get goals rel.goal ≡ Some goal) × (p ≡ (left.root, goal.root))
