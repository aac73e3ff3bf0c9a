-- Automata of tensor products.
use Rattle.std.specs.Prelude.{◌≡◌, ℕ, List, ◌++◌, length, take, drop, Option, Some}
use Rattle.std.specs.List.{Contains}
use Rattle.aq_ring.specs.Fractions.{Amplitude}
use Rattle.aq_ring.specs.Amplitudes.{FitsAmplitudeProduct}
use Rattle.aq_store.specs.declared.node.Node.{Node}
use Rattle.aq_store.specs.declared.lsta.Lsta.{Lsta}
use Rattle.aq_store.specs.Nodes.{tree, HasShape, FitsStore, vector_of}
use Rattle.aq_store.specs.Means.{Means, of_place}
use Rattle.aq_sets.specs.Vectors.{pairs}
use Rattle.aq_set_build.specs.Products.{IsScaled, IsTensorOf, IsWideAmong}

abbrev pub Table : Type 0
Table = List (Node Amplitude)

-- each entry of a memo is its place, with each amplitude multiplied by the factor
pub record IsScaleMemo (factor : Amplitude) (table : Table) (at : ℕ → Option ℕ) : Type 0 where
  pub each : (i j : ℕ) → at i ≡ Some j → (shape : List ℕ) × HasShape table shape i × Means (of_place (IsScaled factor) table i) table shape j

-- the product of the factor and an entry of a vector of the place doesn't fit
pub record IsScaleCause (factor : Amplitude) (table : Table) (id : ℕ) (l r : Amplitude) : Type 0 where
  pub word : List ℕ
  pub left : l ≡ factor
  pub member : Contains (tree table word id) r
  pub wide : FitsAmplitudeProduct l r → ⊥

-- A word of a place of this shape and of an automaton that hangs below it gives the tensor product of the vectors of its two
-- parts.
abbrev pub IsHung : Table → Lsta → List ℕ → ℕ → List ℕ → List Amplitude → Type 0
IsHung table below shape id word v = IsTensorOf (tree table (take (length shape) word) id) (vector_of table below (drop (length shape) word)) v

-- each entry of a memo is its place, with the automaton hung below it
pub record IsHangMemo (table : Table) (below : Lsta) (at : ℕ → Option ℕ) : Type 0 where
  pub each : (i j : ℕ) → at i ≡ Some j → (shape : List ℕ) × HasShape table shape i × Means (IsHung table below shape i) table (shape ++ below.shape.items) j

-- the product of an entry of a vector of the place and one of the automaton below doesn't fit
pub record IsHangCause (table : Table) (below : Lsta) (id : ℕ) (l r : Amplitude) : Type 0 where
  pub first : List ℕ
  pub second : List ℕ
  pub among : IsWideAmong (pairs (tree table first id) (vector_of table below second)) l r

-- made has the levels of the left automaton and then those of the right one; of each word it has the tensor product of the
-- vectors of the word's two parts, and all products fit
pub record IsTensor (old new : Table) (left right made : Lsta) : Type 0 where
  pub shape : made.shape.items ≡ left.shape.items ++ right.shape.items
  pub fits_store : FitsStore new made
  pub words : (word : List ℕ) → IsTensorOf (vector_of old left (take (length left.shape.items) word)) (vector_of old right (drop (length left.shape.items) word)) (vector_of new made word)

-- the product of an entry of a vector of the left automaton and one of the right doesn't fit
abbrev pub IsTensorCause : Table → Lsta → Lsta → Amplitude → Amplitude → Type 0
IsTensorCause table left right = IsHangCause table right left.root
