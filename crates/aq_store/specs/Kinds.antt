-- Of which nodes each vector is zero, of which none is, and what a store knows of that.
use Rattle.std.specs.Prelude.{◌≡◌, ◌≢◌, ◌<◌, ◌⊎◌, ℕ, List, length, slice_get, Some, flat_map}
use Rattle.aq_ring.specs.Fractions.{Amplitude}
use Rattle.aq_ring.specs.Vectors.{IsZeroVector}
use Rattle.aq_store.specs.Nodes.{EachPair, HasShape, IsWellFormed, tree}
use Rattle.aq_store.specs.Words.{IsWord}
use Rattle.aq_store.specs.declared.node.Node.{Node}
use Rattle.aq_store.specs.declared.node.Node.TheVariants.{Leaf, Inner}
use Rattle.aq_store.specs.declared.kind.Kind.{Kind}
use Rattle.aq_store.specs.declared.kind.Kind.TheVariants.{AlwaysZero, NeverZero, Unknown}

module _ {L : Type 0} (parts : L → List Amplitude) (table : List (Node L)) where
  -- the vector of a word at a node is zero: each part of each of its labels is
  abbrev pub IsZeroAt : List ℕ → ℕ → Type 0
  IsZeroAt word id = IsZeroVector (flat_map parts (tree table word id))

  -- each vector of the node is zero
  pub record IsNull (id : ℕ) : Type 0 where
    pub zero : (word : List ℕ) → IsZeroAt word id

  -- no vector of the node is zero, for a word of its shape
  pub record IsNeverZero (id : ℕ) : Type 0 where
    pub some : (shape word : List ℕ) → HasShape table shape id → IsWord shape word → ¬ (IsZeroAt word id)

  -- the vector of some word of the shape isn't zero
  pub record HasState (shape : List ℕ) (id : ℕ) : Type 0 where
    pub word : List ℕ
    pub is_word : IsWord shape word
    pub nonzero : ¬ (IsZeroAt word id)

  -- the node has a vector that isn't zero
  pub record IsSomewhere (id : ℕ) : Type 0 where
    pub state : (shape : List ℕ) → HasShape table shape id → HasState shape id

  -- what a kind says of a node
  abbrev pub IsKind : ℕ → Kind → Type 0
  IsKind id AlwaysZero = IsNull id
  IsKind id NeverZero = IsNeverZero id
  IsKind id Unknown = IsSomewhere id

  -- each node has a kind, which is true of it
  pub record AreKinds (kinds : List Kind) : Type 0 where
    pub all : length kinds ≡ length table
    pub each : (id : ℕ) (kind : Kind) → slice_get kinds id ≡ Some kind → IsKind id kind

  -- a table and the kinds of its nodes, as a store keeps them
  pub record IsKept (kinds : List Kind) : Type 0 where
    pub formed : IsWellFormed table
    pub known : AreKinds kinds

-- a pair's vectors, those of its nodes one after the other, by the kinds of the nodes: all are zero where both nodes' are,
-- and none is where none of one node's is
abbrev pub IsKindOfPair : List Kind → ℕ × ℕ → Kind → Type 0
IsKindOfPair kinds p AlwaysZero = (slice_get kinds p.0 ≡ Some AlwaysZero) × (slice_get kinds p.1 ≡ Some AlwaysZero)
IsKindOfPair kinds p NeverZero = (slice_get kinds p.0 ≡ Some NeverZero) ⊎ (slice_get kinds p.1 ≡ Some NeverZero)
IsKindOfPair kinds p Unknown = (slice_get kinds p.0 ≢ Some AlwaysZero) ⊎ (slice_get kinds p.1 ≢ Some AlwaysZero)

-- all pairs have the kind, or nothing is known, and some pair isn't always zero
abbrev pub IsKindOfPairs : List Kind → List (ℕ × ℕ) → Kind → Type 0
IsKindOfPairs kinds ps AlwaysZero = (c : ℕ) (p : ℕ × ℕ) → slice_get ps c ≡ Some p → IsKindOfPair kinds p AlwaysZero
IsKindOfPairs kinds ps NeverZero = (c : ℕ) (p : ℕ × ℕ) → slice_get ps c ≡ Some p → IsKindOfPair kinds p NeverZero
IsKindOfPairs kinds ps Unknown = (c : ℕ) × (p : ℕ × ℕ) × (slice_get ps c ≡ Some p) × IsKindOfPair kinds p Unknown

-- a leaf is always zero where its label is, and else never
abbrev pub IsKindOfLabel : List Amplitude → Kind → Type 0
IsKindOfLabel ps AlwaysZero = IsZeroVector ps
IsKindOfLabel ps NeverZero = ¬ (IsZeroVector ps)
IsKindOfLabel ps Unknown = ⊥

module _ {L : Type 0} where
  -- the kind of a node, by its label or by the kinds of the nodes of its pairs
  abbrev pub IsKindOfNode : (L → List Amplitude) → List Kind → Node L → Kind → Type 0
  IsKindOfNode parts kinds (Leaf l) kind = IsKindOfLabel (parts l) kind
  IsKindOfNode parts kinds (Inner ps) kind = IsKindOfPairs kinds ps kind

  -- the node is a leaf, or has pairs, and their places are below a number
  abbrev pub StandsBelow : ℕ → Node L → Type 0
  StandsBelow n (Leaf l) = Unit {0}
  StandsBelow n (Inner ps) = (0 < length ps) × EachPair (λ i. i < n) ps
