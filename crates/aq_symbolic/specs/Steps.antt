-- What a step makes of one world.
use Rattle.std.specs.Prelude.{◌≡◌, ℕ, ◌<◌, ◌≤◌, ◌⊎◌, Bool, List, [], ◌∷◌, ◌++◌, All, Contains, Option, Some, None, true, false, map}
use Rattle.aq_ring.specs.Fractions.{Amplitude}
use Rattle.aq_prog.specs.Gates.{FitsGate, project}
use Rattle.aq_prog.specs.Runs.{flipped}
use Rattle.aq_prog.specs.declared.gate.Gate.{Gate}
use Rattle.aq_store.specs.Count.{Count}
use Rattle.aq_store.specs.Nodes.{Extends, FitsStore, total_cost, vector_of}
use Rattle.aq_store.specs.Parts.{part_vector}
use Rattle.aq_store.specs.declared.lsta.Lsta.{Lsta}
use Rattle.aq_store.specs.declared.node.Node.{Node}
use Rattle.aq_obligations.specs.Worlds.{Partial}
use Rattle.aq_symbolic.specs.Weights.{weights}
use Rattle.aq_symbolic.specs.Worlds.{AreSame, IsLive, IsNothing, View, world_of}
use Rattle.aq_symbolic.specs.declared.kept.World.{World}

-- the world has these bits and outcomes, and the case of another
pub record HasFields (w : World) (first now : Partial) (taken : List Bool) (u : World) : Type 0 where
  pub case : u.case ≡ w.case
  pub start : u.start ≡ first
  pub bits : u.bits ≡ now
  pub outcomes : u.outcomes ≡ taken

-- the automata are one, wherever their shapes lie in memory
pub record IsSameSet (lsta made : Lsta) : Type 0 where
  pub root : made.root ≡ lsta.root
  pub shape : made.shape.items ≡ lsta.shape.items

-- what a reset leaves of a vector after an outcome
abbrev pub cleared : ℕ → ℕ → Bool → List Amplitude → List Amplitude
cleared n qubit b v = flipped n qubit b (project n qubit b v)

-- a bit whose value isn't known
abbrev pub is_unknown : Option (Option Bool) → Bool
is_unknown (Some None) = true
is_unknown (Some (Some b)) = false
is_unknown None = false

module _ {L : Type 0} (parts : L → List Amplitude) (count : ℕ) where
  -- made has the shape of lsta, and of each word what F makes of its vector, part by part
  pub record IsMapped (F : List Amplitude → List Amplitude) (old new : List (Node L)) (lsta made : Lsta) : Type 0 where
    pub shape : made.shape.items ≡ lsta.shape.items
    pub fits : FitsStore new made
    pub words : (word : List ℕ) (k : ℕ) → k < count → part_vector parts k (vector_of new made word) ≡ F (part_vector parts k (vector_of old lsta word))

  -- the gate fits on each part of each word's vector
  abbrev pub FitsSet : ℕ → Gate → List (Node L) → Lsta → Type 0
  FitsSet n gate table lsta = (word : List ℕ) (k : ℕ) → k < count → FitsGate n gate (part_vector parts k (vector_of table lsta word))

  -- it doesn't fit on some word's vector
  pub record IsUnfitSet (n : ℕ) (gate : Gate) (table : List (Node L)) (lsta : Lsta) : Type 0 where
    pub word : List ℕ
    pub wide : ((k : ℕ) → k < count → FitsGate n gate (part_vector parts k (vector_of table lsta word))) → ⊥

  -- the list has grown by the world if one of its vectors isn't zero, and else every one is zero
  abbrev pub AddsLive : List (Node L) → World → List World → List World → Type 0
  AddsLive table w old new = ((new ≡ old) × IsNothing parts table w) ⊎ ((new ≡ old ++ w ∷ []) × IsLive parts table w)

  -- the list is the worlds, but for those whose every vector is zero
  pub record AreAlive (table : List (Node L)) (ws list : List World) : Type 0 where
    pub same : (v : View) → AreSame (map (world_of parts v table) list) (map (world_of parts v table) ws)
    pub live : All (IsLive parts table) list
    pub within : All (Contains ws) list
    pub lighter : (named : ℕ → Bool) (outcomes : ℕ) → weights named outcomes list ≤ weights named outcomes ws

-- what was in the table is there and paid for, and the limit is the same
pub record Keeps {L : Type 0} (old new : List (Node L)) (before now : Count) : Type 0 where
  pub table : Extends old new
  pub paid : total_cost new ≤ now.taken
  pub limit : now.limit ≡ before.limit
