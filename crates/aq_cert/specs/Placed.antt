-- Macros whose numbers are nodes, and the same macros with places in levels.
use Rattle.std.specs.Prelude.{◌≡◌, ℕ, ◌<◌, List, [], length, slice_get, Option, None, Some, IsSome, nat_eq, Vec, Contains}
use Rattle.std.specs.List.{AllZip}
use Rattle.indexmap.specs.IndexMap.{get}
use Rattle.std.specs.declared.alloc.Global.{Global}
use Rattle.aq_store.specs.Levels.{lists_of}
use Rattle.aq_store.specs.declared.node.Node.{Node}
use Rattle.aq_store.specs.declared.lsta.Lsta.{Lsta}
use Rattle.aq_cert.specs.declared.cert.Rel.{Rel}
use Rattle.aq_cert.specs.declared.cert.Macro.{Macro}
use Rattle.aq_cert.specs.declared.index.Index.{Index}
use Rattle.aq_cert.specs.Rows.{item_at, row_at}
use Rattle.aq_cert.specs.Goals.{goal_levels}
use Rattle.aq_cert.specs.Valid.{left_level, goal_level}

-- the node stands at the place of the level
abbrev pub IsAt : List ℕ → ℕ → ℕ → Type 0
IsAt level node place = slice_get level place ≡ Some node

-- both nodes of a pair stand at both places
abbrev pub IsPairAt : List ℕ → List ℕ → ℕ × ℕ → ℕ × ℕ → Type 0
IsPairAt left right p q = IsAt left p.0 q.0 × IsAt right p.1 q.1

-- the index has a place for the node
abbrev pub HasPlace : Index → ℕ → Type 0
HasPlace index node = IsSome (get nat_eq index.at node)

-- the index has a place for each node of the level, and at each place that it has the node stands in the level
pub record IsIndexOf (level : List ℕ) (index : Index) : Type 0 where
  pub found : (node place : ℕ) → get nat_eq index.at node ≡ Some place → IsAt level node place
  pub complete : (node : ℕ) → Contains level node → HasPlace index node

-- the macro's nodes stand in these levels, and its goals are among so many
pub record StandsIn (count : ℕ) (left : List ℕ) (right : ℕ → List ℕ) (m : Macro) : Type 0 where
  pub domain : (x : ℕ) → Contains m.domain x → Contains left x
  pub there : (k : ℕ) (rel : Rel) → slice_get m.rels k ≡ Some rel → rel.goal < count
  pub pairs : (k : ℕ) (rel : Rel) (p : ℕ × ℕ) → slice_get m.rels k ≡ Some rel → Contains rel.pairs p
      → Contains left p.0 × Contains (right rel.goal) p.1

-- the second relation has the places of the first one's nodes, for a goal that is among so many
pub record IsPlacedRel (count : ℕ) (left : List ℕ) (right : ℕ → List ℕ) (r s : Rel) : Type 0 where
  pub same_goal : s.goal ≡ r.goal
  pub there : s.goal < count
  pub pairs : AllZip (IsPairAt left (right s.goal)) r.pairs s.pairs

-- the second macro has the places of the first one's nodes
pub record IsPlacedMacro (count : ℕ) (left : List ℕ) (right : ℕ → List ℕ) (m n : Macro) : Type 0 where
  pub domain : AllZip (IsAt left) m.domain n.domain
  pub rels : AllZip (IsPlacedRel count left right) m.rels n.rels

-- the index says that the node stands at the place
abbrev pub IsFound : Index → ℕ → ℕ → Type 0
IsFound index node place = get nat_eq index.at node ≡ Some place

-- both indexes say so of the nodes of a pair
abbrev pub IsPairFound : Index → Index → ℕ × ℕ → ℕ × ℕ → Type 0
IsPairFound left right p q = IsFound left p.0 q.0 × IsFound right p.1 q.1

-- the second relation has the places of the first one's nodes by the indexes of the left and of its goal
pub record IsRelFound (left : Index) (goals : List Index) (r s : Rel) : Type 0 where
  pub same_goal : s.goal ≡ r.goal
  pub right : Index
  pub listed : slice_get goals s.goal ≡ Some right
  pub pairs : AllZip (IsPairFound left right) r.pairs s.pairs

-- the second macro has the places of the first one's nodes by the indexes
pub record IsMacroFound (left : Index) (goals : List Index) (m n : Macro) : Type 0 where
  pub domain : AllZip (IsFound left) m.domain n.domain
  pub rels : AllZip (IsRelFound left goals) m.rels n.rels

-- the indexes of the left and of its goal have places for the relation's nodes
pub record HasRelPlaces (left : Index) (goals : List Index) (r : Rel) : Type 0 where
  pub right : Index
  pub listed : slice_get goals r.goal ≡ Some right
  pub pairs : (p : ℕ × ℕ) → Contains r.pairs p → HasPlace left p.0 × HasPlace right p.1

-- the indexes have places for the macro's nodes
pub record HasMacroPlaces (left : Index) (goals : List Index) (m : Macro) : Type 0 where
  pub domain : (x : ℕ) → Contains m.domain x → HasPlace left x
  pub rels : (k : ℕ) (rel : Rel) → slice_get m.rels k ≡ Some rel → HasRelPlaces left goals rel

-- the levels that may be there
abbrev pub lists_in : Option (Vec (Vec ℕ Global) Global) → List (List ℕ)
lists_in None = []
lists_in (Some levels) = lists_of levels.items

-- an index of one level of each goal
pub record AreIndexes (all : List (Vec (Vec ℕ Global) Global)) (level : ℕ) (indexes : List Index) : Type 0 where
  pub count : length indexes ≡ length all
  pub each : (g : ℕ) (index : Index) → slice_get indexes g ≡ Some index → IsIndexOf (row_at (lists_in (slice_get all g)) level) index

module _ {L : Type 0} (table : List (Node L)) (left : Lsta) (goals : List Lsta) where
  -- the macro's nodes stand in the levels of this number
  abbrev pub StandsAt : ℕ → Macro → Type 0
  StandsAt k = StandsIn (length goals) (left_level table left goals k) (λ g. goal_level table left goals g k)

  -- each macro's nodes stand in the levels of its row's number
  pub record AllStand (macros : List (List Macro)) : Type 0 where
    pub each : (k i : ℕ) (m : Macro) → item_at macros k i ≡ Some m → StandsAt k m

  -- the rows have the places of the macros' nodes, each row by its level
  pub record ArePlaced (macros rows : List (List Macro)) : Type 0 where
    pub levels : length rows ≡ length macros
    pub each : (k : ℕ) → k < length macros
        → AllZip (IsPlacedMacro (length goals) (left_level table left goals k) (λ g. goal_level table left goals g k)) (row_at macros k) (row_at rows k)

-- the levels of each goal
pub record AreGoalLevels {L : Type 0} (table : List (Node L)) (goals : List Lsta) (all : List (Vec (Vec ℕ Global) Global)) : Type 0 where
  pub count : length all ≡ length goals
  pub each : (g : ℕ) → lists_in (slice_get all g) ≡ goal_levels table goals g
