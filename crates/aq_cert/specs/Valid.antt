-- When a certificate for a left automaton and goals is valid: five points. A place is a position in a level of an automaton,
-- as a walk meets its nodes.
use Rattle.std.specs.Prelude.{◌≡◌, ℕ, ◌+◌, ◌<◌, List, length, map, slice_get, slice_index, Some, Contains}
use Rattle.aq_ring.specs.Fractions.{Amplitude}
use Rattle.aq_store.specs.declared.node.Node.{Node}
use Rattle.aq_store.specs.declared.lsta.Lsta.{Lsta}
use Rattle.aq_store.specs.Levels.{levels_of}
use Rattle.aq_cert.specs.declared.cert.Rel.{Rel}
use Rattle.aq_cert.specs.declared.cert.Macro.{Macro}
use Rattle.aq_cert.specs.declared.cert.Edge.{Edge}
use Rattle.aq_cert.specs.declared.cert.End.{End}
use Rattle.aq_cert.specs.declared.cert.Cert.{Cert}
use Rattle.aq_cert.specs.Rows.{item_of, item_at, row_at, row_length}
use Rattle.aq_cert.specs.Goals.{goal_rest, goal_levels}
use Rattle.aq_cert.specs.Macros.{IsEdge, IsEnd}

-- the pairs of nodes at pairs of places
abbrev pub read_pairs : List ℕ → List ℕ → List (ℕ × ℕ) → List (ℕ × ℕ)
read_pairs left right pairs = map (λ p. (slice_index left p.0, slice_index right p.1)) pairs

-- Shape: there is one list of macros more than the left has levels of choices, and the first isn't empty; each level but the
-- last has a list of edges for each macro, with one for each choice; there is an end for each macro of the last.
pub record IsShaped (shape : List ℕ) (cert : Cert) : Type 0 where
  pub macro_levels : length cert.macros ≡ length shape + 1
  pub edge_levels : length cert.edges ≡ length shape
  pub some : 0 < row_length cert.macros 0
  pub edge_lists : (k : ℕ) → k < length shape → row_length cert.edges k ≡ row_length cert.macros k
  pub choices : (k i n : ℕ) (es : List Edge) → slice_get shape k ≡ Some n → item_at cert.edges k i ≡ Some es → length es ≡ n
  pub ends : length cert.ends ≡ row_length cert.macros (length shape)

-- Root: macro 0 of level 0 has place 0 in its domain, and each of its relations has the pair of places 0.
pub record BeginsAtRoots (cert : Cert) : Type 0 where
  pub domain : (m : Macro) → item_at cert.macros 0 0 ≡ Some m → Contains m.domain 0
  pub pairs : (m : Macro) (j : ℕ) (rel : Rel) → item_at cert.macros 0 0 ≡ Some m → slice_get m.rels j ≡ Some rel → Contains rel.pairs (0, 0)

module _ {L : Type 0} (table : List (Node L)) (left : Lsta) (goals : List Lsta) where
  -- the nodes of a level of the left, and of a goal
  abbrev pub left_level : ℕ → List ℕ
  left_level k = row_at (levels_of table left) k

  abbrev pub goal_level : ℕ → ℕ → List ℕ
  goal_level g k = row_at (goal_levels table goals g) k

  -- a relation and a macro of a level with nodes in place of places
  abbrev pub read_rel : ℕ → Rel → Rel
  read_rel k rel = record { goal = rel.goal; pairs = read_pairs (left_level k) (goal_level rel.goal k) rel.pairs }

  abbrev pub read_macro : ℕ → Macro → Macro
  read_macro k m = record { domain = map (slice_index (left_level k)) m.domain; rels = map (read_rel k) m.rels }

  -- Place: each number of a domain is a place of the left's level, each relation's goal is there, and each pair is a place of
  -- the left's level and one of that goal's level.
  pub record HasPlaces (cert : Cert) : Type 0 where
    pub domain : (k i x : ℕ) (m : Macro) → item_at cert.macros k i ≡ Some m → Contains m.domain x → x < length (left_level k)
    pub goal : (k i j : ℕ) (m : Macro) (rel : Rel) → item_at cert.macros k i ≡ Some m → slice_get m.rels j ≡ Some rel → rel.goal < length goals
    pub pairs : (k i j : ℕ) (m : Macro) (rel : Rel) (p : ℕ × ℕ) → item_at cert.macros k i ≡ Some m → slice_get m.rels j ≡ Some rel → Contains rel.pairs p
        → (p.0 < length (left_level k)) × (p.1 < length (goal_level rel.goal k))

  -- an edge leads from a macro to one of the next level, as it should under its choice
  pub record LeadsOn (cert : Cert) (k c : ℕ) (m : Macro) (e : Edge) : Type 0 where
    pub to : Macro
    pub here : item_at cert.macros (k + 1) e.to ≡ Some to
    pub edge : IsEdge table c (goal_rest goals k) (read_macro k m) (read_macro (k + 1) to) e.from

  -- Edge: this holds of the edge of each macro and choice.
  pub record HasEdges (cert : Cert) : Type 0 where
    pub each : (k i c : ℕ) (m : Macro) (e : Edge) → item_at cert.macros k i ≡ Some m → item_of (item_at cert.edges k i) c ≡ Some e → LeadsOn cert k c m e

  -- End: each macro of the last level has all labels of its domain zero, or those of the named relation are alike.
  pub record HasEnds (parts : L → List Amplitude) (cert : Cert) : Type 0 where
    pub each : (i : ℕ) (m : Macro) (e : End) → item_at cert.macros (length left.shape.items) i ≡ Some m → slice_get cert.ends i ≡ Some e
        → IsEnd parts table (read_macro (length left.shape.items) m) e

-- all five points hold
pub record IsValid {L : Type 0} (parts : L → List Amplitude) (table : List (Node L)) (left : Lsta) (goals : List Lsta) (cert : Cert) : Type 0 where
  pub shape : IsShaped left.shape.items cert
  pub places : HasPlaces table left goals cert
  pub root : BeginsAtRoots cert
  pub edges : HasEdges table left goals cert
  pub ends : HasEnds table left goals parts cert
