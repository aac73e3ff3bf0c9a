-- The table of good macros, and what the search finds.
use Rattle.std.specs.Prelude.{◌≡◌, ◌⊎◌, ℕ, ◌+◌, ◌*◌, ◌<◌, ◌≤◌, List, length, drop, sum_by, slice_get, Some}
use Rattle.aq_ring.specs.Fractions.{Amplitude}
use Rattle.aq_store.specs.declared.node.Node.{Node}
use Rattle.aq_store.specs.Count.{Count}
use Rattle.aq_store.specs.declared.lsta.Lsta.{Lsta}
use Rattle.aq_cert.specs.declared.cert.Macro.{Macro}
use Rattle.aq_cert.specs.declared.cert.Edge.{Edge}
use Rattle.aq_cert.specs.declared.cert.End.{End}
use Rattle.aq_cert.specs.Rows.{item_at}
use Rattle.aq_cert.specs.Goals.{goal_rest}
use Rattle.aq_cert.specs.Macros.{IsEdge}
use Rattle.aq_include.specs.Good.{IsGood}
use Rattle.aq_include.specs.declared.table.Table.{Table}
use Rattle.aq_include.specs.declared.search.Found.{Found}
use Rattle.aq_include.specs.declared.search.Found.TheVariants as found
use Rattle.aq_include.specs.declared.search.Followed.{Followed}
use Rattle.aq_include.specs.declared.search.Followed.TheVariants as followed
use Rattle.aq_include.specs.Tables.{RowsExtend}
use Rattle.aq_cert.specs.Rows.{row_length}
use Rattle.aq_include.specs.Least.{IsLeast}
use Rattle.aq_include.specs.Costs.{size}

-- each macro, edge list and end of the old table is at its place in the new one
pub record TableExtends (old new : Table) : Type 0 where
  pub macros : RowsExtend old.macros.items new.macros.items
  pub edges : RowsExtend old.edges.items new.edges.items
  pub ends : (i : ℕ) (e : End) → slice_get old.ends i ≡ Some e → slice_get new.ends i ≡ Some e

-- as many edge lists and ends as macros
pub record IsEven (n : ℕ) (t : Table) : Type 0 where
  pub rows : length t.macros.items ≡ n + 1
  pub edge_rows : length t.edges.items ≡ n
  pub inner : (k : ℕ) → k < n → row_length t.macros.items k ≡ row_length t.edges.items k
  pub last : row_length t.macros.items n ≡ length t.ends

-- how much the macros take in a certificate
abbrev pub table_size : Table → ℕ
table_size t = sum_by (λ (row : List Macro). sum_by size row) t.macros.items

-- the table grew by what steps were taken for, and by a macro that was there before them
abbrev pub GrowsWith : ℕ → Table → Table → Count → Count → Found → Type 0
GrowsWith extra old new before now (found.Reached i) = table_size new + 2 * before.taken ≤ table_size old + extra + 2 * now.taken
GrowsWith extra old new before now (found.Escapes word) = Unit {0}

-- the table grew by what steps were taken for
abbrev pub GrowsBy : Table → Table → Count → Count → Followed → Type 0
GrowsBy old new before now (followed.Leads e) = table_size new + 2 * before.taken ≤ table_size old + 2 * now.taken
GrowsBy old new before now (followed.Escapes word) = Unit {0}

module _ {L : Type 0} (table : List (Node L)) where
  -- the edge leads to a good macro of the next level
  pub record Leads (shape : List ℕ) (goals : List Lsta) (level c : ℕ) (m : Macro) (new : Table) (e : Edge) : Type 0 where
    pub to : Macro
    pub here : item_at new.macros.items (level + 1) e.to ≡ Some to
    pub edge : IsEdge table c (goal_rest goals level) m to e.from

module _ {L : Type 0} (parts : L → List Amplitude) (table : List (Node L)) where
  abbrev pub IsGoodIn : List Lsta → Table → List ℕ → ℕ → ℕ → Type 0
  IsGoodIn goals t shape k i = IsGood parts table goals t.macros.items t.edges.items t.ends shape k i

  -- all macros of the table are good
  pub record IsTable (shape : List ℕ) (goals : List Lsta) (t : Table) : Type 0 where
    pub even : IsEven (length shape) t
    pub good : (k i : ℕ) (m : Macro) → item_at t.macros.items k i ≡ Some m → IsGoodIn goals t (drop k shape) k i

  -- the macro has a number, and the table grew
  pub record IsReached (shape : List ℕ) (goals : List Lsta) (level : ℕ) (m : Macro) (old new : Table) (i : ℕ) : Type 0 where
    pub here : item_at new.macros.items level i ≡ Some m
    pub grown : IsTable shape goals new
    pub keeps : TableExtends old new
    -- no row above grew, and the macro was there or is the next of its row
    pub upper : (k : ℕ) → k < level → slice_get new.macros.items k ≡ slice_get old.macros.items k
    pub fresh : (item_at old.macros.items level i ≡ Some m) ⊎ (i ≡ row_length old.macros.items level)

  abbrev pub Finds : List ℕ → List Lsta → ℕ → Macro → Table → Table → Found → Type 0
  Finds shape goals level m old new (found.Reached i) = IsReached shape goals level m old new i
  Finds shape goals level m old new (found.Escapes word) = IsLeast parts table (drop level shape) (goal_rest goals level) m word

  -- the choice leads to a good macro, and the table grew; or there is a first word that escapes
  pub record IsFollowed (shape : List ℕ) (goals : List Lsta) (level c : ℕ) (m : Macro) (old new : Table) (e : Edge) : Type 0 where
    pub leads : Leads table shape goals level c m new e
    pub grown : IsTable shape goals new
    pub keeps : TableExtends old new
    pub upper : (k : ℕ) → k ≤ level → slice_get new.macros.items k ≡ slice_get old.macros.items k

  abbrev pub Follows : List ℕ → List Lsta → ℕ → ℕ → Macro → Table → Table → Followed → Type 0
  Follows shape goals level c m old new (followed.Leads e) = IsFollowed shape goals level c m old new e
  Follows shape goals level c m old new (followed.Escapes word) = IsLeast parts table (drop level shape) (goal_rest goals level) m word
