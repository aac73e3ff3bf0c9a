-- What one statement has made of nodes of a table, on worlds of as many qubits.
use Rattle.std.specs.Prelude.{◌≡◌, ℕ, ◌⊎◌, true, false, List, Some, All, Contains, slice_get}
use Rattle.aq_ring.specs.Fractions.{Amplitude}
use Rattle.aq_prog.specs.Gates.{flip_gate}
use Rattle.aq_prog.specs.declared.stmt.Stmt.{Stmt}
use Rattle.aq_prog.specs.declared.stmt.Stmt.TheOpen.{Stmt-F}
use Rattle.aq_prog.specs.declared.stmt.Stmt.TheViews.{out-Stmt}
use Rattle.aq_store.specs.declared.node.Node.{Node}
use Rattle.aq_gate_ops.specs.Action.{IsActing}
use Rattle.aq_gate_ops.specs.Action as gates
use Rattle.aq_measure_ops.specs.Projection.{IsProjecting}
use Rattle.aq_measure_ops.specs.Projection as projections
use Rattle.aq_symbolic.specs.declared.memos.Memos.{Memos}
use Rattle.aq_symbolic.specs.declared.stock.StmtMemos.{StmtMemos}

-- nothing is done yet
pub record AreFresh (memos : Memos) : Type 0 where
  pub acting : gates.IsFresh memos.acting
  pub zero : projections.IsFresh memos.zero
  pub other : projections.IsFresh memos.other

module _ {L : Type 0} (parts : L → List Amplitude) (count n : ℕ) (table : List (Node L)) (memos : Memos) where
  -- they are of both projections of the qubit
  pub record AreOutcomes (qubit : ℕ) : Type 0 where
    pub zero : IsProjecting parts qubit false n table memos.zero
    pub other : IsProjecting parts qubit true n table memos.other

  -- they are of a reset: of both projections and of the flip
  pub record AreResets (qubit : ℕ) : Type 0 where
    pub outcomes : AreOutcomes qubit
    pub flip : IsActing parts count (flip_gate qubit) n table memos.acting

  -- they are of what the statement itself does; an inner one has memos of its own
  abbrev pub AreLevelMemos : {A : Type 0} → Stmt-F A → Type 0
  AreLevelMemos (Stmt-F.Gate gate) = IsActing parts count gate n table memos.acting
  AreLevelMemos (Stmt-F.Measure qubit bit) = AreOutcomes qubit
  AreLevelMemos (Stmt-F.Reset qubit) = AreResets qubit
  AreLevelMemos (Stmt-F.If guard when_true when_false) = Unit {0}
  AreLevelMemos (Stmt-F.While guard claim body line) = Unit {0}
  AreLevelMemos (Stmt-F.Assert claim line) = Unit {0}
  AreLevelMemos (Stmt-F.Assume guard) = Unit {0}

  abbrev pub AreMemos : Stmt → Type 0
  AreMemos s = AreLevelMemos (out-Stmt s)

-- memos of a statement, on automata of so many levels
abbrev pub entry : Stmt → ℕ → Memos → StmtMemos
entry s levels memos = record { stmt = s; levels = levels; memos = memos }

-- memos of the statement stand at this place
pub record IsPlaced (s : Stmt) (levels : ℕ) (entries : List StmtMemos) (i : ℕ) : Type 0 where
  pub memos : Memos
  pub stands : slice_get entries i ≡ Some (entry s levels memos)

-- the memos were kept for the statement or are fresh, and what is left was kept or is fresh
pub record IsTaken (s : Stmt) (levels : ℕ) (old new : List StmtMemos) (memos : Memos) : Type 0 where
  pub taken : AreFresh memos ⊎ Contains old (entry s levels memos)
  pub left : All (λ e. AreFresh e.memos ⊎ Contains old e) new

-- what is kept is these memos of the statement, or was kept before
abbrev pub ArePut : Stmt → ℕ → Memos → List StmtMemos → List StmtMemos → Type 0
ArePut s levels memos old new = All (λ e. (e ≡ entry s levels memos) ⊎ Contains old e) new

-- all that are kept are of their statements
abbrev pub AreAllMemos : {L : Type 0} → (L → List Amplitude) → ℕ → List (Node L) → List StmtMemos → Type 0
AreAllMemos parts count table entries = All (λ e. AreMemos parts count e.levels table e.memos e.stmt) entries
