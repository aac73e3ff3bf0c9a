-- What a replay answers: the end of the run, or the first cause that the run meets.
use Rattle.std.specs.Prelude.{◌≡◌, ℕ, suc, ◌+◌, ◌<◌, ◌-◌, Bool, true, List, [], ◌∷◌, All, length, Option, IfSome, Result, Ok, Err}
use Rattle.std.specs.List.{list_any}
use Rattle.aq_ring.specs.Fractions.{Amplitude}
use Rattle.aq_ring.specs.Vectors.{IsZeroVector}
use Rattle.aq_prog.specs.Cuts.{has_loop, IsLoopFree}
use Rattle.aq_prog.specs.Events.{Event, Plays, Leaves, events, events_at, outcome_event, AreGood, IsFirst, IsReplayed, IsCutShort, HasLeft, IsImpossible, outcomes_among}
use Rattle.aq_prog.specs.Gates.{project}
use Rattle.aq_prog.specs.Programs.{IsValidStmt}
use Rattle.aq_prog.specs.Runs.{State, Run, How, meaning, run, measured, was_reset}
use Rattle.aq_prog.specs.declared.gate.Gate.{Gate}
use Rattle.aq_prog.specs.declared.stmt.Stmt.{Stmt}
use Rattle.aq_plain.specs.Wide.{IsFirstWide}
use Rattle.aq_plain.specs.declared.player.Player.{Player}
use Rattle.aq_plain.specs.declared.player.Halt.{Halt}
use Rattle.aq_plain.specs.declared.player.Halt.TheVariants as halt
use Rattle.aq_plain.specs.declared.replay_stop.Played.{Played}
use Rattle.aq_plain.specs.declared.replay_stop.ReplayStop.{ReplayStop}
use Rattle.aq_plain.specs.declared.replay_stop.ReplayStop.TheVariants as stop

-- statements on n qubits and m bits
pub record ArePlayable (n m : ℕ) (body : List Stmt) : Type 0 where
  pub claims : ℕ
  pub valid : All (IsValidStmt n m claims) body

-- one statement
pub record IsPlayableStmt (n m : ℕ) (s : Stmt) : Type 0 where
  pub claims : ℕ
  pub valid : IsValidStmt n m claims s

-- the start of a run without loops
abbrev pub start_of : List Bool → List Amplitude → List Bool → State
start_of bits vector outcomes = record { bits = bits; vector = vector; outcomes = outcomes; turns = 0 }

-- the first event that isn't good is a gate; these are the operands of its first sum or quotient that doesn't fit
pub record MeetsWide (n : ℕ) (es : List Event) (left right : Amplitude) : Type 0 where
  pub gate : Gate
  pub vector : List Amplitude
  pub first : IsFirst n es (Plays gate vector)
  pub operands : IsFirstWide n gate vector left right

-- a loop is told first; else the run comes to its end with no outcome left, or meets a cause to stop, of which the first is
-- told; or it ends with outcomes left. Want of memory has no cause.
abbrev pub Replays : ℕ → List Stmt → State → Result Played ReplayStop → Type 0
Replays n body s (Ok p) = IsLoopFree body × ((p.vector.qubits ≡ n) × IsReplayed n body s (start_of p.bits p.vector.amps []))
Replays n body s (Err stop.NotLoopFree) = list_any has_loop body ≡ true
Replays n body s (Err stop.ShortOutcomes) = IsLoopFree body × IsCutShort n body s How.NoOutcome
Replays n body s (Err (stop.Impossible number)) = IsLoopFree body × IsImpossible n body s number
Replays n body s (Err stop.Blocked) = IsLoopFree body × IsCutShort n body s How.Blocked
Replays n body s (Err (stop.Wide left right)) = IsLoopFree body × MeetsWide n (events n body s) left right
Replays n body s (Err (stop.LongOutcomes left)) = IsLoopFree body × (more : ℕ) × (left ≡ suc more) × HasLeft n body s more
Replays n body s (Err stop.Memory) = Unit {0}

-- ---- the parts of a replay

-- where a player stands in a run, with these outcomes left
abbrev pub state_of : Player → List Bool → State
state_of p outcomes = start_of p.bits p.vector.amps outcomes

-- Events es and a run r, from s: they were played to the end, which is t.
pub record IsPlayed (n : ℕ) (es : List Event) (r : Run) (s t : State) : Type 0 where
  pub good : AreGood n es
  pub how : r.how ≡ How.Ended
  pub last : r.last ≡ t
  pub counted : outcomes_among es + length t.outcomes ≡ length s.outcomes

-- an outcome can't happen, and so many are left behind it
pub record MeetsZero (n : ℕ) (es : List Event) (s : State) (left : ℕ) : Type 0 where
  pub vector : List Amplitude
  pub first : IsFirst n es (Leaves vector)
  pub zero : IsZeroVector vector
  pub counted : suc (outcomes_among first.before) + left ≡ length s.outcomes

-- good events, and the run stopped so
pub record IsStopped (n : ℕ) (es : List Event) (r : Run) (how : How) : Type 0 where
  pub good : AreGood n es
  pub stopped : r.how ≡ how

-- they weren't, for this
abbrev pub HaltsBy : ℕ → List Event → Run → State → Halt → Type 0
HaltsBy n es r s halt.ShortOutcomes = IsStopped n es r How.NoOutcome
HaltsBy n es r s halt.Blocked = IsStopped n es r How.Blocked
HaltsBy n es r s (halt.Impossible left) = MeetsZero n es s left
HaltsBy n es r s (halt.Wide w) = MeetsWide n es w.left w.right

-- an outcome was taken: the first of the list, which can happen
pub record IsTaken (n qubit : ℕ) (v w : List Amplitude) (outcomes : List Bool) (outcome : Bool) (left : List Bool) : Type 0 where
  pub outcomes_are : outcomes ≡ outcome ∷ left
  pub vector : w ≡ project n qubit outcome v
  pub happens : IsZeroVector w → ⊥

-- the first of the list can't happen
pub record IsDead (n qubit : ℕ) (v : List Amplitude) (outcomes : List Bool) (left : ℕ) : Type 0 where
  pub outcome : Bool
  pub rest : List Bool
  pub outcomes_are : outcomes ≡ outcome ∷ rest
  pub zero : IsZeroVector (project n qubit outcome v)
  pub counted : left ≡ length rest

-- none was taken, for this
abbrev pub Refuses : ℕ → ℕ → List Amplitude → List Bool → Halt → Type 0
Refuses n qubit v outcomes halt.ShortOutcomes = outcomes ≡ []
Refuses n qubit v outcomes halt.Blocked = ⊥
Refuses n qubit v outcomes (halt.Impossible left) = IsDead n qubit v outcomes left
Refuses n qubit v outcomes (halt.Wide w) = ⊥

-- ---- what the statements give, one by one and in order

-- the bit is one of so many, if one is named
abbrev pub IsIn : ℕ → Option ℕ → Type 0
IsIn m bit = IfSome bit (λ b. b < m)

abbrev pub IsMeasured : ℕ → ℕ → Option ℕ → State → State → Type 0
IsMeasured n qubit bit s t = IsPlayed n (outcome_event n qubit s.vector s.outcomes) (measured n qubit bit s.outcomes s) s t

abbrev pub HaltsMeasured : ℕ → ℕ → Option ℕ → State → Halt → Type 0
HaltsMeasured n qubit bit s h = HaltsBy n (outcome_event n qubit s.vector s.outcomes) (measured n qubit bit s.outcomes s) s h

abbrev pub IsReset : ℕ → ℕ → State → State → Type 0
IsReset n qubit s t = IsPlayed n (outcome_event n qubit s.vector s.outcomes) (was_reset n qubit s.outcomes s) s t

abbrev pub HaltsReset : ℕ → ℕ → State → Halt → Type 0
HaltsReset n qubit s h = HaltsBy n (outcome_event n qubit s.vector s.outcomes) (was_reset n qubit s.outcomes s) s h

abbrev pub PlaysStmt : ℕ → Stmt → State → State → Type 0
PlaysStmt n x s t = IsPlayed n (events_at n x s) (meaning n x s) s t

abbrev pub HaltsStmt : ℕ → Stmt → State → Halt → Type 0
HaltsStmt n x s h = HaltsBy n (events_at n x s) (meaning n x s) s h

abbrev pub PlaysAll : ℕ → List Stmt → State → State → Type 0
PlaysAll n body s t = IsPlayed n (events n body s) (run n body s) s t

abbrev pub HaltsAll : ℕ → List Stmt → State → Halt → Type 0
HaltsAll n body s h = HaltsBy n (events n body s) (run n body s) s h

-- what is told of it, where there were so many outcomes
abbrev pub stop_of : ℕ → Halt → ReplayStop
stop_of many halt.ShortOutcomes = stop.ShortOutcomes
stop_of many halt.Blocked = stop.Blocked
stop_of many (halt.Impossible left) = stop.Impossible (many - left)
stop_of many (halt.Wide w) = stop.Wide w.left w.right
