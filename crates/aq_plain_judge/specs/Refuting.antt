-- What is shown of a world whose vectors aren't all kept, and what is told of the worlds of cases.
use Rattle.std.specs.Prelude.{◌≡◌, ℕ, List, ◌∷◌, ◌++◌, All, Contains, length, Option, Some, None, slice_get}
use Rattle.aq_ring.specs.Fractions.{Amplitude}
use Rattle.aq_ring.specs.Vectors.{IsZeroVector}
use Rattle.aq_prog.specs.Cuts.{AreUncut}
use Rattle.aq_prog.specs.Gates.{FitsGate}
use Rattle.aq_prog.specs.Runs.{State, Played, run}
use Rattle.aq_prog.specs.declared.stmt.Stmt.{Stmt}
use Rattle.aq_plain.specs.declared.replay_stop.Played.{Played as Ended}
use Rattle.aq_obligations.specs.Claims.{Holds}
use Rattle.aq_obligations.specs.Obligations.{Meaning, run_of, IsWhole}
use Rattle.aq_obligations.specs.Worlds.{World, filled, IsKept}
use Rattle.aq_report.specs.declared.verdict.Refutation.{Refutation}

-- ---- one run

-- the statements have no cut, and the run from the state comes to its end, uses its outcomes up and leaves a nonzero vector
pub record EndsAlive (n : ℕ) (body : List Stmt) (s : State) : Type 0 where
  pub uncut : AreUncut body
  pub whole : IsWhole (run n body s)
  pub alive : IsZeroVector (run n body s).last.vector → ⊥

-- this is where the run from the state ends
pub record IsEndOf (n : ℕ) (body : List Stmt) (s : State) (end : Ended) : Type 0 where
  pub qubits : end.vector.qubits ≡ n
  pub bits : end.bits ≡ (run n body s).last.bits
  pub vector : end.vector.amps ≡ (run n body s).last.vector

-- a gate on the run doesn't fit
pub record HasWideStep (n : ℕ) (body : List Stmt) (s : State) : Type 0 where
  pub step : Played
  pub played : Contains (run n body s).played step
  pub wide : FitsGate n step.gate step.before → ⊥

-- ---- a world

-- The refutation is of the world's vector at this place: it shows the state from which that comes, the world's outcomes and
-- the end of the run.
pub record Shows (o : Meaning) (w : World) (place : ℕ) (r : Refutation) : Type 0 where
  pub state_qubits : r.state.qubits ≡ o.qubits
  pub end_qubits : r.end.qubits ≡ o.qubits
  pub bits_are : r.bits ≡ filled w.start
  pub state_is : slice_get w.case.vectors place ≡ Some r.state.amps
  pub outcomes_are : r.outcomes ≡ w.outcomes
  pub end_bits_are : r.end_bits ≡ (run_of o r.bits r.state.amps r.outcomes).last.bits
  pub end_is : r.end.amps ≡ (run_of o r.bits r.state.amps r.outcomes).last.vector

-- the world's vector at this place isn't zero
pub record IsAliveAt (w : World) (place : ℕ) : Type 0 where
  pub vector : List Amplitude
  pub there : slice_get w.vectors place ≡ Some vector
  pub nonzero : IsZeroVector vector → ⊥

-- ---- some of the worlds

-- no vector of theirs escapes the goal
abbrev pub AreKept : Meaning → List World → Type 0
AreKept o all = All (λ w. All (IsKept o w) w.vectors) all

-- the first vector of theirs that does is the one that is shown
pub record AreRefutedBy (o : Meaning) (all : List World) (r : Refutation) : Type 0 where
  pub earlier : List World
  pub world : World
  pub later : List World
  pub worlds_are : all ≡ earlier ++ world ∷ later
  pub earlier_kept : AreKept o earlier
  pub before : List (List Amplitude)
  pub escaping : List Amplitude
  pub after : List (List Amplitude)
  pub vectors_are : world.vectors ≡ before ++ escaping ∷ after
  pub before_kept : All (IsKept o world) before
  pub nonzero : IsZeroVector escaping → ⊥
  pub escapes : Holds o.goal (filled world.bits) escaping → ⊥
  pub shown : Shows o world (length before) r

-- a refutation by them, if there is one
abbrev pub Judges : Meaning → List World → Option Refutation → Type 0
Judges o all None = AreKept o all
Judges o all (Some r) = AreRefutedBy o all r
