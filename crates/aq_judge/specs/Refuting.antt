-- What is known of the run that a refutation shows.
use Rattle.std.specs.Prelude.{◌≡◌, ℕ, List, Contains}
use Rattle.aq_ring.specs.Fractions.{Amplitude}
use Rattle.aq_ring.specs.Vectors.{IsZeroVector}
use Rattle.aq_prog.specs.Cuts.{AreUncut}
use Rattle.aq_prog.specs.Gates.{FitsGate}
use Rattle.aq_prog.specs.Runs.{State, Played, run}
use Rattle.aq_prog.specs.declared.program.Program.{Program}
use Rattle.aq_prog.specs.declared.stmt.Stmt.{Stmt}
use Rattle.aq_sets.specs.declared.sets.Sets.{Sets}
use Rattle.aq_plain.specs.declared.replay_stop.Played.{Played as Ended}
use Rattle.aq_obligations.specs.Obligations.{IsWhole}
use Rattle.aq_obligations.specs.declared.bound.Obligation.{Obligation}
use Rattle.aq_report.specs.declared.verdict.Why.{Why}
use Rattle.aq_report.specs.declared.verdict.Why.TheVariants as why
use Rattle.aq_symbolic.specs.declared.kept.World.{World}
use Rattle.aq_decide.specs.Deciding.{IsFirstEscape}

-- the statements have no cut, and the run from the state comes to its end, uses its outcomes up and leaves a nonzero vector
pub record EndsAlive (n : ℕ) (body : List Stmt) (s : State) : Type 0 where
  pub uncut : AreUncut body
  pub whole : IsWhole (run n body s)
  pub alive : IsZeroVector (run n body s).last.vector → ⊥

-- this is where the run from the state ends
pub record IsEndOf (n : ℕ) (body : List Stmt) (s : State) (end : Ended) : Type 0 where
  pub qubits : end.vector.qubits ≡ n
  pub bits : end.bits ≡ (run n body s).last.bits
  pub vector : end.vector.amps ≡ (run n body s).last.vector

-- a gate on the run doesn't fit
pub record HasWideStep (n : ℕ) (body : List Stmt) (s : State) : Type 0 where
  pub step : Played
  pub played : Contains (run n body s).played step
  pub wide : FitsGate n step.gate step.before → ⊥

-- why the run isn't shown: for a number that doesn't fit only as this says, never for want of steps, and want of memory is
-- free
abbrev pub StopsFor : Type 0 → Why → Type 0
StopsFor IsWide why.Width = IsWide
StopsFor IsWide why.Steps = ⊥
StopsFor IsWide why.Memory = Unit {0}

-- the world is the first one with a vector that escapes, and the first such vector comes from this state
pub record IsShownBy (p : Program) (s : Sets) (o : Obligation) (w : World) (state : List Amplitude) : Type 0 where
  pub word : List ℕ
  pub first : IsFirstEscape p s o w word state
