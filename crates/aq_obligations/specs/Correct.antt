-- When an annotated program is correct.
use Rattle.std.specs.Prelude.{◌≡◌, ℕ, Bool, false, List, [], All, replicate, slice_index_or}
use Rattle.aq_ring.specs.Fractions.{Amplitude}
use Rattle.aq_ring.specs.Vectors.{IsZeroVector}
use Rattle.aq_prog.specs.Runs.{Run, Passed, How, run}
use Rattle.aq_prog.specs.declared.stmt.Stmt.{Stmt}
use Rattle.aq_obligations.specs.Claims.{ClaimCase, Holds}

-- a program with what is claimed of it
pub record Annotated : Type 0 where
  pub qubits : ℕ
  pub bits : ℕ
  pub body : List Stmt
  pub claims : List (List ClaimCase)  -- by the numbers that the body names
  pub precondition : List ClaimCase
  pub postcondition : List ClaimCase

-- every bit is 0
abbrev pub zeros : ℕ → List Bool
zeros n = replicate n false

-- the run from a vector, all bits 0
abbrev pub run_from : Annotated → List Amplitude → List Bool → ℕ → Run
run_from p v outcomes turns = run p.qubits p.body (record { bits = zeros p.bits; vector = v; outcomes = outcomes; turns = turns })

-- what a run passed holds there; a zero vector is no state
abbrev pub PassedHolds : Annotated → Passed → Type 0
PassedHolds p passed = (IsZeroVector passed.vector → ⊥) → Holds (slice_index_or p.claims passed.claim []) passed.bits passed.vector

-- Every run from a precondition state, whatever its outcomes and however many turns its loops make, meets each claim that
-- it passes, and ends, if it does, in a postcondition state. Every nonzero multiple of a listed vector is a state too.
abbrev pub IsCorrect : Annotated → Type 0
IsCorrect p = (v : List Amplitude) (outcomes : List Bool) (turns : ℕ) → (IsZeroVector v → ⊥) → Holds p.precondition (zeros p.bits) v
    → All (PassedHolds p) (run_from p v outcomes turns).passed
    × ((run_from p v outcomes turns).how ≡ How.Ended → (IsZeroVector (run_from p v outcomes turns).last.vector → ⊥)
    → Holds p.postcondition (run_from p v outcomes turns).last.bits (run_from p v outcomes turns).last.vector)
