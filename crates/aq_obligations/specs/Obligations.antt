-- What obligations mean, and when one is true.
use Rattle.std.specs.Prelude.{◌≡◌, ℕ, Bool, true, false, List, [], All, Any, Contains, length, Option, IfSome}
use Rattle.aq_ring.specs.Fractions.{Amplitude}
use Rattle.aq_ring.specs.Vectors.{IsZeroVector}
use Rattle.aq_prog.specs.Runs.{Run, How, run, has_bit}
use Rattle.aq_prog.specs.declared.stmt.Guard.{Guard}
use Rattle.aq_prog.specs.declared.stmt.Stmt.{Stmt}
use Rattle.aq_obligations.specs.Claims.{ClaimCase, are_met, Holds}

-- What an obligation means: from each state that one of the cases `assumed` lists, every run of the fragment is to end in
-- states that the goal allows.
pub record Meaning : Type 0 where
  pub qubits : ℕ
  pub bits : ℕ
  pub start : Bool  -- the program's start, where every bit is 0
  pub assumed : List ClaimCase
  pub given : Option Guard  -- what is known of a bit besides
  pub fragment : List Stmt
  pub goal : List ClaimCase
  pub products : List (Amplitude × Amplitude)  -- the products that the tensors and powers of its sets take

-- a state that a case lists, with bits that the case allows
abbrev pub IsListed : List Bool → List Amplitude → ClaimCase → Type 0
IsListed bits v c = (are_met c.when bits ≡ true) × Contains c.vectors v

-- the bits and the vector are a state from which the obligation starts
pub record IsStart (o : Meaning) (bits : List Bool) (v : List Amplitude) : Type 0 where
  pub sized : length bits ≡ o.bits
  pub listed : Any (λ c. IsListed bits v c) o.assumed
  pub given : IfSome o.given (λ g. has_bit g bits ≡ true)
  pub zeros : o.start ≡ true → All (λ b. b ≡ false) bits

-- the run of the fragment; a fragment has no loop, so it needs no turn
abbrev pub run_of : Meaning → List Bool → List Amplitude → List Bool → Run
run_of o bits v outcomes = run o.qubits o.fragment (record { bits = bits; vector = v; outcomes = outcomes; turns = 0 })

-- the run came to its end and used its outcomes up
abbrev pub IsWhole : Run → Type 0
IsWhole r = (r.how ≡ How.Ended) × (r.last.outcomes ≡ [])

-- The obligation is true: whatever the outcomes, an end that isn't the zero vector is allowed by the goal.
-- The zero vector is no state: it is what an outcome leaves that never happens.
abbrev pub IsTrueOf : Meaning → Type 0
IsTrueOf o = (bits : List Bool) (v : List Amplitude) (outcomes : List Bool) → IsStart o bits v → IsWhole (run_of o bits v outcomes)
    → (IsZeroVector (run_of o bits v outcomes).last.vector → ⊥)
    → Holds o.goal (run_of o bits v outcomes).last.bits (run_of o bits v outcomes).last.vector

-- what a refutation shows: a state, outcomes, and the end of the run from the state under them
pub record Shown : Type 0 where
  pub bits : List Bool
  pub state : List Amplitude
  pub outcomes : List Bool
  pub end_bits : List Bool
  pub end : List Amplitude

-- The state is one of the assumption, the run of the fragment from it uses the outcomes up and ends in what is shown, and
-- that end isn't zero and isn't allowed by the goal. So the obligation isn't true.
pub record IsCounterexample (o : Meaning) (s : Shown) : Type 0 where
  pub start : IsStart o s.bits s.state
  pub whole : IsWhole (run_of o s.bits s.state s.outcomes)
  pub end_bits_are : s.end_bits ≡ (run_of o s.bits s.state s.outcomes).last.bits
  pub end_is : s.end ≡ (run_of o s.bits s.state s.outcomes).last.vector
  pub nonzero : IsZeroVector s.end → ⊥
  pub escapes : Holds o.goal s.end_bits s.end → ⊥
