-- When an obligation needs numbers that don't fit.
use Rattle.std.specs.Prelude.{◌≡◌, Bool, true, List, Contains, ◌⊎◌}
use Rattle.aq_ring.specs.Fractions.{Amplitude}
use Rattle.aq_ring.specs.Amplitudes.{FitsAmplitudeProduct}
use Rattle.aq_prog.specs.Gates.{FitsGate}
use Rattle.aq_prog.specs.Runs.{Played}
use Rattle.aq_obligations.specs.Claims.{ClaimCase, are_met}
use Rattle.aq_obligations.specs.Obligations.{Meaning, IsStart, run_of, IsWhole}

-- a gate on some run from a state of the assumption, however far it goes, has a sum or a quotient by sqrt(2) that doesn't fit
pub record WideGate (o : Meaning) : Type 0 where
  pub bits : List Bool
  pub vector : List Amplitude
  pub outcomes : List Bool
  pub start : IsStart o bits vector
  pub step : Played
  pub played : Contains (run_of o bits vector outcomes).played step
  pub wide : FitsGate o.qubits step.gate step.before → ⊥

-- an entry of some end times an entry of some goal vector for its bits doesn't fit
pub record WideComparison (o : Meaning) : Type 0 where
  pub bits : List Bool
  pub vector : List Amplitude
  pub outcomes : List Bool
  pub start : IsStart o bits vector
  pub whole : IsWhole (run_of o bits vector outcomes)
  pub case : ClaimCase
  pub of_goal : Contains o.goal case
  pub met : are_met case.when (run_of o bits vector outcomes).last.bits ≡ true
  pub goal : List Amplitude
  pub listed : Contains case.vectors goal
  pub left : Amplitude
  pub right : Amplitude
  pub of_end : Contains (run_of o bits vector outcomes).last.vector left
  pub of_vector : Contains goal right
  pub wide : FitsAmplitudeProduct left right → ⊥

-- a product in a tensor or a power of one of its sets doesn't fit
pub record WideSet (o : Meaning) : Type 0 where
  pub left : Amplitude
  pub right : Amplitude
  pub taken : Contains o.products (left, right)
  pub wide : FitsAmplitudeProduct left right → ⊥

abbrev pub IsWide : Meaning → Type 0
IsWide o = WideGate o ⊎ (WideComparison o ⊎ WideSet o)
