-- The cases of an obligation, with the vectors that they list.
use Rattle.std.specs.Prelude.{◌≡◌, ℕ, List, map, All, Contains}
use Rattle.aq_ring.specs.Fractions.{Amplitude}
use Rattle.aq_ring.specs.Amplitudes.{FitsAmplitudeProduct}
use Rattle.aq_prog.specs.declared.program.Program.{Program}
use Rattle.aq_sets.specs.Sizes.{size_of}
use Rattle.aq_sets.specs.Vectors.{vectors_of}
use Rattle.aq_sets.specs.declared.sets.Sets.{Sets}
use Rattle.aq_plain.specs.Listing.{states_of}
use Rattle.aq_plain.specs.Vectors.{StateVector}
use Rattle.aq_obligations.specs.Asking.{cases_of}
use Rattle.aq_obligations.specs.Claims.{ClaimCase}
use Rattle.aq_obligations.specs.declared.bound.BoundCase.{BoundCase}
use Rattle.aq_worlds.specs.Playing.{AreOn, amps_of}
use Rattle.aq_plain_judge.specs.declared.listing.GoalCase.{GoalCase}

-- what the case lists, as states
abbrev pub case_states : Sets → BoundCase → List StateVector
case_states s c = states_of (size_of s.exprs c.set).qubits (vectors_of s.exprs c.set)

-- the case of the definitions that a goal case is
abbrev pub claim_of : GoalCase → ClaimCase
claim_of g = record { vectors = amps_of g.vectors; when = g.when }

abbrev pub claims_of : List GoalCase → List ClaimCase
claims_of goal = map claim_of goal

-- every vector of the goal is on n qubits
abbrev pub IsGoalOn : ℕ → List GoalCase → Type 0
IsGoalOn n goal = All (λ g. AreOn n g.vectors) goal

-- the goal cases are these, in order, each with the vectors that it lists
pub record AreGoal (p : Program) (s : Sets) (cases : List BoundCase) (goal : List GoalCase) : Type 0 where
  pub claims : claims_of goal ≡ cases_of s cases
  pub on : IsGoalOn p.qubits goal

-- one of these products doesn't fit
pub record HasWide (products : List (Amplitude × Amplitude)) : Type 0 where
  pub left : Amplitude
  pub right : Amplitude
  pub taken : Contains products (left, right)
  pub wide : FitsAmplitudeProduct left right → ⊥
