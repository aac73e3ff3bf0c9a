-- What is found of a vector, and of the vectors of a world.
use Rattle.std.specs.Prelude.{◌≡◌, ℕ, Bool, true, List, ◌∷◌, ◌++◌, All, Any, Contains, length, ◌⊎◌}
use Rattle.aq_ring.specs.Fractions.{Amplitude}
use Rattle.aq_ring.specs.Amplitudes.{FitsAmplitudeProduct}
use Rattle.aq_ring.specs.Vectors.{IsZeroVector, Proportional}
use Rattle.aq_obligations.specs.Claims.{ClaimCase, are_met, Holds}
use Rattle.aq_plain_judge.specs.declared.compare.Found.{Found}
use Rattle.aq_plain_judge.specs.declared.compare.Found.TheVariants as found
use Rattle.aq_plain_judge.specs.declared.find.Place.{Place}
use Rattle.aq_plain_judge.specs.declared.find.Place.TheVariants as place

-- some entry of the first vector times some entry of the second doesn't fit
pub record WideProduct (u v : List Amplitude) : Type 0 where
  pub left : Amplitude
  pub right : Amplitude
  pub of_first : Contains u left
  pub of_second : Contains v right
  pub wide : FitsAmplitudeProduct left right → ⊥

-- what is found: what was looked for, unless the vector is zero; that it isn't there; or a product that doesn't fit
abbrev pub Finds : List Amplitude → Type 0 → Type 0 → Found → Type 0
Finds v Is IsWide found.Goal = IsZeroVector v ⊎ Is
Finds v Is IsWide found.Nothing = Is → ⊥
Finds v Is IsWide found.Unclear = IsWide

-- the vector is a nonzero multiple of one of these
abbrev pub IsOneOf : List (List Amplitude) → List Amplitude → Type 0
IsOneOf allowed v = Any (λ w. Proportional v w) allowed

-- a product of one of its entries with an entry of one of these doesn't fit
abbrev pub WideAmong : List (List Amplitude) → List Amplitude → Type 0
WideAmong allowed v = Any (λ w. WideProduct v w) allowed

-- the same of the vectors of a case whose conditions hold in the bits, and of a goal
abbrev pub WideCase : List Bool → List Amplitude → ClaimCase → Type 0
WideCase bits v c = (are_met c.when bits ≡ true) × WideAmong c.vectors v

abbrev pub WideGoal : List ClaimCase → List Bool → List Amplitude → Type 0
WideGoal goal bits v = Any (λ c. WideCase bits v c) goal

-- ---- an end

-- it is zero, or the goal allows it
abbrev pub IsKeptBy : List ClaimCase → List Bool → List Amplitude → Type 0
IsKeptBy goal bits v = IsZeroVector v ⊎ Holds goal bits v

-- what is told of it
abbrev pub Ends : List ClaimCase → List Bool → List Amplitude → Found → Type 0
Ends goal bits v found.Goal = IsKeptBy goal bits v
Ends goal bits v found.Nothing = (IsZeroVector v → ⊥) × (Holds goal bits v → ⊥)
Ends goal bits v found.Unclear = WideGoal goal bits v

-- ---- the vectors of a world

-- the first one that escapes the goal stands at this place
pub record EscapesAt (goal : List ClaimCase) (bits : List Bool) (vectors : List (List Amplitude)) (place : ℕ) : Type 0 where
  pub before : List (List Amplitude)
  pub escaping : List Amplitude
  pub after : List (List Amplitude)
  pub vectors_are : vectors ≡ before ++ escaping ∷ after
  pub place_is : length before ≡ place
  pub before_kept : All (IsKeptBy goal bits) before
  pub nonzero : IsZeroVector escaping → ⊥
  pub escapes : Holds goal bits escaping → ⊥

-- what is told of them: all are kept, the first one that isn't, or that a comparison of one doesn't fit
abbrev pub Places : List ClaimCase → List Bool → List (List Amplitude) → Place → Type 0
Places goal bits vectors place.Kept = All (IsKeptBy goal bits) vectors
Places goal bits vectors (place.Lost at) = EscapesAt goal bits vectors at
Places goal bits vectors place.Unclear = Any (WideGoal goal bits) vectors
