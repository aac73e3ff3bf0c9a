-- Claims: what they say of bits and a vector.
use Rattle.std.specs.Prelude.{◌≡◌, Bool, true, List, Any}
use Rattle.std.specs.List.{list_all}
use Rattle.aq_ring.specs.Fractions.{Amplitude}
use Rattle.aq_ring.specs.Vectors.{Proportional}
use Rattle.aq_prog.specs.Runs.{has_bit}
use Rattle.aq_prog.specs.declared.stmt.Guard.{Guard}

-- one case of a claim: the vectors that it lists, and the bits that it asks for
pub record ClaimCase : Type 0 where
  pub vectors : List (List Amplitude)
  pub when : List Guard

-- all conditions hold in the bits
abbrev pub are_met : List Guard → List Bool → Bool
are_met guards bits = list_all (λ g. has_bit g bits) guards

-- the case holds: its conditions do, and the vector is a nonzero multiple of one that it lists
abbrev pub CaseHolds : List Bool → List Amplitude → ClaimCase → Type 0
CaseHolds bits v c = (are_met c.when bits ≡ true) × Any (λ w. Proportional v w) c.vectors

-- the claim holds: one of its cases does
abbrev pub Holds : List ClaimCase → List Bool → List Amplitude → Type 0
Holds cases bits v = Any (λ c. CaseHolds bits v c) cases
