-- What is decided of an obligation.
use Rattle.std.specs.Prelude.{◌≡◌, ℕ, ◌+◌, ◌*◌, ◌≤◌, List, ◌∷◌, ◌++◌, All, length, slice_get, Some}
use Rattle.std.specs.List.{AllZip, sum_by}
use Rattle.aq_ring.specs.Fractions.{Amplitude}
use Rattle.aq_ring.specs.Vectors.{IsZeroVector}
use Rattle.aq_prog.specs.declared.program.Program.{Program}
use Rattle.aq_sets.specs.Sizes.{place, size_of}
use Rattle.aq_sets.specs.declared.sets.Sets.{Sets}
use Rattle.aq_store.specs.Count.{Count}
use Rattle.aq_store.specs.Words.{IsWord}
use Rattle.aq_store.specs.declared.lsta.Lsta.{Lsta}
use Rattle.aq_cert.specs.Goals.{FitTogether}
use Rattle.aq_cert.specs.Valid.{IsValid}
use Rattle.aq_cert.specs.declared.cert.Cert.{Cert}
use Rattle.aq_include.specs.Answers.{cert_size}
use Rattle.aq_obligations.specs.Asking.{case_of, meaning_of}
use Rattle.aq_obligations.specs.Claims.{Holds}
use Rattle.aq_obligations.specs.Obligations.{Meaning}
use Rattle.aq_obligations.specs.Wide.{WideGate, WideSet}
use Rattle.aq_obligations.specs.Worlds.{IsKept, filled, worlds}
use Rattle.aq_obligations.specs.Worlds as meant
use Rattle.aq_obligations.specs.declared.bound.BoundCase.{BoundCase}
use Rattle.aq_obligations.specs.declared.bound.Obligation.{Obligation}
use Rattle.aq_set_build.specs.Tensors.{Table}
use Rattle.aq_symbolic.specs.declared.kept.World.{World}
use Rattle.aq_decide.specs.Goals.{AreBuilt, met_cases}
use Rattle.aq_decide.specs.Kept.{HasVectors, alone}
use Rattle.aq_decide.specs.declared.decision.Decision.{Decision}
use Rattle.aq_decide.specs.declared.decision.Decision.TheVariants as decision

-- no vector of the worlds escapes the goal
abbrev pub AreKept : Meaning → List meant.World → Type 0
AreKept o all = All (λ w. All (IsKept o w) w.vectors) all

-- The certificate is valid for an automaton that has the vectors of the world, and for those of the goal's cases whose
-- conditions hold in the world's bits, in their order.
pub record IsCertified (s : Sets) (o : Obligation) (u : meant.World) (cert : Cert) : Type 0 where
  pub case : BoundCase
  pub of_case : u.case ≡ case_of s case
  pub table : Table
  pub left : Lsta
  pub goals : List Lsta
  pub has_vectors : HasVectors s case table left u.vectors
  pub are_goals : AreBuilt s (met_cases o.goal.cases u.bits) table goals
  pub fit : FitTogether table left goals
  pub valid : IsValid alone table left goals cert

-- each world has its certificate, none of its vectors escapes the goal, and no gate and no product of the sets was wide
pub record AllHold (p : Program) (s : Sets) (o : Obligation) (certs : List Cert) : Type 0 where
  pub certified : AllZip (IsCertified s o) (worlds (meaning_of p s o)) certs
  pub kept : AreKept (meaning_of p s o) (worlds (meaning_of p s o))
  pub no_wide_gate : WideGate (meaning_of p s o) → ⊥
  pub no_wide_set : WideSet (meaning_of p s o) → ⊥

-- the first vector of the world that escapes stands at this place
pub record IsEscapeAt (o : Meaning) (w : meant.World) (place : ℕ) : Type 0 where
  pub before : List (List Amplitude)
  pub escaping : List Amplitude
  pub after : List (List Amplitude)
  pub vectors_are : w.vectors ≡ before ++ escaping ∷ after
  pub place_is : length before ≡ place
  pub before_kept : All (IsKept o w) before
  pub nonzero : IsZeroVector escaping → ⊥
  pub escapes : Holds o.goal (filled w.bits) escaping → ⊥

-- The first world with a vector that escapes has this case, these bits and these outcomes, and the first such vector is
-- at the word's place, as this state is among the vectors of the case.
pub record IsFirstEscape (p : Program) (s : Sets) (o : Obligation) (w : World) (word : List ℕ) (state : List Amplitude) : Type 0 where
  pub earlier : List meant.World
  pub world : meant.World
  pub later : List meant.World
  pub worlds_are : worlds (meaning_of p s o) ≡ earlier ++ world ∷ later
  pub earlier_kept : AreKept (meaning_of p s o) earlier
  pub case : BoundCase
  pub number : slice_get o.from w.case ≡ Some case
  pub of_case : world.case ≡ case_of s case
  pub start : world.start ≡ w.start
  pub bits : world.bits ≡ w.bits
  pub outcomes : world.outcomes ≡ w.outcomes
  pub is_word : IsWord (size_of s.exprs case.set).shape word
  pub escape : IsEscapeAt (meaning_of p s o) world (place s.exprs case.set word)
  pub state_is : slice_get world.case.vectors (place s.exprs case.set word) ≡ Some state

-- what is decided
abbrev pub Decides : Program → Sets → Obligation → Decision → Type 0
Decides p s o (decision.Holds certs) = AllHold p s o certs
Decides p s o (decision.Escapes world word state) = IsFirstEscape p s o world word state.items

-- the domain members and the pairs of all certificates are together at most twice the steps that were taken, and for
-- each certificate one and the number of the goal's cases
abbrev pub IsShort : ℕ → Count → Decision → Type 0
IsShort cases now (decision.Holds certs) = sum_by cert_size certs ≤ 2 * now.taken + length certs * (1 + cases)
IsShort cases now (decision.Escapes world word state) = Unit {0}
