-- When a verdict is justified.
use Rattle.std.specs.Prelude.{◌≡◌, ℕ, ◌<◌, List, [], ◌∷◌}
use Rattle.aq_prog.specs.declared.program.Program.{Program}
use Rattle.aq_sets.specs.declared.sets.Sets.{Sets}
use Rattle.aq_obligations.specs.Asking.{meaning_of}
use Rattle.aq_obligations.specs.Enough.{enough}
use Rattle.aq_obligations.specs.Obligations.{Meaning, Shown, IsTrueOf, IsCounterexample}
use Rattle.aq_obligations.specs.Wide.{IsWide}
use Rattle.aq_obligations.specs.Worlds.{IsRefutation}
use Rattle.aq_obligations.specs.declared.bound.Obligation.{Obligation}
use Rattle.aq_report.specs.declared.verdict.Refutation.{Refutation}
use Rattle.aq_report.specs.declared.verdict.Verdict.{Verdict}
use Rattle.aq_report.specs.declared.verdict.Verdict.TheVariants as verdict
use Rattle.aq_report.specs.declared.verdict.Why.TheVariants as why

abbrev pub shown_by : Refutation → Shown
shown_by r = record { bits = r.bits; state = r.state.amps; outcomes = r.outcomes; end_bits = r.end_bits; end = r.end.amps }

-- What is shown is the obligation's one refutation, over its qubits. So the run from the state shown, under the outcomes
-- shown, ends in what is shown; and no nonzero multiple of that end is allowed by the goal.
pub record IsRefutedBy (o : Meaning) (r : Refutation) : Type 0 where
  pub state_qubits : r.state.qubits ≡ o.qubits
  pub end_qubits : r.end.qubits ≡ o.qubits
  pub refutation : IsRefutation o (shown_by r)
  pub counterexample : IsCounterexample o (shown_by r)

-- A verdict under a limit of steps, where so many are enough. Steps are given up for only where the limit is below that
-- number, and want of memory is the one free answer.
abbrev pub IsJustified : ℕ → ℕ → Meaning → Verdict → Type 0
IsJustified limit enough o verdict.Verified = IsTrueOf o
IsJustified limit enough o (verdict.Refuted r) = IsRefutedBy o r
IsJustified limit enough o (verdict.GaveUp why.Width) = IsWide o
IsJustified limit enough o (verdict.GaveUp why.Steps) = limit < enough
IsJustified limit enough o (verdict.GaveUp why.Memory) = Unit {0}

-- There is one verdict for each obligation of the program, and each is justified.
abbrev pub AreJustified : ℕ → Program → Sets → List Obligation → List Verdict → Type 0
AreJustified limit p s [] [] = Unit {0}
AreJustified limit p s (o ∷ os) (v ∷ vs) = IsJustified limit (enough p s o) (meaning_of p s o) v × AreJustified limit p s os vs
AreJustified limit p s [] (v ∷ vs) = ⊥
AreJustified limit p s (o ∷ os) [] = ⊥
