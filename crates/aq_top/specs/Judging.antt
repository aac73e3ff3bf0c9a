-- The verdicts of a report: the status that goes with them, and what was written of them.
use Rattle.std.specs.Prelude.{◌≡◌, ℕ, ◌≤◌, List, ◌∷◌, Result, IfOk, count_by, if◌then◌else◌}
use Rattle.std.specs.List.{list_any}
use Rattle.aq_prog.specs.declared.program.Program.{Program}
use Rattle.aq_sets.specs.declared.sets.Sets.{Sets}
use Rattle.aq_world.specs.Prints.{Prints}
use Rattle.aq_world.specs.Sinks.{SinkMeaning}
use Rattle.aq_world.specs.declared.sink.SinkFault.{SinkFault}
use Rattle.aq_obligations.specs.Asking.{meaning_of}
use Rattle.aq_obligations.specs.Enough.{enough}
use Rattle.aq_obligations.specs.Obligations.{Meaning, IsTrueOf}
use Rattle.aq_obligations.specs.Wide.{IsWide}
use Rattle.aq_obligations.specs.declared.bound.Obligation.{Obligation}
use Rattle.aq_report.specs.Texts.{is_verified, is_refuted, is_given_up}
use Rattle.aq_report.specs.Verdicts.{AreJustified}
use Rattle.aq_report.specs.declared.verdict.Verdict.{Verdict}
use Rattle.aq_report.specs.declared.verdict.Verdict.TheVariants as verdict
use Rattle.aq_report.specs.declared.verdict.Why.TheVariants as why
use Rattle.aq_top.specs.Ends.{Ends, IsText}
use Rattle.aq_top.specs.declared.judging.Tally.{Tally}
use Rattle.aq_top.specs.declared.status.Status.{Status}
use Rattle.aq_top.specs.declared.status.Status.TheVariants as status

-- the status of a report: refuted where some verdict is, else gave up where some obligation was given up
abbrev pub verdicts_status : List Verdict → Status
verdicts_status verdicts =
    if list_any is_refuted verdicts then status.Refuted else (if list_any is_given_up verdicts then status.GaveUp else status.Good)

-- it decides the obligation: verified where that is true, else refuted; or memory ran out
abbrev pub Decides : Meaning → Verdict → Type 0
Decides o verdict.Verified = IsTrueOf o
Decides o (verdict.Refuted r) = IsTrueOf o → ⊥
Decides o (verdict.GaveUp why.Memory) = Unit {0}
Decides o (verdict.GaveUp w) = ⊥

-- A verdict under a limit of steps, where so many are enough, decides the obligation where the limit is enough and each number
-- that it needs fits.
abbrev pub IsDecided : ℕ → ℕ → Meaning → Verdict → Type 0
IsDecided limit most o v = most ≤ limit → (IsWide o → ⊥) → Decides o v

-- each verdict is such a one
abbrev pub AreDecided : ℕ → Program → Sets → List Obligation → List Verdict → Type 0
AreDecided limit p s (o ∷ os) (v ∷ vs) = IsDecided limit (enough p s o) (meaning_of p s o) v × AreDecided limit p s os vs
AreDecided limit p s _ _ = Unit {0}

-- it counts the verdicts
pub record IsTally (t : Tally) (verdicts : List Verdict) : Type 0 where
  pub verified : t.verified ≡ count_by is_verified verdicts
  pub refuted : t.refuted ≡ count_by is_refuted verdicts
  pub gave_up : t.gave_up ≡ count_by is_given_up verdicts

-- There is a justified verdict for each obligation, and what was printed is a text of the verdicts, which are counted where all was
-- printed.
pub record PrintsVerdicts {S : Type 0} (sink : SinkMeaning S) (old new : S) (limit : ℕ) (p : Program) (s : Sets) (os : List Obligation) (text : List Verdict → List ℕ)
    (result : Result Tally SinkFault) : Type 0 where
  pub verdicts : List Verdict
  pub justified : AreJustified limit p s os verdicts
  pub prints : Prints sink old new result (text verdicts)
  pub counts : IfOk result (λ t. IsTally t verdicts)

-- There is a justified verdict for each obligation, and these are counted.
pub record CountsVerdicts (limit : ℕ) (p : Program) (s : Sets) (os : List Obligation) (t : Tally) : Type 0 where
  pub verdicts : List Verdict
  pub justified : AreJustified limit p s os verdicts
  pub counts : IsTally t verdicts

-- There is a justified verdict for each obligation, and the run ended with a text of the verdicts.
pub record EndsWithVerdicts {S : Type 0} (sink : SinkMeaning S) (old new : S) (limit : ℕ) (p : Program) (s : Sets) (os : List Obligation) (text : List Verdict → List ℕ)
    (result : Status) : Type 0 where
  pub verdicts : List Verdict
  pub justified : AreJustified limit p s os verdicts
  pub ends : Ends sink old new (IsText (verdicts_status verdicts) (text verdicts)) result
