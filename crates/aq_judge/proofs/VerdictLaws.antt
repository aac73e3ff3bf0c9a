-- What is decided justifies the verdict.
use Rattle.std.proofs.Common.{◌≡◌, ℕ, ◌+◌, ◌*◌, ◌≤◌, List, length, arith}
use Rattle.std.specs.List.{sum_by}
use Rattle.aq_ring.specs.Fractions.{Amplitude}
use Rattle.aq_prog.specs.declared.program.Program.{Program}
use Rattle.aq_sets.specs.declared.sets.Sets.{Sets}
use Rattle.aq_store.specs.Count.{Count}
use Rattle.aq_cert.specs.declared.cert.Cert.{Cert}
use Rattle.aq_include.specs.Answers.{cert_size}
use Rattle.aq_obligations.specs.Asking.{meaning_of}
use Rattle.aq_obligations.specs.Obligations.{IsTrueOf, Meaning}
use Rattle.aq_obligations.specs.Wide.{IsWide}
use Rattle.aq_obligations.specs.declared.bound.Obligation.{Obligation}
use Rattle.aq_correct.specs.WorldLaws.{WorldsDecide}
use Rattle.aq_report.specs.Verdicts.{IsJustified}
use Rattle.aq_report.specs.declared.verdict.Verdict.TheVariants as verdict
use Rattle.aq_report.specs.declared.verdict.Why.{Why}
use Rattle.aq_report.specs.declared.verdict.Why.TheVariants as why
use Rattle.aq_symbolic.specs.declared.kept.World.{World}
use Rattle.aq_decide.specs.Asked.{CanBeDecided}
use Rattle.aq_decide.specs.Deciding.{AllHold, IsFirstEscape}
use Rattle.aq_judge.specs.Certified.{AreCertsWithin}
use Rattle.aq_judge.specs.Refuting.{IsShownBy, StopsFor}

pub verified : (p : Program) (s : Sets) (o : Obligation) (certs : List Cert) → WorldsDecide → CanBeDecided p s o → AllHold p s o certs → IsTrueOf (meaning_of p s o)
verified p s o certs law asked h = law.true_of (meaning_of p s o) asked.bound.uncut h.kept

pub certs_within : (limit : ℕ) (p : Program) (s : Sets) (o : Obligation) (certs : List Cert) (now : Count) → AllHold p s o certs
    → sum_by cert_size certs ≤ 2 * now.taken + length certs * (1 + length o.goal.cases) → now.taken ≤ now.limit → now.limit ≡ limit → AreCertsWithin limit p s o certs
certs_within limit p s o certs now h short within e = record { hold = h; short = omega (arith, short, within, e) }

pub shown : (p : Program) (s : Sets) (o : Obligation) (w : World) (word : List ℕ) (state : List Amplitude) → IsFirstEscape p s o w word state → IsShownBy p s o w state
shown p s o w word state h = record { word = word; first = h }

-- what the run isn't shown for, the obligation is given up for
pub gives_up : (limit enough : ℕ) (o : Meaning) (e : Why) → StopsFor (IsWide o) e → IsJustified limit enough o (verdict.GaveUp e)
gives_up limit enough o why.Width h = h
gives_up limit enough o why.Steps h = absurd h
gives_up limit enough o why.Memory h = tt
