-- Which certificates come with a verdict.
use Rattle.std.specs.Prelude.{◌≡◌, ℕ, ◌+◌, ◌*◌, ◌≤◌, List, [], length}
use Rattle.std.specs.List.{sum_by}
use Rattle.aq_prog.specs.declared.program.Program.{Program}
use Rattle.aq_sets.specs.declared.sets.Sets.{Sets}
use Rattle.aq_cert.specs.declared.cert.Cert.{Cert}
use Rattle.aq_include.specs.Answers.{cert_size}
use Rattle.aq_obligations.specs.declared.bound.Obligation.{Obligation}
use Rattle.aq_report.specs.declared.verdict.Verdict.{Verdict}
use Rattle.aq_report.specs.declared.verdict.Verdict.TheVariants as verdict
use Rattle.aq_decide.specs.Deciding.{AllHold}
use Rattle.aq_judge.specs.declared.judged.Judged.{Judged}

-- Each world has its valid certificate, and neither a gate nor a product of the sets is wide. The domain members and the
-- pairs of all certificates are together at most twice the limit, and for each certificate one and the number of the goal's
-- cases.
pub record AreCertsWithin (limit : ℕ) (p : Program) (s : Sets) (o : Obligation) (certs : List Cert) : Type 0 where
  pub hold : AllHold p s o certs
  pub short : sum_by cert_size certs ≤ 2 * limit + length certs * (1 + length o.goal.cases)

-- the certificates of a verdict: those where it is that the obligation is true, and else none
abbrev pub AreCertsOf : ℕ → Program → Sets → Obligation → Verdict → List Cert → Type 0
AreCertsOf limit p s o verdict.Verified certs = AreCertsWithin limit p s o certs
AreCertsOf limit p s o (verdict.Refuted r) certs = certs ≡ []
AreCertsOf limit p s o (verdict.GaveUp why) certs = certs ≡ []

-- what is judged has the certificates of its verdict
abbrev pub HasItsCerts : ℕ → Program → Sets → Obligation → Judged → Type 0
HasItsCerts limit p s o judged = AreCertsOf limit p s o judged.verdict judged.certs
