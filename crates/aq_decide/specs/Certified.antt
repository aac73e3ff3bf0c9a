-- What was found before of automata and goals.
use Rattle.std.specs.Prelude.{◌≡◌, ◌+◌, ◌*◌, ◌≤◌, List, [], ◌∷◌, ◌++◌, All, length, slice_get, Some, Contains}
use Rattle.std.specs.List.{AllZip}
use Rattle.aq_store.specs.declared.lsta.Lsta.{Lsta}
use Rattle.aq_cert.specs.declared.cert.Cert.{Cert}
use Rattle.aq_include.specs.Answers.{Answers, cert_size, search_budget}
use Rattle.aq_include.specs.declared.inclusion.Answer.{Answer}
use Rattle.aq_include.specs.declared.inclusion.Answer.TheVariants as answer
use Rattle.aq_set_build.specs.Tensors.{Table}
use Rattle.aq_symbolic.specs.Steps.{IsSameSet}
use Rattle.aq_decide.specs.Kept.{alone}
use Rattle.aq_decide.specs.declared.certified.Finding.{Finding}
use Rattle.aq_decide.specs.declared.certified.Findings.{Findings}

-- the automata are the same, one by one
abbrev pub AreSameSets : List Lsta → List Lsta → Type 0
AreSameSets goals made = AllZip IsSameSet goals made

-- the finding is among them, and is of these automata
pub record IsFound (known : Findings) (left : Lsta) (goals : List Lsta) (finding : Finding) : Type 0 where
  pub there : Contains known.entries finding
  pub same_left : IsSameSet finding.left left
  pub same_goals : AreSameSets finding.goals goals

-- The certificate with the finding's number shows that each nonzero vector of the finding's automaton has a match in its
-- goals; the steps that it took pay for it, and the budget of the search for them.
pub record IsCertifiedBy (table : Table) (certs : List Cert) (finding : Finding) : Type 0 where
  pub cert : Cert
  pub listed : slice_get certs finding.cert ≡ Some cert
  pub answers : Answers alone table finding.left finding.goals (answer.Included cert)
  pub paid : cert_size cert ≤ 2 * finding.price + 1 + length finding.goals
  pub cheap : finding.price ≤ search_budget finding.left finding.goals

-- so it is of each finding
abbrev pub AreCertified : Table → List Cert → Findings → Type 0
AreCertified table certs known = All (IsCertifiedBy table certs) known.entries

-- so it is once the certificate of this answer is the next one
abbrev pub AreCertifiedAfter : Table → List Cert → Findings → Answer → Type 0
AreCertifiedAfter table certs known (answer.Included cert) = AreCertified table (certs ++ cert ∷ []) known
AreCertifiedAfter table certs known (answer.Escapes word) = Unit {0}
