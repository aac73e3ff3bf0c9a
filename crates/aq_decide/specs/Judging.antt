-- What is told of worlds, one after the other.
use Rattle.std.specs.Prelude.{ℕ, ◌+◌, ◌*◌, ◌≤◌, All, length}
use Rattle.std.specs.List.{AllZip, sum_by}
use Rattle.aq_prog.specs.declared.program.Program.{Program}
use Rattle.aq_sets.specs.Sizes.{place, size_of}
use Rattle.aq_sets.specs.declared.sets.Sets.{Sets}
use Rattle.aq_store.specs.Count.{Count}
use Rattle.aq_store.specs.Words.{IsWord}
use Rattle.aq_include.specs.Answers.{cert_size}
use Rattle.aq_include.specs.declared.inclusion.Answer.{Answer}
use Rattle.aq_include.specs.declared.inclusion.Answer.TheVariants as answer
use Rattle.aq_obligations.specs.Asking.{meaning_of}
use Rattle.aq_obligations.specs.Worlds.{IsKept, worlds}
use Rattle.aq_obligations.specs.Worlds as meant
use Rattle.aq_obligations.specs.declared.bound.BoundCase.{BoundCase}
use Rattle.aq_obligations.specs.declared.bound.Obligation.{Obligation}
use Rattle.aq_decide.specs.Deciding.{AreKept, IsCertified, IsEscapeAt, IsFirstEscape}
use Rattle.aq_decide.specs.declared.decision.Decision.{Decision}
use Rattle.aq_decide.specs.declared.decision.Decision.TheVariants as decision

-- of a world of the case: none of its vectors escapes, as the certificate shows; or the first one that does is at the
-- word's place
abbrev pub Tells : Program → Sets → Obligation → BoundCase → meant.World → Answer → Type 0
Tells p s o c u (answer.Included cert) = IsCertified s o u cert × All (IsKept (meaning_of p s o) u) u.vectors
Tells p s o c u (answer.Escapes word) =
    IsWord (size_of s.exprs c.set).shape word × IsEscapeAt (meaning_of p s o) u (place s.exprs c.set word)

-- of all worlds
abbrev pub Judges : Program → Sets → Obligation → Decision → Type 0
Judges p s o (decision.Holds certs) =
    AllZip (IsCertified s o) (worlds (meaning_of p s o)) certs × AreKept (meaning_of p s o) (worlds (meaning_of p s o))
Judges p s o (decision.Escapes world word state) = IsFirstEscape p s o world word state.items

-- the steps that were taken meanwhile pay for the certificates
abbrev pub IsPaidFor : ℕ → Count → Count → Decision → Type 0
IsPaidFor cases before now (decision.Holds certs) =
    sum_by cert_size certs + 2 * before.taken ≤ 2 * now.taken + length certs * (1 + cases)
IsPaidFor cases before now (decision.Escapes world word state) = Unit {0}

-- the same of one certificate
abbrev pub IsPaidWithin : ℕ → Count → Count → Answer → Type 0
IsPaidWithin cases before now (answer.Included cert) = cert_size cert + 2 * before.taken ≤ 2 * now.taken + 1 + cases
IsPaidWithin cases before now (answer.Escapes word) = Unit {0}
