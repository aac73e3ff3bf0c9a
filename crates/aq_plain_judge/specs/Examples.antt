-- Obligations and sets to try the judge on.
use Rattle.std.specs.Prelude.{◌≡◌, ℕ, ◌<◌, false, List, [], ◌∷◌, All, IfSome}
use Rattle.aq_ring.specs.Fractions.{Amplitude}
use Rattle.aq_ring.specs.Amplitudes.{amplitude_one}
use Rattle.aq_prog.specs.Cuts.{has_cut}
use Rattle.aq_prog.specs.Programs.{IsValidStmt}
use Rattle.aq_prog.specs.declared.stmt.Stmt.{Stmt}
use Rattle.aq_sets.specs.declared.sets.Expr.{Expr}
use Rattle.aq_sets.specs.declared.sets.Expr.TheVariants as expr
use Rattle.aq_obligations.specs.declared.bound.BoundCase.{BoundCase}
use Rattle.aq_obligations.specs.declared.bound.Obligation.{Obligation}

-- a statement on one qubit and one bit that is no cut
pub record IsSmallStmt (s : Stmt) : Type 0 where
  pub valid : IsValidStmt 1 1 0 s
  pub uncut : has_cut s ≡ false

abbrev pub one_ket : ℕ → Amplitude → Expr
one_ket index a = expr.Kets 1 (record { index = index; amp = a } ∷ [])

abbrev pub both_kets : Amplitude → Amplitude → Expr
both_kets a b = expr.Kets 1 (record { index = 0; amp = a } ∷ record { index = 1; amp = b } ∷ [])

-- [|0>], [a|1>], all 1, the union of the first two, [a|0> + |1>] and [|0> + a|1>]
abbrev pub table : Amplitude → List Expr
table a = one_ket 0 amplitude_one ∷ one_ket 1 a ∷ expr.All 1 ∷ expr.Union 0 1 ∷ both_kets a amplitude_one ∷ both_kets amplitude_one a ∷ []

-- a case of one of six expressions, on bit 0
pub record IsSmallCase (c : BoundCase) : Type 0 where
  pub there : c.set < 6
  pub bits : All (λ g. g.bit < 1) c.when

-- an obligation of such cases and statements
pub record IsSmallObligation (o : Obligation) : Type 0 where
  pub from : All IsSmallCase o.from
  pub given : IfSome o.given (λ g. g.bit < 1)
  pub fragment : All IsSmallStmt o.fragment
  pub goal : All IsSmallCase o.goal.cases
