-- When an obligation goes with a program and its sets.
use Rattle.std.specs.Prelude.{◌≡◌, ◌<◌, All, length, IfSome}
use Rattle.aq_prog.specs.Cuts.{AreUncut}
use Rattle.aq_prog.specs.Programs.{IsValidStmt}
use Rattle.aq_prog.specs.declared.program.Program.{Program}
use Rattle.aq_sets.specs.Sizes.{size_of}
use Rattle.aq_sets.specs.declared.sets.Sets.{Sets}
use Rattle.aq_obligations.specs.declared.bound.BoundCase.{BoundCase}
use Rattle.aq_obligations.specs.declared.bound.Obligation.{Obligation}

-- its expression is there and is on the program's qubits, and its conditions are on bits of the program
pub record IsBoundCase (p : Program) (s : Sets) (c : BoundCase) : Type 0 where
  pub there : c.set < length s.exprs
  pub qubits : (size_of s.exprs c.set).qubits ≡ p.qubits
  pub bits : All (λ g. g.bit < p.bits) c.when

-- The obligation goes with the program and the sets: its cases do, its statements and the bit that is given are the program's,
-- and no statement is a cut.
pub record IsBoundObligation (p : Program) (s : Sets) (o : Obligation) : Type 0 where
  pub from : All (IsBoundCase p s) o.from
  pub given : IfSome o.given (λ g. g.bit < p.bits)
  pub fragment : All (IsValidStmt p.qubits p.bits (length p.claims)) o.fragment
  pub uncut : AreUncut o.fragment
  pub goal : All (IsBoundCase p s) o.goal.cases
