-- What is asked of those who want the worlds of an obligation.
use Rattle.std.specs.Prelude.{◌≡◌, List}
use Rattle.aq_prog.specs.Programs.{IsValidProgram}
use Rattle.aq_prog.specs.declared.program.Program.{Program}
use Rattle.aq_sets.specs.Valid.{IsValidSets}
use Rattle.aq_sets.specs.declared.sets.Sets.{Sets}
use Rattle.aq_plain.specs.Vectors.{StateVector}
use Rattle.aq_obligations.specs.Asking.{case_of}
use Rattle.aq_obligations.specs.Bound.{IsBoundObligation}
use Rattle.aq_obligations.specs.declared.bound.BoundCase.{BoundCase}
use Rattle.aq_obligations.specs.declared.bound.Obligation.{Obligation}
use Rattle.aq_worlds.specs.Playing.{AreOn, amps_of}

-- The program and the sets are valid, and the obligation goes with them.
pub record CanBeJudged (p : Program) (s : Sets) (o : Obligation) : Type 0 where
  pub program : IsValidProgram p
  pub sets : IsValidSets s
  pub bound : IsBoundObligation p s o

-- the vectors are those that the case lists, in order, each on the program's qubits
pub record AreListedBy (p : Program) (s : Sets) (c : BoundCase) (vectors : List StateVector) : Type 0 where
  pub amps : amps_of vectors ≡ (case_of s c).vectors
  pub qubits : AreOn p.qubits vectors
