-- What is asked of those who want an obligation decided.
use Rattle.aq_prog.specs.Programs.{IsValidProgram}
use Rattle.aq_prog.specs.declared.program.Program.{Program}
use Rattle.aq_sets.specs.Valid.{IsValidSets}
use Rattle.aq_sets.specs.declared.sets.Sets.{Sets}
use Rattle.aq_obligations.specs.Bound.{IsBoundObligation}
use Rattle.aq_obligations.specs.declared.bound.Obligation.{Obligation}

-- The program and the sets are valid, and the obligation goes with them.
pub record CanBeDecided (p : Program) (s : Sets) (o : Obligation) : Type 0 where
  pub program : IsValidProgram p
  pub sets : IsValidSets s
  pub bound : IsBoundObligation p s o
