-- What a program and a set file ask to be judged.
use Rattle.std.specs.Prelude.{◌≡◌, ℕ, List, Ok, false}
use Rattle.aq_prog.specs.declared.program.Program.{Program}
use Rattle.aq_set_read.specs.Texts.{SaysSets}
use Rattle.aq_sets.specs.declared.sets.Sets.{Sets}
use Rattle.aq_elab.specs.Texts.{SaysProgram}
use Rattle.aq_obligations.specs.Correct.{Annotated}
use Rattle.aq_obligations.specs.declared.bound.Obligation.{Obligation}
use Rattle.aq_owing.specs.Asking.{Asked, asked}
use Rattle.aq_owing.specs.Made.{annotated, are_too_many, obligations_of, owed_by}

-- a program, sets, and the cases of the claims that are asked
pub record Task : Type 0 where
  pub program : Program
  pub sets : Sets
  pub claims : Asked

-- The two texts say this, between the claims with these two names, and there aren't too many obligations.
pub record IsTask (program sets pre post : List ℕ) (t : Task) : Type 0 where
  pub program_is : SaysProgram program t.program
  pub sets_are : SaysSets sets t.sets
  pub claims_are : asked t.program t.sets pre post ≡ Ok t.claims
  pub few : are_too_many (owed_by t.program t.claims) ≡ false

-- what the task owes
abbrev pub owed_in : Task → List Obligation
owed_in t = obligations_of t.program t.claims

-- the annotated program of the task
abbrev pub program_of : Task → Annotated
program_of t = annotated t.program t.sets t.claims

abbrev pub task_of : Program → Sets → Asked → Task
task_of p s a = record { program = p; sets = s; claims = a }
