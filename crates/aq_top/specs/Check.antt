-- The command `check PROGRAM SETS`: what it reads, and how it ends.
use Rattle.std.specs.Prelude.{◌≡◌, ℕ, ◌≤◌, List, length, Option, Some, Err, ◌⊎◌}
use Rattle.aq_base.specs.Limits.{most_obligations, most_program_bytes, most_sets_bytes}
use Rattle.aq_world.specs.Held.{Held}
use Rattle.aq_prog.specs.declared.program.Program.{Program}
use Rattle.aq_sets.specs.declared.sets.Sets.{Sets}
use Rattle.aq_obligations.specs.declared.bound.Obligation.{Obligation}
use Rattle.aq_owing.specs.Asking.{Asked}
use Rattle.aq_owing.specs.FaultNames.{fault_claim, fault_name}
use Rattle.aq_owing.specs.Made.{made_obligations, obligations_of}
use Rattle.aq_owing.specs.declared.asked.ObligationFault.{ObligationFault}
use Rattle.aq_owing.specs.declared.asked.ObligationFault.TheVariants as owing
use Rattle.aq_report.specs.Texts.{report}
use Rattle.aq_report.specs.Verdicts.{AreJustified}
use Rattle.aq_report.specs.declared.refusal.Refusal.{Refusal}
use Rattle.aq_report.specs.declared.refusal.Refusal.TheVariants as refusal
use Rattle.aq_report.specs.declared.verdict.Verdict.{Verdict}
use Rattle.aq_words.specs.Commands.{CheckWords}
use Rattle.aq_top.specs.Ends.{IsRefused}
use Rattle.aq_top.specs.Judging.{AreDecided, verdicts_status}
use Rattle.aq_top.specs.Reads.{MayHold, ReadsProgram, ReadsSets, ProgramCause, SetsCause}
use Rattle.aq_top.specs.Tasks.{Task, IsTask, owed_in, task_of}
use Rattle.aq_top.specs.declared.status.Status.{Status}

-- ---- what is read

-- both files were read, and say this
pub record ReadsTask (told : Option Held) (words : CheckWords) (t : Task) : Type 0 where
  pub program : List ℕ
  pub program_held : MayHold told words.program program
  pub program_fits : length program ≤ most_program_bytes
  pub sets : List ℕ
  pub sets_held : MayHold told words.sets sets
  pub sets_fit : length sets ≤ most_sets_bytes
  pub says : IsTask program sets words.pre words.post t

-- both files were read, and these are the obligations
pub record ReadsObligations (told : Option Held) (words : CheckWords) (p : Program) (s : Sets) (os : List Obligation) : Type 0 where
  pub claims : Asked
  pub read : ReadsTask told words (task_of p s claims)
  pub owed : os ≡ obligations_of p claims
  pub few : length os ≤ most_obligations

-- ---- refusals

-- the program was read, and this holds besides
pub record BehindProgram (told : Option Held) (name : List ℕ) (P : Type 0) : Type 0 where
  pub program : Program
  pub read : ReadsProgram told name program
  pub then : P

-- this is why a program has no obligations between two claims; for want of memory there need be no reason
abbrev pub ObligationFaultOf : Program → Sets → List ℕ → List ℕ → ObligationFault → Type 0
ObligationFaultOf p s pre post f = (f ≡ owing.Memory → ⊥) → made_obligations p s pre post ≡ Err f

-- the refusal tells the fault: its claim and its name; or there are too many; or memory ran out
abbrev pub TellsObligationFault : ObligationFault → Refusal → Type 0
TellsObligationFault f (refusal.Claim claim name) = (fault_claim f ≡ Some claim) × (name.now ≡ fault_name f)
TellsObligationFault f refusal.TooManyObligations = f ≡ owing.TooManyObligations
TellsObligationFault f refusal.OutOfMemory = f ≡ owing.Memory
TellsObligationFault f _ = ⊥

-- both files were read, and say a program and sets, which have no obligations for a fault that the refusal tells
pub record HasNoObligations (told : Option Held) (words : CheckWords) (refused : Refusal) : Type 0 where
  pub program : Program
  pub read : ReadsProgram told words.program program
  pub sets : Sets
  pub sets_read : ReadsSets told words.sets sets
  pub first : ObligationFault
  pub fault : ObligationFaultOf program sets words.pre words.post first
  pub tells : TellsObligationFault first refused

-- Why a check refuses. The program comes first: the sets' file is read only behind a program, and the claims are looked up only
-- behind sets.
abbrev pub CheckCause : Option Held → (List ℕ → Type 0) → CheckWords → Refusal → Type 0
CheckCause told ReadFailed words refused =
    ProgramCause told ReadFailed words.program refused
    ⊎ (BehindProgram told words.program (SetsCause told ReadFailed words.sets refused)
    ⊎ HasNoObligations told words refused)

-- ---- ends

-- The text is the report of justified verdicts on what the files say, one for each obligation. Each decides its obligation where
-- the limit is enough and no number is too wide.
pub record IsReport (told : Option Held) (words : CheckWords) (result : Status) (text : List ℕ) : Type 0 where
  pub task : Task
  pub read : ReadsTask told words task
  pub verdicts : List Verdict
  pub justified : AreJustified words.steps task.program task.sets (owed_in task) verdicts
  pub decided : AreDecided words.steps task.program task.sets (owed_in task) verdicts
  pub status_is : result ≡ verdicts_status verdicts
  pub text_is : text ≡ report (owed_in task) verdicts

-- a whole output of a check, with the status that goes with it
abbrev pub CheckEnd : Option Held → (List ℕ → Type 0) → CheckWords → Status → List ℕ → Type 0
CheckEnd told ReadFailed words result text =
    IsReport told words result text ⊎ IsRefused (CheckCause told ReadFailed words) result text
