-- What a command reads: the program's file and the sets' file, and why they are refused.
use Rattle.std.specs.Prelude.{◌≡◌, ℕ, ◌<◌, ◌≤◌, false, List, length, Option, Some, None, IfSome}
use Rattle.aq_base.specs.Limits.{most_program_bytes, most_sets_bytes}
use Rattle.aq_world.specs.Causes.{Rose}
use Rattle.aq_world.specs.Held.{Held, bytes_at}
use Rattle.aq_world.specs.Shelves.{ShelfMeaning}
use Rattle.aq_prog.specs.declared.program.Program.{Program}
use Rattle.aq_elab.specs.Texts.{SaysProgram}
use Rattle.aq_set_read.specs.Texts.{SaysSets, SetFaultOf}
use Rattle.aq_set_read.specs.FaultNames as sets
use Rattle.aq_set_read.specs.declared.set_fault.SetFault.{SetFault}
use Rattle.aq_sets.specs.declared.sets.Sets.{Sets}
use Rattle.aq_report.specs.declared.refusal.Refusal.{Refusal}
use Rattle.aq_report.specs.declared.refusal.Refusal.TheVariants as refusal
use Rattle.aq_elab.specs.ProgramFaults.{HasProgramFault, fault_name, fault_place, fault_word}
use Rattle.aq_elab.specs.declared.program.ProgramFault.{ProgramFault}

-- ---- files

-- These may be the bytes of the file: they are, where the shelf tells them.
abbrev pub MayHold : Option Held → List ℕ → List ℕ → Type 0
MayHold told name bytes = IfSome told (λ held. bytes ≡ bytes_at held name)

-- the file is longer than this, where the shelf tells it
abbrev pub IsLonger : Option Held → List ℕ → ℕ → Type 0
IsLonger told name most = IfSome told (λ held. most < length (bytes_at held name))

-- the shelf's count rose in a read of this name
abbrev pub ReadFailedOf : {S : Type 0} → ShelfMeaning S → S → S → List ℕ → Type 0
ReadFailedOf shelf old new name =
    Rose (shelf.faults old) (shelf.faults new) × (shelf.blame new ≡ record { name = name; keep = false })

-- ---- the program

-- the program's file was read, and says this program
pub record ReadsProgram (told : Option Held) (name : List ℕ) (program : Program) : Type 0 where
  pub bytes : List ℕ
  pub held : MayHold told name bytes
  pub fits : length bytes ≤ most_program_bytes
  pub says : SaysProgram bytes program

-- the program's file was read, and has this fault
pub record HasFault (told : Option Held) (name : List ℕ) (f : ProgramFault) : Type 0 where
  pub bytes : List ℕ
  pub held : MayHold told name bytes
  pub fits : length bytes ≤ most_program_bytes
  pub fault : HasProgramFault bytes f

-- The refusal tells the fault: its place and its name, or its place and the word that isn't taken; or memory ran out.
abbrev pub TellsProgramFault : ProgramFault → Refusal → Type 0
TellsProgramFault f (refusal.Program at name) = (fault_place f ≡ Some at) × (fault_word f ≡ None) × (name.now ≡ fault_name f)
TellsProgramFault f (refusal.NotTaken at word) = (fault_place f ≡ Some at) × (fault_word f ≡ Some word)
TellsProgramFault f refusal.OutOfMemory = fault_place f ≡ None
TellsProgramFault f _ = ⊥

-- why the program is refused; want of memory may come at any
abbrev pub ProgramCause : Option Held → (List ℕ → Type 0) → List ℕ → Refusal → Type 0
ProgramCause told ReadFailed name (refusal.ReadFault file) = (file.now ≡ name) × ReadFailed name
ProgramCause told ReadFailed name refusal.ProgramTooLong = IsLonger told name most_program_bytes
ProgramCause told ReadFailed name refusal.OutOfMemory = Unit {0}
ProgramCause told ReadFailed name refused = (f : ProgramFault) × HasFault told name f × TellsProgramFault f refused

-- ---- the sets

-- the sets' file was read, and says these sets
pub record ReadsSets (told : Option Held) (name : List ℕ) (sets : Sets) : Type 0 where
  pub bytes : List ℕ
  pub held : MayHold told name bytes
  pub fits : length bytes ≤ most_sets_bytes
  pub says : SaysSets bytes sets

-- the sets' file was read, and has this fault
pub record HasSetFault (told : Option Held) (name : List ℕ) (f : SetFault) : Type 0 where
  pub bytes : List ℕ
  pub held : MayHold told name bytes
  pub fits : length bytes ≤ most_sets_bytes
  pub fault : SetFaultOf bytes f

-- the refusal tells the fault: its place and its name; or memory ran out
abbrev pub TellsSetFault : SetFault → Refusal → Type 0
TellsSetFault f (refusal.Sets at name) = (sets.fault_place f ≡ Some at) × (name.now ≡ sets.fault_name f)
TellsSetFault f refusal.OutOfMemory = sets.fault_place f ≡ None
TellsSetFault f _ = ⊥

-- why the sets are refused; want of memory may come at any
abbrev pub SetsCause : Option Held → (List ℕ → Type 0) → List ℕ → Refusal → Type 0
SetsCause told ReadFailed name (refusal.ReadFault file) = (file.now ≡ name) × ReadFailed name
SetsCause told ReadFailed name refusal.SetsTooLong = IsLonger told name most_sets_bytes
SetsCause told ReadFailed name refusal.OutOfMemory = Unit {0}
SetsCause told ReadFailed name refused = (f : SetFault) × HasSetFault told name f × TellsSetFault f refused
