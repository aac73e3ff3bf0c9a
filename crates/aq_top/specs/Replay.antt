-- The command `replay PROGRAM SETS --state NAME [--outcomes TEXT]`: what it reads, the run that it plays, and how it ends.
use Rattle.std.specs.Prelude.{◌≡◌, ℕ, ◌≤◌, ◌==◌, Bool, true, false, List, [], ◌∷◌, length, Option, Some, None, Ok, Err, ◌⊎◌, codes, if◌then◌else◌}
use Rattle.std.specs.List.{find}
use Rattle.std.specs.Str.{bytes_eq}
use Rattle.aq_base.specs.Checks.{CheckedBy, all_checked}
use Rattle.aq_ring.specs.Fractions.{Amplitude}
use Rattle.aq_world.specs.Held.{Held}
use Rattle.aq_prog.specs.Runs.{State}
use Rattle.aq_prog.specs.declared.program.Program.{Program}
use Rattle.aq_sets.specs.Sizes.{size_of}
use Rattle.aq_sets.specs.Vectors.{products_of, vectors_of}
use Rattle.aq_sets.specs.declared.sets.Expr.{Expr}
use Rattle.aq_sets.specs.declared.sets.NamedSet.{NamedSet}
use Rattle.aq_sets.specs.declared.sets.Sets.{Sets}
use Rattle.aq_plain.specs.Listing.{AllFit, IsWideAmong}
use Rattle.aq_plain.specs.Replaying.{Replays, start_of}
use Rattle.aq_plain.specs.declared.replay_stop.Played.{Played}
use Rattle.aq_plain.specs.declared.replay_stop.ReplayStop.{ReplayStop}
use Rattle.aq_plain.specs.declared.replay_stop.ReplayStop.TheVariants as stop
use Rattle.aq_obligations.specs.Correct.{zeros}
use Rattle.aq_report.specs.Texts.{replay_text}
use Rattle.aq_report.specs.declared.refusal.Refusal.{Refusal}
use Rattle.aq_report.specs.declared.refusal.Refusal.TheVariants as refusal
use Rattle.aq_words.specs.Commands.{ReplayWords}
use Rattle.aq_top.specs.Ends.{IsRefused}
use Rattle.aq_top.specs.Reads.{ReadsProgram, ReadsSets, ProgramCause, SetsCause}
use Rattle.aq_top.specs.declared.outcomes.OutcomesFault.{OutcomesFault}
use Rattle.aq_top.specs.declared.outcomes.OutcomesFault.TheVariants as digits
use Rattle.aq_top.specs.declared.state.StateFault.{StateFault}
use Rattle.aq_top.specs.declared.state.StateFault.TheVariants as state
use Rattle.aq_top.specs.declared.status.Status.{Status}
use Rattle.aq_top.specs.declared.status.Status.TheVariants as status

-- ---- the state of the start

-- the set with this name
abbrev pub set_named : List NamedSet → List ℕ → Option NamedSet
set_named sets name = find (λ s. bytes_eq s.name name) sets

-- the set with this name, which is on the program's qubits
pub record IsSetFor (p : Program) (s : Sets) (name : List ℕ) (set : NamedSet) : Type 0 where
  pub named : set_named s.sets name ≡ Some set
  pub qubits : (size_of s.exprs set.expr).qubits ≡ p.qubits

-- the expression lists this vector alone, and each product that is taken for it fits
pub record IsOnlyVector (exprs : List Expr) (expr : ℕ) (v : List Amplitude) : Type 0 where
  pub one : vectors_of exprs expr ≡ v ∷ []
  pub fits : AllFit (products_of exprs expr)

-- the one vector of the set with this name
pub record IsStateOf (p : Program) (s : Sets) (name : List ℕ) (v : List Amplitude) : Type 0 where
  pub set : NamedSet
  pub found : IsSetFor p s name set
  pub only : IsOnlyVector s.exprs set.expr v

-- why an expression gives no vector: it doesn't list exactly one; or else a product that is taken for it doesn't fit
abbrev pub HasVectorFault : List Expr → ℕ → StateFault → Type 0
HasVectorFault exprs expr state.NotOne = length (vectors_of exprs expr) ≡ 1 → ⊥
HasVectorFault exprs expr state.Wide =
    (length (vectors_of exprs expr) ≤ 1) × (left : Amplitude) × (right : Amplitude) × IsWideAmong (products_of exprs expr) left right
HasVectorFault exprs expr state.Memory = Unit {0}
HasVectorFault exprs expr _ = ⊥

-- Why a name gives no state of the program: no set has it; or its set is on other qubits; or it is on the program's, and
-- gives no vector. Want of memory has no cause.
abbrev pub HasStateFault : Program → Sets → List ℕ → StateFault → Type 0
HasStateFault p s name state.UnknownSet = set_named s.sets name ≡ None
HasStateFault p s name state.QubitsDiffer = (set : NamedSet) × (set_named s.sets name ≡ Some set) × ((size_of s.exprs set.expr).qubits ≡ p.qubits → ⊥)
HasStateFault p s name state.Memory = Unit {0}
HasStateFault p s name fault = (set : NamedSet) × IsSetFor p s name set × HasVectorFault s.exprs set.expr fault

-- ---- outcomes

-- the outcome that a byte says: the digit 0 or 1
abbrev pub outcome_of : ℕ → CheckedBy OutcomesFault Bool
outcome_of byte = if byte == 48 then Ok false else (if byte == 49 then Ok true else Err digits.BadOutcomes)

-- the outcomes that digits say, one by one
abbrev pub outcomes_of : List ℕ → CheckedBy OutcomesFault (List Bool)
outcomes_of text = all_checked outcome_of text

-- this is the fault of the digits; for want of memory there need be none
abbrev pub OutcomesFaultOf : List ℕ → OutcomesFault → Type 0
OutcomesFaultOf text f = (f ≡ digits.Memory → ⊥) → outcomes_of text ≡ Err f

-- ---- what is read

-- Both files were read, and say the program and sets. The vector is the one of the set that is named, and the outcomes are
-- those of the digits.
pub record ReadsStart (told : Option Held) (words : ReplayWords) (p : Program) (v : List Amplitude) (outcomes : List Bool) : Type 0 where
  pub program : ReadsProgram told words.program p
  pub sets : Sets
  pub sets_read : ReadsSets told words.sets sets
  pub vector : IsStateOf p sets words.state v
  pub digits : outcomes_of words.outcomes ≡ Ok outcomes

-- where the run begins: each bit is 0
abbrev pub begins : Program → List Amplitude → List Bool → State
begins p v outcomes = start_of (zeros p.bits) v outcomes

-- ---- refusals

-- the names of faults; want of memory has none
abbrev pub state_fault_name : StateFault → Option (List ℕ)
state_fault_name state.UnknownSet = Some (codes "UnknownSet")
state_fault_name state.QubitsDiffer = Some (codes "QubitsDiffer")
state_fault_name state.NotOne = Some (codes "NotOne")
state_fault_name state.Wide = Some (codes "Wide")
state_fault_name state.Memory = None

abbrev pub outcomes_fault_name : OutcomesFault → Option (List ℕ)
outcomes_fault_name digits.BadOutcomes = Some (codes "BadOutcomes")
outcomes_fault_name digits.Memory = None

abbrev pub stop_name : ReplayStop → Option (List ℕ)
stop_name stop.NotLoopFree = Some (codes "NotLoopFree")
stop_name stop.ShortOutcomes = Some (codes "ShortOutcomes")
stop_name (stop.Impossible number) = Some (codes "Impossible")
stop_name stop.Blocked = Some (codes "Blocked")
stop_name (stop.Wide left right) = Some (codes "Wide")
stop_name (stop.LongOutcomes left) = Some (codes "LongOutcomes")
stop_name stop.Memory = None

-- the refusal tells the name of a fault of the set; or memory ran out
abbrev pub TellsOfSet : List ℕ → Option (List ℕ) → Refusal → Type 0
TellsOfSet asked name (refusal.Set set said) = (set.now ≡ asked) × (name ≡ Some said.now)
TellsOfSet asked name refusal.OutOfMemory = name ≡ None
TellsOfSet asked name _ = ⊥

-- the refusal tells the name of a fault of the replay; or memory ran out
abbrev pub TellsOfReplay : Option (List ℕ) → Refusal → Type 0
TellsOfReplay name (refusal.Replay said) = name ≡ Some said.now
TellsOfReplay name refusal.OutOfMemory = name ≡ None
TellsOfReplay name _ = ⊥

-- the program was read, and the sets have a cause
pub record HasNoSets (told : Option Held) (ReadFailed : List ℕ → Type 0) (words : ReplayWords) (refused : Refusal) : Type 0 where
  pub program : Program
  pub read : ReadsProgram told words.program program
  pub cause : SetsCause told ReadFailed words.sets refused

-- both files were read, and the name gives no state
pub record HasNoState (told : Option Held) (words : ReplayWords) (refused : Refusal) : Type 0 where
  pub program : Program
  pub read : ReadsProgram told words.program program
  pub sets : Sets
  pub sets_read : ReadsSets told words.sets sets
  pub fault : StateFault
  pub cause : HasStateFault program sets words.state fault
  pub tells : TellsOfSet words.state (state_fault_name fault) refused

-- both files were read, and the name gives a state, and the digits say no outcomes
pub record HasNoOutcomes (told : Option Held) (words : ReplayWords) (refused : Refusal) : Type 0 where
  pub program : Program
  pub read : ReadsProgram told words.program program
  pub sets : Sets
  pub sets_read : ReadsSets told words.sets sets
  pub vector : List Amplitude
  pub state : IsStateOf program sets words.state vector
  pub fault : OutcomesFault
  pub cause : OutcomesFaultOf words.outcomes fault
  pub tells : TellsOfReplay (outcomes_fault_name fault) refused

-- all was read, and the run isn't replayed to its end
pub record IsHalted (told : Option Held) (words : ReplayWords) (refused : Refusal) : Type 0 where
  pub program : Program
  pub vector : List Amplitude
  pub outcomes : List Bool
  pub read : ReadsStart told words program vector outcomes
  pub fault : ReplayStop
  pub cause : Replays program.qubits program.body (begins program vector outcomes) (Err fault)
  pub tells : TellsOfReplay (stop_name fault) refused

-- Why a replay is refused, in this order: for the program, for the sets' file, for the set that is named, for the digits of
-- the outcomes, and for what the run meets. What comes later is looked at only where all before went through.
abbrev pub ReplayCause : Option Held → (List ℕ → Type 0) → ReplayWords → Refusal → Type 0
ReplayCause told ReadFailed words refused =
    ProgramCause told ReadFailed words.program refused
    ⊎ (HasNoSets told ReadFailed words refused
    ⊎ (HasNoState told words refused
    ⊎ (HasNoOutcomes told words refused
    ⊎ IsHalted told words refused)))

-- ---- ends

-- The text is the end of the run of the program from the one vector of the set that is named, all bits 0, with the outcomes
-- asked for: each gate fitted, each outcome can happen, and none is left.
pub record IsReplay (told : Option Held) (words : ReplayWords) (result : Status) (text : List ℕ) : Type 0 where
  pub program : Program
  pub vector : List Amplitude
  pub outcomes : List Bool
  pub read : ReadsStart told words program vector outcomes
  pub end : Played
  pub replays : Replays program.qubits program.body (begins program vector outcomes) (Ok end)
  pub status_is : result ≡ status.Good
  pub text_is : text ≡ replay_text end.bits end.vector

-- a whole output of a replay, with the status that goes with it
abbrev pub ReplayEnd : Option Held → (List ℕ → Type 0) → ReplayWords → Status → List ℕ → Type 0
ReplayEnd told ReadFailed words result text =
    IsReplay told words result text ⊎ IsRefused (ReplayCause told ReadFailed words) result text
