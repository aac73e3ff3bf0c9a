-- How a run may end, whatever its command says: by a whole output, or by a front of one where the sink stopped it.
use Rattle.std.specs.Prelude.{◌≡◌, ℕ, List, Some, Result, Ok, Err, ◌⊎◌}
use Rattle.std.specs.Io.KnownBytes.{Appends}
use Rattle.aq_world.specs.Causes.{Rose}
use Rattle.aq_world.specs.Prints.{IsPrefixOf}
use Rattle.aq_world.specs.Sinks.{SinkMeaning, Calls}
use Rattle.aq_world.specs.declared.sink.SinkFault.{SinkFault}
use Rattle.aq_world.specs.declared.sink.SinkFault.TheVariants as fault
use Rattle.aq_report.specs.Refusals.{refusal_text}
use Rattle.aq_report.specs.declared.refusal.Refusal.{Refusal}
use Rattle.aq_report.specs.declared.refusal.Refusal.TheVariants as refusal
use Rattle.aq_top.specs.declared.status.Status.{Status}
use Rattle.aq_top.specs.declared.status.Status.TheVariants as status

-- ---- the sink

-- the sink's last call answered this fault, and its count rose where that is a failure
pub record StoppedBy {S : Type 0} (sink : SinkMeaning S) (old new : S) (cause : SinkFault) : Type 0 where
  pub calls : Calls sink old new (Some cause)
  pub failed : cause ≡ fault.Failed → Rose (sink.faults old) (sink.faults new)

-- What was written is a front of a whole output, of which this says with which status each goes.
pub record IsFrontOfEnd (End : Status → List ℕ → Type 0) (written : List ℕ) : Type 0 where
  pub wanted : Status
  pub text : List ℕ
  pub end_text : End wanted text
  pub front : IsPrefixOf written text

-- What was written is a whole output that goes with the status; or a front of one, where a write failed or the sink wanted memory.
abbrev pub EndsAs : (SinkFault → Type 0) → (Status → List ℕ → Type 0) → Status → List ℕ → Type 0
EndsAs Stopped End result written =
    End result written
    ⊎ (((result ≡ status.Write) × Stopped fault.Failed × IsFrontOfEnd End written)
    ⊎ ((result ≡ status.Memory) × Stopped fault.Memory × IsFrontOfEnd End written))

-- what the sink's bytes grew by is such an end
abbrev pub Ends : {S : Type 0} → SinkMeaning S → S → S → (Status → List ℕ → Type 0) → Status → Type 0
Ends sink old new End result =
    (written : List ℕ) × Appends (sink.told old) (sink.told new) written × EndsAs (StoppedBy sink old new) End result written

-- ---- outputs

-- the one output of this text and status
abbrev pub IsText : Status → List ℕ → Status → List ℕ → Type 0
IsText wanted whole result text = (result ≡ wanted) × (text ≡ whole)

-- the status after a call that prints a whole text
abbrev pub status_of : {T : Type 0} → Result T SinkFault → Status → Status
status_of (Ok x) wanted = wanted
status_of (Err fault.Failed) wanted = status.Write
status_of (Err fault.Memory) wanted = status.Memory

-- ---- refusals

-- the status that goes with a refusal
abbrev pub refusal_status : Refusal → Status
refusal_status (refusal.ReadFault file) = status.Read
refusal_status refusal.OutOfMemory = status.Memory
refusal_status _ = status.Refused

-- The text is the line of a refusal that has its cause.
pub record IsRefused (Cause : Refusal → Type 0) (result : Status) (text : List ℕ) : Type 0 where
  pub refusal : Refusal
  pub cause : Cause refusal
  pub status_is : result ≡ refusal_status refusal
  pub text_is : text ≡ refusal_text refusal
