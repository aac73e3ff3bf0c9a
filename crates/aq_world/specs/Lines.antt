-- What a call that writes through a line leaves of the sink and of the line.
use Rattle.std.specs.Prelude.{◌≡◌, ℕ, ◌≤◌, List, ◌++◌, Some, None, Result, Ok, Err}
use Rattle.std.specs.Io.KnownBytes.{Appends}
use Rattle.aq_world.specs.Causes.{Rose}
use Rattle.aq_world.specs.Prints.{IsPrefixOf}
use Rattle.aq_world.specs.Sinks.{SinkMeaning, Calls}
use Rattle.aq_world.specs.declared.sink.SinkFault.{SinkFault}
use Rattle.aq_world.specs.declared.sink.SinkFault.TheVariants as fault

-- A text was added behind the bytes that the line held: the first of all these were put, and the line holds the rest.
pub record Added {S : Type 0} (sink : SinkMeaning S) (old new : S) (held kept text : List ℕ) : Type 0 where
  pub put : List ℕ
  pub bytes : Appends (sink.told old) (sink.told new) put
  pub parts : put ++ kept ≡ held ++ text
  pub calls : Calls sink old new None
  pub later : sink.faults old ≤ sink.faults new

-- The call stopped: a front of what the line held and of the text was put.
pub record Stopped {S : Type 0} (sink : SinkMeaning S) (old new : S) (held text : List ℕ) (cause : SinkFault) : Type 0 where
  pub put : List ℕ
  pub bytes : Appends (sink.told old) (sink.told new) put
  pub front : IsPrefixOf put (held ++ text)
  pub calls : Calls sink old new (Some cause)
  pub later : sink.faults old ≤ sink.faults new
  pub failed : cause ≡ fault.Failed → Rose (sink.faults old) (sink.faults new)

-- the text was added, or the call stopped
abbrev pub Adds : {S T : Type 0} → SinkMeaning S → S → S → List ℕ → List ℕ → Result T SinkFault → List ℕ → Type 0
Adds sink old new held kept (Ok x) text = Added sink old new held kept text
Adds sink old new held kept (Err cause) text = Stopped sink old new held text cause
