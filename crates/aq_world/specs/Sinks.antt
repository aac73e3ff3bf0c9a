-- What is known of a sink and of its calls.
use Rattle.std.specs.Prelude.{ℕ, ◌<◌, List, length, Option, Some, None, Result, Ok, Err}
use Rattle.aq_world.specs.declared.sink.SinkFault.{SinkFault}

-- What is known of the sinks of a type: the bytes so far, where a sink tells them; how often it has failed; and what a call with
-- a piece may answer, with the sink that it leaves.
pub record SinkMeaning (S : Type 0) : Type 1 where
  pub told : S → Option (List ℕ)
  pub faults : S → ℕ
  pub answers : S → List ℕ → Result ℕ SinkFault → S → Type 0

-- Calls of a sink one after another, none of them with an empty piece: all took a part of their piece, or the last answered a fault.
pub data Calls {S : Type 0} (sink : SinkMeaning S) : S → S → Option SinkFault → Type 0 where
  no_calls : (s : S) → Calls sink s s None
  refused : (s t : S) (piece : List ℕ) (e : SinkFault) → 0 < length piece → sink.answers s piece (Err e) t → Calls sink s t (Some e)
  taken : (s t u : S) (piece : List ℕ) (k : ℕ) (last : Option SinkFault) → 0 < length piece → sink.answers s piece (Ok k) t → Calls sink t u last → Calls sink s u last

-- the fault that a call answered
abbrev pub fault_of : {T : Type 0} → Result T SinkFault → Option SinkFault
fault_of (Ok x) = None
fault_of (Err e) = Some e
