-- What a write takes, and how a sink over a writer counts.
use Rattle.std.specs.Prelude.{◌≡◌, ℕ, ◌+◌, ◌-◌, ◌^◌, min, List, take, Option, Some, None, Result, Ok, Err}
use Rattle.std.specs.Io.KnownBytes.{Appends, Keeps}
use Rattle.aq_world.specs.declared.sink.SinkFault.{SinkFault}
use Rattle.aq_world.specs.declared.sink.SinkFault.TheVariants as fault

-- the first bytes of the piece were appended, as many as are told, or none
abbrev pub WritesSome : Option (List ℕ) → Option (List ℕ) → List ℕ → Option ℕ → Type 0
WritesSome old new piece (Some k) = Appends old new (take k piece)
WritesSome old new piece None = Keeps old new

-- a call that fails is counted, no other is, and none wants memory
abbrev pub CountsFault : ℕ → Result ℕ SinkFault → ℕ → Type 0
CountsFault old (Ok k) new = new ≡ old
CountsFault old (Err fault.Failed) new = new ≡ min (old + 1) (2 ^ 64 - 1)
CountsFault old (Err fault.Memory) new = ⊥
