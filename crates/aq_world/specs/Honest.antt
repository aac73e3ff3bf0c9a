-- The calls of output in memory that doesn't fail.
use Rattle.std.specs.Prelude.{◌≡◌, ℕ, List, ◌++◌, length, Result, Ok, Err}
use Rattle.aq_world.specs.declared.sink.SinkFault.{SinkFault}
use Rattle.aq_world.specs.declared.sink.SinkFault.TheVariants as fault

-- the whole piece is taken, or nothing for want of memory
abbrev pub TakesWhole : List ℕ → List ℕ → Result ℕ SinkFault → List ℕ → Type 0
TakesWhole old piece (Ok k) new = (k ≡ length piece) × (new ≡ old ++ piece)
TakesWhole old piece (Err fault.Failed) new = ⊥
TakesWhole old piece (Err fault.Memory) new = new ≡ old
