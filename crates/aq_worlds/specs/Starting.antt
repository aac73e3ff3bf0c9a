-- The start of a case, and the decisions at its end.
use Rattle.std.specs.Prelude.{◌≡◌, ◌<◌, ℕ, ◌==◌, Bool, false, List, map, filter, length, replicate, Option, Some, None, IfSome, if◌then◌else◌}
use Rattle.std.specs.List.{flat_map, list_any}
use Rattle.aq_prog.specs.Digits.{tabulate}
use Rattle.aq_plain.specs.Vectors.{StateVector}
use Rattle.aq_obligations.specs.Claims.{ClaimCase}
use Rattle.aq_obligations.specs.Worlds.{Partial, in_worlds, split, starting}
use Rattle.aq_obligations.specs.declared.bound.BoundCase.{BoundCase}
use Rattle.aq_worlds.specs.Playing.{AreOn, AreSized, Gives, amps_of, world_of}
use Rattle.aq_worlds.specs.declared.world.PlainWorld.{PlainWorld}

-- the bits before any condition: 0 at the program's start, and unknown elsewhere
abbrev pub bits_before : Bool → ℕ → Partial
bits_before start m = if start then replicate m (Some false) else replicate m None

-- the list is the world with these bits and vectors, where there are bits
abbrev pub Starts : Option Partial → List StateVector → List PlainWorld → Type 0
Starts bits vectors list =
    (n m : ℕ) (c : ClaimCase) → amps_of vectors ≡ c.vectors → AreOn n vectors → IfSome bits (λ b. length b ≡ m) → Gives n m c list (starting c bits)

-- a condition of one of the cases is on the bit
abbrev pub is_asked : List BoundCase → ℕ → Bool
is_asked cases bit = list_any (λ c. list_any (λ g. g.bit == bit) c.when) cases

-- of the first m bits those that a condition is on, in order
abbrev pub asked_bits : List BoundCase → ℕ → List ℕ
asked_bits cases m = filter (is_asked cases) (tabulate m (λ bit. bit))

-- of all these worlds some have been split: the list is what comes of those
abbrev pub Halves : ℕ → List PlainWorld → List PlainWorld → List PlainWorld → Type 0
Halves bit all some list = (n m : ℕ) (c : ClaimCase) → AreSized n m all → Gives n m c list (flat_map (split bit) (map (world_of c) some))

-- the list is what comes of the worlds when they are split at these bits, in order
abbrev pub Decides : List ℕ → List PlainWorld → List PlainWorld → Type 0
Decides bits worlds list = (n m : ℕ) (c : ClaimCase) → AreSized n m worlds → Gives n m c list (flat_map (in_worlds (map split bits)) (map (world_of c) worlds))

-- the worlds have m bits
pub record AreOfBits (m : ℕ) (worlds : List PlainWorld) : Type 0 where
  pub qubits : ℕ
  pub sized : AreSized qubits m worlds

-- the worlds have this bit
pub record HaveBit (bit : ℕ) (worlds : List PlainWorld) : Type 0 where
  pub bits : ℕ
  pub within : bit < bits
  pub of_bits : AreOfBits bits worlds
