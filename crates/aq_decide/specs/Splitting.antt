-- Worlds in which several bits are decided.
use Rattle.std.specs.Prelude.{◌≡◌, ℕ, ◌==◌, Bool, List, map, filter, All, length}
use Rattle.std.specs.List.{flat_map, list_any}
use Rattle.aq_prog.specs.Digits.{tabulate}
use Rattle.aq_obligations.specs.Claims.{ClaimCase}
use Rattle.aq_obligations.specs.Worlds.{in_worlds}
use Rattle.aq_obligations.specs.Worlds as meant
use Rattle.aq_obligations.specs.declared.bound.BoundCase.{BoundCase}
use Rattle.aq_symbolic.specs.Splitting.{SharesSet, Sight, seen}
use Rattle.aq_symbolic.specs.declared.kept.World.{World}

-- a condition of one of the cases is on the bit
abbrev pub is_asked : List BoundCase → ℕ → Bool
is_asked cases bit = list_any (λ c. list_any (λ g. g.bit == bit) c.when) cases

-- of the first m bits those that a condition is on, in order
abbrev pub asked_bits : List BoundCase → ℕ → List ℕ
asked_bits cases m = filter (is_asked cases) (tabulate m (λ bit. bit))

-- the world has m bits
pub record HasBits (m : ℕ) (w : World) : Type 0 where
  pub start : length w.start ≡ m
  pub bits : length w.bits ≡ m

abbrev pub HaveBits : ℕ → List World → Type 0
HaveBits m ws = All (HasBits m) ws

-- the list is what comes of the worlds when they are split at these bits, in order
pub record AreDecided (bits : List ℕ) (ws list : List World) : Type 0 where
  pub worlds : (cases : ℕ → ClaimCase) (sight : Sight) → map (seen cases sight) list ≡ flat_map (in_worlds (map meant.split bits)) (map (seen cases sight) ws)
  pub sets : All (SharesSet ws) list
