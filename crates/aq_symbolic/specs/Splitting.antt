-- Worlds in which a bit is decided.
use Rattle.std.specs.Prelude.{◌≡◌, ℕ, ◌⊎◌, Bool, true, false, Some, List, [], ◌∷◌, map, length, All, Contains, slice_get, slice_set}
use Rattle.std.specs.List.{flat_map}
use Rattle.aq_ring.specs.Fractions.{Amplitude}
use Rattle.aq_prog.specs.declared.stmt.Guard.{Guard}
use Rattle.aq_obligations.specs.Claims.{ClaimCase}
use Rattle.aq_obligations.specs.Worlds.{is_known}
use Rattle.aq_obligations.specs.Worlds as meant
use Rattle.aq_symbolic.specs.Steps.{HasFields, IsSameSet, is_unknown}
use Rattle.aq_symbolic.specs.declared.kept.World.{World}

-- what is seen of an automaton: vectors, by the number of its case, its root and its shape
abbrev pub Sight : Type 0
Sight = ℕ → ℕ → List ℕ → List (List Amplitude)

-- the world that is seen so
abbrev pub seen : (ℕ → ClaimCase) → Sight → World → meant.World
seen cases sight w = record { case = cases w.case; start = w.start; bits = w.bits; outcomes = w.outcomes; vectors = sight w.case w.lsta.root w.lsta.shape.items }

-- the world with the bit fixed, as if it had had this value from the beginning
pub record IsDecided (bit : ℕ) (b : Bool) (w u : World) : Type 0 where
  pub fields : HasFields w (slice_set w.start bit (Some b)) (slice_set w.bits bit (Some b)) w.outcomes u
  pub set : IsSameSet w.lsta u.lsta

-- a bit that isn't known is decided both ways, and the two worlds are the list
pub record AreHalves (bit : ℕ) (w : World) (list : List World) : Type 0 where
  pub open_bit : is_unknown (slice_get w.bits bit) ≡ true
  pub zero : World
  pub other : World
  pub list_is : list ≡ zero ∷ other ∷ []
  pub zero_is : IsDecided bit false w zero
  pub other_is : IsDecided bit true w other

-- else the list is the world alone
pub record IsWhole (bit : ℕ) (w : World) (list : List World) : Type 0 where
  pub closed_bit : is_unknown (slice_get w.bits bit) ≡ false
  pub list_is : list ≡ w ∷ []

abbrev pub IsSplit : ℕ → World → List World → Type 0
IsSplit bit w list = AreHalves bit w list ⊎ IsWhole bit w list

-- the list is the world with the guard's bit decided as the guard says
pub record IsFixed (guard : Guard) (w : World) (list : List World) : Type 0 where
  pub open_bit : is_unknown (slice_get w.bits guard.bit) ≡ true
  pub world : World
  pub list_is : list ≡ world ∷ []
  pub world_is : IsDecided guard.bit guard.value w world

-- what is known of the guard's bit decides
pub record IsTold (guard : Guard) (w : World) (list : List World) : Type 0 where
  pub closed_bit : is_unknown (slice_get w.bits guard.bit) ≡ false
  pub told : ((is_known guard (slice_get w.bits guard.bit) ≡ true) × (list ≡ w ∷ [])) ⊎ ((is_known guard (slice_get w.bits guard.bit) ≡ false) × (list ≡ []))

abbrev pub IsAssumed : Guard → World → List World → Type 0
IsAssumed guard w list = IsFixed guard w list ⊎ IsTold guard w list

-- it is of the case of one of the worlds, with its automaton and as many bits
pub record SharesSet (ws : List World) (u : World) : Type 0 where
  pub world : World
  pub listed : Contains ws world
  pub case : u.case ≡ world.case
  pub set : IsSameSet world.lsta u.lsta
  pub start : length u.start ≡ length world.start
  pub bits : length u.bits ≡ length world.bits

-- the list is what comes of the worlds when each is split at the bit
pub record AreSplit (bit : ℕ) (ws list : List World) : Type 0 where
  pub worlds : (cases : ℕ → ClaimCase) (sight : Sight) → map (seen cases sight) list ≡ flat_map (meant.split bit) (map (seen cases sight) ws)
  pub sets : All (SharesSet ws) list
