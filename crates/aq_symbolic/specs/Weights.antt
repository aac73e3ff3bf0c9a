-- How many steps worlds may take.
use Rattle.std.specs.Prelude.{◌≡◌, ℕ, suc, ◌+◌, ◌*◌, ◌^◌, Bool, true, List, [], ◌∷◌, All, length, Option, Some, None, cond}
use Rattle.std.specs.List.{sum_by}
use Rattle.aq_prog.specs.declared.stmt.Guard.{Guard}
use Rattle.aq_store.specs.Words.{words}
use Rattle.aq_obligations.specs.Worlds.{Partial}
use Rattle.aq_symbolic.specs.declared.kept.World.{World}

-- words * 2^(n+1), for the n levels of a shape: half of what one operation on an automaton takes at most
abbrev pub price : List ℕ → ℕ
price shape = words shape * 2 ^ (length shape + 1)

-- one where the bit isn't known and is named
abbrev pub open_one : Bool → Option Bool → ℕ
open_one named None = cond named 1 0
open_one named (Some b) = 0

-- how many bits aren't known and are named, where the first one is bit k
unfoldable pub open_from : (ℕ → Bool) → ℕ → Partial → ℕ
open_from named k [] = 0
open_from named k (b ∷ bits) = open_one (named k) b + open_from named (suc k) bits

-- how many bits of a world aren't known and are named
abbrev pub open_bits : (ℕ → Bool) → World → ℕ
open_bits named w = open_from named 0 w.bits

-- a world's price, twice for each outcome to come and for each bit that may be decided
abbrev pub weight : (ℕ → Bool) → ℕ → World → ℕ
weight named outcomes w = price w.lsta.shape.items * 2 ^ (outcomes + open_bits named w)

abbrev pub weights : (ℕ → Bool) → ℕ → List World → ℕ
weights named outcomes ws = sum_by (weight named outcomes) ws

-- each guard's bit is named
abbrev pub AreNamed : (ℕ → Bool) → List Guard → Type 0
AreNamed named guards = All (λ g. named g.bit ≡ true) guards
