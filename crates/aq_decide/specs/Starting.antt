-- The world of a case at the start.
use Rattle.std.specs.Prelude.{◌≡◌, ℕ, Bool, false, List, [], ◌∷◌, replicate, Option, Some, None, if◌then◌else◌}
use Rattle.aq_store.specs.declared.lsta.Lsta.{Lsta}
use Rattle.aq_obligations.specs.Worlds.{Partial}
use Rattle.aq_symbolic.specs.declared.kept.World.{World}

-- the bits before any condition: 0 at the program's start, and unknown elsewhere
abbrev pub bits_before : Bool → ℕ → Partial
bits_before start m = if start then replicate m (Some false) else replicate m None

-- the world is of the case with this number, has these bits from the beginning, and the automaton
pub record Begins (number : ℕ) (lsta : Lsta) (bits : Partial) (w : World) : Type 0 where
  pub case : w.case ≡ number
  pub start : w.start ≡ bits
  pub now : w.bits ≡ bits
  pub outcomes : w.outcomes ≡ []
  pub root : w.lsta.root ≡ lsta.root
  pub shape : w.lsta.shape.items ≡ lsta.shape.items

-- the list is such a world alone, where there are bits
abbrev pub BeginsIf : ℕ → Lsta → Option Partial → List World → Type 0
BeginsIf number lsta None list = list ≡ []
BeginsIf number lsta (Some bits) list = (w : World) × (list ≡ w ∷ []) × Begins number lsta bits w
