-- Which worlds of the definitions the kept worlds of an obligation are.
use Rattle.std.specs.Prelude.{◌≡◌, List, [], ◌∷◌, slice_get, Some}
use Rattle.std.specs.List.{AllZip}
use Rattle.aq_ring.specs.Fractions.{Amplitude}
use Rattle.aq_sets.specs.Sizes.{place, size_of}
use Rattle.aq_sets.specs.declared.sets.Sets.{Sets}
use Rattle.aq_store.specs.declared.lsta.Lsta.{Lsta}
use Rattle.aq_obligations.specs.Asking.{case_of}
use Rattle.aq_obligations.specs.Worlds as meant
use Rattle.aq_obligations.specs.declared.bound.BoundCase.{BoundCase}
use Rattle.aq_set_build.specs.Listing.{Lists}
use Rattle.aq_set_build.specs.Tensors.{Table}
use Rattle.aq_symbolic.specs.declared.kept.World.{World}

-- the parts of an amplitude that is a label
abbrev pub alone : Amplitude → List Amplitude
alone a = a ∷ []

-- each word of the case's shape has the world's vector at the word's place
abbrev pub HasVectors : Sets → BoundCase → Table → Lsta → List (List Amplitude) → Type 0
HasVectors s c table lsta vectors = Lists vectors (place s.exprs c.set) (size_of s.exprs c.set).shape table lsta

-- The kept world is this world of the case: it has the same bits and outcomes, and of each word the vector at the
-- word's place.
pub record IsOfCase (s : Sets) (c : BoundCase) (table : Table) (w : World) (u : meant.World) : Type 0 where
  pub case : u.case ≡ case_of s c
  pub start : u.start ≡ w.start
  pub bits : u.bits ≡ w.bits
  pub outcomes : u.outcomes ≡ w.outcomes
  pub vectors : HasVectors s c table w.lsta u.vectors

-- the kept world is this world of the case that it names by its number
pub record IsWorld (s : Sets) (cases : List BoundCase) (table : Table) (w : World) (u : meant.World) : Type 0 where
  pub bound : BoundCase
  pub number : slice_get cases w.case ≡ Some bound
  pub is : IsOfCase s bound table w u

-- they are these worlds, in order
abbrev pub AreWorlds : Sets → List BoundCase → Table → List World → List meant.World → Type 0
AreWorlds s cases table ws us = AllZip (IsWorld s cases table) ws us
