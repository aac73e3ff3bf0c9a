-- Automata of powers: tensor products from the left to the right.
use Rattle.std.specs.Prelude.{◌≡◌, ℕ, zero, suc, ◌*◌, ◌<◌, List, length, take, drop}
use Rattle.std.specs.List.{repeat}
use Rattle.aq_ring.specs.Fractions.{Amplitude}
use Rattle.aq_store.specs.declared.lsta.Lsta.{Lsta}
use Rattle.aq_store.specs.Nodes.{FitsStore, vector_of}
use Rattle.aq_sets.specs.Vectors.{Vector, pairs}
use Rattle.aq_set_build.specs.Products.{IsTensorOf, IsWideAmong}
use Rattle.aq_set_build.specs.Tensors.{Table}

-- a word of the tensor product of so many times the base gives v: its last part gives a vector of the base, and the parts
-- before it one of one time less
abbrev pub PowerGives : Table → Lsta → ℕ → List ℕ → Vector → Type 0
PowerGives table base zero word v = ⊥
PowerGives table base (suc zero) word v = v ≡ vector_of table base word
PowerGives table base (suc (suc n)) word v =
    (u : Vector) × PowerGives table base (suc n) (take (length base.shape.items * suc n) word) u
    × IsTensorOf u (vector_of table base (drop (length base.shape.items * suc n) word)) v

-- made is the tensor product of so many times the base
pub record IsPower (times : ℕ) (old new : Table) (base made : Lsta) : Type 0 where
  pub shape : made.shape.items ≡ repeat times base.shape.items
  pub fits_store : FitsStore new made
  pub words : (word : List ℕ) → PowerGives old base times word (vector_of new made word)

-- the product of an entry of a vector of fewer times the base and one of the base doesn't fit
pub record IsPowerCause (times : ℕ) (table : Table) (base : Lsta) (l r : Amplitude) : Type 0 where
  pub fewer : ℕ
  pub less : suc fewer < times
  pub first : List ℕ
  pub second : List ℕ
  pub vector : Vector
  pub gives : PowerGives table base (suc fewer) first vector
  pub among : IsWideAmong (pairs vector (vector_of table base second)) l r
