-- Brackets of kets, half by half.
use Rattle.std.specs.Prelude.{◌≡◌, ℕ, ◌-◌, nat_lt, nat_le, List, [], map, filter, replicate, slice_get, Some}
use Rattle.aq_sets.specs.Vectors.{kets_vector}
use Rattle.aq_sets.specs.declared.sets.Term.{Term}
use Rattle.aq_set_build.specs.Tensors.{Table}
use Rattle.aq_set_build.specs.Families.{Gives}

-- the terms below an index
abbrev pub low_terms : ℕ → List Term → List Term
low_terms half terms = filter (λ t. nat_lt t.index half) terms

-- the other terms, counted from it
abbrev pub high_terms : ℕ → List Term → List Term
high_terms half terms = map (λ t. record { index = t.index - half; amp = t.amp }) (filter (λ t. nat_le half t.index) terms)

-- the place is the bracket of these terms
abbrev pub IsKets : ℕ → List Term → Table → ℕ → Type 0
IsKets qubits terms table id = Gives (λ word. kets_vector qubits terms) table (replicate qubits 1) id

-- the place in position h is zero, with h levels
pub record AreZeros (table : Table) (zeros : List ℕ) : Type 0 where
  pub each : (h i : ℕ) → slice_get zeros h ≡ Some i → IsKets h [] table i
