-- What words lead to, and what brackets, bases, tensor products and powers make of the expressions of a set file.
use Rattle.std.specs.Prelude.{◌≡◌, ℕ, suc, ◌<◌, List, length, replicate, slice_get, Some}
use Rattle.aq_ring.specs.Fractions.{Amplitude}
use Rattle.aq_store.specs.declared.lsta.Lsta.{Lsta}
use Rattle.aq_store.specs.Words.{IsWord}
use Rattle.aq_sets.specs.Vectors.{kets_vector, products_of}
use Rattle.aq_sets.specs.Sizes.{size_of, place}
use Rattle.aq_sets.specs.Valid.{IsValidSets}
use Rattle.aq_sets.specs.declared.sets.Expr.TheVariants as expr
use Rattle.aq_sets.specs.declared.sets.Sets.{Sets}
use Rattle.aq_sets.specs.declared.sets.Term.{Term}
use Rattle.aq_set_build.specs.Bases.{numbered}
use Rattle.aq_set_build.specs.Families.{IsFamily}
use Rattle.aq_set_build.specs.Listing.{IsBuilt, IsMade}
use Rattle.aq_set_build.specs.Powers.{IsPower, IsPowerCause}
use Rattle.aq_set_build.specs.Products.{IsWideAmong}
use Rattle.aq_set_build.specs.Tensors.{Table, IsTensor, IsTensorCause}

-- each vector that an expression of a valid file lists has a word that leads to it
pub record WordLaws : Type 0 where
  pub reached : (s : Sets) → IsValidSets s → (i : ℕ) → i < length s.exprs → (k : ℕ) → k < (size_of s.exprs i).count
      → (word : List ℕ) × IsWord (size_of s.exprs i).shape word × (place s.exprs i word ≡ k)

-- the automata of the expressions of a valid file, by their kinds, and why a product that is taken for them may be too wide
pub record KindLaws : Type 0 where
  pub bracket : (s : Sets) → IsValidSets s → (i qubits : ℕ) (terms : List Term) → slice_get s.exprs i ≡ Some (expr.Kets qubits terms) → (table : Table) (made : Lsta)
      → IsFamily (λ word. kets_vector qubits terms) table (replicate qubits 1) made → IsMade s.exprs i table made
  pub basis : (s : Sets) → IsValidSets s → (i qubits : ℕ) → slice_get s.exprs i ≡ Some (expr.All qubits) → (table : Table) (made : Lsta)
      → IsFamily (numbered qubits) table (replicate qubits 2) made → IsMade s.exprs i table made
  pub product : (s : Sets) → IsValidSets s → (i left right : ℕ) → slice_get s.exprs i ≡ Some (expr.Tensor left right) → (old new : Table) (first second made : Lsta)
      → IsMade s.exprs left old first → IsMade s.exprs right old second → IsTensor old new first second made → IsMade s.exprs i new made
  pub product_wide : (s : Sets) → IsValidSets s → (i left right : ℕ) → slice_get s.exprs i ≡ Some (expr.Tensor left right) → (table : Table) (first second : Lsta)
      → IsBuilt s.exprs left table first → IsBuilt s.exprs right table second → (l r : Amplitude) → IsTensorCause table first second l r → IsWideAmong (products_of s.exprs i) l r
  pub power : (s : Sets) → IsValidSets s → (i base fewer : ℕ) → slice_get s.exprs i ≡ Some (expr.Power base (suc fewer)) → (old new : Table) (factor made : Lsta)
      → IsMade s.exprs base old factor → IsPower (suc fewer) old new factor made → IsMade s.exprs i new made
  pub power_wide : (s : Sets) → IsValidSets s → (i base times : ℕ) → slice_get s.exprs i ≡ Some (expr.Power base times) → (table : Table) (factor : Lsta)
      → IsBuilt s.exprs base table factor → (l r : Amplitude) → IsPowerCause times table factor l r → IsWideAmong (products_of s.exprs i) l r
