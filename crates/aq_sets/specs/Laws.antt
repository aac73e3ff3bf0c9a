-- What the sizes of the expressions of a set file say of the vectors that they list, and what is told of them.
use Rattle.std.specs.Prelude.{◌≡◌, ℕ, ◌^◌, ◌<◌, ◌≤◌, List, Some, All, length, slice_get}
use Rattle.std.specs.List.{AllZip}
use Rattle.aq_sets.specs.Vectors.{vectors_of}
use Rattle.aq_sets.specs.Sizes.{Size, size_of, words, place}
use Rattle.aq_sets.specs.Valid.{IsValidSets}
use Rattle.aq_sets.specs.declared.sets.Expr.{Expr}
use Rattle.aq_sets.specs.declared.sets.Sets.{Sets}
use Rattle.aq_sets.specs.Caps.{capped, capped_size, capped_sizes}

-- a word of a shape: one choice for each qubit
abbrev pub IsWord : List ℕ → List ℕ → Type 0
IsWord shape word = AllZip (λ number choice. choice < number) shape word

-- of each expression of a valid file
pub record VectorLaws : Type 0 where
  pub counted : (s : Sets) → IsValidSets s → (i : ℕ) → i < length s.exprs → length (vectors_of s.exprs i) ≡ (size_of s.exprs i).count
  pub long : (s : Sets) → IsValidSets s → (i : ℕ) → i < length s.exprs → All (λ v. length v ≡ 2 ^ (size_of s.exprs i).qubits) (vectors_of s.exprs i)
  pub shaped : (s : Sets) → IsValidSets s → (i : ℕ) → i < length s.exprs → length (size_of s.exprs i).shape ≡ (size_of s.exprs i).qubits
  pub few : (s : Sets) → IsValidSets s → (i : ℕ) → i < length s.exprs → (size_of s.exprs i).count ≤ words (size_of s.exprs i).shape
  pub placed : (s : Sets) → IsValidSets s → (i : ℕ) → i < length s.exprs → (word : List ℕ) → IsWord (size_of s.exprs i).shape word
      → place s.exprs i word < (size_of s.exprs i).count

-- what is told up to a limit
pub record ToldLaws : Type 0 where
  pub told : (exprs : List Expr) (i : ℕ) → i < length exprs → slice_get (capped_sizes exprs) i ≡ Some (capped_size (size_of exprs i))
  pub words_told : (s : Size) → capped (words (capped_size s).shape) ≡ capped (words s.shape)
