-- Bases.
use Rattle.std.specs.Prelude.{ℕ, List, replicate, []}
use Rattle.aq_sets.specs.Vectors.{Vector, kets_vector, basis_vector}
use Rattle.aq_sets.specs.Sizes.{number_of}
use Rattle.aq_set_build.specs.Tensors.{Table}
use Rattle.aq_set_build.specs.Families.{Gives}

-- the basis vector whose index are the digits of a word
abbrev pub numbered : ℕ → List ℕ → Vector
numbered qubits word = basis_vector qubits (number_of word)

-- the place is the basis: a word's digits are the index of its basis vector
abbrev pub IsBasis : ℕ → Table → ℕ → Type 0
IsBasis qubits table id = Gives (numbered qubits) table (replicate qubits 2) id

-- the place is zero, with two choices on each level
abbrev pub IsNothing : ℕ → Table → ℕ → Type 0
IsNothing qubits table id = Gives (λ word. kets_vector qubits []) table (replicate qubits 2) id
