-- The digits of an index.
--
-- With n qubits an index below 2^n is a ket: its binary digits are those of the qubits, qubit 0 leftmost.
use Rattle.std.specs.Prelude.{ℕ, zero, suc, ◌+◌, ◌-◌, ◌*◌, ◌/◌, ◌%◌, ◌^◌, List, [], ◌∷◌, ◌++◌, slice_index_or}
use Rattle.aq_ring.specs.Fractions.{Amplitude}
use Rattle.aq_ring.specs.Amplitudes.{amplitude_zero}

-- what a qubit's digit counts for
abbrev pub weight : ℕ → ℕ → ℕ
weight n qubit = 2 ^ (n - 1 - qubit)

-- the digit of a qubit
abbrev pub digit : ℕ → ℕ → ℕ → ℕ
digit n qubit x = x / weight n qubit % 2

-- the index with this digit at the qubit
abbrev pub with_digit : ℕ → ℕ → ℕ → ℕ → ℕ
with_digit n qubit b x = x - digit n qubit x * weight n qubit + b * weight n qubit

-- the entry of a vector at an index, zero behind its end
abbrev pub amplitude_at : List Amplitude → ℕ → Amplitude
amplitude_at v x = slice_index_or v x amplitude_zero

-- the list of f 0, f 1, .., of this length
abbrev pub tabulate : {A : Type 0} → ℕ → (ℕ → A) → List A
tabulate zero f = []
tabulate (suc m) f = tabulate m f ++ f m ∷ []
