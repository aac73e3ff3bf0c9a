-- Vectors of amplitudes, and when two are the same state.
--
-- A state of n qubits is a list of 2^n exact amplitudes, one for each basis state. The binary digits of an index are
-- the digits of the ket, the first qubit's leftmost. States aren't normalised: what counts is the direction of the
-- vector, as for rays in the textbooks on quantum computing.
use Rattle.std.specs.Prelude.{◌≡◌, ◌≢◌, ℕ, ◌^◌, ◌==◌, Bool, ◌&&◌, List, map, length, All, unsigned_abs}
use Rattle.std.specs.List.{list_all}
use Rattle.aq_ring.specs.Fractions.{Amplitude}
use Rattle.aq_ring.specs.Amplitudes.{amplitude_zero, product}

-- a vector of n qubits
abbrev pub IsVectorOf : ℕ → List Amplitude → Type 0
IsVectorOf n v = length v ≡ 2 ^ n

-- every entry is zero
abbrev pub IsZeroVector : List Amplitude → Type 0
IsZeroVector v = All (λ p. p ≡ amplitude_zero) v

-- the test of an amplitude for zero: every coefficient is 0
abbrev pub is_zero : Amplitude → Bool
is_zero p = (unsigned_abs p.num.a == 0 && unsigned_abs p.num.b == 0) && (unsigned_abs p.num.c == 0 && unsigned_abs p.num.d == 0)

-- the test of a vector for zero
abbrev pub is_zero_vector : List Amplitude → Bool
is_zero_vector v = list_all is_zero v

-- each entry of the vector times the amplitude
abbrev pub scaled : Amplitude → List Amplitude → List Amplitude
scaled s v = map (product s) v

-- One vector is a nonzero multiple of the other, told without a quotient: there are two nonzero amplitudes by which
-- they come to be equal at every entry. A zero vector is proportional only to a zero vector.
pub record Proportional (u v : List Amplitude) : Type 0 where
  pub left : Amplitude
  pub right : Amplitude
  pub left_nonzero : left ≢ amplitude_zero
  pub right_nonzero : right ≢ amplitude_zero
  pub same : scaled left u ≡ scaled right v
