-- State vectors as values: a number of qubits and an amplitude for each basis state.
use Rattle.std.specs.Prelude.{◌≡◌, ℕ, ◌^◌, ◌≤◌, List, length}
use Rattle.aq_ring.specs.Fractions.{Amplitude}

-- what a contract sees of a vector
pub record StateVector : Type 0 where
  pub qubits : ℕ
  pub amps : List Amplitude

-- each vector has 2^n amplitudes for its n qubits, and at most 16 qubits
pub record IsStateVector (n : ℕ) (amps : List Amplitude) : Type 0 where
  pub size : length amps ≡ 2 ^ n
  pub few : n ≤ 16
