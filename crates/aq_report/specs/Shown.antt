-- What a report can show: amplitudes whose numbers are written in full, and vectors on a number of qubits.
use Rattle.std.specs.Prelude.{◌≡◌, ℕ, ◌<◌, ◌^◌, All}
use Rattle.aq_ring.specs.Fractions.{Amplitude, IsInRange}
use Rattle.aq_ring.specs.Vectors.{IsVectorOf}
use Rattle.aq_plain.specs.Vectors.{StateVector}
use Rattle.aq_report.specs.declared.verdict.Verdict.{Verdict}
use Rattle.aq_report.specs.declared.verdict.Verdict.TheVariants as verdict

-- The coefficients of the amplitude are in range, and its power of sqrt(2) is below 2^32.
pub record IsSmall (p : Amplitude) : Type 0 where
  pub num : IsInRange p.num
  pub power : p.power < 2 ^ 32

-- a vector on n qubits: an entry for each basis state, and each is small
pub record IsOn (n : ℕ) (v : StateVector) : Type 0 where
  pub qubits : v.qubits ≡ n
  pub size : IsVectorOf n v.amps
  pub entries : All IsSmall v.amps

-- the verdict's vectors, if it has any, are on n qubits
abbrev pub IsVerdictOn : ℕ → Verdict → Type 0
IsVerdictOn n verdict.Verified = Unit {0}
IsVerdictOn n (verdict.GaveUp w) = Unit {0}
IsVerdictOn n (verdict.Refuted r) = IsOn n r.state × IsOn n r.end

-- the verdict's vectors, if it has any, have this number of qubits
abbrev pub HasQubits : ℕ → Verdict → Type 0
HasQubits n verdict.Verified = Unit {0}
HasQubits n (verdict.GaveUp w) = Unit {0}
HasQubits n (verdict.Refuted r) = (r.state.qubits ≡ n) × (r.end.qubits ≡ n)
