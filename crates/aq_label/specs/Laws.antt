-- The laws of labels, as laws of lists of parts.
use Rattle.std.specs.Prelude.{◌≡◌, ◌≢◌, ℕ, ◌+◌, List, length}
use Rattle.aq_ring.specs.Fractions.{Amplitude}
use Rattle.aq_ring.specs.Amplitudes.{sum, product, amplitude_zero, amplitude_one}
use Rattle.aq_ring.specs.Vectors.{IsZeroVector, scaled}
use Rattle.aq_label.specs.Parts.{sums, turns, quotients}
use Rattle.aq_label.specs.declared.Ratio.{Ratio}
use Rattle.aq_label.specs.Ratios.{IsRatio}

-- lists of parts are a module over the amplitudes
pub record ModuleLaws : Type 0 where
  pub sums_commutative : (u v : List Amplitude) → sums u v ≡ sums v u
  pub sums_associative : (u v w : List Amplitude) → sums (sums u v) w ≡ sums u (sums v w)
  pub sums_length : (u v : List Amplitude) → length u ≡ length v → length (sums u v) ≡ length u
  pub sums_zero : (u z : List Amplitude) → length z ≡ length u → IsZeroVector z → sums u z ≡ u
  pub one_zero : (u v : List Amplitude) → length u ≡ length v → IsZeroVector u → IsZeroVector v → u ≡ v
  pub sums_opposite : (u : List Amplitude) → IsZeroVector (sums u (turns 4 u))
  pub scaled_sums : (s : Amplitude) (u v : List Amplitude) → scaled s (sums u v) ≡ sums (scaled s u) (scaled s v)
  pub scaled_by_sum : (s t : Amplitude) (u : List Amplitude) → scaled (sum s t) u ≡ sums (scaled s u) (scaled t u)
  pub scaled_by_product : (s t : Amplitude) (u : List Amplitude) → scaled (product s t) u ≡ scaled s (scaled t u)
  pub scaled_by_one : (u : List Amplitude) → scaled amplitude_one u ≡ u
  pub scaled_nonzero : (s : Amplitude) (u : List Amplitude) → s ≢ amplitude_zero → ¬ (IsZeroVector u) → ¬ (IsZeroVector (scaled s u))

-- turns and quotients by sqrt(2) are linear, and eight single turns are the identity
pub record PartStepLaws : Type 0 where
  pub turns_of_sums : (j : ℕ) (u v : List Amplitude) → turns j (sums u v) ≡ sums (turns j u) (turns j v)
  pub turns_of_scaled : (j : ℕ) (s : Amplitude) (u : List Amplitude) → turns j (scaled s u) ≡ scaled s (turns j u)
  pub turns_of_turns : (i j : ℕ) (u : List Amplitude) → turns i (turns j u) ≡ turns (i + j) u
  pub eight_single_turns : (u : List Amplitude) → turns 1 (turns 1 (turns 1 (turns 1 (turns 1 (turns 1 (turns 1 (turns 1 u))))))) ≡ u
  pub quotients_of_sums : (u v : List Amplitude) → quotients (sums u v) ≡ sums (quotients u) (quotients v)
  pub quotients_of_scaled : (s : Amplitude) (u : List Amplitude) → quotients (scaled s u) ≡ scaled s (quotients u)

-- two lists have one ratio
abbrev pub OneRatio : Type 0
OneRatio = (u v : List Amplitude) (r s : Ratio) → length u ≡ length v → IsRatio u v r → IsRatio u v s → r ≡ s
