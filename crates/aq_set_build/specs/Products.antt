-- Products of vectors with amplitudes and with vectors, and when they fit.
use Rattle.std.specs.Prelude.{◌≡◌, List, All, map}
use Rattle.std.specs.List.{Contains}
use Rattle.aq_ring.specs.Fractions.{Amplitude}
use Rattle.aq_ring.specs.Amplitudes.{product, FitsAmplitudeProduct}
use Rattle.aq_sets.specs.Vectors.{Vector, tensor, pairs}

-- each product fits
abbrev pub AllFit : List (Amplitude × Amplitude) → Type 0
AllFit products = All (λ p. FitsAmplitudeProduct p.0 p.1) products

-- a product that is among these and doesn't fit
pub record IsWideAmong (products : List (Amplitude × Amplitude)) (left right : Amplitude) : Type 0 where
  pub member : Contains products (left, right)
  pub wide : FitsAmplitudeProduct left right → ⊥

-- v is u, with each entry multiplied by the factor, which is the left operand; and all products fit
pub record IsScaled (factor : Amplitude) (u v : Vector) : Type 0 where
  pub is : v ≡ map (product factor) u
  pub fits : All (FitsAmplitudeProduct factor) u

-- v is the tensor product of u and w, and all products fit
pub record IsTensorOf (u w v : Vector) : Type 0 where
  pub is : v ≡ tensor u w
  pub fits : AllFit (pairs u w)
