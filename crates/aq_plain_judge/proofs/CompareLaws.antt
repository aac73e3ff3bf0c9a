-- What the ratio of two vectors says of them.
use Rattle.std.proofs.Common.{◌≡◌, ℕ, zero, suc, ◌<◌, List, [], ◌∷◌, Contains, length, refl, arith, ◌⊎◌, inl, inr}
use Rattle.aq_ring.specs.Fractions.{Amplitude}
use Rattle.aq_ring.specs.Amplitudes.{FitsAmplitudeProduct}
use Rattle.aq_label.specs.Ratios.{at, IsWideBy}
use Rattle.aq_plain_judge.specs.Finding.{WideProduct}

at_contains : (u : List Amplitude) (k : ℕ) → k < length u → Contains u (at u k)
at_contains [] k h = absurd (omega (arith, h))
at_contains (p ∷ u) zero h = (0, omega arith, refl)
at_contains (p ∷ u) (suc k) h = let c = at_contains u k (omega (arith, h)) in (suc c.0, omega (arith, c.1), c.2)

pub wide_product : (u v : List Amplitude) (l r : Amplitude) → length u ≡ length v → IsWideBy u v l r → WideProduct u v
wide_product u v l r same w = by_operands w.wide.operands
  where
    pivot_in : w.pivot < length v
    pivot_in = omega (arith, w.comes.pivot.within, same)

    place_in : w.place < length v
    place_in = omega (arith, w.comes.within, same)

    by_operands : ((¬ (FitsAmplitudeProduct (at u w.place) (at v w.pivot)) × (l ≡ at u w.place) × (r ≡ at v w.pivot)) ⊎ (FitsAmplitudeProduct (at u w.place) (at v w.pivot) × ¬ (FitsAmplitudeProduct (at u w.pivot) (at v w.place)) × (l ≡ at u w.pivot) × (r ≡ at v w.place))) → WideProduct u v
    by_operands (inl a) = record { left = at u w.place; right = at v w.pivot; of_first = at_contains u w.place w.comes.within; of_second = at_contains v w.pivot pivot_in; wide = a.0 }
    by_operands (inr b) = record { left = at u w.pivot; right = at v w.place; of_first = at_contains u w.pivot w.comes.pivot.within; of_second = at_contains v w.place place_in; wide = b.1 }
