-- Labels of one part.
use Rattle.std.specs.Prelude.{◌≡◌, List, [], ◌∷◌}
use Rattle.std.proofs.Common.{ap}
use Rattle.aq_ring.specs.Fractions.{Amplitude}

first : Amplitude → List Amplitude → Amplitude
first d [] = d
first d (p ∷ ps) = p

pub same_single : (x y : Amplitude) → (x ∷ []) ≡ (y ∷ []) → x ≡ y
unfolding first
same_single x y e = ap (first x) e
