-- What the operations of labels do to their parts.
use Rattle.std.specs.Prelude.{◌≡◌, List, [], ◌∷◌, ℕ, map, Option, Some, None}
use Rattle.aq_ring.specs.Fractions.{Amplitude}
use Rattle.aq_ring.specs.Amplitudes.{sum, turn, quotient, FitsSum, FitsAmplitudeProduct, FitsQuotient}

-- the sums of the parts, part by part
abbrev pub sums : List Amplitude → List Amplitude → List Amplitude
sums (p ∷ ps) (q ∷ qs) = sum p q ∷ sums ps qs
sums _ _ = []

-- each part times w^j
abbrev pub turns : ℕ → List Amplitude → List Amplitude
turns j ps = map (turn j) ps

-- each part over sqrt(2)
abbrev pub quotients : List Amplitude → List Amplitude
quotients ps = map quotient ps

-- each sum fits
abbrev pub FitsSums : List Amplitude → List Amplitude → Type 0
FitsSums (p ∷ ps) (q ∷ qs) = FitsSum p q × FitsSums ps qs
FitsSums _ _ = Unit {0}

-- each product fits, with the factor as its left operand
abbrev pub FitsScaled : Amplitude → List Amplitude → Type 0
FitsScaled s [] = Unit {0}
FitsScaled s (p ∷ ps) = FitsAmplitudeProduct s p × FitsScaled s ps

-- each quotient fits
abbrev pub FitsQuotients : List Amplitude → Type 0
FitsQuotients [] = Unit {0}
FitsQuotients (p ∷ ps) = FitsQuotient p × FitsQuotients ps

-- there is a value exactly where the fact holds, and then it has these parts
abbrev pub SomePartsIff : {L : Type 0} → (L → List Amplitude) → Option L → Type 0 → List Amplitude → Type 0
SomePartsIff parts None P ps = ¬ P
SomePartsIff parts (Some x) P ps = P × (parts x ≡ ps)
