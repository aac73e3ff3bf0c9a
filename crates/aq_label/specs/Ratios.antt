-- What tells whether two lists of amplitudes are proportional, by products of two amplitudes alone.
--
-- At the pivot, the first position where not both lists are zero, let the pair be (a, b). The lists are proportional
-- exactly where at each pair (x, y) from the pivot on the products x*b and a*y are equal and x and y are zero together.
use Rattle.std.specs.Prelude.{◌≡◌, ◌≢◌, ◌↔◌, ◌⊎◌, ℕ, ◌<◌, ◌≤◌, List, length, slice_index_or, flat_map}
use Rattle.aq_ring.specs.Fractions.{Amplitude}
use Rattle.aq_ring.specs.Amplitudes.{amplitude_zero, product, FitsAmplitudeProduct}
use Rattle.aq_ring.specs.Vectors.{IsZeroVector, Proportional}
use Rattle.aq_label.specs.declared.Ratio.{Ratio}
use Rattle.aq_label.specs.declared.Ratio.TheVariants.{AllZero, Different, Wide, Same}

-- the parts of the left values of the pairs, in their order
abbrev pub lefts : {L : Type 0} → (L → List Amplitude) → List (L × L) → List Amplitude
lefts parts pairs = flat_map (λ p. parts p.0) pairs

-- the parts of the right values of the pairs, in their order
abbrev pub rights : {L : Type 0} → (L → List Amplitude) → List (L × L) → List Amplitude
rights parts pairs = flat_map (λ p. parts p.1) pairs

-- the amplitude at a position
abbrev pub at : List Amplitude → ℕ → Amplitude
at u i = slice_index_or u i amplitude_zero

-- the first position at which not both lists are zero
pub record IsPivot (u v : List Amplitude) (p : ℕ) : Type 0 where
  pub within : p < length u
  pub nonzero : at u p ≡ amplitude_zero → at v p ≢ amplitude_zero
  pub zeros : (k : ℕ) → k < p → (at u k ≡ amplitude_zero) × (at v k ≡ amplitude_zero)

-- The pair (x, y) goes with the pivot's pair (a, b): x and y are zero together, and the products x*b and a*y are equal.
-- They fit, unless x and y are zero.
pub record Agree (a b x y : Amplitude) : Type 0 where
  pub zero_together : (x ≡ amplitude_zero) ↔ (y ≡ amplitude_zero)
  pub fits : x ≢ amplitude_zero → y ≢ amplitude_zero → FitsAmplitudeProduct x b × FitsAmplitudeProduct a y
  pub same : product x b ≡ product a y

-- just one of two amplitudes is zero
abbrev pub IsOneZero : Amplitude → Amplitude → Type 0
IsOneZero x y = ((x ≡ amplitude_zero) × (y ≢ amplitude_zero)) ⊎ ((x ≢ amplitude_zero) × (y ≡ amplitude_zero))

-- the products x*b and a*y of nonzero x and y fit and differ
pub record ProductsDiffer (a b x y : Amplitude) : Type 0 where
  pub left_nonzero : x ≢ amplitude_zero
  pub right_nonzero : y ≢ amplitude_zero
  pub first_fits : FitsAmplitudeProduct x b
  pub second_fits : FitsAmplitudeProduct a y
  pub different : product x b ≢ product a y

-- the pair (x, y) shows that the lists are not proportional
abbrev pub Differ : Amplitude → Amplitude → Amplitude → Amplitude → Type 0
Differ a b x y = IsOneZero x y ⊎ ProductsDiffer a b x y

-- l and r are the operands of x*b, which doesn't fit, or else of a*y, which doesn't
abbrev pub IsFirstWide : Amplitude → Amplitude → Amplitude → Amplitude → Amplitude → Amplitude → Type 0
IsFirstWide a b x y l r =
    (¬ (FitsAmplitudeProduct x b) × (l ≡ x) × (r ≡ b)) ⊎ (FitsAmplitudeProduct x b × ¬ (FitsAmplitudeProduct a y) × (l ≡ a) × (r ≡ y))

-- x and y are nonzero, and l and r are the operands of the first of the products x*b and a*y that doesn't fit
pub record IsWide (a b x y l r : Amplitude) : Type 0 where
  pub left_nonzero : x ≢ amplitude_zero
  pub right_nonzero : y ≢ amplitude_zero
  pub operands : IsFirstWide a b x y l r

-- all pairs from the pivot p on and before position i agree with the pivot's
abbrev pub AgreeBefore : List Amplitude → List Amplitude → ℕ → ℕ → Type 0
AgreeBefore u v p i = (k : ℕ) → p ≤ k → k < i → Agree (at u p) (at v p) (at u k) (at v k)

-- the walk from the pivot p comes to position i, with all before it in agreement
pub record ComesTo (u v : List Amplitude) (p i : ℕ) : Type 0 where
  pub pivot : IsPivot u v p
  pub later : p ≤ i
  pub within : i < length u
  pub before : AgreeBefore u v p i

-- i is the first position that doesn't agree with the pivot, and it shows that the lists are not proportional
pub record IsDifferentAt (u v : List Amplitude) (i : ℕ) : Type 0 where
  pub pivot : ℕ
  pub comes : ComesTo u v pivot i
  pub differ : Differ (at u pivot) (at v pivot) (at u i) (at v i)

-- l and r are operands of a product that doesn't fit, at the first position that doesn't agree with the pivot
pub record IsWideBy (u v : List Amplitude) (l r : Amplitude) : Type 0 where
  pub pivot : ℕ
  pub place : ℕ
  pub comes : ComesTo u v pivot place
  pub wide : IsWide (at u pivot) (at v pivot) (at u place) (at v place) l r

-- all positions from the pivot p on agree with it
pub record IsSameFrom (u v : List Amplitude) (p : ℕ) : Type 0 where
  pub pivot : IsPivot u v p
  pub agree : AgreeBefore u v p (length u)

-- what each answer says of the two lists
abbrev pub IsRatio : List Amplitude → List Amplitude → Ratio → Type 0
IsRatio u v AllZero = IsZeroVector u × IsZeroVector v
IsRatio u v (Different i) = IsDifferentAt u v i
IsRatio u v (Wide l r) = IsWideBy u v l r
IsRatio u v (Same p) = IsSameFrom u v p

-- the answer is Same, at some pivot
abbrev pub IsSame : Ratio → Type 0
IsSame (Same p) = Unit {0}
IsSame _ = ⊥

-- the answer is Different, at some place
abbrev pub IsDifferent : Ratio → Type 0
IsDifferent (Different i) = Unit {0}
IsDifferent _ = ⊥

-- each product that is asked for fits
abbrev pub AllProductsFit : List Amplitude → List Amplitude → Type 0
AllProductsFit u v =
    (p i : ℕ) → IsPivot u v p → p ≤ i → i < length u → at u i ≢ amplitude_zero → at v i ≢ amplitude_zero
    → FitsAmplitudeProduct (at u i) (at v p) × FitsAmplitudeProduct (at u p) (at v i)

-- the lists are proportional and not both zero, and each product that is asked for fits
pub record IsProportionalAndFits (u v : List Amplitude) : Type 0 where
  pub nonzero : ¬ (IsZeroVector u × IsZeroVector v)
  pub proportional : Proportional u v
  pub fits : AllProductsFit u v
