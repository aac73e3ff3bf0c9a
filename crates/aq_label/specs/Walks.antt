-- How far a walk over two lists has come.
use Rattle.std.specs.Prelude.{◌≡◌, ℕ, ◌+◌, ◌<◌, List, length, Option, Some, None, Result, Ok, Err}
use Rattle.aq_ring.specs.Fractions.{Amplitude}
use Rattle.aq_ring.specs.Amplitudes.{amplitude_zero}
use Rattle.aq_label.specs.declared.Ratio.{Ratio}
use Rattle.aq_label.specs.declared.Ratio.TheVariants.{AllZero, Different, Wide, Same}
use Rattle.aq_label.specs.declared.walk.Pivot.{Pivot}
use Rattle.aq_label.specs.declared.walk.Walk.{Walk}
use Rattle.aq_label.specs.declared.walk.Comparison.{Comparison}
use Rattle.aq_label.specs.declared.walk.Comparison.TheVariants.{Agreeing, Differing, Unfit}
use Rattle.aq_label.specs.Ratios.{at, IsPivot, Agree, AgreeBefore, Differ, IsWide, IsDifferentAt, IsWideBy}

-- what is known of two lists that were walked through
abbrev pub IsPivotOf : List Amplitude → List Amplitude → Option Pivot → Type 0
IsPivotOf u v None = (k : ℕ) → k < length u → (at u k ≡ amplitude_zero) × (at v k ≡ amplitude_zero)
IsPivotOf u v (Some p) = IsPivot u v p.place × (at u p.place ≡ p.left) × (at v p.place ≡ p.right) × AgreeBefore u v p.place (length u)

-- the walk has come through all of both lists, with no answer yet
pub record IsWalked (u v : List Amplitude) (walk : Walk) : Type 0 where
  pub place : walk.position ≡ length u
  pub same_length : length v ≡ length u
  pub known : IsPivotOf u v walk.pivot

-- what a comparison with the pivot's pair says
abbrev pub IsComparison : Amplitude → Amplitude → Amplitude → Amplitude → Comparison → Type 0
IsComparison a b x y Agreeing = Agree a b x y
IsComparison a b x y Differing = Differ a b x y
IsComparison a b x y (Unfit l r) = IsWide a b x y l r

-- the answer ends the walk
abbrev pub IsMismatch : List Amplitude → List Amplitude → Ratio → Type 0
IsMismatch u v AllZero = ⊥
IsMismatch u v (Different i) = IsDifferentAt u v i
IsMismatch u v (Wide l r) = IsWideBy u v l r
IsMismatch u v (Same p) = ⊥

-- a walk over two lists comes to their end, or to the answer
abbrev pub WalksOver : List Amplitude → List Amplitude → Result Walk Ratio → Type 0
WalksOver u v (Ok walk) = IsWalked u v walk
WalksOver u v (Err answer) = IsMismatch u v answer

-- from position n, the walk is one pair further, which agrees with the pivot's
pub record IsStep (n : ℕ) (pivot : Pivot) (x y : Amplitude) (walk : Walk) : Type 0 where
  pub place : walk.position ≡ n + 1
  pub keeps : walk.pivot ≡ Some pivot
  pub agree : Agree pivot.left pivot.right x y

-- the answer that the pair (x, y) at position n gives
abbrev pub IsMismatchOf : ℕ → Pivot → Amplitude → Amplitude → Ratio → Type 0
IsMismatchOf n pivot x y AllZero = ⊥
IsMismatchOf n pivot x y (Different i) = (i ≡ n) × Differ pivot.left pivot.right x y
IsMismatchOf n pivot x y (Wide l r) = IsWide pivot.left pivot.right x y l r
IsMismatchOf n pivot x y (Same p) = ⊥
