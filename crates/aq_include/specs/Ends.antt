-- The last level.
use Rattle.std.specs.Prelude.{◌≡◌, ℕ, List, [], flat_map, Contains, slice_get, Option, None, Some}
use Rattle.aq_ring.specs.Fractions.{Amplitude}
use Rattle.aq_ring.specs.Amplitudes.{FitsAmplitudeProduct}
use Rattle.aq_store.specs.declared.node.Node.{Node}
use Rattle.aq_label.specs.Ratios.{lefts, rights}
use Rattle.aq_label.specs.declared.Ratio.{Ratio}
use Rattle.aq_label.specs.declared.Ratio.TheVariants as ratio
use Rattle.aq_cert.specs.declared.cert.Rel.{Rel}
use Rattle.aq_cert.specs.declared.cert.Macro.{Macro}
use Rattle.aq_cert.specs.declared.cert.End.{End}
use Rattle.aq_cert.specs.Meaning.{amplitudes}
use Rattle.aq_cert.specs.Macros.{IsRelated, AreAlike, IsEnd, IsZeroOn}
use Rattle.aq_include.specs.Least.{IsWideAt}
use Rattle.aq_store.specs.declared.store.Stop.{Stop}
use Rattle.aq_store.specs.declared.store.Stop.TheVariants as stop

-- it doesn't stop for width
abbrev pub IsNotWide : {L : Type 0} → Stop L → Type 0
IsNotWide stop.Spent = Unit {0}
IsNotWide (stop.Wide l r) = ⊥
IsNotWide (stop.WideParts l r) = ⊥
IsNotWide stop.Memory = Unit {0}

module _ {L : Type 0} (parts : L → List Amplitude) (table : List (Node L)) where
  -- the labels of the pairs
  pub record AreLabels (pairs : List (ℕ × ℕ)) (labels : List (L × L)) : Type 0 where
    pub left : lefts parts labels ≡ flat_map (λ (p : ℕ × ℕ). amplitudes parts table [] p.0) pairs
    pub right : rights parts labels ≡ flat_map (λ (p : ℕ × ℕ). amplitudes parts table [] p.1) pairs

  -- a product of a left and a right entry of the pairs' labels doesn't fit
  pub record IsWideIn (pairs : List (ℕ × ℕ)) (l r : Amplitude) : Type 0 where
    pub left_pair : ℕ × ℕ
    pub right_pair : ℕ × ℕ
    pub left_listed : Contains pairs left_pair
    pub right_listed : Contains pairs right_pair
    pub left : Contains (amplitudes parts table [] left_pair.0) l
    pub right : Contains (amplitudes parts table [] right_pair.1) r
    pub unfit : ¬ (FitsAmplitudeProduct l r)

  -- what a comparison of the pairs' labels says
  abbrev pub Relates : List (ℕ × ℕ) → Ratio → Type 0
  Relates pairs ratio.AllZero = AreAlike parts table pairs
  Relates pairs (ratio.Same p) = AreAlike parts table pairs
  Relates pairs (ratio.Different i) = ¬ (IsRelated parts table pairs [] [])
  Relates pairs (ratio.Wide l r) = IsWideIn pairs l r

  -- the end of a macro, or no end
  abbrev pub Ends : Macro → Option End → Type 0
  Ends m None = (¬ (IsZeroOn parts table m.domain [])) × ((k : ℕ) (rel : Rel) → slice_get m.rels k ≡ Some rel → ¬ (IsRelated parts table rel.pairs [] []))
  Ends m (Some e) = IsEnd parts table m e

  -- a stop for width names a product that doesn't fit
  abbrev pub StopsWide : Macro → Stop L → Type 0
  StopsWide m stop.Spent = Unit {0}
  StopsWide m (stop.Wide l r) = ⊥
  StopsWide m (stop.WideParts l r) = IsWideAt parts table m l r
  StopsWide m stop.Memory = Unit {0}
