-- How runs are kept: each with the choice behind its last one, so that it begins where the run before ends.
use Rattle.std.specs.Prelude.{◌≡◌, ℕ, zero, suc, ◌+◌, ◌-◌, ◌<◌, ◌≤◌, List, [], ◌∷◌, length, slice_get, Some}
use Rattle.aq_store.specs.declared.pairs.Span.{Span}
use Rattle.aq_store.specs.Runs.{Run, compress}

-- the runs that are kept so, where the first one begins at a choice
unfoldable pub runs_of : ℕ → List Span → List Run
runs_of start [] = []
runs_of start (s ∷ ss) = record { left = s.left; right = s.right; count = s.end - start } ∷ runs_of s.end ss

-- how runs are kept
unfoldable pub spans_from : ℕ → List Run → List Span
spans_from start [] = []
spans_from start (r ∷ rs) = record { left = r.left; right = r.right; end = start + r.count } ∷ spans_from (start + r.count) rs

-- how a list of pairs is kept
abbrev pub spans_of : List (ℕ × ℕ) → List Span
spans_of ps = spans_from 0 (compress ps)

-- the choice at which a run begins, and behind the last run the number of choices
unfoldable pub begin_of : ℕ → List Span → ℕ → ℕ
begin_of start ss zero = start
begin_of start [] (suc index) = start
begin_of start (s ∷ ss) (suc index) = begin_of s.end ss index

-- the run at the index has the choice
pub record HasChoice (ss : List Span) (index choice : ℕ) : Type 0 where
  pub within : index < length ss
  pub begins : begin_of 0 ss index ≤ choice
  pub ends : (s : Span) → slice_get ss index ≡ Some s → choice < s.end
