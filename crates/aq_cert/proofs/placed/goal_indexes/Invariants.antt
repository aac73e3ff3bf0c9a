use Rattle.std.proofs.Common.{◌≡◌, ℕ, length, slice_get, Some}
use Rattle.aq_cert.specs.Rows.{row_at}
use Rattle.aq_cert.specs.Placed.{IsIndexOf, lists_in}
use Rattle.aq_cert.specs.declared.index.Index.{Index}
use Rattle.aq_cert.proofs.placed.goal_indexes.Given as goal

abbrev pub invariant-loop-levels : goal.invariant-loop-levels
invariant-loop-levels l = record {
  count : length l.indexes.items ≡ l.levels-index;
  each : (g : ℕ) (index : Index) → slice_get l.indexes.items g ≡ Some index → IsIndexOf (row_at (lists_in (slice_get l.all g)) l.level) index;
}
