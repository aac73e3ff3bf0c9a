use Rattle.std.proofs.Common.{◌≡◌, ◌<◌, ℕ, length}
use Rattle.std.specs.List.{AllZip}
use Rattle.aq_cert.specs.Rows.{row_at}
use Rattle.aq_cert.specs.Valid.{left_level, goal_level}
use Rattle.aq_cert.specs.Placed.{IsPlacedMacro}
use Rattle.aq_cert.proofs.placed.with_places.Given as goal

abbrev pub invariant-loop-level : goal.invariant-loop-level
invariant-loop-level g l = record {
  count : length l.rows ≡ l.level;
  each : (k : ℕ) → k < l.level
      → AllZip (IsPlacedMacro (length l.goals) (left_level l.store l.left l.goals k) (λ n. goal_level l.store l.left l.goals n k)) (row_at l.macros k) (row_at l.rows k);
}
