use Rattle.std.proofs.Common.{◌≡◌, ℕ, length}
use Rattle.aq_cert.specs.Rows.{row_length}
use Rattle.aq_include.proofs.table.Table.new.Given as goal

abbrev pub invariant-loop-level : goal.invariant-loop-level
invariant-loop-level l = record {
  macros : length l.macros.items ≡ l._level;
  edges : length l.edges.items ≡ l._level;
  no_macros : (k : ℕ) → row_length l.macros.items k ≡ 0;
  no_edges : (k : ℕ) → row_length l.edges.items k ≡ 0;
}
