use Rattle.std.proofs.Common.{◌≡◌, length, ◌-◌, ◌≤◌}
use Rattle.std.specs.Io.KnownBytes.{Consumes}
use Rattle.aq_world.proofs.reading.read_at_most.Given as goal

abbrev pub invariant-loop-count : goal.invariant-loop-count
invariant-loop-count g l = record {
  within : length l.bytes.items ≤ l.most;
  bytes : Consumes (g.F.Read.remaining l.fn.file.file) (g.F.Read.remaining l.file.file) l.bytes.items;
  failed : l.file.failed ≡ l.fn.file.failed;
}

abbrev pub decreases-loop-count : goal.decreases-loop-count
decreases-loop-count g l = l.most - length l.bytes.items
