use Rattle.std.proofs.Common.{◌≡◌}
use Rattle.std.specs.Io.KnownBytes.{Keeps}
use Rattle.aq_world.proofs.reading.Reading.read.Given as goal

abbrev pub invariant-loop : goal.invariant-loop
invariant-loop g l = record {
  bytes : Keeps (g.F.Read.remaining l.fn.self.file) (g.F.Read.remaining l.self.file);
  failed : l.self.failed ≡ l.fn.self.failed;
}
