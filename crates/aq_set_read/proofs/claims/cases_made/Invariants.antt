use Rattle.std.proofs.Common.{◌≡◌, [], drop}
use Rattle.aq_set_read.specs.Meaning.{cases_made}
use Rattle.aq_set_read.proofs.claims.cases_made.Given as goal

abbrev pub invariant-loop-case : goal.invariant-loop-case
invariant-loop-case l = (cases_made l.made (drop l.case-index l.cases) l.collector ≡ cases_made [] l.cases l.fn.collector) × (l.collector.names ≡ l.fn.collector.names)
