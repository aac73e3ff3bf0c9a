use Rattle.std.proofs.Common.{◌≡◌, ◌++◌, drop}
use Rattle.aq_set_read.specs.Meaning.{cases_of}
use Rattle.aq_set_read.proofs.claims.cases_of.Given as goal

abbrev pub invariant-loop-i : goal.invariant-loop-i
invariant-loop-i l = l.all ++ cases_of (drop l.i l.cases) (drop l.i l.made) ≡ cases_of l.cases l.made
