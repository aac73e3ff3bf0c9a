use Rattle.std.proofs.Common.{All}
use Rattle.aq_plain_judge.specs.Examples.{IsSmallCase}
use Rattle.aq_plain_judge.proofs.tests.cases_of.Given as goal

abbrev pub invariant-loop-set : goal.invariant-loop-set
invariant-loop-set l = All IsSmallCase l.cases
