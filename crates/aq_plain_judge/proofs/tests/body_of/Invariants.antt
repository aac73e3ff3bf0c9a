use Rattle.std.proofs.Common.{All}
use Rattle.aq_plain_judge.specs.Examples.{IsSmallStmt}
use Rattle.aq_plain_judge.proofs.tests.body_of.Given as goal

abbrev pub invariant-loop-part : goal.invariant-loop-part
invariant-loop-part l = All IsSmallStmt l.body
