use Rattle.std.proofs.Common.{◌≡◌, ◌+◌, ◌≤◌, ◌^◌, drop}
use Rattle.aq_sets.specs.Caps.{capped}
use Rattle.aq_obligations.specs.Enough.{statements}
use Rattle.aq_obligations.proofs.steps.+statements_in.Given as goal

-- what is counted, and what is still to come, come to the whole
abbrev pub invariant-loop-stmt : goal.invariant-loop-stmt
invariant-loop-stmt l = record {
  told : l.count ≤ 2 ^ 64;
  whole : capped (l.count + statements (drop l.stmt-index l.body)) ≡ capped (statements l.body);
}
