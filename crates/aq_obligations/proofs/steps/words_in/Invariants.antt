use Rattle.std.proofs.Common.{◌≡◌, ◌+◌, ◌≤◌, ◌^◌, drop}
use Rattle.std.specs.List.{sum_by}
use Rattle.aq_sets.specs.declared.sets.Sets.{Sets}
use Rattle.aq_sets.specs.Caps.{capped, capped_sizes}
use Rattle.aq_obligations.specs.Enough.{words_of}
use Rattle.aq_obligations.proofs.steps.words_in.Given as goal

-- what is counted, and what is still to come, come to the whole
abbrev pub invariant-loop-case : goal.invariant-loop-case
invariant-loop-case l = record {
  told : l.sum ≤ 2 ^ 64;
  whole : (s : Sets) → l.sizes ≡ capped_sizes s.exprs → capped (l.sum + sum_by (words_of s) (drop l.case-index l.cases)) ≡ capped (sum_by (words_of s) l.cases);
}
