use Rattle.std.proofs.Common.{◌≡◌, ℕ, length, take, slice_get, Some, sum_by}
use Rattle.aq_cert.specs.declared.cert.Rel.{Rel}
use Rattle.aq_cert.specs.Goals.{goal_rest}
use Rattle.aq_include.specs.Costs.{rel_weight}
use Rattle.aq_include.specs.Answers.{IsRootRel, goal_words}
use Rattle.aq_include.proofs.inclusion.root_macro.Given as goal

abbrev pub invariant-loop-number : goal.invariant-loop-number
invariant-loop-number l = record {
  count : length l.rels ≡ l.number;
  rels : (k : ℕ) (rel : Rel) → slice_get l.rels k ≡ Some rel → IsRootRel l.root l.goals k rel;
  weight : sum_by (rel_weight (goal_rest l.goals 0)) l.rels ≡ goal_words (take l.number l.goals);
}
