use Rattle.std.proofs.Common.{◌≡◌, ℕ, ◌+◌, ◌*◌, ◌≤◌, length, take}
use Rattle.std.specs.Prelude.{IsTrue}
use Rattle.aq_store.specs.Nodes.{Extends, total_cost}
use Rattle.aq_store.specs.Memos.{memo_at}
use Rattle.aq_store.specs.Words.{lower}
use Rattle.aq_measure_ops.specs.Padding.{IsPadMemo}
use Rattle.aq_measure_ops.proofs.BudgetLemmas.{budget}
use Rattle.aq_measure_ops.proofs.JoiningLemmas.{IsJoined}
use Rattle.aq_measure_ops.proofs.joining.union_of.Given as goal

-- the pairs of the first parts are joined
abbrev pub invariant-loop-part : goal.invariant-loop-part
invariant-loop-part g l = record {
  keeps : Extends l.fn.store l.store;
  paid : total_cost l.store ≤ l.steps.taken;
  limit : l.steps.limit ≡ l.fn.steps.limit;
  memo : IsPadMemo l.store l.wide (memo_at l.memo);
  cost : l.steps.taken ≤ l.fn.steps.taken + 2 * length l.pairs * budget (lower l.wide);
  joined : IsJoined l.fn.store l.store (lower l.wide) (take l.part-index l.parts) l.pairs;
}
