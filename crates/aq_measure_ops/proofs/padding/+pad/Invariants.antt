use Rattle.std.proofs.Common.{◌≡◌, ℕ, ◌+◌, ◌-◌, ◌*◌, ◌≤◌, ◌∷◌, length, drop, get_or}
use Rattle.std.specs.Prelude.{IsTrue}
use Rattle.aq_store.specs.Nodes.{Extends, total_cost, runs_at}
use Rattle.aq_store.specs.Memos.{memo_at, is_done}
use Rattle.aq_store.specs.Accounts.{HoldPairs, PaysOwed}
use Rattle.aq_measure_ops.specs.Padding.{Padded, IsPadMemo}
use Rattle.aq_measure_ops.proofs.PaddingLemmas.{IsMade}
use Rattle.aq_measure_ops.proofs.padding.+pad.Given as goal

abbrev pub decreases-pad_at : goal.decreases-pad_at
decreases-pad_at g l = 3 * (length l.from.now - l.depth) + 2

abbrev pub decreases-pad_runs : goal.decreases-pad_runs
decreases-pad_runs g l = 3 * (length l.from.now - l.depth) + 1

abbrev pub decreases-pad_pair : goal.decreases-pad_pair
decreases-pad_pair g l = 3 * (length l.from.now - l.depth) + 3

-- the pairs of the first runs are made, and what they took is paid for
abbrev pub invariant-pad_runs-loop-index : goal.invariant-pad_runs-loop-index
invariant-pad_runs-loop-index g l = record {
  keeps : Extends l.fn.store l.store;
  paid : total_cost l.store ≤ l.steps.taken;
  limit : l.steps.limit ≡ l.fn.steps.limit;
  memo : IsPadMemo l.store l.to (memo_at l.memo);
  done : (q : ℕ) → IsTrue (is_done (memo_at l.fn.memo) q) → IsTrue (is_done (memo_at l.memo) q);
  cost : PaysOwed (HoldPairs l.fn.store (drop (l.depth + 1) l.from) l.id) (drop (l.depth + 1) l.to) (memo_at l.fn.memo) (memo_at l.memo) l.fn.steps l.steps;
  made : IsMade (Padded l.fn.store (drop l.depth l.from) ((get_or l.from l.depth 0 + l.more) ∷ drop (l.depth + 1) l.to) l.id) l.store (drop (l.depth + 1) l.to)
      (runs_at l.fn.store l.id) (get_or l.from l.depth 0) l.more l.index l.fn.pairs l.pairs;
}
