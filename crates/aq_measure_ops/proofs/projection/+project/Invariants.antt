use Rattle.std.proofs.Common.{◌≡◌, ℕ, ◌+◌, ◌-◌, ◌*◌, ◌≤◌, List, length, drop}
use Rattle.std.specs.Prelude.{IsTrue}
use Rattle.aq_store.specs.Nodes.{Extends, total_cost, runs_at}
use Rattle.aq_store.specs.Means.{MeanPairs, of_place}
use Rattle.aq_store.specs.Memos.{memo_at, is_done}
use Rattle.aq_store.specs.Owed.{rest_of, owed, prices_of}
use Rattle.aq_store.specs.Accounts.{HoldPlace}
use Rattle.aq_store.proofs.RunLemmas.{before}
use Rattle.aq_measure_ops.specs.Projection.{Projects, IsMemo}
use Rattle.aq_measure_ops.proofs.projection.+project.Given as goal

abbrev pub decreases-project_at : goal.decreases-project_at
decreases-project_at g l = 2 * (length l.shape.now - l.depth) + 1

abbrev pub decreases-project_pair : goal.decreases-project_pair
decreases-project_pair g l = 2 * (length l.shape.now - l.depth)

-- the pairs made so far are the projections of the place's first pairs, and what they took is paid for
abbrev pub invariant-project_at-loop-index : goal.invariant-project_at-loop-index
invariant-project_at-loop-index g l = record {
  keeps : Extends l.fn.store l.store;
  paid : total_cost l.store ≤ l.steps.taken;
  limit : l.steps.limit ≡ l.fn.steps.limit;
  memo : IsMemo g.L.Label.parts l.qubit l.outcome (length l.shape) l.store (memo_at l.memo);
  done : (q : ℕ) → IsTrue (is_done (memo_at l.fn.memo) q) → IsTrue (is_done (memo_at l.memo) q);
  cost : (levels : List (List ℕ)) → HoldPlace l.fn.store (drop l.depth l.shape) l.id levels
      → l.steps.taken + owed (prices_of (drop (l.depth + 1) l.shape)) (is_done (memo_at l.memo)) (rest_of levels) ≤ l.fn.steps.taken + owed (prices_of (drop
      (l.depth + 1) l.shape)) (is_done (memo_at l.fn.memo)) (rest_of levels);
  count : length l.pairs ≡ before (runs_at l.fn.store l.id) l.index;
  each : MeanPairs (of_place (Projects g.L.Label.parts (length l.shape) l.qubit l.outcome) l.fn.store l.id) l.store (drop (l.depth + 1) l.shape) l.pairs;
}
