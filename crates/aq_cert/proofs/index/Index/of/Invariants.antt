use Rattle.std.proofs.Common.{◌≡◌, ◌<◌, ℕ, slice_get, get_or, Some, IsSome, nat_eq}
use Rattle.indexmap.specs.IndexMap.{get}
use Rattle.aq_cert.proofs.index.Index.of.Given as goal

abbrev pub invariant-loop-place : goal.invariant-loop-place
invariant-loop-place l = record {
  found : (node place : ℕ) → get nat_eq l.at node ≡ Some place → slice_get l.level place ≡ Some node;
  complete : (k : ℕ) → k < l.place → IsSome (get nat_eq l.at (get_or l.level k 0));
}
