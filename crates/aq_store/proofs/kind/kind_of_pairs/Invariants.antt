use Rattle.aq_store.specs.Kinds.{IsKindOfPair}
use Rattle.aq_store.proofs.KindLemmas.{EachBefore}
use Rattle.aq_store.proofs.kind.kind_of_pairs.Given as goal

-- the pairs of the runs so far have the kind
abbrev pub invariant-loop-index : goal.invariant-loop-index
invariant-loop-index l = EachBefore (λ p. IsKindOfPair l.kinds p l.kind) l.pairs l.index
