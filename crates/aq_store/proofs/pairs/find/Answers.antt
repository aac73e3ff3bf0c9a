use Rattle.std.proofs.Common.{leb, rules}
use Rattle.std.proofs.lemmas.List.Sorted.{IsPartitionPoint-from_clause, IsPartitionedBy-leb}
use Rattle.aq_store.specs.declared.pairs.Span.{Span}
use Rattle.aq_store.proofs.SpanLemmas.{ends_rise, found_choice}
use Rattle.aq_store.proofs.pairs.find.Goals as goal

pub returns : goal.returns
returns c =
    let parted = IsPartitionedBy-leb (λ (s : Span). s.end) c.args.spans.now c.args.choice (ends_rise 0 c.args.spans.now c.requires.canonical) in
    let point = IsPartitionPoint-from_clause (λ (s : Span). leb s.end c.args.choice) _ _ c.partition_point.ensures.partitioned parted (λ a r q k. search rules) in
    found_choice c.args.spans.now c.partition_point.result c.args.choice c.requires.canonical c.requires.within c.partition_point.ensures.bound point.0 point.1
