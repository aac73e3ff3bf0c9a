use Rattle.std.proofs.Common.{ap, ap₂, ◌∙◌, length}
use Rattle.aq_store.specs.Spans.{begin_of}
use Rattle.aq_store.proofs.SpanLemmas.{begin_last}
use Rattle.aq_store.proofs.pairs.Pairs.len.Goals as goal

pub returns : goal.returns
returns c =
    c.begin.ensures ∙ ap₂ (begin_of 0) c.as_slice.ensures c.len.ensures.value ∙ begin_last c.self.inside.spans.items c.self.invariant ∙ ap length c.self.view_is
