use Rattle.std.proofs.Common.{arith}
use Rattle.aq_store.proofs.SpanLemmas.{begin_first, begin_read}
use Rattle.aq_store.proofs.pairs.begin.Goals as goal

pub returns-then-index-eq0 : goal.returns-then-index-eq0
returns-then-index-eq0 c = begin_first c.args.spans.now c.args.index c.if-index-eq0.true

pub returns-else-index-eq0 : goal.returns-else-index-eq0
returns-else-index-eq0 c = begin_read c.args.spans.now c.args.index _ (omega (arith, c.if-index-eq0.false)) c.requires
