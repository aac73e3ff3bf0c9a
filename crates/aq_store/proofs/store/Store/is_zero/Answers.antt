use Rattle.aq_store.proofs.KindLemmas.{other-somewhere}
use Rattle.aq_store.proofs.store.Store.is_zero.Goals as goal

pub returns-in_default : goal.returns-in_default
returns-in_default g c = record { null = tt; some = other-somewhere g.L.Label.parts c.args.self.now c.args.id c.kind.result c.kind.ensures c.in_default.not-AlwaysZero }
