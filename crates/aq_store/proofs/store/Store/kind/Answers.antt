use Rattle.aq_store.proofs.KindLemmas.{kind-past}
use Rattle.aq_store.proofs.store.Store.kind.Goals as goal

pub returns-in-None : goal.returns-in-None
returns-in-None g c =
    kind-past g.L.Label.parts c.self.inside.nodes.keys c.args.self.now c.self.inside.kinds.items c.as_slice.result.now c.id.inside.place c.args.id c.self.view_is c.self.invariant c.as_slice.ensures.value
    c.id.view_is c.in-None.ensures.lookup.3
