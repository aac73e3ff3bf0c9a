use Rattle.std.proofs.Common.{rules}
use Rattle.aq_include.proofs.EndLemmas.{relates}
use Rattle.aq_include.proofs.end.compare.Goals as goal

pub returns-clause-relates : goal.returns-clause-relates
returns-clause-relates g c =
    relates g.L.Label.parts c.args.store.now g.L.Label.part_count g.met.L.Label.all_parts c.args.pairs.now c.as_slice.result.now c.in-Ok.list.items c.as_slice.ensures.value c.requires c.in-Ok.ensures
    c.ratio_of.result (search rules) (search rules) (search rules)
