use Rattle.aq_set_build.proofs.ScaleLemmas.{scale_leaf_made, scale_leaf_cause}
use Rattle.aq_set_build.proofs.scaling.scale_leaf.Goals as goal

pub returns-in_default-clause-stops : goal.returns-in_default-clause-stops
returns-in_default-clause-stops c =
    scale_leaf_cause c.args.store.now c.args.id c.args.factor c.label-amp.result c.requires.leaf c.label-amp.ensures c.in_default.ensures

pub returns-clause-made : goal.returns-clause-made
returns-clause-made c =
    scale_leaf_made c.args.store.now c.leaf.new.self c.args.id c.in_ok-made.made c.args.factor c.label-amp.result c.in-Some.product c.requires.leaf c.label-amp.ensures
    c.in_ok-made.ensures.adds.here c.in-Some.ensures.0 c.in-Some.ensures.1
