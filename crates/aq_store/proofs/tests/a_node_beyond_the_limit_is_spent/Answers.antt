use Rattle.std.proofs.Common.{[], sym, subst}
use Rattle.aq_store.specs.Nodes.{EachPair, HasShape}
use Rattle.aq_store.proofs.TableLemmas.{HasShape-Extends}
use Rattle.aq_store.proofs.ShapeLemmas.{EachPair-none, EachPair-more, shape_leaf, shape_heights}
use Rattle.aq_store.proofs.tests.a_node_beyond_the_limit_is_spent.Goals as goal

pub node-refused-requires-clause-heights : goal.node-refused-requires-clause-heights
node-refused-requires-clause-heights g c =
    let t = c.leaf-2.new.self in
    let one = HasShape-Extends c.leaf.new.self t c.leaf-2.ensures.keeps [] c.in_ok-one.one (shape_leaf c.leaf.new.self c.in_ok-one.one _ c.in_ok-one.ensures.adds.here) in
    let zero = shape_leaf t c.in_ok-zero.zero _ c.in_ok-zero.ensures.adds.here in
    shape_heights t [] c.as_slice.result.now (subst (EachPair (HasShape t [])) (sym c.as_slice.ensures) (EachPair-more _ c.in_ok-one.one c.in_ok-zero.zero [] one zero (EachPair-none _)))
