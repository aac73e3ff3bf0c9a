use Rattle.std.proofs.Common.{[], sym, subst}
use Rattle.aq_store.specs.Nodes.{EachPair, HasShape}
use Rattle.aq_store.proofs.TableLemmas.{HasShape-Extends}
use Rattle.aq_store.proofs.ShapeLemmas.{EachPair-none, EachPair-more, shape_leaf, shape_heights}
use Rattle.aq_store.proofs.tests.equal_nodes_have_one_id.Goals as goal

pub node-requires-clause-heights : goal.node-requires-clause-heights
node-requires-clause-heights g c =
    let t = c.leaf-3.new.self in
    let one_first = HasShape-Extends c.leaf.new.self c.leaf-2.new.self c.leaf-2.ensures.keeps [] c.in_ok-one.one (shape_leaf c.leaf.new.self c.in_ok-one.one _ c.in_ok-one.ensures.adds.here) in
    let one = HasShape-Extends c.leaf-2.new.self t c.leaf-3.ensures.keeps [] c.in_ok-one.one one_first in
    let zero = HasShape-Extends c.leaf-2.new.self t c.leaf-3.ensures.keeps [] c.in_ok-zero.zero (shape_leaf c.leaf-2.new.self c.in_ok-zero.zero _ c.in_ok-zero.ensures.adds.here) in
    shape_heights t [] c.as_slice.result.now (subst (EachPair (HasShape t [])) (sym c.as_slice.ensures) (EachPair-more _ c.in_ok-one.one c.in_ok-zero.zero [] one zero (EachPair-none _)))

pub node-requires-2-clause-heights : goal.node-requires-2-clause-heights
node-requires-2-clause-heights g c =
    let s = c.leaf-3.new.self in
    let t = c.node.new.self in
    let one_first = HasShape-Extends c.leaf.new.self c.leaf-2.new.self c.leaf-2.ensures.keeps [] c.in_ok-one.one (shape_leaf c.leaf.new.self c.in_ok-one.one _ c.in_ok-one.ensures.adds.here) in
    let one_later = HasShape-Extends c.leaf-2.new.self s c.leaf-3.ensures.keeps [] c.in_ok-one.one one_first in
    let zero_later = HasShape-Extends c.leaf-2.new.self s c.leaf-3.ensures.keeps [] c.in_ok-zero.zero (shape_leaf c.leaf-2.new.self c.in_ok-zero.zero _ c.in_ok-zero.ensures.adds.here) in
    let one = HasShape-Extends s t c.node.ensures.keeps [] c.in_ok-one.one one_later in
    let zero = HasShape-Extends s t c.node.ensures.keeps [] c.in_ok-zero.zero zero_later in
    shape_heights t [] c.as_slice-2.result.now (subst (EachPair (HasShape t [])) (sym c.as_slice-2.ensures) (EachPair-more _ c.in_ok-one.one c.in_ok-zero.zero [] one zero (EachPair-none _)))
