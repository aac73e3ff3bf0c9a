use Rattle.std.proofs.Common.{◌≡◌, ◌∷◌, [], slice_get, Some, sym, ap, subst, ◌∙◌, arith}
use Rattle.aq_store.specs.declared.node.Node.TheVariants.{Inner}
use Rattle.aq_store.specs.Nodes.{EachPair, HasShape}
use Rattle.aq_store.proofs.TableLemmas.{HasShape-Extends}
use Rattle.aq_store.proofs.ShapeLemmas.{EachPair-none, EachPair-more, shape_leaf, shape_node, shape_heights}
use Rattle.aq_store.proofs.tests.shared.Goals as goal

pub node-requires-clause-heights : goal.node-requires-clause-heights
node-requires-clause-heights c =
    let t = c.leaf-2.new.self in
    let one = HasShape-Extends c.leaf.new.self t c.leaf-2.ensures.keeps [] c.in_ok-one.one (shape_leaf c.leaf.new.self c.in_ok-one.one _ c.in_ok-one.ensures.adds.here) in
    let zero = shape_leaf t c.in_ok-zero.zero _ c.in_ok-zero.ensures.adds.here in
    shape_heights t [] c.as_slice.result.now (subst (EachPair (HasShape t [])) (sym c.as_slice.ensures) (EachPair-more _ c.in_ok-one.one c.in_ok-zero.zero [] one zero (EachPair-none _)))

pub node-requires-2-clause-heights : goal.node-requires-2-clause-heights
node-requires-2-clause-heights c =
    let t = c.node.new.self in
    let zero = HasShape-Extends c.leaf-2.new.self t c.node.ensures.keeps [] c.in_ok-zero.zero (shape_leaf c.leaf-2.new.self c.in_ok-zero.zero _ c.in_ok-zero.ensures.adds.here) in
    shape_heights t [] c.as_slice-2.result.now (subst (EachPair (HasShape t [])) (sym c.as_slice-2.ensures) (EachPair-more _ c.in_ok-zero.zero c.in_ok-zero.zero [] zero zero (EachPair-none _)))

pub node-requires-3-clause-heights : goal.node-requires-3-clause-heights
node-requires-3-clause-heights c =
    let s = c.node.new.self in
    let t = c.node-2.new.self in
    let one_first = HasShape-Extends c.leaf.new.self c.leaf-2.new.self c.leaf-2.ensures.keeps [] c.in_ok-one.one (shape_leaf c.leaf.new.self c.in_ok-one.one _ c.in_ok-one.ensures.adds.here) in
    let one = HasShape-Extends c.leaf-2.new.self s c.node.ensures.keeps [] c.in_ok-one.one one_first in
    let zero = HasShape-Extends c.leaf-2.new.self s c.node.ensures.keeps [] c.in_ok-zero.zero (shape_leaf c.leaf-2.new.self c.in_ok-zero.zero _ c.in_ok-zero.ensures.adds.here) in
    let zero_later = HasShape-Extends s t c.node-2.ensures.keeps [] c.in_ok-zero.zero zero in
    let lower_is : slice_get s c.in_ok-lower.lower ≡ Some (Inner ((c.in_ok-one.one, c.in_ok-zero.zero) ∷ [])) = c.in_ok-lower.ensures.adds.here ∙ ap (λ l. Some (Inner l)) c.as_slice.ensures in
    let lower_first = shape_node s [] c.in_ok-lower.lower _ lower_is (omega arith) (EachPair-more _ c.in_ok-one.one c.in_ok-zero.zero [] one zero (EachPair-none _)) in
    let lower = HasShape-Extends s t c.node-2.ensures.keeps (1 ∷ []) c.in_ok-lower.lower lower_first in
    let upper_is : slice_get t c.in_ok-upper.upper ≡ Some (Inner ((c.in_ok-zero.zero, c.in_ok-zero.zero) ∷ [])) = c.in_ok-upper.ensures.adds.here ∙ ap (λ l. Some (Inner l)) c.as_slice-2.ensures in
    let upper = shape_node t [] c.in_ok-upper.upper _ upper_is (omega arith) (EachPair-more _ c.in_ok-zero.zero c.in_ok-zero.zero [] zero_later zero_later (EachPair-none _)) in
    let last = EachPair-more _ c.in_ok-lower.lower c.in_ok-upper.upper [] lower upper (EachPair-none _) in
    let more = EachPair-more _ c.in_ok-upper.upper c.in_ok-lower.lower _ upper lower last in
    shape_heights t (1 ∷ []) c.as_slice-3.result.now (subst (EachPair (HasShape t (1 ∷ []))) (sym c.as_slice-3.ensures) (EachPair-more _ c.in_ok-upper.upper c.in_ok-lower.lower _ upper lower more))

pub returns : goal.returns
returns c =
    let s = c.node.new.self in
    let t = c.node-2.new.self in
    let r = c.node-3.new.self in
    let one_first = HasShape-Extends c.leaf.new.self c.leaf-2.new.self c.leaf-2.ensures.keeps [] c.in_ok-one.one (shape_leaf c.leaf.new.self c.in_ok-one.one _ c.in_ok-one.ensures.adds.here) in
    let one = HasShape-Extends c.leaf-2.new.self s c.node.ensures.keeps [] c.in_ok-one.one one_first in
    let zero = HasShape-Extends c.leaf-2.new.self s c.node.ensures.keeps [] c.in_ok-zero.zero (shape_leaf c.leaf-2.new.self c.in_ok-zero.zero _ c.in_ok-zero.ensures.adds.here) in
    let zero_later = HasShape-Extends s t c.node-2.ensures.keeps [] c.in_ok-zero.zero zero in
    let lower_is : slice_get s c.in_ok-lower.lower ≡ Some (Inner ((c.in_ok-one.one, c.in_ok-zero.zero) ∷ [])) = c.in_ok-lower.ensures.adds.here ∙ ap (λ l. Some (Inner l)) c.as_slice.ensures in
    let lower_first = shape_node s [] c.in_ok-lower.lower _ lower_is (omega arith) (EachPair-more _ c.in_ok-one.one c.in_ok-zero.zero [] one zero (EachPair-none _)) in
    let lower_later = HasShape-Extends s t c.node-2.ensures.keeps (1 ∷ []) c.in_ok-lower.lower lower_first in
    let lower = HasShape-Extends t r c.node-3.ensures.keeps (1 ∷ []) c.in_ok-lower.lower lower_later in
    let upper_is : slice_get t c.in_ok-upper.upper ≡ Some (Inner ((c.in_ok-zero.zero, c.in_ok-zero.zero) ∷ [])) = c.in_ok-upper.ensures.adds.here ∙ ap (λ l. Some (Inner l)) c.as_slice-2.ensures in
    let upper_first = shape_node t [] c.in_ok-upper.upper _ upper_is (omega arith) (EachPair-more _ c.in_ok-zero.zero c.in_ok-zero.zero [] zero_later zero_later (EachPair-none _)) in
    let upper = HasShape-Extends t r c.node-3.ensures.keeps (1 ∷ []) c.in_ok-upper.upper upper_first in
    let last = EachPair-more _ c.in_ok-lower.lower c.in_ok-upper.upper [] lower upper (EachPair-none _) in
    let more = EachPair-more _ c.in_ok-upper.upper c.in_ok-lower.lower _ upper lower last in
    let all = EachPair-more _ c.in_ok-upper.upper c.in_ok-lower.lower _ upper lower more in
    let root_is = c.in_ok-root.ensures.adds.here ∙ ap (λ l. Some (Inner l)) c.as_slice-3.ensures in
    subst (λ s. HasShape r s c.in_ok-root.root) (sym (c.in-Ok.ensures.items ∙ c.as_slice-4.ensures)) (shape_node r (1 ∷ []) c.in_ok-root.root _ root_is (omega arith) all)
