use Rattle.std.proofs.Common.{◌≡◌, ℕ, List, [], slice_get, Some, sym, subst, refl}
use Rattle.aq_store.specs.declared.node.Node.{Node}
use Rattle.aq_store.specs.declared.node.Node.TheVariants.{Leaf, Inner}
use Rattle.aq_store.specs.Nodes.{HasShape, Extends}
use Rattle.aq_store.proofs.TableLemmas.{HasShape-Extends, Extends-trans}
use Rattle.aq_measure_ops.proofs.tests.drawn.Goals as goal

leaf_shape : {L : Type 0} (table : List (Node L)) (s : List ℕ) (id : ℕ) (l : L) → s ≡ [] → slice_get table id ≡ Some (Leaf l) → HasShape table s id
unfolding HasShape
leaf_shape table s id l is at = subst (λ u. HasShape table u id) (sym is) (record { label = l; here = at })

pub above-requires-clause-first : goal.above-requires-clause-first
above-requires-clause-first c = leaf_shape c.leaf-2.new.self c.new.result.items c.in_ok-leaf.field-0 _ c.new.ensures.items
    (c.leaf-2.ensures.keeps.keeps c.in_ok-leaf.field-0 _ c.in_ok-leaf.ensures.adds.here)

pub above-requires-clause-second : goal.above-requires-clause-second
above-requires-clause-second c = leaf_shape c.leaf-2.new.self c.new-2.result.items c.in_ok-leaf-2.field-0 _ c.new-2.ensures.items c.in_ok-leaf-2.ensures.adds.here

pub above-requires-2-clause-first : goal.above-requires-2-clause-first
above-requires-2-clause-first c = leaf_shape c.above.new.store c.new-2.result.items c.in_ok-leaf-2.field-0 _ c.new-2.ensures.items
    (c.above.ensures.keeps.keeps c.in_ok-leaf-2.field-0 _ c.in_ok-leaf-2.ensures.adds.here)

pub above-requires-2-clause-second : goal.above-requires-2-clause-second
above-requires-2-clause-second c =
    leaf_shape c.above.new.store c.new.result.items c.in_ok-leaf.field-0 _ c.new.ensures.items (c.above.ensures.keeps.keeps c.in_ok-leaf.field-0 _
    (c.leaf-2.ensures.keeps.keeps c.in_ok-leaf.field-0 _ c.in_ok-leaf.ensures.adds.here))

pub above-requires-3-clause-first : goal.above-requires-3-clause-first
above-requires-3-clause-first c = HasShape-Extends c.above.new.store c.above-2.new.store c.above-2.ensures.keeps c.in_ok-low.low.shape.items c.in_ok-low.low.root c.in_ok-low.ensures.made

pub above-requires-4-clause-first : goal.above-requires-4-clause-first
above-requires-4-clause-first c = HasShape-Extends c.above-2.new.store c.above-3.new.store c.above-3.ensures.keeps c.in_ok-other_low.other_low.shape.items
    c.in_ok-other_low.other_low.root c.in_ok-other_low.ensures.made

pub above-requires-4-clause-second : goal.above-requires-4-clause-second
above-requires-4-clause-second c = HasShape-Extends c.above.new.store c.above-3.new.store (Extends-trans _ _ _ c.above-2.ensures.keeps c.above-3.ensures.keeps)
    c.in_ok-low.low.shape.items c.in_ok-low.low.root c.in_ok-low.ensures.made

pub above-requires-5-clause-first : goal.above-requires-5-clause-first
above-requires-5-clause-first c = HasShape-Extends c.above-3.new.store c.above-4.new.store c.above-4.ensures.keeps c.in_ok-middle.middle.shape.items c.in_ok-middle.middle.root
    c.in_ok-middle.ensures.made

pub returns-in_err-other_middle-clause-keeps : goal.returns-in_err-other_middle-clause-keeps
returns-in_err-other_middle-clause-keeps c =
    Extends-trans _ _ _ c.leaf.ensures.keeps (Extends-trans _ _ _ c.leaf-2.ensures.keeps (Extends-trans _ _ _ c.above.ensures.keeps (Extends-trans _ _ _ c.above-2.ensures.keeps
    (Extends-trans _ _ _ c.above-3.ensures.keeps c.above-4.ensures.keeps))))

pub returns-clause-keeps : goal.returns-clause-keeps
returns-clause-keeps c =
    Extends-trans _ _ _ c.leaf.ensures.keeps
    (Extends-trans _ _ _ c.leaf-2.ensures.keeps (Extends-trans _ _ _ c.above.ensures.keeps (Extends-trans _ _ _ c.above-2.ensures.keeps
    (Extends-trans _ _ _ c.above-3.ensures.keeps (Extends-trans _ _ _ c.above-4.ensures.keeps c.above-5.ensures.keeps)))))
