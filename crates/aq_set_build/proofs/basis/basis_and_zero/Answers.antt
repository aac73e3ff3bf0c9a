use Rattle.std.proofs.Common.{◌+◌, ◌*◌, replicate, Some, refl, ap, ◌∙◌, arith}
use Rattle.aq_store.specs.declared.node.Node.TheVariants.{Leaf}
use Rattle.aq_set_build.proofs.GrowthLemmas.{grows_then, grows_adds}
use Rattle.aq_set_build.proofs.FamilyLemmas.{two_heights}
use Rattle.aq_set_build.proofs.KetLemmas.{basis_leaf, nothing_leaf, basis_node, nothing_node, basis-Extends, nothing-Extends}
use Rattle.aq_set_build.proofs.basis.basis_and_zero.Goals as goal

pub loop-level-init : goal.loop-level-init
loop-level-init c = record {
  basis = basis-Extends c.leaf.new.self c.leaf-2.new.self c.leaf-2.ensures.keeps 0 c.in_ok-basis.basis
      (basis_leaf c.leaf.new.self c.in_ok-basis.basis 0 refl (c.in_ok-basis.ensures.adds.here ∙ ap (λ x. Some (Leaf x)) c.one.ensures));
  zero = nothing_leaf c.leaf-2.new.self c.in_ok-zero.zero 0 refl (c.in_ok-zero.ensures.adds.here ∙ ap (λ x. Some (Leaf x)) c.zero.ensures);
  grows = grows_then 1 1 _ _ _ _ _ _ _ (grows_adds _ 1 _ _ _ _ _ c.leaf.ensures.adds c.leaf.ensures.paid c.leaf.ensures.keeps c.leaf.ensures.cheap)
      (grows_adds _ 1 _ _ _ _ _ c.leaf-2.ensures.adds c.leaf-2.ensures.paid c.leaf-2.ensures.keeps c.leaf-2.ensures.cheap) (omega arith);
}

pub node-requires-clause-heights : goal.node-requires-clause-heights
node-requires-clause-heights c =
    let b = c.loop-level.invariant.basis.shaped in
    let z = c.loop-level.invariant.zero.shaped in
    two_heights c.loop-level.store (replicate c.loop-level.level 2) c.loop-level.basis c.loop-level.zero c.loop-level.zero c.loop-level.basis b z z b

pub node-requires-in-loop-level-clause-heights : goal.node-requires-in-loop-level-clause-heights
node-requires-in-loop-level-clause-heights c =
    let z = nothing-Extends c.loop-level.store c.node.new.self c.node.ensures.keeps c.loop-level.level c.loop-level.zero c.loop-level.invariant.zero in
    two_heights c.node.new.self (replicate c.loop-level.level 2) c.loop-level.zero c.loop-level.zero c.loop-level.zero c.loop-level.zero z.shaped z.shaped z.shaped z.shaped

pub loop-level-preserved : goal.loop-level-preserved
loop-level-preserved c =
    let b = basis-Extends c.loop-level.store c.node.new.self c.node.ensures.keeps c.loop-level.level c.loop-level.basis c.loop-level.invariant.basis in
    let z = nothing-Extends c.loop-level.store c.node.new.self c.node.ensures.keeps c.loop-level.level c.loop-level.zero c.loop-level.invariant.zero in
    let y = nothing-Extends c.node.new.self c.node-in-loop-level.new.self c.node-in-loop-level.ensures.keeps c.loop-level.level c.loop-level.zero z in
    record {
      basis = basis-Extends c.node.new.self c.node-in-loop-level.new.self c.node-in-loop-level.ensures.keeps (c.loop-level.level + 1) c.in_ok-next.next
          (basis_node c.node.new.self (c.loop-level.level + 1) c.loop-level.level c.loop-level.basis c.loop-level.zero c.in_ok-next.next (omega arith) c.in_ok-next.ensures.adds.here b z);
      zero = nothing_node c.node-in-loop-level.new.self (c.loop-level.level + 1) c.loop-level.level c.loop-level.zero c.in_ok-zero-2.zero (omega arith) c.in_ok-zero-2.ensures.adds.here y;
      grows = grows_then (2 + 4 * c.loop-level.level) 4 _ _ _ _ _ _ _ c.loop-level.invariant.grows
          (grows_then 2 2 4 _ _ _ _ _ _ (grows_adds _ 2 _ _ _ _ _ c.node.ensures.adds c.node.ensures.paid c.node.ensures.keeps c.node.ensures.cheap)
          (grows_adds _ 2 _ _ _ _ _ c.node-in-loop-level.ensures.adds c.node-in-loop-level.ensures.paid c.node-in-loop-level.ensures.keeps c.node-in-loop-level.ensures.cheap) (omega arith)) (omega arith);
    }
