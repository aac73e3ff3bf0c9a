use Rattle.std.proofs.Common.{◌≡◌, ◌-◌, replicate, refl, arith}
use Rattle.std.proofs.lemmas.Grind.{common_steps}
use Rattle.aq_set_build.specs.Bases.{numbered}
use Rattle.aq_set_build.proofs.FamilyLemmas.{two_heights, is_family}
use Rattle.aq_set_build.proofs.KetLemmas.{basis_node, basis-Extends, nothing-Extends}
use Rattle.aq_set_build.proofs.basis.all.Goals as goal

pub node-requires-clause-heights : goal.node-requires-clause-heights
node-requires-clause-heights c =
    let b = c.in_ok-basis.ensures.basis.shaped in
    let z = c.in_ok-basis.ensures.zero.shaped in
    two_heights c.basis_and_zero.new.store (replicate (c.args.qubits - 1) 2) c.in_ok-basis.basis c.in_ok-basis.zero c.in_ok-basis.zero c.in_ok-basis.basis b z z b

pub returns-clause-made : goal.returns-clause-made
returns-clause-made c =
    let same : c.in-Ok.shape.items ≡ replicate c.args.qubits 2 = grind (arith, common_steps, c.in-Ok.ensures.items_if_clones_equal) in
    let b = basis-Extends c.basis_and_zero.new.store c.node.new.self c.node.ensures.keeps (c.args.qubits - 1) c.in_ok-basis.basis c.in_ok-basis.ensures.basis in
    let z = nothing-Extends c.basis_and_zero.new.store c.node.new.self c.node.ensures.keeps (c.args.qubits - 1) c.in_ok-basis.zero c.in_ok-basis.ensures.zero in
    is_family (numbered c.args.qubits) c.node.new.self (replicate c.args.qubits 2) (replicate c.args.qubits 2) (record { root = c.in_ok-root.root; shape = c.in-Ok.shape }) same refl
    (basis_node c.node.new.self c.args.qubits (c.args.qubits - 1) c.in_ok-basis.basis c.in_ok-basis.zero c.in_ok-root.root (omega (arith, c.requires.some)) c.in_ok-root.ensures.adds.here b z)
