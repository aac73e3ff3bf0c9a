use Rattle.std.proofs.Common.{◌≡◌, ◌-◌, ◌<◌, length, replicate, ◌∙◌, arith, [], ap}
use Rattle.std.proofs.lemmas.Grind.{common_steps}
use Rattle.std.proofs.Common.{Some}
use Rattle.aq_store.specs.declared.node.Node.TheVariants.{Leaf}
use Rattle.aq_set_build.proofs.FamilyLemmas.{one_height}
use Rattle.aq_set_build.proofs.KetLemmas.{zero_first, zero_next, zero_read, kets-Extends}
use Rattle.aq_set_build.proofs.bracket.next_zero.Goals as goal

pub returns-then-is_empty-clause-made : goal.returns-then-is_empty-clause-made
returns-then-is_empty-clause-made c =
    let none : length c.args.zeros.now ≡ 0 = grind (arith, common_steps) in
    zero_first c.leaf.new.self c.in_ok-made.made (length c.args.zeros.now) none (c.in_ok-made.ensures.adds.here ∙ ap (λ x. Some (Leaf x)) c.zero.ensures)

pub node-requires-clause-heights : goal.node-requires-clause-heights
node-requires-clause-heights c =
    let some : length c.args.zeros.now - 1 < length c.args.zeros.now = grind (arith, common_steps) in
    let z = zero_read c.args.store.now c.args.zeros.now (length c.args.zeros.now - 1) c.index-zeros-zeros.result c.requires.zeros some c.index-zeros-zeros.is in
    one_height c.args.store.now (replicate (length c.args.zeros.now - 1) 1) c.index-zeros-zeros.result c.index-zeros-zeros.result z.shaped z.shaped

pub returns-clause-made : goal.returns-clause-made
returns-clause-made c =
    let some : length c.args.zeros.now - 1 < length c.args.zeros.now = grind (arith, common_steps) in
    let z = zero_read c.args.store.now c.args.zeros.now (length c.args.zeros.now - 1) c.index-zeros-zeros.result c.requires.zeros some c.index-zeros-zeros.is in
    zero_next c.node.new.self (length c.args.zeros.now) (length c.args.zeros.now - 1) c.index-zeros-zeros.result c.in_ok-made-2.made (omega arith) c.in_ok-made-2.ensures.adds.here
    (kets-Extends c.args.store.now c.node.new.self c.node.ensures.keeps (length c.args.zeros.now - 1) [] c.index-zeros-zeros.result z)
