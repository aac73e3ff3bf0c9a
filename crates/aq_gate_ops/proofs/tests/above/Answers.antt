use Rattle.std.proofs.Common.{◌≡◌, ◌<◌, ℕ, List, [], ◌∷◌, length, Result, Ok, Err, IfOk, subst, refl, arith}
use Rattle.aq_store.specs.Count.{Count}
use Rattle.aq_store.specs.Nodes.{HasShape, EachPair, Extends, Adds}
use Rattle.aq_store.specs.declared.node.Node.{Node}
use Rattle.aq_store.specs.declared.node.Node.TheVariants.{Inner}
use Rattle.aq_store.specs.declared.store.Stop.{Stop}
use Rattle.aq_store.proofs.TableLemmas.{HasShape-Extends, EachPair-map}
use Rattle.aq_store.proofs.ShapeLemmas.{shape_node, shape_heights}
use Rattle.aq_gate_ops.proofs.TestLemmas.{two_pairs}
use Rattle.aq_gate_ops.proofs.tests.above.Goals as goal

node_added : {L : Type 0} (ps : List (ℕ × ℕ)) (shape : List ℕ) (old new : List (Node L)) (before now : Count) (r : Result ℕ (Stop L)) → length ps ≡ 2 → EachPair (HasShape old shape) ps → Extends old new
    → Adds (Inner ps) old new before now r → IfOk r (HasShape new (2 ∷ shape))
node_added ps shape old new before now (Ok id) two each x h =
    subst (λ n. HasShape new (n ∷ shape) id) two (shape_node new shape id ps h.here (let some : 0 < length ps = omega arith in some) (EachPair-map _ _ ps (HasShape-Extends old new x shape) each))
node_added ps shape old new before now (Err why) two each x h = tt

pub node-requires-clause-heights : goal.node-requires-clause-heights
node-requires-clause-heights c =
    shape_heights c.args.store.now c.args.shape.now _ (two_pairs (HasShape c.args.store.now c.args.shape.now) c.args.first.0 c.args.first.1 c.args.second.0 c.args.second.1
    c.requires.first_left c.requires.first_right c.requires.second_left c.requires.second_right)

pub returns-clause-made : goal.returns-clause-made
returns-clause-made c = node_added ((c.args.first.0, c.args.first.1) ∷ (c.args.second.0, c.args.second.1) ∷ []) c.args.shape.now c.args.store.now c.node.new.self c.args.steps.now c.node.new.steps c.node.result refl
    (two_pairs (HasShape c.args.store.now c.args.shape.now) c.args.first.0 c.args.first.1 c.args.second.0 c.args.second.1 c.requires.first_left c.requires.first_right c.requires.second_left c.requires.second_right)
    c.node.ensures.keeps c.node.ensures.adds
