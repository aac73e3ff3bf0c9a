use Rattle.std.proofs.Common.{◌≡◌, ◌<◌, ℕ, List, [], ◌∷◌, length, Result, Ok, Err, IfOk, subst, refl, arith}
use Rattle.aq_store.specs.Count.{Count}
use Rattle.aq_store.specs.Nodes.{HasShape, EachPair, Extends, Adds}
use Rattle.aq_store.specs.declared.node.Node.{Node}
use Rattle.aq_store.specs.declared.node.Node.TheVariants.{Inner}
use Rattle.aq_store.specs.declared.store.Stop.{Stop}
use Rattle.aq_store.proofs.TableLemmas.{HasShape-Extends, EachPair-map}
use Rattle.aq_store.proofs.ShapeLemmas.{EachPair-more, EachPair-none, shape_node, shape_heights}
use Rattle.aq_symbolic.proofs.tests.both.Goals as goal

node_added : {L : Type 0} (ps : List (ℕ × ℕ)) (old new : List (Node L)) (before now : Count) (r : Result ℕ (Stop L)) → length ps ≡ 1 → EachPair (HasShape old []) ps → Extends old new
    → Adds (Inner ps) old new before now r → IfOk r (HasShape new (1 ∷ []))
node_added ps old new before now (Ok id) one each x h =
    subst (λ n. HasShape new (n ∷ []) id) one (shape_node new [] id ps h.here (let some : 0 < length ps = omega arith in some) (EachPair-map _ _ ps (HasShape-Extends old new x []) each))
node_added ps old new before now (Err why) one each x h = tt

pub node-requires-clause-heights : goal.node-requires-clause-heights
node-requires-clause-heights c =
    shape_heights c.args.store.now [] _ (EachPair-more (HasShape c.args.store.now []) c.args.side c.args.side [] c.requires.side c.requires.side (EachPair-none (HasShape c.args.store.now [])))

pub returns-clause-made : goal.returns-clause-made
returns-clause-made c =
    node_added ((c.args.side, c.args.side) ∷ []) c.args.store.now c.node.new.self c.args.steps.now c.node.new.steps c.node.result refl
    (EachPair-more (HasShape c.args.store.now []) c.args.side c.args.side [] c.requires.side c.requires.side (EachPair-none (HasShape c.args.store.now []))) c.node.ensures.keeps c.node.ensures.adds
