use Rattle.std.proofs.Common.{ℕ, List, [], Result, Ok, Err, IfOk}
use Rattle.aq_store.specs.Count.{Count}
use Rattle.aq_store.specs.Nodes.{HasShape, Adds}
use Rattle.aq_store.specs.declared.node.Node.{Node}
use Rattle.aq_store.specs.declared.node.Node.TheVariants.{Leaf}
use Rattle.aq_store.specs.declared.store.Stop.{Stop}
use Rattle.aq_store.proofs.ShapeLemmas.{shape_leaf}
use Rattle.aq_symbolic.proofs.tests.leaf.Goals as goal

leaf_added : {L : Type 0} (l : L) (old new : List (Node L)) (before now : Count) (r : Result ℕ (Stop L)) → Adds (Leaf l) old new before now r → IfOk r (HasShape new [])
leaf_added l old new before now (Ok id) h = shape_leaf new id l h.here
leaf_added l old new before now (Err why) h = tt

pub returns-clause-made : goal.returns-clause-made
returns-clause-made c = leaf_added c.args.label c.args.store.now c.leaf.new.self c.args.steps.now c.leaf.new.steps c.leaf.result c.leaf.ensures.adds
