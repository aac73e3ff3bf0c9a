use Rattle.std.proofs.Common.{◌≡◌, ◌-◌, ℕ, suc, List, [], ◌∷◌, replicate, Result, Ok, Err, IfOk, sym, ap, subst, arith}
use Rattle.aq_store.specs.Count.{Count}
use Rattle.aq_store.specs.Nodes.{HasShape, EachPair, Extends, Adds}
use Rattle.aq_store.specs.declared.node.Node.{Node}
use Rattle.aq_store.specs.declared.node.Node.TheVariants.{Leaf, Inner}
use Rattle.aq_store.specs.declared.store.Stop.{Stop}
use Rattle.aq_store.proofs.TableLemmas.{HasShape-Extends, EachPair-map}
use Rattle.aq_store.proofs.ShapeLemmas.{EachPair-more, EachPair-none, shape_leaf, shape_node, shape_heights}
use Rattle.aq_symbolic.proofs.drawn.+state.Goals as goal

leaf_added : {L : Type 0} (l : L) (old new : List (Node L)) (before now : Count) (levels : ℕ) (r : Result ℕ (Stop L)) → levels ≡ 0 → Adds (Leaf l) old new before now r → IfOk r (HasShape new (replicate levels 1))
leaf_added l old new before now levels (Ok id) e h = subst (λ n. HasShape new (replicate n 1) id) (sym e) (shape_leaf new id l h.here)
leaf_added l old new before now levels (Err why) e h = tt

one_more : (levels : ℕ) → (levels ≡ 0 → ⊥) → ◌≡◌ {A = List ℕ} (1 ∷ replicate (levels - 1) 1) (replicate levels 1)
one_more levels some = let e : suc (levels - 1) ≡ levels = omega arith in ap (λ n. replicate n 1) e

module _ {L : Type 0} (shape : List ℕ) (left right : ℕ) where
  both : (middle old : List (Node L)) → Extends middle old → HasShape middle shape left → HasShape old shape right → EachPair (HasShape old shape) ((left, right) ∷ [])
  both middle old x s t = EachPair-more (HasShape old shape) left right [] (HasShape-Extends middle old x shape left s) t (EachPair-none (HasShape old shape))

  node_added : (whole : List ℕ) (old new : List (Node L)) (before now : Count) (r : Result ℕ (Stop L)) → 1 ∷ shape ≡ whole → EachPair (HasShape old shape) ((left, right) ∷ []) → Extends old new → Adds (Inner ((left, right) ∷ [])) old new before now r
      → IfOk r (HasShape new whole)
  node_added whole old new before now (Ok id) is each x h =
      subst (λ s. HasShape new s id) is (shape_node new shape id ((left, right) ∷ []) h.here (omega arith) (EachPair-map _ _ ((left, right) ∷ []) (HasShape-Extends old new x shape) each))
  node_added whole old new before now (Err why) is each x h = tt

pub returns-in-Some-clause-made : goal.returns-in-Some-clause-made
returns-in-Some-clause-made t c = leaf_added c.in-Some.amp.now c.args.store.now c.leaf.new.self c.args.steps.now c.leaf.new.steps c.args.levels c.leaf.result c.if-levels-eq0.true c.leaf.ensures.adds

pub returns-in-None-clause-made : goal.returns-in-None-clause-made
returns-in-None-clause-made t c = leaf_added c.zero.result c.args.store.now c.leaf-in-None.new.self c.args.steps.now c.leaf-in-None.new.steps c.args.levels c.leaf-in-None.result c.if-levels-eq0.true c.leaf-in-None.ensures.adds

pub node-requires-clause-heights : goal.node-requires-clause-heights
node-requires-clause-heights t c =
    shape_heights c.state-2.new.store (replicate (c.args.levels - 1) 1) _ (both (replicate (c.args.levels - 1) 1) c.in_ok-left.left c.in_ok-right.right c.state.new.store c.state-2.new.store c.state-2.ensures.keeps c.in_ok-left.ensures.made c.in_ok-right.ensures.made)

pub returns-clause-made : goal.returns-clause-made
returns-clause-made t c =
    node_added (replicate (c.args.levels - 1) 1) c.in_ok-left.left c.in_ok-right.right (replicate c.args.levels 1) c.state-2.new.store c.node.new.self c.state-2.new.steps c.node.new.steps c.node.result (one_more c.args.levels c.if-levels-eq0.false)
    (both (replicate (c.args.levels - 1) 1) c.in_ok-left.left c.in_ok-right.right c.state.new.store c.state-2.new.store c.state-2.ensures.keeps c.in_ok-left.ensures.made c.in_ok-right.ensures.made) c.node.ensures.keeps c.node.ensures.adds
