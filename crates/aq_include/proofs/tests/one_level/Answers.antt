use Rattle.std.proofs.Common.{◌≡◌, ◌+◌, ◌<◌, ℕ, List, [], ◌∷◌, length, sym, ap, subst, ◌∙◌, arith}
use Rattle.std.proofs.lemmas.List.{length-append}
use Rattle.aq_store.specs.Nodes.{EachPair, HasShape}
use Rattle.aq_store.proofs.TableLemmas.{EachPair-map, HasShape-Extends}
use Rattle.aq_store.proofs.ShapeLemmas.{EachPair-none, shape_leaf, shape_node, shape_heights}
use Rattle.aq_include.proofs.TestLemmas.{extends-then, leaves-push}
use Rattle.aq_include.proofs.tests.one_level.Goals as goal

pub loop-vector-init : goal.loop-vector-init
loop-vector-init c = record {
  keeps = record { keeps = λ id node e. e };
  paid = c.requires.paid;
  pairs = subst (EachPair (HasShape c.args.store.now [])) (sym c.new-pairs.ensures.items) (EachPair-none (HasShape c.args.store.now []));
  count = ap (λ (l : List (ℕ × ℕ)). length l) c.new-pairs.ensures.items;
}

pub loop-vector-preserved : goal.loop-vector-preserved
loop-vector-preserved c =
    let first = c.leaf.new.self in
    let second = c.leaf-in-loop-vector.new.self in
    let both = extends-then c.loop-vector.store first second c.leaf.ensures.keeps c.leaf-in-loop-vector.ensures.keeps in
    record {
      keeps = extends-then c.args.store.now c.loop-vector.store second c.loop-vector.invariant.keeps both;
      paid = c.leaf-in-loop-vector.ensures.paid;
      pairs = leaves-push c.loop-vector.store second c.loop-vector.pairs.items c.push.new.self.items c.in_ok-left.left c.in_ok-right.right both c.loop-vector.invariant.pairs
          (HasShape-Extends first second c.leaf-in-loop-vector.ensures.keeps [] c.in_ok-left.left (shape_leaf first c.in_ok-left.left _ c.in_ok-left.ensures.adds.here))
          (shape_leaf second c.in_ok-right.right _ c.in_ok-right.ensures.adds.here) c.in-Ok.ensures.items;
      count = ap (λ (l : List (ℕ × ℕ)). length l) c.in-Ok.ensures.items ∙ length-append c.loop-vector.pairs.items ((c.in_ok-left.left, c.in_ok-right.right) ∷ [])
          ∙ ap (λ n. n + 1) c.loop-vector.invariant.count;
    }

pub node-requires-clause-heights : goal.node-requires-clause-heights
node-requires-clause-heights c =
    shape_heights c.loop-vector.store [] c.as_slice.result.now (subst (EachPair (HasShape c.loop-vector.store [])) (sym c.as_slice.ensures.value) c.loop-vector.invariant.pairs)

pub returns : goal.returns
returns c =
    let r = c.node.new.self in
    let count : length c.as_slice.result.now ≡ length c.args.vectors.now =
    ap (λ (l : List (ℕ × ℕ)). length l) c.as_slice.ensures.value ∙ c.loop-vector.invariant.count ∙ omega (arith, c.loop-vector-test.false, c.loop-vector.auto.vector-index-end) in
    let shape : length c.as_slice.result.now ∷ [] ≡ c.in-Ok-from_slice.shape.items = ap (λ n. n ∷ []) count ∙ sym c.as_slice-2.ensures ∙ sym c.in-Ok-from_slice.ensures.items in
    let some : 0 < length c.as_slice.result.now = omega (arith, count, c.requires.some) in
    let pairs = subst (EachPair (HasShape r [])) (sym c.as_slice.ensures.value)
    (EachPair-map (HasShape c.loop-vector.store []) (HasShape r []) c.loop-vector.pairs.items (λ i h. HasShape-Extends c.loop-vector.store r c.node.ensures.keeps [] i h) c.loop-vector.invariant.pairs) in
    record {
      fits = subst (λ s. HasShape r s c.in_ok-root.root) shape (shape_node r [] c.in_ok-root.root c.as_slice.result.now c.in_ok-root.ensures.adds.here some pairs);
      level = ap (λ (l : List ℕ). length l) (sym shape);
      shape = sym shape ∙ ap (λ n. n ∷ []) count;
      keeps = extends-then c.args.store.now c.loop-vector.store r c.loop-vector.invariant.keeps c.node.ensures.keeps;
      paid = c.node.ensures.paid;
    }
