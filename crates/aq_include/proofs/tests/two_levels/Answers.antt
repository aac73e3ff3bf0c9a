use Rattle.std.proofs.Common.{◌≡◌, ◌<◌, ℕ, List, [], ◌∷◌, length, sym, ap, subst, ◌∙◌, arith}
use Rattle.aq_store.specs.Nodes.{EachPair, HasShape}
use Rattle.aq_store.proofs.TableLemmas.{EachPair-map, HasShape-Extends}
use Rattle.aq_store.proofs.ShapeLemmas.{shape_node, shape_heights}
use Rattle.aq_include.proofs.TestLemmas.{two-roots}
use Rattle.aq_include.proofs.tests.two_levels.Goals as goal

pub node-requires-clause-heights : goal.node-requires-clause-heights
node-requires-clause-heights c =
    shape_heights c.one_level-2.new.store (1 ∷ []) c.as_slice-3.result.now
    (two-roots c.one_level.new.store c.one_level-2.new.store c.in_ok-left.left c.in_ok-right.right c.as_slice-3.result.now c.in_ok-left.ensures.fits c.one_level-2.ensures.keeps c.in_ok-right.ensures.fits
    (c.in_ok-left.ensures.shape ∙ ap (λ l. length l ∷ []) c.as_slice.ensures) (c.in_ok-right.ensures.shape ∙ ap (λ l. length l ∷ []) c.as_slice-2.ensures) c.as_slice-3.ensures)

pub returns-clause-fits : goal.returns-clause-fits
returns-clause-fits c =
    let old = c.one_level-2.new.store in
    let new = c.node.new.self in
    let roots = two-roots c.one_level.new.store old c.in_ok-left.left c.in_ok-right.right c.as_slice-3.result.now c.in_ok-left.ensures.fits c.one_level-2.ensures.keeps c.in_ok-right.ensures.fits
    (c.in_ok-left.ensures.shape ∙ ap (λ l. length l ∷ []) c.as_slice.ensures) (c.in_ok-right.ensures.shape ∙ ap (λ l. length l ∷ []) c.as_slice-2.ensures) c.as_slice-3.ensures in
    let one : length c.as_slice-3.result.now ≡ 1 = ap (λ (l : List (ℕ × ℕ)). length l) c.as_slice-3.ensures in
    let shape : length c.as_slice-3.result.now ∷ 1 ∷ [] ≡ c.in-Ok.shape.items = ap (λ n. n ∷ 1 ∷ []) one ∙ sym c.as_slice-4.ensures ∙ sym c.in-Ok.ensures.items in
    subst (λ s. HasShape new s c.in_ok-root.root) shape
    (shape_node new (1 ∷ []) c.in_ok-root.root c.as_slice-3.result.now c.in_ok-root.ensures.adds.here (omega (arith, one))
    (EachPair-map (HasShape old (1 ∷ [])) (HasShape new (1 ∷ [])) c.as_slice-3.result.now (λ i h. HasShape-Extends old new c.node.ensures.keeps (1 ∷ []) i h) roots))
