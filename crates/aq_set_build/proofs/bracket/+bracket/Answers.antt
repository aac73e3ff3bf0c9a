use Rattle.std.proofs.Common.{◌≡◌, suc, ◌+◌, ◌-◌, ◌*◌, ◌^◌, ◌<◌, List, length, replicate, All, sym, ap, ap₂, subst, ◌∙◌, arith, rules, Some}
use Rattle.aq_store.specs.declared.node.Node.TheVariants.{Leaf}
use Rattle.std.proofs.lemmas.Grind.{common_steps}
use Rattle.aq_store.proofs.StopLemmas.{passed_on}
use Rattle.aq_sets.specs.declared.sets.Term.{Term}
use Rattle.aq_set_build.specs.Brackets.{low_terms, high_terms, IsKets}
use Rattle.aq_set_build.proofs.GrowthLemmas.{grows_then, grows_within, grows_adds, stops_then, stops_within, stops_refused}
use Rattle.aq_set_build.proofs.HalfLemmas.{parts-count, lows_inside, highs_inside, within_more}
use Rattle.aq_set_build.proofs.FamilyLemmas.{one_height}
use Rattle.aq_set_build.proofs.KetLemmas.{kets_leaf, kets_node, kets-Extends, kets_left, kets_both, zeros-Extends, zero_read, kets_empty}
use Rattle.aq_set_build.proofs.bracket.+bracket.Goals as goal

pub kets_at-returns-then-height-eq0-clause-made : goal.kets_at-returns-then-height-eq0-clause-made
kets_at-returns-then-height-eq0-clause-made t c =
    kets_leaf c.leaf.new.self c.in_ok-made.made c.args.height c.args.terms.now c.index-terms-0.result c.if-height-eq0.true c.requires.some c.index-terms-0.is c.requires.inside
    (c.in_ok-made.ensures.adds.here ∙ ap (λ (x : Term). Some (Leaf x.amp)) (sym c.index-terms-0.is))

pub kets_at-side_at-requires : goal.kets_at-side_at-requires
kets_at-side_at-requires t c =
    let lows : c.as_slice.result.now ≡ low_terms (2 ^ (c.args.height - 1)) c.args.terms.now =
    c.as_slice.ensures.value ∙ c.in-Ok.ensures ∙ ap (λ h. low_terms h c.args.terms.now) c.half_of-half.ensures in
    let inside : All (λ t. t.index < 2 ^ (c.args.height - 1)) c.as_slice.result.now = subst (All (λ t. t.index < 2 ^ (c.args.height - 1))) (sym lows) (lows_inside (2 ^ (c.args.height - 1)) c.args.terms.now) in
    search rules

pub kets_at-returns-in_err-left-clause-grows : goal.kets_at-returns-in_err-left-clause-grows
kets_at-returns-in_err-left-clause-grows t c =
    let lows : c.as_slice.result.now ≡ low_terms (2 ^ (c.args.height - 1)) c.args.terms.now =
    c.as_slice.ensures.value ∙ c.in-Ok.ensures ∙ ap (λ h. low_terms h c.args.terms.now) c.half_of-half.ensures in
    let some : c.args.height ≡ suc (c.args.height - 1) = omega (arith, c.if-height-eq0.false) in
    let highs = high_terms (2 ^ (c.args.height - 1)) c.args.terms.now in
    let both = ap (λ (ts : List Term). length ts + length highs) lows ∙ parts-count (2 ^ (c.args.height - 1)) c.args.terms.now in
    grows_within ((c.args.height - 1 + 1) * length c.as_slice.result.now) _ _ _ _ _ c.side_at.ensures.grows
    (kets_left (c.args.height - 1) c.args.height (length c.as_slice.result.now) (length highs) (length c.args.terms.now) some both c.requires.some)

pub kets_at-returns-in_err-left-clause-stops : goal.kets_at-returns-in_err-left-clause-stops
kets_at-returns-in_err-left-clause-stops t c =
    let lows : c.as_slice.result.now ≡ low_terms (2 ^ (c.args.height - 1)) c.args.terms.now =
    c.as_slice.ensures.value ∙ c.in-Ok.ensures ∙ ap (λ h. low_terms h c.args.terms.now) c.half_of-half.ensures in
    let some : c.args.height ≡ suc (c.args.height - 1) = omega (arith, c.if-height-eq0.false) in
    let highs = high_terms (2 ^ (c.args.height - 1)) c.args.terms.now in
    let both = ap (λ (ts : List Term). length ts + length highs) lows ∙ parts-count (2 ^ (c.args.height - 1)) c.args.terms.now in
    passed_on _ c.from_residual-in_err-left.result c.in_err-left.field-0.0 c.from_residual-in_err-left.ensures
    (stops_within (λ l r. ⊥) (λ l r. ⊥) ((c.args.height - 1 + 1) * length c.as_slice.result.now) ((c.args.height + 1) * length c.args.terms.now) c.args.steps.now c.side_at.new.steps
    c.in_err-left.field-0.0
    (kets_left (c.args.height - 1) c.args.height (length c.as_slice.result.now) (length highs) (length c.args.terms.now) some both c.requires.some) (λ l r h. h) c.in_err-left.ensures.stops)

pub kets_at-side_at-requires-2 : goal.kets_at-side_at-requires-2
kets_at-side_at-requires-2 t c =
    let half = 2 ^ (c.args.height - 1) in
    let highs : c.as_slice-2.result.now ≡ high_terms (2 ^ (c.args.height - 1)) c.args.terms.now =
    c.as_slice-2.ensures.value ∙ c.in-Ok-highs_of.ensures ∙ ap (λ h. high_terms h c.args.terms.now) c.half_of-half.ensures in
    let some : c.args.height ≡ suc (c.args.height - 1) = omega (arith, c.if-height-eq0.false) in
    let all : All (λ t. t.index < 2 ^ suc (c.args.height - 1)) c.args.terms.now = subst (λ h. All (λ t. t.index < 2 ^ h) c.args.terms.now) some c.requires.inside in
    let inside : All (λ t. t.index < 2 ^ (c.args.height - 1)) c.as_slice-2.result.now =
    subst (All (λ t. t.index < 2 ^ (c.args.height - 1))) (sym highs) (highs_inside (2 ^ (c.args.height - 1)) c.args.terms.now (within_more (c.args.height - 1) c.args.terms.now all)) in
    let zeros = zeros-Extends c.args.store.now c.side_at.new.store c.side_at.ensures.grows.keeps c.args.zeros.now c.requires.zeros in
    search rules

pub kets_at-returns-in_err-right-clause-grows : goal.kets_at-returns-in_err-right-clause-grows
kets_at-returns-in_err-right-clause-grows t c =
    let lows : c.as_slice.result.now ≡ low_terms (2 ^ (c.args.height - 1)) c.args.terms.now =
    c.as_slice.ensures.value ∙ c.in-Ok.ensures ∙ ap (λ h. low_terms h c.args.terms.now) c.half_of-half.ensures in
    let highs : c.as_slice-2.result.now ≡ high_terms (2 ^ (c.args.height - 1)) c.args.terms.now =
    c.as_slice-2.ensures.value ∙ c.in-Ok-highs_of.ensures ∙ ap (λ h. high_terms h c.args.terms.now) c.half_of-half.ensures in
    let some : c.args.height ≡ suc (c.args.height - 1) = omega (arith, c.if-height-eq0.false) in
    let both = ap₂ (λ (ts ss : List Term). length ts + length ss) lows highs ∙ parts-count (2 ^ (c.args.height - 1)) c.args.terms.now in
    let most = kets_both (c.args.height - 1) c.args.height (length c.as_slice.result.now) (length c.as_slice-2.result.now) (length c.args.terms.now) some both c.requires.some in
    grows_then ((c.args.height - 1 + 1) * length c.as_slice.result.now) ((c.args.height - 1 + 1) * length c.as_slice-2.result.now) _ _ _ _ _ _ _ c.side_at.ensures.grows c.side_at-2.ensures.grows (omega arith)

pub kets_at-returns-in_err-right-clause-stops : goal.kets_at-returns-in_err-right-clause-stops
kets_at-returns-in_err-right-clause-stops t c =
    let lows : c.as_slice.result.now ≡ low_terms (2 ^ (c.args.height - 1)) c.args.terms.now =
    c.as_slice.ensures.value ∙ c.in-Ok.ensures ∙ ap (λ h. low_terms h c.args.terms.now) c.half_of-half.ensures in
    let highs : c.as_slice-2.result.now ≡ high_terms (2 ^ (c.args.height - 1)) c.args.terms.now =
    c.as_slice-2.ensures.value ∙ c.in-Ok-highs_of.ensures ∙ ap (λ h. high_terms h c.args.terms.now) c.half_of-half.ensures in
    let some : c.args.height ≡ suc (c.args.height - 1) = omega (arith, c.if-height-eq0.false) in
    let both = ap₂ (λ (ts ss : List Term). length ts + length ss) lows highs ∙ parts-count (2 ^ (c.args.height - 1)) c.args.terms.now in
    let most = kets_both (c.args.height - 1) c.args.height (length c.as_slice.result.now) (length c.as_slice-2.result.now) (length c.args.terms.now) some both c.requires.some in
    passed_on _ c.from_residual-in_err-right.result c.in_err-right.field-0.0 c.from_residual-in_err-right.ensures
    (stops_then (λ l r. ⊥) (λ l r. ⊥) ((c.args.height - 1 + 1) * length c.as_slice.result.now) ((c.args.height - 1 + 1) * length c.as_slice-2.result.now)
    ((c.args.height + 1) * length c.args.terms.now) _ _ _ _ _ c.in_err-right.field-0.0 c.side_at.ensures.grows (omega arith) (λ l r h. h) c.in_err-right.ensures.stops)

pub kets_at-node-requires-clause-heights : goal.kets_at-node-requires-clause-heights
kets_at-node-requires-clause-heights t c =
    let left = kets-Extends c.side_at.new.store c.side_at-2.new.store c.side_at-2.ensures.grows.keeps (c.args.height - 1) c.as_slice.result.now c.in_ok-left.left c.in_ok-left.ensures.made in
    one_height c.side_at-2.new.store (replicate (c.args.height - 1) 1) c.in_ok-left.left c.in_ok-right.right left.shaped c.in_ok-right.ensures.made.shaped

pub kets_at-returns-in_err-made-2-clause-grows : goal.kets_at-returns-in_err-made-2-clause-grows
kets_at-returns-in_err-made-2-clause-grows t c =
    let lows : c.as_slice.result.now ≡ low_terms (2 ^ (c.args.height - 1)) c.args.terms.now =
    c.as_slice.ensures.value ∙ c.in-Ok.ensures ∙ ap (λ h. low_terms h c.args.terms.now) c.half_of-half.ensures in
    let highs : c.as_slice-2.result.now ≡ high_terms (2 ^ (c.args.height - 1)) c.args.terms.now =
    c.as_slice-2.ensures.value ∙ c.in-Ok-highs_of.ensures ∙ ap (λ h. high_terms h c.args.terms.now) c.half_of-half.ensures in
    let some : c.args.height ≡ suc (c.args.height - 1) = omega (arith, c.if-height-eq0.false) in
    let both = ap₂ (λ (ts ss : List Term). length ts + length ss) lows highs ∙ parts-count (2 ^ (c.args.height - 1)) c.args.terms.now in
    let most = kets_both (c.args.height - 1) c.args.height (length c.as_slice.result.now) (length c.as_slice-2.result.now) (length c.args.terms.now) some both c.requires.some in
    let two = grows_then ((c.args.height - 1 + 1) * length c.as_slice.result.now) ((c.args.height - 1 + 1) * length c.as_slice-2.result.now)
    ((c.args.height - 1 + 1) * length c.as_slice.result.now + (c.args.height - 1 + 1) * length c.as_slice-2.result.now) _ _ _ _ _ _ c.side_at.ensures.grows c.side_at-2.ensures.grows (omega arith) in
    grows_then ((c.args.height - 1 + 1) * length c.as_slice.result.now + (c.args.height - 1 + 1) * length c.as_slice-2.result.now) 1 _ _ _ _ _ _ _ two
    (grows_adds _ 1 _ _ _ _ _ c.node.ensures.adds c.node.ensures.paid c.node.ensures.keeps c.node.ensures.cheap) most

pub kets_at-returns-in_err-made-2-clause-stops : goal.kets_at-returns-in_err-made-2-clause-stops
kets_at-returns-in_err-made-2-clause-stops t c =
    let lows : c.as_slice.result.now ≡ low_terms (2 ^ (c.args.height - 1)) c.args.terms.now =
    c.as_slice.ensures.value ∙ c.in-Ok.ensures ∙ ap (λ h. low_terms h c.args.terms.now) c.half_of-half.ensures in
    let highs : c.as_slice-2.result.now ≡ high_terms (2 ^ (c.args.height - 1)) c.args.terms.now =
    c.as_slice-2.ensures.value ∙ c.in-Ok-highs_of.ensures ∙ ap (λ h. high_terms h c.args.terms.now) c.half_of-half.ensures in
    let some : c.args.height ≡ suc (c.args.height - 1) = omega (arith, c.if-height-eq0.false) in
    let both = ap₂ (λ (ts ss : List Term). length ts + length ss) lows highs ∙ parts-count (2 ^ (c.args.height - 1)) c.args.terms.now in
    let most = kets_both (c.args.height - 1) c.args.height (length c.as_slice.result.now) (length c.as_slice-2.result.now) (length c.args.terms.now) some both c.requires.some in
    let two = grows_then ((c.args.height - 1 + 1) * length c.as_slice.result.now) ((c.args.height - 1 + 1) * length c.as_slice-2.result.now)
    ((c.args.height - 1 + 1) * length c.as_slice.result.now + (c.args.height - 1 + 1) * length c.as_slice-2.result.now) _ _ _ _ _ _ c.side_at.ensures.grows c.side_at-2.ensures.grows (omega arith) in
    passed_on _ c.from_residual-in_err-made-2.result c.in_err-made-2.field-0.0 c.from_residual-in_err-made-2.ensures
    (stops_then (λ l r. ⊥) (λ l r. ⊥) ((c.args.height - 1 + 1) * length c.as_slice.result.now + (c.args.height - 1 + 1) * length c.as_slice-2.result.now) 1
    ((c.args.height + 1) * length c.args.terms.now) _ _ _ _ _ c.in_err-made-2.field-0.0 two most (λ l r h. h) (stops_refused (λ l r. ⊥) _ _ _ _ _ c.in_err-made-2.field-0.0 c.in_err-made-2.ensures.adds))

pub kets_at-returns-clause-made : goal.kets_at-returns-clause-made
kets_at-returns-clause-made t c =
    let lows : c.as_slice.result.now ≡ low_terms (2 ^ (c.args.height - 1)) c.args.terms.now =
    c.as_slice.ensures.value ∙ c.in-Ok.ensures ∙ ap (λ h. low_terms h c.args.terms.now) c.half_of-half.ensures in
    let highs : c.as_slice-2.result.now ≡ high_terms (2 ^ (c.args.height - 1)) c.args.terms.now =
    c.as_slice-2.ensures.value ∙ c.in-Ok-highs_of.ensures ∙ ap (λ h. high_terms h c.args.terms.now) c.half_of-half.ensures in
    let some : c.args.height ≡ suc (c.args.height - 1) = omega (arith, c.if-height-eq0.false) in
    let left = kets-Extends c.side_at.new.store c.side_at-2.new.store c.side_at-2.ensures.grows.keeps (c.args.height - 1) c.as_slice.result.now c.in_ok-left.left c.in_ok-left.ensures.made in
    let first = kets-Extends c.side_at-2.new.store c.node.new.self c.node.ensures.keeps (c.args.height - 1) c.as_slice.result.now c.in_ok-left.left left in
    let second = kets-Extends c.side_at-2.new.store c.node.new.self c.node.ensures.keeps (c.args.height - 1) c.as_slice-2.result.now c.in_ok-right.right c.in_ok-right.ensures.made in
    kets_node c.node.new.self c.args.height (c.args.height - 1) c.args.terms.now c.in_ok-made-2.made c.in_ok-left.left c.in_ok-right.right some c.in_ok-made-2.ensures.adds.here
    (subst (λ ts. IsKets (c.args.height - 1) ts c.node.new.self c.in_ok-left.left) lows first)
    (subst (λ ts. IsKets (c.args.height - 1) ts c.node.new.self c.in_ok-right.right) highs second)

pub kets_at-returns-clause-grows : goal.kets_at-returns-clause-grows
kets_at-returns-clause-grows t c =
    let lows : c.as_slice.result.now ≡ low_terms (2 ^ (c.args.height - 1)) c.args.terms.now =
    c.as_slice.ensures.value ∙ c.in-Ok.ensures ∙ ap (λ h. low_terms h c.args.terms.now) c.half_of-half.ensures in
    let highs : c.as_slice-2.result.now ≡ high_terms (2 ^ (c.args.height - 1)) c.args.terms.now =
    c.as_slice-2.ensures.value ∙ c.in-Ok-highs_of.ensures ∙ ap (λ h. high_terms h c.args.terms.now) c.half_of-half.ensures in
    let some : c.args.height ≡ suc (c.args.height - 1) = omega (arith, c.if-height-eq0.false) in
    let both = ap₂ (λ (ts ss : List Term). length ts + length ss) lows highs ∙ parts-count (2 ^ (c.args.height - 1)) c.args.terms.now in
    let most = kets_both (c.args.height - 1) c.args.height (length c.as_slice.result.now) (length c.as_slice-2.result.now) (length c.args.terms.now) some both c.requires.some in
    let two = grows_then ((c.args.height - 1 + 1) * length c.as_slice.result.now) ((c.args.height - 1 + 1) * length c.as_slice-2.result.now)
    ((c.args.height - 1 + 1) * length c.as_slice.result.now + (c.args.height - 1 + 1) * length c.as_slice-2.result.now) _ _ _ _ _ _ c.side_at.ensures.grows c.side_at-2.ensures.grows (omega arith) in
    grows_then ((c.args.height - 1 + 1) * length c.as_slice.result.now + (c.args.height - 1 + 1) * length c.as_slice-2.result.now) 1 _ _ _ _ _ _ _ two
    (grows_adds _ 1 _ _ _ _ _ c.node.ensures.adds c.node.ensures.paid c.node.ensures.keeps c.node.ensures.cheap) most

pub side_at-returns-then-is_empty-clause-made : goal.side_at-returns-then-is_empty-clause-made
side_at-returns-then-is_empty-clause-made t c =
    let none : length c.args.terms.now ≡ 0 = grind (arith, common_steps) in
    kets_empty c.args.store.now c.args.height c.args.terms.now c.index-zeros-height.result none
    (zero_read c.args.store.now c.args.zeros.now c.args.height c.index-zeros-height.result c.requires.zeros c.requires.enough c.index-zeros-height.is)
