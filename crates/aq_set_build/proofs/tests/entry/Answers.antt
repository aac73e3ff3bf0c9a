use Rattle.std.proofs.Common.{◌≡◌, ℕ, ◌+◌, ◌<◌, ◌≤◌, Bool, true, false, cond, [], ◌∷◌, length, drop, get_or, slice_get, Some, arith, refl, sym, ap, subst, ◌∙◌}
use Rattle.std.proofs.Math.ListN.{drop_of_length-le}
use Rattle.aq_store.specs.Nodes.{HasShape, IsLeaf, pairs_at}
use Rattle.aq_store.proofs.MeansLemmas.{opened}
use Rattle.aq_store.proofs.OwedLemmas.{split_shape}
use Rattle.aq_set_build.proofs.tests.entry.Goals as goal

side_meets : (P : ℕ → Type 0) (b : Bool) (r low high : ℕ) → r ≡ cond b high low → P low → P high → P r
side_meets P true r low high is l h = subst P (sym is) h
side_meets P false r low high is l h = subst P (sym is) l

pub choices-requires : goal.choices-requires
choices-requires c =
    let lt : c.loop-level.level < length c.args.lsta.now.shape.items = omega (arith, c.loop-level-test.true, c.len-levels.ensures) in
    let o = opened c.args.store.now (get_or c.args.lsta.now.shape.items c.loop-level.level 0) (drop (c.loop-level.level + 1) c.args.lsta.now.shape.items) c.loop-level.id
    (subst (λ u. HasShape c.args.store.now u c.loop-level.id) (split_shape c.args.lsta.now.shape.items c.loop-level.level lt) c.loop-level.invariant) in
    omega (arith, o.1, o.2)

pub loop-level-preserved : goal.loop-level-preserved
loop-level-preserved c =
    let lt : c.loop-level.level < length c.args.lsta.now.shape.items = omega (arith, c.loop-level-test.true, c.len-levels.ensures) in
    let below = drop (c.loop-level.level + 1) c.args.lsta.now.shape.items in
    let o = opened c.args.store.now (get_or c.args.lsta.now.shape.items c.loop-level.level 0) below c.loop-level.id
    (subst (λ u. HasShape c.args.store.now u c.loop-level.id) (split_shape c.args.lsta.now.shape.items c.loop-level.level lt) c.loop-level.invariant) in
    side_meets (HasShape c.args.store.now below) _ c.side-id.result c.pair.result.0 c.pair.result.1 c.side-id.ensures (o.3.left _ c.pair.result c.pair.ensures)
    (o.3.right _ c.pair.result c.pair.ensures)

pub label-requires : goal.label-requires
unfolding HasShape
label-requires c =
    let whole : HasShape c.args.store.now [] c.loop-level.id = subst (λ u. HasShape c.args.store.now u c.loop-level.id) (drop_of_length-le c.args.lsta.now.shape.items (omega
    (arith, c.loop-level-test.false, c.len-levels.ensures))) c.loop-level.invariant in
    whole
