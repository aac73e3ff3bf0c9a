use Rattle.std.proofs.Common.{rules, ◌-◌, ◌<◌, length, get_or, refl, ap, arith, ◌∙◌}
use Rattle.aq_sets.proofs.ToldLaws.{length-told}
use Rattle.aq_set_build.proofs.PlaceLemmas.{sides_long, sides_told, enters_left, enters_right}
use Rattle.aq_set_build.proofs.places.union_side.Goals as goal

pub bounds-sizes-left : goal.bounds-sizes-left
bounds-sizes-left c =
    let s = sides_long c.args.exprs.now c.requires.valid c.args.expr c.args.left c.args.right c.requires.union in
    let n = length-told c.args.exprs.now c.args.sizes.now c.requires.sizes in
    omega (arith, s.0, s.2, n)

pub bounds-sizes-right : goal.bounds-sizes-right
bounds-sizes-right c =
    let s = sides_long c.args.exprs.now c.requires.valid c.args.expr c.args.left c.args.right c.requires.union in
    let n = length-told c.args.exprs.now c.args.sizes.now c.requires.sizes in
    omega (arith, s.1, s.2, n)

pub bounds-as_slice-0 : goal.bounds-as_slice-0
bounds-as_slice-0 c =
    let s = sides_long c.args.exprs.now c.requires.valid c.args.expr c.args.left c.args.right c.requires.union in
    let t = sides_told c.args.exprs.now c.requires.valid c.args.sizes.now c.requires.sizes c.args.expr c.args.left c.args.right c.requires.union _ _ c.index-sizes-left.is c.index-sizes-right.is in
    let n : 0 < length c.as_slice.result.now = omega (arith, s.5, t.2, ap length c.as_slice.ensures) in
    search rules

pub bounds-word-0 : goal.bounds-word-0
bounds-word-0 c =
    let s = sides_long c.args.exprs.now c.requires.valid c.args.expr c.args.left c.args.right c.requires.union in
    let n : 0 < length c.args.word.now = omega (arith, s.5, c.requires.long) in
    search rules

pub side_word-requires-clause-same : goal.side_word-requires-clause-same
side_word-requires-clause-same c =
    let t = sides_told c.args.exprs.now c.requires.valid c.args.sizes.now c.requires.sizes c.args.expr c.args.left c.args.right c.requires.union _ _ c.index-sizes-left.is c.index-sizes-right.is in
    omega (arith, t.2, c.requires.long, ap length c.as_slice-then-choice-first.ensures)

pub side_word-requires-clause-some : goal.side_word-requires-clause-some
side_word-requires-clause-some c =
    let s = sides_long c.args.exprs.now c.requires.valid c.args.expr c.args.left c.args.right c.requires.union in
    omega (arith, s.5, c.requires.long)

pub returns-then-choice-first-clause-enters : goal.returns-then-choice-first-clause-enters
returns-then-choice-first-clause-enters c =
    let t = sides_told c.args.exprs.now c.requires.valid c.args.sizes.now c.requires.sizes c.args.expr c.args.left c.args.right c.requires.union _ _ c.index-sizes-left.is c.index-sizes-right.is in
    let f = ap (λ z. get_or z 0 0) c.as_slice.ensures in
    enters_left c.args.exprs.now c.requires.valid c.args.expr c.args.left c.args.right (get_or c.args.word.now 0 0) c.args.word.now c.in_ok-low.low.items c.index-sizes-left.result
    c.requires.union c.requires.long t.0 refl (omega (arith, c.if-choice-first.true, f)) (λ numbers e. c.in_ok-low.ensures numbers (c.as_slice-then-choice-first.ensures ∙ e))

pub returns-then-choice-first-clause-earlier : goal.returns-then-choice-first-clause-earlier
returns-then-choice-first-clause-earlier c =
    let s = sides_long c.args.exprs.now c.requires.valid c.args.expr c.args.left c.args.right c.requires.union in
    omega (arith, s.0)

pub side_word-requires-2-clause-same : goal.side_word-requires-2-clause-same
side_word-requires-2-clause-same c =
    let t = sides_told c.args.exprs.now c.requires.valid c.args.sizes.now c.requires.sizes c.args.expr c.args.left c.args.right c.requires.union _ _ c.index-sizes-left.is c.index-sizes-right.is in
    omega (arith, t.2, t.3, c.requires.long, ap length c.as_slice-2.ensures)

pub side_word-requires-2-clause-some : goal.side_word-requires-2-clause-some
side_word-requires-2-clause-some c =
    let s = sides_long c.args.exprs.now c.requires.valid c.args.expr c.args.left c.args.right c.requires.union in
    omega (arith, s.5, c.requires.long)

pub returns-clause-enters : goal.returns-clause-enters
returns-clause-enters c =
    let t = sides_told c.args.exprs.now c.requires.valid c.args.sizes.now c.requires.sizes c.args.expr c.args.left c.args.right c.requires.union _ _ c.index-sizes-left.is c.index-sizes-right.is in
    let f = ap (λ z. get_or z 0 0) c.as_slice.ensures in
    let few = c.type_inv.word 0 in
    let d = get_or c.args.word.now 0 0 - get_or c.as_slice.result.now 0 0 in
    enters_right c.args.exprs.now c.requires.valid c.args.expr c.args.left c.args.right (get_or c.args.word.now 0 0) d c.args.word.now c.in_ok-high.high.items c.index-sizes-left.result c.index-sizes-right.result
    c.requires.union c.requires.long t.0 t.1 refl (omega (arith, few)) (omega (arith, c.if-choice-first.false, f)) (ap (λ k. get_or c.args.word.now 0 0 - k) f) (λ numbers e. c.in_ok-high.ensures numbers (c.as_slice-2.ensures ∙ e))

pub returns-clause-earlier : goal.returns-clause-earlier
returns-clause-earlier c =
    let s = sides_long c.args.exprs.now c.requires.valid c.args.expr c.args.left c.args.right c.requires.union in
    omega (arith, s.1)
