use Rattle.std.proofs.Common.{ℕ, List, Contains, subst, arith}
use Rattle.aq_include.proofs.StepLemmas.{level-of, at-rel, read-rel}
use Rattle.aq_include.proofs.OwnLemmas.{is-own-of}
use Rattle.aq_include.proofs.own.find_own.Goals as goal

pub goal_choices-count-requires : goal.goal_choices-count-requires
goal_choices-count-requires g c =
    level-of c.args.store.now c.args.goals.now c.args.level c.args.choice c.requires.0 c.args.here.now c.requires.1 c.requires.2 c.loop-number.number c.index-rels-number.result
    (read-rel c.args.store.now c.as_slice-rels.result.now c.args.here.now.rels c.loop-number.number c.index-rels-number.result c.as_slice-rels.ensures c.loop-number-test.true c.index-rels-number.is)

pub own_choice-requires : goal.own_choice-requires
own_choice-requires g c = λ p listed.
    (at-rel c.args.store.now c.args.goals.now c.args.level c.args.choice c.requires.0 c.args.here.now c.requires.1 c.requires.2 c.loop-number.number c.index-rels-number.result c.goal_choices-count.result
    (read-rel c.args.store.now c.as_slice-rels.result.now c.args.here.now.rels c.loop-number.number c.index-rels-number.result c.as_slice-rels.ensures c.loop-number-test.true c.index-rels-number.is)
    c.goal_choices-count.ensures).within p (subst (λ (l : List (ℕ × ℕ)). Contains l p) c.as_slice.ensures listed)

pub returns-in-Some : goal.returns-in-Some
returns-in-Some g c =
    let here = read-rel c.args.store.now c.as_slice-rels.result.now c.args.here.now.rels c.loop-number.number c.index-rels-number.result c.as_slice-rels.ensures c.loop-number-test.true c.index-rels-number.is in
    is-own-of c.args.store.now c.args.goals.now c.args.level c.args.choice c.args.here.now.rels c.loop-number.number c.index-rels-number.result c.goal_choices-count.result
    (record { number = c.in-Ok.short; choice = c.in-Some.goal_choice }) c.as_slice.result.now here (grind (arith, c.in-Ok.ensures))
    (at-rel c.args.store.now c.args.goals.now c.args.level c.args.choice c.requires.0 c.args.here.now c.requires.1 c.requires.2 c.loop-number.number c.index-rels-number.result c.goal_choices-count.result here
    c.goal_choices-count.ensures)
    c.in-Some.ensures.0 c.as_slice.ensures c.in-Some.ensures.1
