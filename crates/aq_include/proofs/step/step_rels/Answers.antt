use Rattle.std.proofs.Common.{sum_by, arith}
use Rattle.aq_cert.specs.Goals.{goal_rest}
use Rattle.aq_include.specs.Costs.{IsCause, rel_weight}
use Rattle.aq_include.proofs.Passed.{passed}
use Rattle.aq_include.proofs.StepLemmas.{level-of, at-rel, read-rel, weights-within, takes-then, cause-then, of-rels-more, light-more, paid-more, takes-more}
use Rattle.aq_include.proofs.step.step_rels.Goals as goal

pub goal_choices-count-requires : goal.goal_choices-count-requires
goal_choices-count-requires g c =
    level-of c.args.store.now c.args.goals.now c.args.level c.args.choice c.requires.here.0 c.args.here.now c.requires.here.1 c.requires.here.2 c.loop-number.number c.index-rels-number.result
    (read-rel c.args.store.now c.as_slice-rels.result.now c.args.here.now.rels c.loop-number.number c.index-rels-number.result c.as_slice-rels.ensures c.loop-number-test.true c.index-rels-number.is)

pub step_rel-requires : goal.step_rel-requires
step_rel-requires g c = record {
  within = (at-rel c.args.store.now c.args.goals.now c.args.level c.args.choice c.requires.here.0 c.args.here.now c.requires.here.1 c.requires.here.2 c.loop-number.number c.index-rels-number.result c.goal_choices-count.result
      (read-rel c.args.store.now c.as_slice-rels.result.now c.args.here.now.rels c.loop-number.number c.index-rels-number.result c.as_slice-rels.ensures c.loop-number-test.true c.index-rels-number.is)
      c.goal_choices-count.ensures).within;
}

pub returns-in_err-more-clause-takes : goal.returns-in_err-more-clause-takes
returns-in_err-more-clause-takes g c =
    let r = at-rel c.args.store.now c.args.goals.now c.args.level c.args.choice c.requires.here.0 c.args.here.now c.requires.here.1 c.requires.here.2 c.loop-number.number c.index-rels-number.result c.goal_choices-count.result
    (read-rel c.args.store.now c.as_slice-rels.result.now c.args.here.now.rels c.loop-number.number c.index-rels-number.result c.as_slice-rels.ensures c.loop-number-test.true c.index-rels-number.is)
    c.goal_choices-count.ensures in
    let w = weights-within c.args.store.now (goal_rest c.args.goals.now c.args.level) c.as_slice-rels.result.now c.args.here.now.rels c.loop-number.number c.index-rels-number.result c.as_slice-rels.ensures c.loop-number-test.true c.index-rels-number.is in
    takes-then c.args.store.now _ _ _ c.args.steps.now c.loop-number.steps c.step_rel.new.steps c.loop-number.invariant.takes c.step_rel.ensures.takes (omega (arith, w, r.cheap))

pub returns-in_err-more-clause-spent : goal.returns-in_err-more-clause-spent
returns-in_err-more-clause-spent g c =
    let r = at-rel c.args.store.now c.args.goals.now c.args.level c.args.choice c.requires.here.0 c.args.here.now c.requires.here.1 c.requires.here.2 c.loop-number.number c.index-rels-number.result c.goal_choices-count.result
    (read-rel c.args.store.now c.as_slice-rels.result.now c.args.here.now.rels c.loop-number.number c.index-rels-number.result c.as_slice-rels.ensures c.loop-number-test.true c.index-rels-number.is)
    c.goal_choices-count.ensures in
    let w = weights-within c.args.store.now (goal_rest c.args.goals.now c.args.level) c.as_slice-rels.result.now c.args.here.now.rels c.loop-number.number c.index-rels-number.result c.as_slice-rels.ensures c.loop-number-test.true c.index-rels-number.is in
    passed (λ e. IsCause (sum_by (rel_weight (goal_rest c.args.goals.now c.args.level)) c.args.here.now.rels) c.args.steps.now e) c.from_residual.result c.in_err-more.field-0.0 c.from_residual.ensures
    (cause-then c.args.store.now _ _ _ c.args.steps.now c.loop-number.steps c.in_err-more.field-0.0 c.loop-number.invariant.takes c.in_err-more.ensures.spent (omega (arith, w, r.cheap)))

pub returns-in_default-append-clause-takes : goal.returns-in_default-append-clause-takes
returns-in_default-append-clause-takes g c =
    let r = at-rel c.args.store.now c.args.goals.now c.args.level c.args.choice c.requires.here.0 c.args.here.now c.requires.here.1 c.requires.here.2 c.loop-number.number c.index-rels-number.result c.goal_choices-count.result
    (read-rel c.args.store.now c.as_slice-rels.result.now c.args.here.now.rels c.loop-number.number c.index-rels-number.result c.as_slice-rels.ensures c.loop-number-test.true c.index-rels-number.is)
    c.goal_choices-count.ensures in
    let w = weights-within c.args.store.now (goal_rest c.args.goals.now c.args.level) c.as_slice-rels.result.now c.args.here.now.rels c.loop-number.number c.index-rels-number.result c.as_slice-rels.ensures c.loop-number-test.true c.index-rels-number.is in
    takes-then c.args.store.now _ _ _ c.args.steps.now c.loop-number.steps c.step_rel.new.steps c.loop-number.invariant.takes c.step_rel.ensures.takes (omega (arith, w, r.cheap))

pub loop-number-preserved : goal.loop-number-preserved
loop-number-preserved g c =
    let r = at-rel c.args.store.now c.args.goals.now c.args.level c.args.choice c.requires.here.0 c.args.here.now c.requires.here.1 c.requires.here.2 c.loop-number.number c.index-rels-number.result c.goal_choices-count.result
    (read-rel c.args.store.now c.as_slice-rels.result.now c.args.here.now.rels c.loop-number.number c.index-rels-number.result c.as_slice-rels.ensures c.loop-number-test.true c.index-rels-number.is)
    c.goal_choices-count.ensures in
    record {
      candidates = of-rels-more c.args.store.now g.L.Label.parts c.args.goals.now c.args.level c.args.choice c.as_slice-rels.result.now c.loop-number.number c.in-Ok.short c.index-rels-number.result c.goal_choices-count.result
          c.loop-number.list.items c.in_ok-more.more.items c.append.new.self.items c.loop-number-test.true c.index-rels-number.is (grind (arith, c.in-Ok.ensures)) r c.loop-number.invariant.candidates c.in_ok-more.ensures.candidates c.in-Ok-append.ensures.items;
      light = light-more c.args.store.now g.L.Label.parts c.args.goals.now c.args.level c.args.choice c.as_slice-rels.result.now c.loop-number.number c.in-Ok.short c.index-rels-number.result c.goal_choices-count.result
          c.loop-number.list.items c.in_ok-more.more.items c.append.new.self.items c.loop-number-test.true c.index-rels-number.is r c.in_ok-more.ensures.candidates c.in-Ok-append.ensures.items c.loop-number.invariant.light;
      paid = paid-more c.args.store.now c.loop-number.list.items c.in_ok-more.more.items c.append.new.self.items c.args.steps.now.taken
          c.loop-number.steps c.step_rel.new.steps c.in-Ok-append.ensures.items c.in_ok-more.ensures.paid c.loop-number.invariant.paid;
      takes = takes-more c.args.store.now (goal_rest c.args.goals.now c.args.level) c.as_slice-rels.result.now c.loop-number.number c.index-rels-number.result _ c.args.steps.now c.loop-number.steps c.step_rel.new.steps
          c.loop-number-test.true c.index-rels-number.is r.cheap c.loop-number.invariant.takes c.step_rel.ensures.takes;
    }
