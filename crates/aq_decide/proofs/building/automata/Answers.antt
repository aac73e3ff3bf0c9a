use Rattle.std.proofs.Common.{◌+◌, refl, rules}
use Rattle.aq_store.proofs.StopLemmas.{passed_on}
use Rattle.aq_decide.proofs.BuildLemmas.{grows_at, grows_more, made_more, stops_at}
use Rattle.aq_decide.proofs.building.automata.Goals as goal

pub loop-case-init : goal.loop-case-init
loop-case-init c =
    let m = c.requires.memo in
    search rules

pub returns-in_err-made-clause-grows : goal.returns-in_err-made-clause-grows
returns-in_err-made-clause-grows c =
    grows_at c.args.sets.now c.args.store.now c.loop-case.store c.build_with.new.store c.args.cases.now c.loop-case.case-index c.case-item.result c.args.steps.now c.loop-case.steps c.build_with.new.steps c.loop-case-test.true c.case-item.is
    c.loop-case.invariant.grows c.build_with.ensures.grows

pub returns-in_err-made-clause-stops : goal.returns-in_err-made-clause-stops
returns-in_err-made-clause-stops c =
    passed_on _ c.from_residual.result c.in_err-made.field-0.0 c.from_residual.ensures
    (stops_at c.args.sets.now c.args.store.now c.loop-case.store c.args.cases.now c.loop-case.case-index c.case-item.result c.args.steps.now c.loop-case.steps c.build_with.new.steps c.in_err-made.field-0.0 c.loop-case-test.true c.case-item.is
    c.loop-case.invariant.grows c.in_err-made.ensures.stops)

pub returns-in_default-clause-grows : goal.returns-in_default-clause-grows
returns-in_default-clause-grows c =
    grows_at c.args.sets.now c.args.store.now c.loop-case.store c.build_with.new.store c.args.cases.now c.loop-case.case-index c.case-item.result c.args.steps.now c.loop-case.steps c.build_with.new.steps c.loop-case-test.true c.case-item.is
    c.loop-case.invariant.grows c.build_with.ensures.grows

pub loop-case-preserved : goal.loop-case-preserved
loop-case-preserved c = record {
  made = made_more c.args.sets.now c.loop-case.store c.build_with.new.store c.args.cases.now c.loop-case.case-index (c.loop-case.case-index + 1) c.case-item.result c.loop-case.list.items c.push.new.self.items c.in_ok-made.made refl c.in-Ok.ensures.items
      c.loop-case-test.true c.case-item.is c.build_with.ensures.grows.keeps c.loop-case.invariant.made c.in_ok-made.ensures.made;
  memo = c.in_ok-made.ensures.memo;
  grows = grows_more c.args.sets.now c.args.store.now c.loop-case.store c.build_with.new.store c.args.cases.now c.loop-case.case-index (c.loop-case.case-index + 1) c.case-item.result c.args.steps.now c.loop-case.steps c.build_with.new.steps refl
      c.loop-case-test.true c.case-item.is c.loop-case.invariant.grows c.build_with.ensures.grows;
}
