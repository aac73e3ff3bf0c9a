use Rattle.std.proofs.Common.{◌^◌, length, refl, ap, ◌∙◌, arith}
use Rattle.aq_include.specs.Answers.{Answers, IsPaid, StopsFor, search_budget}
use Rattle.aq_include.specs.Costs.{IsCause}
use Rattle.aq_obligations.specs.Asking.{meaning_of}
use Rattle.aq_obligations.specs.Wide.{WideComparison}
use Rattle.aq_obligations.specs.Worlds.{worlds}
use Rattle.aq_obligations.specs.Worlds as meant
use Rattle.aq_decide.specs.Budgets.{judge_budget}
use Rattle.aq_decide.specs.Judging.{IsPaidWithin, Tells}
use Rattle.aq_decide.specs.Kept.{IsWorld, alone}
use Rattle.aq_decide.specs.Stops.{GivesUpFor}
use Rattle.std.specs.Prelude.{Contains, List, [], ◌∷◌}
use Rattle.aq_obligations.specs.declared.bound.BoundCase.{BoundCase}
use Rattle.aq_decide.proofs.SpreadLemmas.{as_many}
use Rattle.aq_decide.proofs.JudgeLemmas.{err_map, few_met, fit_together, judge_stops, met_built, ok_map, paid_within, takes_within, tells}
use Rattle.aq_decide.proofs.judge.judge_world.Goals as goal

pub goals_in-requires : goal.goals_in-requires
goals_in-requires c = ap (λ (l : List BoundCase). length l) c.as_slice-cases.ensures ∙ as_many c.args.sets.now c.args.store.now c.args.obligation.now.goal.cases c.args.goals.now c.requires.built

pub include_once-requires-clause-fits : goal.include_once-requires-clause-fits
include_once-requires-clause-fits c =
    let s = c.args.sets.now in
    let o = c.args.obligation.now in
    let built = met_built s c.args.store.now o.goal.cases c.as_slice-cases.result.now c.args.goals.now c.in-Ok.met.items c.as_slice-2.result.now c.args.world.now.bits c.as_slice.result.now c.as_slice-cases.ensures c.as_slice.ensures
    c.as_slice-2.ensures.value c.requires.built c.in-Ok.ensures in
    fit_together c.args.program.now s o c.requires.asked c.args.store.now c.args.world.now c.as_slice-2.result.now built c.requires.world.0 c.requires.world.2

pub include_once-requires-clause-few : goal.include_once-requires-clause-few
include_once-requires-clause-few c =
    let s = c.args.sets.now in
    let o = c.args.obligation.now in
    let built = met_built s c.args.store.now o.goal.cases c.as_slice-cases.result.now c.args.goals.now c.in-Ok.met.items c.as_slice-2.result.now c.args.world.now.bits c.as_slice.result.now c.as_slice-cases.ensures c.as_slice.ensures
    c.as_slice-2.ensures.value c.requires.built c.in-Ok.ensures in
    let long = as_many s c.args.store.now o.goal.cases c.args.goals.now c.requires.built in
    few_met c.args.program.now s o c.requires.asked c.args.store.now c.args.world.now c.as_slice-2.result.now built (2 ^ 32) (let few = c.requires.few in omega (arith, few, long))

pub returns-clause-answer : goal.returns-clause-answer
returns-clause-answer c =
    let p = c.args.program.now in
    let s = c.args.sets.now in
    let o = c.args.obligation.now in
    let w = c.args.world.now in
    let table = c.args.store.now in
    let met = c.as_slice-2.result.now in
    let built = met_built s table o.goal.cases c.as_slice-cases.result.now c.args.goals.now c.in-Ok.met.items met w.bits c.as_slice.result.now c.as_slice-cases.ensures c.as_slice.ensures c.as_slice-2.ensures.value c.requires.built c.in-Ok.ensures in
    ok_map (Answers alone table w.lsta met) (λ a. (u : meant.World) → Contains (worlds (meaning_of p s o)) u → (is : IsWorld s o.from table w u) → Tells p s o is.bound u a)
    (λ a h. tells p s o c.requires.asked table w met built c.worlds.ensures.cover a h) c.include_once.result c.include_once.ensures.answer

pub returns-clause-paid : goal.returns-clause-paid
returns-clause-paid c =
    let p = c.args.program.now in
    let s = c.args.sets.now in
    let o = c.args.obligation.now in
    let w = c.args.world.now in
    let table = c.args.store.now in
    let met = c.as_slice-2.result.now in
    let built = met_built s table o.goal.cases c.as_slice-cases.result.now c.args.goals.now c.in-Ok.met.items met w.bits c.as_slice.result.now c.as_slice-cases.ensures c.as_slice.ensures c.as_slice-2.ensures.value c.requires.built c.in-Ok.ensures in
    ok_map (IsPaid met c.args.steps.now c.include_once.new.steps) (IsPaidWithin (length o.goal.cases) c.args.steps.now c.include_once.new.steps)
    (λ a h. paid_within p s o c.requires.asked table w met built c.args.steps.now c.include_once.new.steps a h) c.include_once.result c.include_once.ensures.size

pub returns-clause-takes : goal.returns-clause-takes
returns-clause-takes c =
    let s = c.args.sets.now in
    let o = c.args.obligation.now in
    let w = c.args.world.now in
    let table = c.args.store.now in
    let met = c.as_slice-2.result.now in
    let built = met_built s table o.goal.cases c.as_slice-cases.result.now c.args.goals.now c.in-Ok.met.items met w.bits c.as_slice.result.now c.as_slice-cases.ensures c.as_slice.ensures c.as_slice-2.ensures.value c.requires.built c.in-Ok.ensures in
    takes_within c.args.program.now s o c.requires.asked table w met built c.args.steps.now c.include_once.new.steps c.include_once.ensures.takes

pub returns-clause-stops : goal.returns-clause-stops
returns-clause-stops c =
    let p = c.args.program.now in
    let s = c.args.sets.now in
    let o = c.args.obligation.now in
    let w = c.args.world.now in
    let table = c.args.store.now in
    let met = c.as_slice-2.result.now in
    let built = met_built s table o.goal.cases c.as_slice-cases.result.now c.args.goals.now c.in-Ok.met.items met w.bits c.as_slice.result.now c.as_slice-cases.ensures c.as_slice.ensures c.as_slice-2.ensures.value c.requires.built c.in-Ok.ensures in
    err_map (StopsFor alone table w.lsta met) (IsCause (search_budget w.lsta met) c.args.steps.now) (GivesUpFor (WideComparison (meaning_of p s o)) (judge_budget s o (w ∷ [])) c.args.steps.now)
    (λ e h g. judge_stops p s o c.requires.asked table w met built c.worlds.ensures.cover c.worlds.ensures.compare c.requires.world.0 c.requires.world.1 c.requires.world.2 c.args.steps.now e h g) c.include_once.result c.include_once.ensures.wide
    c.include_once.ensures.spent

pub returns-in_default-clause-takes : goal.returns-in_default-clause-takes
returns-in_default-clause-takes c = record { later = omega arith; cheap = omega arith; same = refl }
