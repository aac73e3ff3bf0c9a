use Rattle.std.proofs.Common.{◌∙◌, ◌<◌, List, length, All, sym, ap, subst, arith}
use Rattle.aq_store.proofs.StopLemmas.{passed_on}
use Rattle.aq_store.specs.declared.lsta.Lsta.{Lsta}
use Rattle.aq_obligations.specs.Asking.{meaning_of, products_in}
use Rattle.aq_obligations.specs.Enough.{enough}
use Rattle.aq_obligations.specs.Wide.{IsWide, WideComparison}
use Rattle.aq_obligations.specs.declared.bound.BoundCase.{BoundCase}
use Rattle.aq_set_build.specs.Growth.{Grows, StopsFor}
use Rattle.aq_set_build.specs.Products.{IsWideAmong}
use Rattle.aq_decide.specs.Budgets.{build_all, judge_budget}
use Rattle.aq_decide.specs.Deciding.{Decides, IsShort}
use Rattle.aq_decide.specs.Goals.{AreBuilt, AreMade}
use Rattle.aq_decide.specs.Judging.{IsPaidFor, Judges}
use Rattle.aq_decide.specs.Stops.{GivesUpFor}
use Rattle.aq_decide.proofs.BuildLemmas.{built_extends, built_of}
use Rattle.aq_decide.proofs.JudgeLemmas.{err_map, ok_map}
use Rattle.aq_decide.proofs.SpreadLemmas.{as_many}
use Rattle.aq_decide.proofs.VerdictLemmas.{all_there, all_within, decides_of, goals_stop, goals_within, judge_stop, short_of, sources_stop, sources_within, worlds_stop, worlds_within}
use Rattle.aq_decide.proofs.verdict.decide.Goals as goal

pub automata-requires-clause-there : goal.automata-requires-clause-there
automata-requires-clause-there c =
    subst (λ (l : List BoundCase). All (λ d. d.set < length c.args.sets.now.exprs) l) (sym c.as_slice-cases.ensures) (all_there c.args.program.now c.args.sets.now c.args.obligation.now c.requires.asked c.args.obligation.now.goal.cases c.requires.asked.bound.goal)

pub automata-requires-2-clause-there : goal.automata-requires-2-clause-there
automata-requires-2-clause-there c =
    subst (λ (l : List BoundCase). All (λ d. d.set < length c.args.sets.now.exprs) l) (sym c.as_slice.ensures) (all_there c.args.program.now c.args.sets.now c.args.obligation.now c.requires.asked c.args.obligation.now.from c.requires.asked.bound.from)

pub all_worlds-requires-clause-built : goal.all_worlds-requires-clause-built
all_worlds-requires-clause-built c =
    let made = subst (λ (l : List BoundCase). AreMade c.args.sets.now l c.automata-2.new.store c.in_ok-sources.sources.items) c.as_slice.ensures c.in_ok-sources.ensures.made in
    subst (λ (l : List Lsta). AreBuilt c.args.sets.now c.args.obligation.now.from c.automata-2.new.store l) (sym c.as_slice-2.ensures.value)
    (built_of c.args.sets.now c.automata-2.new.store c.args.obligation.now.from c.in_ok-sources.sources.items made)

pub judge_worlds-requires-clause-few : goal.judge_worlds-requires-clause-few
judge_worlds-requires-clause-few c =
    let made = subst (λ (l : List BoundCase). AreMade c.args.sets.now l c.automata.new.store c.in_ok-goals.goals.items) c.as_slice-cases.ensures c.in_ok-goals.ensures.made in
    let long = as_many c.args.sets.now c.automata.new.store c.args.obligation.now.goal.cases c.in_ok-goals.goals.items (built_of c.args.sets.now c.automata.new.store c.args.obligation.now.goal.cases c.in_ok-goals.goals.items made) in
    let few = c.in-Ok.ensures.0 in
    let same = ap (λ (l : List BoundCase). length l) c.as_slice-cases.ensures in
    let items = ap (λ (l : List Lsta). length l) c.as_slice-3.ensures.value in
    omega (arith, long, few, same, items)

pub judge_worlds-requires-clause-built : goal.judge_worlds-requires-clause-built
judge_worlds-requires-clause-built c =
    let s = c.args.sets.now in
    let cases = c.args.obligation.now.goal.cases in
    let made = subst (λ (l : List BoundCase). AreMade s l c.automata.new.store c.in_ok-goals.goals.items) c.as_slice-cases.ensures c.in_ok-goals.ensures.made in
    let built = built_of s c.automata.new.store cases c.in_ok-goals.goals.items made in
    let later = built_extends s c.automata.new.store c.automata-2.new.store c.automata-2.ensures.grows.keeps cases c.in_ok-goals.goals.items built in
    subst (λ (l : List Lsta). AreBuilt s cases c.all_worlds.new.store l) (sym c.as_slice-3.ensures.value)
    (built_extends s c.automata-2.new.store c.all_worlds.new.store c.all_worlds.ensures.grows.keeps cases c.in_ok-goals.goals.items later)

pub judge_worlds-requires-clause-sources : goal.judge_worlds-requires-clause-sources
judge_worlds-requires-clause-sources c =
    let s = c.args.sets.now in
    let cases = c.args.obligation.now.from in
    let made = subst (λ (l : List BoundCase). AreMade s l c.automata-2.new.store c.in_ok-sources.sources.items) c.as_slice.ensures c.in_ok-sources.ensures.made in
    let built = built_of s c.automata-2.new.store cases c.in_ok-sources.sources.items made in
    subst (λ (l : List Lsta). AreBuilt s cases c.all_worlds.new.store l) (sym c.as_slice-4.ensures.value)
    (built_extends s c.automata-2.new.store c.all_worlds.new.store c.all_worlds.ensures.grows.keeps cases c.in_ok-sources.sources.items built)

pub returns-in_err-goals-clause-steps : goal.returns-in_err-goals-clause-steps
returns-in_err-goals-clause-steps c =
    let first = subst (λ (l : List BoundCase). Grows (build_all c.args.sets.now l) c.new-store.result c.automata.new.store c.args.steps.now c.automata.new.steps) c.as_slice-cases.ensures c.automata.ensures.grows in
    goals_within c.args.program.now c.args.sets.now c.args.obligation.now c.requires.asked c.new-store.result c.automata.new.store c.args.steps.now c.automata.new.steps first

pub returns-in_err-goals-clause-stops : goal.returns-in_err-goals-clause-stops
returns-in_err-goals-clause-stops c =
    passed_on _ c.from_residual.result c.in_err-goals.field-0.0 c.from_residual.ensures
    (goals_stop c.args.program.now c.args.sets.now c.args.obligation.now c.requires.asked c.args.steps.now c.automata.new.steps c.in_err-goals.field-0.0
    (subst (λ (l : List BoundCase). StopsFor (IsWideAmong (products_in c.args.sets.now l)) (build_all c.args.sets.now l) c.args.steps.now c.automata.new.steps c.in_err-goals.field-0.0) c.as_slice-cases.ensures c.in_err-goals.ensures.stops))

pub returns-in_err-sources-clause-steps : goal.returns-in_err-sources-clause-steps
returns-in_err-sources-clause-steps c =
    let first = subst (λ (l : List BoundCase). Grows (build_all c.args.sets.now l) c.new-store.result c.automata.new.store c.args.steps.now c.automata.new.steps) c.as_slice-cases.ensures c.automata.ensures.grows in
    let second = subst (λ (l : List BoundCase). Grows (build_all c.args.sets.now l) c.automata.new.store c.automata-2.new.store c.automata.new.steps c.automata-2.new.steps) c.as_slice.ensures c.automata-2.ensures.grows in
    sources_within c.args.program.now c.args.sets.now c.args.obligation.now c.requires.asked c.new-store.result c.automata.new.store c.automata-2.new.store c.args.steps.now c.automata.new.steps c.automata-2.new.steps first second

pub returns-in_err-sources-clause-stops : goal.returns-in_err-sources-clause-stops
returns-in_err-sources-clause-stops c =
    let first = subst (λ (l : List BoundCase). Grows (build_all c.args.sets.now l) c.new-store.result c.automata.new.store c.args.steps.now c.automata.new.steps) c.as_slice-cases.ensures c.automata.ensures.grows in
    passed_on _ c.from_residual-in_err-sources.result c.in_err-sources.field-0.0 c.from_residual-in_err-sources.ensures
    (sources_stop c.args.program.now c.args.sets.now c.args.obligation.now c.requires.asked c.new-store.result c.automata.new.store c.args.steps.now c.automata.new.steps c.automata-2.new.steps c.in_err-sources.field-0.0 first
    (subst (λ (l : List BoundCase). StopsFor (IsWideAmong (products_in c.args.sets.now l)) (build_all c.args.sets.now l) c.automata.new.steps c.automata-2.new.steps c.in_err-sources.field-0.0) c.as_slice.ensures
    c.in_err-sources.ensures.stops))

pub returns-in_err-worlds-clause-steps : goal.returns-in_err-worlds-clause-steps
returns-in_err-worlds-clause-steps c =
    let first = subst (λ (l : List BoundCase). Grows (build_all c.args.sets.now l) c.new-store.result c.automata.new.store c.args.steps.now c.automata.new.steps) c.as_slice-cases.ensures c.automata.ensures.grows in
    let second = subst (λ (l : List BoundCase). Grows (build_all c.args.sets.now l) c.automata.new.store c.automata-2.new.store c.automata.new.steps c.automata-2.new.steps) c.as_slice.ensures c.automata-2.ensures.grows in
    worlds_within c.args.program.now c.args.sets.now c.args.obligation.now c.requires.asked c.new-store.result c.automata.new.store c.automata-2.new.store c.all_worlds.new.store c.args.steps.now c.automata.new.steps c.automata-2.new.steps c.all_worlds.new.steps first second c.all_worlds.ensures.grows

pub returns-in_err-worlds-clause-stops : goal.returns-in_err-worlds-clause-stops
returns-in_err-worlds-clause-stops c =
    let first = subst (λ (l : List BoundCase). Grows (build_all c.args.sets.now l) c.new-store.result c.automata.new.store c.args.steps.now c.automata.new.steps) c.as_slice-cases.ensures c.automata.ensures.grows in
    let second = subst (λ (l : List BoundCase). Grows (build_all c.args.sets.now l) c.automata.new.store c.automata-2.new.store c.automata.new.steps c.automata-2.new.steps) c.as_slice.ensures c.automata-2.ensures.grows in
    passed_on _ c.from_residual-in_err-worlds.result c.in_err-worlds.field-0.0 c.from_residual-in_err-worlds.ensures
    (worlds_stop c.args.program.now c.args.sets.now c.args.obligation.now c.requires.asked c.new-store.result c.automata.new.store c.automata-2.new.store c.args.steps.now c.automata.new.steps c.automata-2.new.steps c.in_err-worlds.field-0.0 first second c.in_err-worlds.ensures.stops)

pub returns-clause-decides : goal.returns-clause-decides
returns-clause-decides c =
    let goals = subst (λ (l : List BoundCase). AreMade c.args.sets.now l c.automata.new.store c.in_ok-goals.goals.items) c.as_slice-cases.ensures c.in_ok-goals.ensures.made in
    let sources = subst (λ (l : List BoundCase). AreMade c.args.sets.now l c.automata-2.new.store c.in_ok-sources.sources.items) c.as_slice.ensures c.in_ok-sources.ensures.made in
    ok_map (λ d. Judges c.args.program.now c.args.sets.now c.args.obligation.now d) (λ d. Decides c.args.program.now c.args.sets.now c.args.obligation.now d)
    (λ d h. decides_of c.args.program.now c.args.sets.now c.args.obligation.now c.requires.asked c.automata.new.store c.automata-2.new.store c.in_ok-goals.goals.items c.in_ok-sources.sources.items goals sources c.in_ok-worlds.ensures.fits d h) c.judge_worlds.result c.judge_worlds.ensures.judges

pub returns-clause-short : goal.returns-clause-short
returns-clause-short c =
    let cases = length c.args.obligation.now.goal.cases in
    ok_map (λ d. IsPaidFor cases c.all_worlds.new.steps c.judge_worlds.new.steps d) (λ d. IsShort cases c.judge_worlds.new.steps d)
    (λ d h. short_of cases c.all_worlds.new.steps c.judge_worlds.new.steps d h) c.judge_worlds.result c.judge_worlds.ensures.paid

pub returns-clause-steps : goal.returns-clause-steps
returns-clause-steps c =
    let first = subst (λ (l : List BoundCase). Grows (build_all c.args.sets.now l) c.new-store.result c.automata.new.store c.args.steps.now c.automata.new.steps) c.as_slice-cases.ensures c.automata.ensures.grows in
    let second = subst (λ (l : List BoundCase). Grows (build_all c.args.sets.now l) c.automata.new.store c.automata-2.new.store c.automata.new.steps c.automata-2.new.steps) c.as_slice.ensures c.automata-2.ensures.grows in
    all_within c.args.program.now c.args.sets.now c.args.obligation.now c.requires.asked c.new-store.result c.automata.new.store c.automata-2.new.store c.all_worlds.new.store c.args.steps.now c.automata.new.steps c.automata-2.new.steps c.all_worlds.new.steps c.judge_worlds.new.steps c.in_ok-worlds.worlds.items c.in_ok-worlds.ensures.few first second c.all_worlds.ensures.grows c.judge_worlds.ensures.takes

pub returns-clause-limit : goal.returns-clause-limit
returns-clause-limit c = c.judge_worlds.ensures.takes.same ∙ c.all_worlds.ensures.grows.limit ∙ c.automata-2.ensures.grows.limit ∙ c.automata.ensures.grows.limit

pub returns-clause-stops : goal.returns-clause-stops
returns-clause-stops c =
    let first = subst (λ (l : List BoundCase). Grows (build_all c.args.sets.now l) c.new-store.result c.automata.new.store c.args.steps.now c.automata.new.steps) c.as_slice-cases.ensures c.automata.ensures.grows in
    let second = subst (λ (l : List BoundCase). Grows (build_all c.args.sets.now l) c.automata.new.store c.automata-2.new.store c.automata.new.steps c.automata-2.new.steps) c.as_slice.ensures c.automata-2.ensures.grows in
    let most = judge_budget c.args.sets.now c.args.obligation.now c.in_ok-worlds.worlds.items in
    let narrow = GivesUpFor (WideComparison (meaning_of c.args.program.now c.args.sets.now c.args.obligation.now)) most c.all_worlds.new.steps in
    err_map narrow narrow (GivesUpFor (IsWide (meaning_of c.args.program.now c.args.sets.now c.args.obligation.now)) (enough c.args.program.now c.args.sets.now c.args.obligation.now) c.args.steps.now)
    (λ e h g. judge_stop c.args.program.now c.args.sets.now c.args.obligation.now c.requires.asked c.new-store.result c.automata.new.store c.automata-2.new.store c.all_worlds.new.store c.args.steps.now c.automata.new.steps c.automata-2.new.steps c.all_worlds.new.steps c.in_ok-worlds.worlds.items e c.in_ok-worlds.ensures.few first second c.all_worlds.ensures.grows h) c.judge_worlds.result c.judge_worlds.ensures.stops c.judge_worlds.ensures.stops
