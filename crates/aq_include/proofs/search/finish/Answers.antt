use Rattle.std.proofs.Common.{drop, subst, arith}
use Rattle.std.proofs.lemmas.List.{drop_all}
use Rattle.aq_cert.specs.Goals.{goal_rest}
use Rattle.aq_cert.specs.Macros.{IsOfLevel}
use Rattle.aq_include.specs.Costs.{IsCause, weight}
use Rattle.aq_include.specs.Ends.{Ends}
use Rattle.aq_cert.proofs.HeldLemmas.{end-holds}
use Rattle.aq_include.proofs.Passed.{passed}
use Rattle.aq_include.proofs.SizeLemmas.{size-push}
use Rattle.aq_include.proofs.SearchLemmas.{table-end}
use Rattle.aq_include.proofs.StandLemmas.{stand-push}
use Rattle.aq_include.proofs.TurnLemmas.{ends-cheap, least-end}
use Rattle.aq_include.proofs.CostLemmas.{takes-within, cause-within}
use Rattle.aq_include.proofs.search.finish.Goals as goal

pub returns-in_err-end-clause-takes : goal.returns-in_err-end-clause-takes
returns-in_err-end-clause-takes g c =
    let empty = drop_all c.args.level c.args.left.now.shape.items (omega (arith, c.requires.level)) in
    let level = subst (λ l. IsOfLevel c.args.store.now l (goal_rest c.args.goals.now c.args.level) c.args.here) empty c.requires.here in
    takes-within _ _ c.args.steps.now c.find_end.new.steps (ends-cheap c.args.store.now (goal_rest c.args.goals.now c.args.level) c.args.here level) c.find_end.ensures.takes

pub returns-in_err-end-clause-spent : goal.returns-in_err-end-clause-spent
returns-in_err-end-clause-spent g c =
    let empty = drop_all c.args.level c.args.left.now.shape.items (omega (arith, c.requires.level)) in
    let level = subst (λ l. IsOfLevel c.args.store.now l (goal_rest c.args.goals.now c.args.level) c.args.here) empty c.requires.here in
    passed (λ e. IsCause (weight (goal_rest c.args.goals.now c.args.level) c.args.here) c.args.steps.now e) c.from_residual.result c.in_err-end.field-0.0 c.from_residual.ensures
    (cause-within _ _ c.args.steps.now c.in_err-end.field-0.0 (ends-cheap c.args.store.now (goal_rest c.args.goals.now c.args.level) c.args.here level) c.in_err-end.ensures.spent)

pub returns-in_default-clause-takes : goal.returns-in_default-clause-takes
returns-in_default-clause-takes g c =
    let empty = drop_all c.args.level c.args.left.now.shape.items (omega (arith, c.requires.level)) in
    let level = subst (λ l. IsOfLevel c.args.store.now l (goal_rest c.args.goals.now c.args.level) c.args.here) empty c.requires.here in
    takes-within _ _ c.args.steps.now c.find_end.new.steps (ends-cheap c.args.store.now (goal_rest c.args.goals.now c.args.level) c.args.here level) c.find_end.ensures.takes

pub returns-in-Ok-clause-finds : goal.returns-in-Ok-clause-finds
returns-in-Ok-clause-finds g c =
    let empty = drop_all c.args.level c.args.left.now.shape.items (omega (arith, c.requires.level)) in
    let level = subst (λ l. IsOfLevel c.args.store.now l (goal_rest c.args.goals.now c.args.level) c.args.here) empty c.requires.here in
    let is_end = subst (λ o. Ends g.L.Label.parts c.args.store.now c.args.here o) c.in-Some.is c.in_ok-end.ensures.ends in
    table-end g.L.Label.parts c.args.store.now c.args.left.now.shape.items c.args.goals.now c.args.level c.in-Ok.number c.args.here c.in-Some.end c.args.table.now c.add_last.new.self
    c.requires.level c.requires.table c.requires.here
    (record { is_end = is_end; holds = end-holds g.L.Label.parts c.args.store.now g.L.Label.part_count g.met.L.Label.all_parts (goal_rest c.args.goals.now c.args.level) c.args.here level c.in-Some.end is_end })
    c.in-Ok.ensures.macros c.add_last.ensures.edges c.in-Ok.ensures.ends

pub returns-in-Ok-clause-takes : goal.returns-in-Ok-clause-takes
returns-in-Ok-clause-takes g c =
    let empty = drop_all c.args.level c.args.left.now.shape.items (omega (arith, c.requires.level)) in
    let level = subst (λ l. IsOfLevel c.args.store.now l (goal_rest c.args.goals.now c.args.level) c.args.here) empty c.requires.here in
    takes-within _ _ c.args.steps.now c.find_end.new.steps (ends-cheap c.args.store.now (goal_rest c.args.goals.now c.args.level) c.args.here level) c.find_end.ensures.takes

pub returns-in-None-clause-finds : goal.returns-in-None-clause-finds
returns-in-None-clause-finds g c =
    let empty = drop_all c.args.level c.args.left.now.shape.items (omega (arith, c.requires.level)) in
    let level = subst (λ l. IsOfLevel c.args.store.now l (goal_rest c.args.goals.now c.args.level) c.args.here) empty c.requires.here in
    least-end g.L.Label.parts c.args.store.now (drop c.args.level c.args.left.now.shape.items) (goal_rest c.args.goals.now c.args.level) c.args.here c.new.result empty level
    (subst (λ o. Ends g.L.Label.parts c.args.store.now c.args.here o) c.in-None.is c.in_ok-end.ensures.ends) c.new.ensures

pub returns-in-None-clause-takes : goal.returns-in-None-clause-takes
returns-in-None-clause-takes g c =
    let empty = drop_all c.args.level c.args.left.now.shape.items (omega (arith, c.requires.level)) in
    let level = subst (λ l. IsOfLevel c.args.store.now l (goal_rest c.args.goals.now c.args.level) c.args.here) empty c.requires.here in
    takes-within _ _ c.args.steps.now c.find_end.new.steps (ends-cheap c.args.store.now (goal_rest c.args.goals.now c.args.level) c.args.here level) c.find_end.ensures.takes

pub returns-in-Ok-clause-size : goal.returns-in-Ok-clause-size
returns-in-Ok-clause-size g c =
    let pushed = size-push c.args.level c.in-Ok.number c.args.here c.args.table.now c.add_last.new.self (omega (arith, c.requires.level, c.requires.table.even.rows)) c.in-Ok.ensures.macros in
    omega (arith, pushed, c.find_end.ensures.takes.later)

pub returns-in-Ok-clause-rows : goal.returns-in-Ok-clause-rows
returns-in-Ok-clause-rows g c =
    stand-push c.args.store.now c.args.left.now c.args.goals.now c.args.level c.in-Ok.number c.args.here c.args.table.now.macros.items c.add_last.new.self.macros.items c.requires.rows c.requires.stands c.in-Ok.ensures.macros
