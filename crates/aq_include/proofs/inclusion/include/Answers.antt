use Rattle.std.proofs.Common.{◌≡◌, ℕ, length, sym, subst, arith}
use Rattle.aq_cert.specs.Goals.{goal_rest}
use Rattle.aq_cert.specs.Placed.{ArePlaced, AllStand}
use Rattle.aq_include.specs.Costs.{IsCause, weight, size}
use Rattle.aq_include.specs.Answers.{IsFresh, StopsFor, search_budget}
use Rattle.aq_include.specs.Search.{Finds, GrowsWith}
use Rattle.aq_include.proofs.Passed.{passed}
use Rattle.aq_include.proofs.CostLemmas.{takes-within, cause-within}
use Rattle.aq_include.proofs.LeastLemmas.{least-escape}
use Rattle.aq_include.proofs.SizeLemmas.{cert-paid}
use Rattle.aq_include.proofs.IncludeLemmas.{whole-root, root-level, fresh-table, certified, wide-inclusion, budget-within, root-stands, none-stand}
use Rattle.aq_include.proofs.inclusion.include.Goals as goal

pub visit-requires-clause-here : goal.visit-requires-clause-here
visit-requires-clause-here g c =
    root-level g.L.Label.parts c.args.store.now c.args.left.now c.args.goals.now c.in-Ok-root_macro.root (whole-root c.args.left.now c.args.goals.now c.in-Ok-root_macro.root c.in-Ok-root_macro.ensures.domain c.in-Ok-root_macro.ensures.rels c.in-Ok-root_macro.ensures.count) c.requires.fits.left_fits c.requires.fits.goals_fit c.requires.fits.one_length

pub visit-requires-clause-table : goal.visit-requires-clause-table
visit-requires-clause-table g c =
    let n : c.len-2.result ≡ length c.args.left.now.shape.items = omega (arith, c.len-2.ensures, c.args.left.now.shape.ok.0) in
    let fresh = subst (λ (z : ℕ). IsFresh z c.in-Ok-new.table) n c.in-Ok-new.ensures in
    fresh-table g.L.Label.parts c.args.store.now c.args.left.now.shape.items c.args.goals.now c.in-Ok-new.table fresh

pub visit-requires-clause-stands : goal.visit-requires-clause-stands
visit-requires-clause-stands g c =
    root-stands g.L.Label.parts c.args.store.now c.args.left.now c.args.goals.now c.in-Ok-root_macro.root (whole-root c.args.left.now c.args.goals.now c.in-Ok-root_macro.root c.in-Ok-root_macro.ensures.domain c.in-Ok-root_macro.ensures.rels c.in-Ok-root_macro.ensures.count)

pub visit-requires-clause-rows : goal.visit-requires-clause-rows
visit-requires-clause-rows g c = none-stand g.L.Label.parts c.args.store.now c.len-2.result c.args.left.now c.args.goals.now c.in-Ok-new.table c.in-Ok-new.ensures

pub with_places-requires-clause-stand : goal.with_places-requires-clause-stand
with_places-requires-clause-stand g c = subst (AllStand c.args.store.now c.args.left.now c.args.goals.now) (sym c.as_slice.ensures.value) c.in_ok-visit.ensures.rows

pub returns-in_err-visit-clause-wide : goal.returns-in_err-visit-clause-wide
returns-in_err-visit-clause-wide g c =
    passed (λ e. StopsFor g.L.Label.parts c.args.store.now c.args.left.now c.args.goals.now e) c.from_residual.result c.in_err-visit.field-0.0 c.from_residual.ensures
    (wide-inclusion g.L.Label.parts c.args.store.now c.args.left.now c.args.goals.now c.in-Ok-root_macro.root (whole-root c.args.left.now c.args.goals.now c.in-Ok-root_macro.root c.in-Ok-root_macro.ensures.domain c.in-Ok-root_macro.ensures.rels c.in-Ok-root_macro.ensures.count) c.in_err-visit.field-0.0 c.in_err-visit.ensures.wide)

pub returns-in_err-visit-clause-takes : goal.returns-in_err-visit-clause-takes
returns-in_err-visit-clause-takes g c =
    takes-within _ _ c.args.steps.now c.visit.new.steps (budget-within g.L.Label.parts c.args.store.now c.args.left.now c.args.goals.now (weight (goal_rest c.args.goals.now 0) c.in-Ok-root_macro.root) c.requires.fits.left_fits c.in-Ok-root_macro.ensures.weight) c.visit.ensures.takes

pub returns-in_err-visit-clause-spent : goal.returns-in_err-visit-clause-spent
returns-in_err-visit-clause-spent g c =
    passed (λ e. IsCause (search_budget c.args.left.now c.args.goals.now) c.args.steps.now e) c.from_residual.result c.in_err-visit.field-0.0 c.from_residual.ensures
    (cause-within _ _ c.args.steps.now c.in_err-visit.field-0.0 (budget-within g.L.Label.parts c.args.store.now c.args.left.now c.args.goals.now (weight (goal_rest c.args.goals.now 0) c.in-Ok-root_macro.root) c.requires.fits.left_fits c.in-Ok-root_macro.ensures.weight) c.in_err-visit.ensures.spent)

pub returns-in-Ok-with_places-clause-answer : goal.returns-in-Ok-with_places-clause-answer
returns-in-Ok-with_places-clause-answer g c =
    let n : c.len-2.result ≡ length c.args.left.now.shape.items = omega (arith, c.len-2.ensures, c.args.left.now.shape.ok.0) in
    let fresh = subst (λ (z : ℕ). IsFresh z c.in-Ok-new.table) n c.in-Ok-new.ensures in
    certified g.L.Label.parts c.args.store.now c.args.left.now c.args.goals.now c.in-Ok-root_macro.root c.in-Ok-new.table c.visit.new.table c.in-Reached.field-0 c.in-Ok-with_places.places c.into_cert.result (whole-root c.args.left.now c.args.goals.now c.in-Ok-root_macro.root c.in-Ok-root_macro.ensures.domain c.in-Ok-root_macro.ensures.rels c.in-Ok-root_macro.ensures.count) fresh
    (subst (λ f. Finds g.L.Label.parts c.args.store.now c.args.left.now.shape.items c.args.goals.now 0 c.in-Ok-root_macro.root c.in-Ok-new.table c.visit.new.table f) c.in-Reached.is c.in_ok-visit.ensures.finds) (subst (λ l. ArePlaced c.args.store.now c.args.left.now c.args.goals.now l c.in-Ok-with_places.places) c.as_slice.ensures.value c.in-Ok-with_places.ensures) c.into_cert.ensures.macros c.into_cert.ensures.edges c.into_cert.ensures.ends

pub returns-in_default-with_places-clause-takes : goal.returns-in_default-with_places-clause-takes
returns-in_default-with_places-clause-takes g c =
    takes-within _ _ c.args.steps.now c.visit.new.steps (budget-within g.L.Label.parts c.args.store.now c.args.left.now c.args.goals.now (weight (goal_rest c.args.goals.now 0) c.in-Ok-root_macro.root) c.requires.fits.left_fits c.in-Ok-root_macro.ensures.weight) c.visit.ensures.takes

pub returns-in-Ok-with_places-clause-takes : goal.returns-in-Ok-with_places-clause-takes
returns-in-Ok-with_places-clause-takes g c =
    takes-within _ _ c.args.steps.now c.visit.new.steps (budget-within g.L.Label.parts c.args.store.now c.args.left.now c.args.goals.now (weight (goal_rest c.args.goals.now 0) c.in-Ok-root_macro.root) c.requires.fits.left_fits c.in-Ok-root_macro.ensures.weight) c.visit.ensures.takes

pub returns-in-Escapes-clause-answer : goal.returns-in-Escapes-clause-answer
returns-in-Escapes-clause-answer g c =
    least-escape g.L.Label.parts g.L.Label.part_count g.met.L.Label.all_parts c.args.store.now c.args.left.now c.args.goals.now c.in-Ok-root_macro.root (whole-root c.args.left.now c.args.goals.now c.in-Ok-root_macro.root c.in-Ok-root_macro.ensures.domain c.in-Ok-root_macro.ensures.rels c.in-Ok-root_macro.ensures.count) c.in-Escapes.word
    (subst (λ f. Finds g.L.Label.parts c.args.store.now c.args.left.now.shape.items c.args.goals.now 0 c.in-Ok-root_macro.root c.in-Ok-new.table c.visit.new.table f) c.in-Escapes.is c.in_ok-visit.ensures.finds)

pub returns-in-Escapes-clause-takes : goal.returns-in-Escapes-clause-takes
returns-in-Escapes-clause-takes g c =
    takes-within _ _ c.args.steps.now c.visit.new.steps (budget-within g.L.Label.parts c.args.store.now c.args.left.now c.args.goals.now (weight (goal_rest c.args.goals.now 0) c.in-Ok-root_macro.root) c.requires.fits.left_fits c.in-Ok-root_macro.ensures.weight) c.visit.ensures.takes

pub returns-in-Ok-with_places-clause-size : goal.returns-in-Ok-with_places-clause-size
returns-in-Ok-with_places-clause-size g c =
    cert-paid c.args.store.now c.args.left.now c.args.goals.now c.visit.new.table c.in-Ok-with_places.places c.into_cert.result c.in-Ok-root_macro.root c.in-Ok-new.table c.len-2.result c.args.steps.now c.visit.new.steps
    (subst (λ l. ArePlaced c.args.store.now c.args.left.now c.args.goals.now l c.in-Ok-with_places.places) c.as_slice.ensures.value c.in-Ok-with_places.ensures) c.into_cert.ensures.macros c.in-Ok-new.ensures
    c.in-Ok-root_macro.ensures.size
    (subst (λ f. GrowsWith (size c.in-Ok-root_macro.root) c.in-Ok-new.table c.visit.new.table c.args.steps.now c.visit.new.steps f) c.in-Reached.is c.in_ok-visit.ensures.size)
