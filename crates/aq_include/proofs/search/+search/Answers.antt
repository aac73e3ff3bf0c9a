use Rattle.std.proofs.Common.{◌≡◌, ◌<◌, ◌+◌, ℕ, List, [], ◌∷◌, length, drop, get_or, IfErr, inl, refl, sym, ap, subst, ◌∙◌, arith, rules}
use Rattle.std.specs.Prelude.{slice_index}
use Rattle.std.proofs.lemmas.List.{drop_more, get_or_default, length-append}
use Rattle.aq_cert.specs.declared.cert.Edge.{Edge}
use Rattle.aq_cert.specs.Goals.{goal_rest}
use Rattle.aq_include.specs.Costs.{Takes, IsCause, weight, size, budget, turn_budget}
use Rattle.aq_include.specs.Ends.{StopsWide}
use Rattle.aq_include.specs.Search.{Finds, Follows, GrowsWith, GrowsBy}
use Rattle.aq_include.proofs.Passed.{passed}
use Rattle.aq_include.proofs.TurnLemmas.{not-wide, stops-back, step-takes, step-cause, stepped-level, least-turn, end-budget, earlier-hold, turns-take, turns-cause, turn-takes, all-turns}
use Rattle.aq_include.proofs.SizeLemmas.{size-push}
use Rattle.aq_include.proofs.StandLemmas.{step-stands, stand-push}
use Rattle.aq_include.proofs.SearchLemmas.{extends-refl, extends-trans, leads-push, table-add, reached-from}
use Rattle.aq_include.proofs.search.+search.Goals as goal

pub follow-returns-in_err-stepped-clause-wide : goal.follow-returns-in_err-stepped-clause-wide
follow-returns-in_err-stepped-clause-wide g t c =
    passed (λ e. StopsWide g.L.Label.parts c.args.store.now c.args.here.now e) c.from_residual.result c.in_err-stepped.field-0.0 c.from_residual.ensures
    (not-wide g.L.Label.parts c.args.store.now c.args.here.now c.in_err-stepped.field-0.0 c.in_err-stepped.ensures.wide)

pub follow-visit-requires : goal.follow-visit-requires
follow-visit-requires g t c κs within =
    let here = stepped-level c.args.store.now g.L.Label.parts c.args.left.now.shape.items c.args.goals.now c.args.level c.args.choice c.args.here.now c.in_ok-stepped.stepped c.requires.level c.requires.here c.in_ok-stepped.ensures.stepped in
    let stands = step-stands c.args.store.now c.args.left.now c.args.goals.now c.args.level c.args.choice c.args.here.now c.in_ok-stepped.stepped.to c.requires.level c.requires.here c.requires.stands c.in_ok-stepped.ensures.stepped.back in
    search rules

pub follow-returns-in_err-to-clause-wide : goal.follow-returns-in_err-to-clause-wide
follow-returns-in_err-to-clause-wide g t c =
    passed (λ e. StopsWide g.L.Label.parts c.args.store.now c.args.here.now e) c.from_residual-in_err-to.result c.in_err-to.field-0.0 c.from_residual-in_err-to.ensures
    (stops-back g.L.Label.parts c.args.store.now c.args.choice (goal_rest c.args.goals.now c.args.level) c.args.here.now c.in_ok-stepped.stepped.to c.in_err-to.field-0.0 c.in_ok-stepped.ensures.stepped.back c.in_err-to.ensures.wide)

pub follow-returns-in_err-to-clause-takes : goal.follow-returns-in_err-to-clause-takes
follow-returns-in_err-to-clause-takes g t c =
    step-takes (drop (c.args.level + 1) c.args.left.now.shape.items) _ (weight (goal_rest c.args.goals.now c.args.level) c.args.here.now) c.args.steps.now c.step.new.steps c.visit.new.steps
    c.in_ok-stepped.ensures.stepped.light c.step.ensures.takes c.visit.ensures.takes

pub follow-returns-in_err-to-clause-spent : goal.follow-returns-in_err-to-clause-spent
follow-returns-in_err-to-clause-spent g t c =
    passed (λ e. IsCause (turn_budget (drop (c.args.level + 1) c.args.left.now.shape.items) (weight (goal_rest c.args.goals.now c.args.level) c.args.here.now)) c.args.steps.now e)
    c.from_residual-in_err-to.result c.in_err-to.field-0.0 c.from_residual-in_err-to.ensures
    (step-cause (drop (c.args.level + 1) c.args.left.now.shape.items) _ (weight (goal_rest c.args.goals.now c.args.level) c.args.here.now) c.args.steps.now c.step.new.steps c.in_err-to.field-0.0
    c.in_ok-stepped.ensures.stepped.light c.step.ensures.takes c.in_err-to.ensures.spent)

pub follow-returns-in_default-clause-takes : goal.follow-returns-in_default-clause-takes
follow-returns-in_default-clause-takes g t c =
    step-takes (drop (c.args.level + 1) c.args.left.now.shape.items) _ (weight (goal_rest c.args.goals.now c.args.level) c.args.here.now) c.args.steps.now c.step.new.steps c.visit.new.steps
    c.in_ok-stepped.ensures.stepped.light c.step.ensures.takes c.visit.ensures.takes

pub follow-returns-in-Reached-clause-takes : goal.follow-returns-in-Reached-clause-takes
follow-returns-in-Reached-clause-takes g t c =
    step-takes (drop (c.args.level + 1) c.args.left.now.shape.items) _ (weight (goal_rest c.args.goals.now c.args.level) c.args.here.now) c.args.steps.now c.step.new.steps c.visit.new.steps
    c.in_ok-stepped.ensures.stepped.light c.step.ensures.takes c.visit.ensures.takes

pub follow-returns-in-Ok-clause-takes : goal.follow-returns-in-Ok-clause-takes
follow-returns-in-Ok-clause-takes g t c =
    step-takes (drop (c.args.level + 1) c.args.left.now.shape.items) _ (weight (goal_rest c.args.goals.now c.args.level) c.args.here.now) c.args.steps.now c.step.new.steps c.visit.new.steps
    c.in_ok-stepped.ensures.stepped.light c.step.ensures.takes c.visit.ensures.takes

pub follow-returns-in-Ok-clause-follows : goal.follow-returns-in-Ok-clause-follows
follow-returns-in-Ok-clause-follows g t c =
    least-turn c.args.store.now g.L.Label.parts g.L.Label.part_count g.met.L.Label.all_parts c.args.left.now.shape.items c.args.goals.now c.args.level c.args.choice c.args.here.now c.in_ok-stepped.stepped
    c.requires.level c.requires.choice c.requires.here c.in_ok-stepped.ensures.stepped c.requires.before c.in-Escapes.word c.in-Ok.whole c.in-Ok.ensures
    (subst (λ f. Finds g.L.Label.parts c.args.store.now c.args.left.now.shape.items c.args.goals.now (c.args.level + 1) c.in_ok-stepped.stepped.to c.args.table.now c.visit.new.table f) c.in-Escapes.is c.in_ok-to.ensures.finds)

pub visit-returns-then-level-len-clause-takes : goal.visit-returns-then-level-len-clause-takes
visit-returns-then-level-len-clause-takes g t c =
    subst (λ b. Takes b c.args.steps.now c.finish.new.steps) (sym (end-budget c.args.left.now.shape.items c.args.level (weight (goal_rest c.args.goals.now c.args.level) c.args.here) (omega (arith, c.if-level-len.true, c.len.ensures, c.args.left.now.shape.ok.0)))) c.finish.ensures.takes

pub visit-returns-then-level-len-clause-spent : goal.visit-returns-then-level-len-clause-spent
visit-returns-then-level-len-clause-spent g t c =
    subst (λ b. IfErr c.finish.result (λ e. IsCause b c.args.steps.now e)) (sym (end-budget c.args.left.now.shape.items c.args.level (weight (goal_rest c.args.goals.now c.args.level) c.args.here) (omega (arith, c.if-level-len.true, c.len.ensures, c.args.left.now.shape.ok.0)))) c.finish.ensures.spent

pub visit-follow-requires : goal.visit-follow-requires
visit-follow-requires g t c κs within =
    let inside : c.args.level < length c.args.left.now.shape.items = omega (arith, c.if-level-len.false, c.len.ensures, c.requires.level, c.args.left.now.shape.ok.0) in
    let count : c.index-choice-end.result.now ≡ get_or c.args.left.now.shape.items c.args.level 0 = c.index-choice-end.ensures ∙ get_or_default c.args.left.now.shape.items c.args.level c.index-choice-end.result.now 0 inside in
    let choice : c.loop-choice.choice < slice_index (drop c.args.level c.args.left.now.shape.items) 0 =
    subst (λ (l : List ℕ). c.loop-choice.choice < slice_index l 0) (sym (drop_more c.args.left.now.shape.items c.args.level 0 inside)) (omega (arith, c.loop-choice-test.true, count)) in
    let before = earlier-hold c.args.store.now g.L.Label.parts c.args.left.now.shape.items c.args.goals.now c.args.level c.loop-choice.choice c.args.here c.loop-choice.table c.loop-choice.edges inside
    (omega (arith, c.loop-choice-test.true, count)) c.requires.here c.loop-choice.invariant.table c.loop-choice.invariant.count c.loop-choice.invariant.leads in
    search rules

pub visit-returns-in_err-edge-clause-takes : goal.visit-returns-in_err-edge-clause-takes
visit-returns-in_err-edge-clause-takes g t c =
    let inside : c.args.level < length c.args.left.now.shape.items = omega (arith, c.if-level-len.false, c.len.ensures, c.requires.level, c.args.left.now.shape.ok.0) in
    let count : c.index-choice-end.result.now ≡ get_or c.args.left.now.shape.items c.args.level 0 = c.index-choice-end.ensures ∙ get_or_default c.args.left.now.shape.items c.args.level c.index-choice-end.result.now 0 inside in
    turns-take c.args.left.now.shape.items c.args.level (weight (goal_rest c.args.goals.now c.args.level) c.args.here) c.loop-choice.choice c.index-choice-end.result.now c.args.steps.now c.loop-choice.steps c.follow.new.steps inside c.loop-choice-test.true count
    c.loop-choice.invariant.takes c.follow.ensures.takes

pub visit-returns-in_err-edge-clause-spent : goal.visit-returns-in_err-edge-clause-spent
visit-returns-in_err-edge-clause-spent g t c =
    let inside : c.args.level < length c.args.left.now.shape.items = omega (arith, c.if-level-len.false, c.len.ensures, c.requires.level, c.args.left.now.shape.ok.0) in
    let count : c.index-choice-end.result.now ≡ get_or c.args.left.now.shape.items c.args.level 0 = c.index-choice-end.ensures ∙ get_or_default c.args.left.now.shape.items c.args.level c.index-choice-end.result.now 0 inside in
    passed (λ e. IsCause (budget (drop c.args.level c.args.left.now.shape.items) (weight (goal_rest c.args.goals.now c.args.level) c.args.here)) c.args.steps.now e) c.from_residual.result c.in_err-edge.field-0.0 c.from_residual.ensures
    (turns-cause c.args.left.now.shape.items c.args.level (weight (goal_rest c.args.goals.now c.args.level) c.args.here) c.loop-choice.choice c.index-choice-end.result.now c.args.steps.now c.loop-choice.steps c.in_err-edge.field-0.0 inside c.loop-choice-test.true count
    c.loop-choice.invariant.takes c.in_err-edge.ensures.spent)

pub visit-returns-in_default-push-clause-takes : goal.visit-returns-in_default-push-clause-takes
visit-returns-in_default-push-clause-takes g t c =
    let inside : c.args.level < length c.args.left.now.shape.items = omega (arith, c.if-level-len.false, c.len.ensures, c.requires.level, c.args.left.now.shape.ok.0) in
    let count : c.index-choice-end.result.now ≡ get_or c.args.left.now.shape.items c.args.level 0 = c.index-choice-end.ensures ∙ get_or_default c.args.left.now.shape.items c.args.level c.index-choice-end.result.now 0 inside in
    turns-take c.args.left.now.shape.items c.args.level (weight (goal_rest c.args.goals.now c.args.level) c.args.here) c.loop-choice.choice c.index-choice-end.result.now c.args.steps.now c.loop-choice.steps c.follow.new.steps inside c.loop-choice-test.true count
    c.loop-choice.invariant.takes c.follow.ensures.takes

pub visit-returns-in-Escapes-clause-takes : goal.visit-returns-in-Escapes-clause-takes
visit-returns-in-Escapes-clause-takes g t c =
    let inside : c.args.level < length c.args.left.now.shape.items = omega (arith, c.if-level-len.false, c.len.ensures, c.requires.level, c.args.left.now.shape.ok.0) in
    let count : c.index-choice-end.result.now ≡ get_or c.args.left.now.shape.items c.args.level 0 = c.index-choice-end.ensures ∙ get_or_default c.args.left.now.shape.items c.args.level c.index-choice-end.result.now 0 inside in
    turns-take c.args.left.now.shape.items c.args.level (weight (goal_rest c.args.goals.now c.args.level) c.args.here) c.loop-choice.choice c.index-choice-end.result.now c.args.steps.now c.loop-choice.steps c.follow.new.steps inside c.loop-choice-test.true count
    c.loop-choice.invariant.takes c.follow.ensures.takes

pub visit-loop-choice-preserved : goal.visit-loop-choice-preserved
visit-loop-choice-preserved g t c =
    let f = subst (λ f. Follows g.L.Label.parts c.args.store.now c.args.left.now.shape.items c.args.goals.now c.args.level c.loop-choice.choice c.args.here c.loop-choice.table c.follow.new.table f)
    c.in-Leads.is c.in_ok-edge.ensures.follows in
    let items = c.in-Ok.ensures.ok in
    record {
      table = f.grown;
      rows = c.in_ok-edge.ensures.rows;
      keeps = extends-trans c.args.table.now c.loop-choice.table c.follow.new.table c.loop-choice.invariant.keeps f.keeps;
      upper = λ k less. f.upper k less ∙ c.loop-choice.invariant.upper k less;
      count = ap (λ (l : List Edge). length l) items ∙ length-append c.loop-choice.edges (c.in-Leads.edge ∷ []) ∙ ap (λ z. z + 1) c.loop-choice.invariant.count;
      leads = leads-push g.L.Label.parts c.args.store.now c.args.left.now.shape.items c.args.goals.now c.args.level c.loop-choice.choice c.args.here c.loop-choice.table c.follow.new.table c.loop-choice.edges c.push.new.self c.in-Leads.edge
          c.loop-choice.invariant.count items f.keeps c.loop-choice.invariant.leads f.leads;
      size = (let grown = subst (λ f. GrowsBy c.loop-choice.table c.follow.new.table c.loop-choice.steps c.follow.new.steps f) c.in-Leads.is c.in_ok-edge.ensures.size in omega (arith, grown, c.loop-choice.invariant.size));
      takes = turn-takes c.loop-choice.choice _ c.args.steps.now c.loop-choice.steps c.follow.new.steps c.loop-choice.invariant.takes c.follow.ensures.takes;
    }

pub visit-returns-in_default-add-clause-takes : goal.visit-returns-in_default-add-clause-takes
visit-returns-in_default-add-clause-takes g t c =
    let inside : c.args.level < length c.args.left.now.shape.items = omega (arith, c.if-level-len.false, c.len.ensures, c.requires.level, c.args.left.now.shape.ok.0) in
    let count : c.index-choice-end.result.now ≡ get_or c.args.left.now.shape.items c.args.level 0 = c.index-choice-end.ensures ∙ get_or_default c.args.left.now.shape.items c.args.level c.index-choice-end.result.now 0 inside in
    all-turns c.args.left.now.shape.items c.args.level (weight (goal_rest c.args.goals.now c.args.level) c.args.here) c.loop-choice.choice c.index-choice-end.result.now c.args.steps.now c.loop-choice.steps inside c.loop-choice-test.false c.loop-choice.auto.choice-end count
    c.loop-choice.invariant.takes

pub visit-returns-clause-finds : goal.visit-returns-clause-finds
visit-returns-clause-finds g t c =
    let inside : c.args.level < length c.args.left.now.shape.items = omega (arith, c.if-level-len.false, c.len.ensures, c.requires.level, c.args.left.now.shape.ok.0) in
    let count : c.index-choice-end.result.now ≡ get_or c.args.left.now.shape.items c.args.level 0 = c.index-choice-end.ensures ∙ get_or_default c.args.left.now.shape.items c.args.level c.index-choice-end.result.now 0 inside in
    reached-from g.L.Label.parts c.args.store.now c.args.left.now.shape.items c.args.goals.now c.args.level c.args.here c.args.table.now c.loop-choice.table c.add.new.self c.in-Ok-add.number c.loop-choice.invariant.keeps c.loop-choice.invariant.upper c.in-Ok-add.ensures.macros.place
    (table-add g.L.Label.parts c.args.store.now c.args.left.now.shape.items c.args.goals.now c.args.level c.in-Ok-add.number c.in-Ok-add.ensures.edges.0 c.index-choice-end.result.now c.args.here c.loop-choice.edges
    c.loop-choice.table c.add.new.self inside c.loop-choice.invariant.table c.requires.here count (omega (arith, c.loop-choice.invariant.count, c.loop-choice-test.false, c.loop-choice.auto.choice-end))
    c.loop-choice.invariant.leads c.in-Ok-add.ensures.macros c.in-Ok-add.ensures.edges.1 c.add.ensures.ends)

pub visit-returns-clause-takes : goal.visit-returns-clause-takes
visit-returns-clause-takes g t c =
    let inside : c.args.level < length c.args.left.now.shape.items = omega (arith, c.if-level-len.false, c.len.ensures, c.requires.level, c.args.left.now.shape.ok.0) in
    let count : c.index-choice-end.result.now ≡ get_or c.args.left.now.shape.items c.args.level 0 = c.index-choice-end.ensures ∙ get_or_default c.args.left.now.shape.items c.args.level c.index-choice-end.result.now 0 inside in
    all-turns c.args.left.now.shape.items c.args.level (weight (goal_rest c.args.goals.now c.args.level) c.args.here) c.loop-choice.choice c.index-choice-end.result.now c.args.steps.now c.loop-choice.steps inside c.loop-choice-test.false c.loop-choice.auto.choice-end count
    c.loop-choice.invariant.takes

pub visit-returns-in-Some-clause-finds : goal.visit-returns-in-Some-clause-finds
visit-returns-in-Some-clause-finds g t c = record { here = c.in-Some.ensures; grown = c.requires.table; keeps = extends-refl c.args.table.now; upper = λ k less. refl; fresh = inl c.in-Some.ensures }

pub visit-returns-clause-size : goal.visit-returns-clause-size
visit-returns-clause-size g t c =
    let inside : c.args.level < length c.args.left.now.shape.items = omega (arith, c.if-level-len.false, c.len.ensures, c.requires.level, c.args.left.now.shape.ok.0) in
    let pushed = size-push c.args.level c.in-Ok-add.number c.args.here c.loop-choice.table c.add.new.self (omega (arith, inside, c.loop-choice.invariant.table.even.rows)) c.in-Ok-add.ensures.macros in
    omega (arith, pushed, c.loop-choice.invariant.size)

pub follow-returns-in-Reached-clause-size : goal.follow-returns-in-Reached-clause-size
follow-returns-in-Reached-clause-size g t c =
    let grown = subst (λ f. GrowsWith (size c.in_ok-stepped.stepped.to) c.args.table.now c.visit.new.table c.step.new.steps c.visit.new.steps f) c.in-Reached.is c.in_ok-to.ensures.size in
    omega (arith, grown, c.in_ok-stepped.ensures.size)

pub visit-returns-clause-rows : goal.visit-returns-clause-rows
visit-returns-clause-rows g t c =
    stand-push c.args.store.now c.args.left.now c.args.goals.now c.args.level c.in-Ok-add.number c.args.here c.loop-choice.table.macros.items c.add.new.self.macros.items c.loop-choice.invariant.rows c.requires.stands c.in-Ok-add.ensures.macros
