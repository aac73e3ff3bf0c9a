use Rattle.std.proofs.Common.{◌+◌, ℕ, List, length, Contains, ap, subst}
use Rattle.aq_store.specs.Count.{Count}
use Rattle.aq_cert.specs.Goals.{goal_rest}
use Rattle.aq_include.specs.Candidates.{AreChildren, AreEnough}
use Rattle.aq_include.proofs.StepLemmas.{domain-pairs, stepped, stepped-size}
use Rattle.aq_include.proofs.step.step.Goals as goal

pub step_domain-requires : goal.step_domain-requires
step_domain-requires g c = λ x listed.
    domain-pairs c.args.store.now (goal_rest c.args.goals.now c.args.level) c.args.choice c.requires.here.0 c.args.here.now c.requires.here.1 c.requires.here.2 x
    (subst (λ (l : List ℕ). Contains l x) c.as_slice.ensures listed)

pub returns-clause-stepped : goal.returns-clause-stepped
returns-clause-stepped g c =
    let parts = g.L.Label.parts in
    let rest = goal_rest c.args.goals.now c.args.level in
    let below = goal_rest c.args.goals.now (c.args.level + 1) in
    let domain : List ℕ = c.in_ok-domain.domain in
    stepped parts c.args.store.now c.args.choice rest below c.args.here.now domain c.in_ok-list.list.items c.in-Ok.stepped
    (subst (λ (l : List ℕ). AreChildren c.args.store.now c.args.choice l domain) c.as_slice.ensures c.in_ok-domain.ensures.children)
    (subst (λ (l : List ℕ). AreEnough parts c.args.store.now c.args.choice rest below c.args.here.now l c.in_ok-list.list.items) c.as_slice-places.ensures c.in_ok-list.ensures.enough)
    c.in-Ok.ensures.domain c.in-Ok.ensures.rels c.in-Ok.ensures.from

pub returns-clause-size : goal.returns-clause-size
returns-clause-size g c =
    stepped-size c.in_ok-domain.domain c.in_ok-list.list.items c.in-Ok.stepped (length c.as_slice.result.now) c.step_domain.new.steps.taken c.step_needed.new.steps.taken
    c.in_ok-domain.ensures.children.short c.in_ok-list.ensures.paid c.in-Ok.ensures.domain c.in-Ok.ensures.rels c.args.steps.now.taken (ap (λ (x : Count). x.taken) c.in_ok-domain.ensures.paid)
