use Rattle.std.proofs.Common.{◌≤◌, ◌+◌, ◌++◌, ℕ, List, [], ◌∷◌, length, sum_by, Contains, sym, ap, subst, ◌∙◌}
use Rattle.std.specs.List.{AllZip}
use Rattle.aq_cert.specs.declared.cert.Rel.{Rel}
use Rattle.aq_cert.specs.Goals.{goal_rest}
use Rattle.aq_cert.proofs.HeldLemmas.{goals_below}
use Rattle.aq_cert.proofs.ReadLemmas.{zip-length}
use Rattle.aq_include.specs.declared.places.Opened.{Opened}
use Rattle.aq_include.specs.declared.step.Candidate.{Candidate}
use Rattle.aq_include.specs.Costs.{IsCause, rel_weight}
use Rattle.aq_include.specs.Steps.{IsOpened}
use Rattle.aq_include.specs.Candidates.{IsCandidateAt}
use Rattle.aq_include.proofs.Passed.{passed}
use Rattle.aq_include.proofs.ChildLemmas.{opened-within}
use Rattle.aq_include.proofs.StepLemmas.{own-read, own-pairs, own-cheap, suffice-own}
use Rattle.aq_include.proofs.CostLemmas.{takes-within, cause-within}
use Rattle.aq_include.proofs.step.step_own.Goals as goal

pub open_pairs-requires : goal.open_pairs-requires
open_pairs-requires g c = λ p listed.
    let r = c.index-as_slice-own.result in
    let same = own-read c.args.store.now c.as_slice.result.now c.args.here.now.rels c.args.own.number c.requires.own.rel r c.as_slice.ensures c.requires.own.here c.index-as_slice-own.is in
    let whole = c.as_slice-2.ensures ∙ ap (λ (z : Rel). z.pairs) same in
    (own-pairs c.args.store.now (goal_rest c.args.goals.now c.args.level) c.args.choice c.requires.here.0 c.args.here.now c.args.own c.requires.here.1 c.requires.here.2 c.requires.own p
    (subst (λ (l : List (ℕ × ℕ)). Contains l p) whole listed)).0

pub step_choice-requires-clause-within : goal.step_choice-requires-clause-within
step_choice-requires-clause-within g c = λ o listed.
    let r = c.index-as_slice-own.result in
    let same = own-read c.args.store.now c.as_slice.result.now c.args.here.now.rels c.args.own.number c.requires.own.rel r c.as_slice.ensures c.requires.own.here c.index-as_slice-own.is in
    let whole = c.as_slice-2.ensures ∙ ap (λ (z : Rel). z.pairs) same in
    opened-within c.args.store.now c.args.choice c.args.own.choice c.requires.own.rel.pairs c.in-Ok.opened.items
    (subst (λ (l : List (ℕ × ℕ)). AllZip (IsOpened c.args.store.now c.args.choice) l c.in-Ok.opened.items) whole c.in-Ok.ensures)
    (λ p there. (own-pairs c.args.store.now (goal_rest c.args.goals.now c.args.level) c.args.choice c.requires.here.0 c.args.here.now c.args.own c.requires.here.1 c.requires.here.2 c.requires.own p there).1)
    o (subst (λ (l : List Opened). Contains l o) c.as_slice-3.ensures.value listed)

pub step_choice-requires-clause-count : goal.step_choice-requires-clause-count
step_choice-requires-clause-count g c =
    ap (λ (l : List Opened). length l) c.as_slice-3.ensures.value
    ∙ zip-length (IsOpened c.args.store.now c.args.choice) c.as_slice-2.result.now c.in-Ok.opened.items c.in-Ok.ensures ∙ ap (λ (l : List (ℕ × ℕ)). length l) c.as_slice-2.ensures

pub returns-in_err-only-clause-takes : goal.returns-in_err-only-clause-takes
returns-in_err-only-clause-takes g c =
    let r = c.index-as_slice-own.result in
    let same = own-read c.args.store.now c.as_slice.result.now c.args.here.now.rels c.args.own.number c.requires.own.rel r c.as_slice.ensures c.requires.own.here c.index-as_slice-own.is in
    let whole = c.as_slice-2.ensures ∙ ap (λ (z : Rel). z.pairs) same in
    takes-within _ _ c.args.steps.now c.step_choice.new.steps (subst (λ (z : Rel). length z.pairs ≤ sum_by (rel_weight (goal_rest c.args.goals.now c.args.level)) c.args.here.now.rels) (sym same)
    (own-cheap c.args.store.now (goal_rest c.args.goals.now c.args.level) c.args.choice c.requires.here.0 c.args.here.now c.args.own c.requires.here.1 c.requires.own)) c.step_choice.ensures.takes

pub returns-in_err-only-clause-spent : goal.returns-in_err-only-clause-spent
returns-in_err-only-clause-spent g c =
    let r = c.index-as_slice-own.result in
    let same = own-read c.args.store.now c.as_slice.result.now c.args.here.now.rels c.args.own.number c.requires.own.rel r c.as_slice.ensures c.requires.own.here c.index-as_slice-own.is in
    let whole = c.as_slice-2.ensures ∙ ap (λ (z : Rel). z.pairs) same in
    passed (λ e. IsCause (sum_by (rel_weight (goal_rest c.args.goals.now c.args.level)) c.args.here.now.rels) c.args.steps.now e) c.from_residual.result c.in_err-only.field-0.0 c.from_residual.ensures
    (cause-within _ _ c.args.steps.now c.in_err-only.field-0.0 (subst (λ (z : Rel). length z.pairs ≤ sum_by (rel_weight (goal_rest c.args.goals.now c.args.level)) c.args.here.now.rels) (sym same)
    (own-cheap c.args.store.now (goal_rest c.args.goals.now c.args.level) c.args.choice c.requires.here.0 c.args.here.now c.args.own c.requires.here.1 c.requires.own)) c.in_err-only.ensures.spent)

pub returns-in_default-push-clause-takes : goal.returns-in_default-push-clause-takes
returns-in_default-push-clause-takes g c =
    let r = c.index-as_slice-own.result in
    let same = own-read c.args.store.now c.as_slice.result.now c.args.here.now.rels c.args.own.number c.requires.own.rel r c.as_slice.ensures c.requires.own.here c.index-as_slice-own.is in
    let whole = c.as_slice-2.ensures ∙ ap (λ (z : Rel). z.pairs) same in
    takes-within _ _ c.args.steps.now c.step_choice.new.steps (subst (λ (z : Rel). length z.pairs ≤ sum_by (rel_weight (goal_rest c.args.goals.now c.args.level)) c.args.here.now.rels) (sym same)
    (own-cheap c.args.store.now (goal_rest c.args.goals.now c.args.level) c.args.choice c.requires.here.0 c.args.here.now c.args.own c.requires.here.1 c.requires.own)) c.step_choice.ensures.takes

pub returns-clause-suffice : goal.returns-clause-suffice
returns-clause-suffice g c =
    let r = c.index-as_slice-own.result in
    let same = own-read c.args.store.now c.as_slice.result.now c.args.here.now.rels c.args.own.number c.requires.own.rel r c.as_slice.ensures c.requires.own.here c.index-as_slice-own.is in
    let whole = c.as_slice-2.ensures ∙ ap (λ (z : Rel). z.pairs) same in
    let zip : AllZip (IsOpened c.args.store.now c.args.choice) r.pairs c.as_slice-3.result.now =
    subst (λ (l : List Opened). AllZip (IsOpened c.args.store.now c.args.choice) r.pairs l) (sym c.as_slice-3.ensures.value)
    (subst (λ (l : List (ℕ × ℕ)). AllZip (IsOpened c.args.store.now c.args.choice) l c.in-Ok.opened.items) c.as_slice-2.ensures c.in-Ok.ensures) in
    suffice-own g.L.Label.parts c.args.store.now c.args.choice (goal_rest c.args.goals.now c.args.level) (goal_rest c.args.goals.now (c.args.level + 1)) c.args.here.now c.args.own c.in_ok-only.only c.push.new.self.items
    (goals_below c.args.goals.now c.args.level) c.requires.own
    (subst (λ (z : Rel). IsCandidateAt c.args.store.now c.args.choice z c.args.own.number c.args.own.choice c.in_ok-only.only) same (c.in_ok-only.ensures.candidate c.args.choice zip))
    (c.in-Ok-push.ensures.items ∙ ap (λ (l : List Candidate). l ++ c.in_ok-only.only ∷ []) c.new-list.ensures.items)

pub returns-clause-takes : goal.returns-clause-takes
returns-clause-takes g c =
    let r = c.index-as_slice-own.result in
    let same = own-read c.args.store.now c.as_slice.result.now c.args.here.now.rels c.args.own.number c.requires.own.rel r c.as_slice.ensures c.requires.own.here c.index-as_slice-own.is in
    let whole = c.as_slice-2.ensures ∙ ap (λ (z : Rel). z.pairs) same in
    takes-within _ _ c.args.steps.now c.step_choice.new.steps (subst (λ (z : Rel). length z.pairs ≤ sum_by (rel_weight (goal_rest c.args.goals.now c.args.level)) c.args.here.now.rels) (sym same)
    (own-cheap c.args.store.now (goal_rest c.args.goals.now c.args.level) c.args.choice c.requires.here.0 c.args.here.now c.args.own c.requires.here.1 c.requires.own)) c.step_choice.ensures.takes
