use Rattle.std.proofs.Common.{◌+◌, ◌*◌, ◌≤◌, ℕ, List, Vec, length, Contains, sym, ap, subst, ◌∙◌, arith}
use Rattle.std.specs.List.{AllZip}
use Rattle.std.specs.declared.alloc.Global.{Global}
use Rattle.aq_cert.proofs.ReadLemmas.{zip-length}
use Rattle.aq_include.specs.declared.places.Opened.{Opened}
use Rattle.aq_include.specs.declared.step.Candidate.{Candidate}
use Rattle.aq_include.specs.Costs.{IsCause}
use Rattle.aq_include.specs.Candidates.{IsOffer, offer_size}
use Rattle.aq_include.specs.Steps.{IsOpened}
use Rattle.aq_include.proofs.Passed.{passed}
use Rattle.aq_include.proofs.ChildLemmas.{opened-within}
use Rattle.aq_include.proofs.CandidateLemmas.{of-rel-push, of-rel-skip, takes-at, cause-at, takes-none, takes-on, paid-push, paid-skip}
use Rattle.aq_include.proofs.step.step_rel.Goals.{in-Some+in-Ok-push, in_default-found}
use Rattle.aq_include.proofs.step.step_rel.Goals as goal

pub step_offer-requires-clause-within : goal.step_offer-requires-clause-within
step_offer-requires-clause-within g c = λ o listed.
    opened-within c.args.store.now c.args.choice c.loop-goal_choice.goal_choice c.args.rel.now.pairs c.in-Ok.opened.items
    (subst (λ (l : List (ℕ × ℕ)). AllZip (IsOpened c.args.store.now c.args.choice) l c.in-Ok.opened.items) c.as_slice.ensures c.in-Ok.ensures)
    (λ p there. let r = c.requires.within p there in omega (arith, r.1, c.loop-goal_choice-test.true))
    o (subst (λ (l : List Opened). Contains l o) c.as_slice-in-loop-goal_choice.ensures.value listed)

pub step_offer-requires-clause-count : goal.step_offer-requires-clause-count
step_offer-requires-clause-count g c =
    ap (λ (l : List Opened). length l) c.as_slice-in-loop-goal_choice.ensures.value
    ∙ zip-length (IsOpened c.args.store.now c.args.choice) c.as_slice.result.now c.in-Ok.opened.items c.in-Ok.ensures ∙ ap (λ (l : List (ℕ × ℕ)). length l) c.as_slice.ensures

pub returns-in_default-clause-takes : goal.returns-in_default-clause-takes
returns-in_default-clause-takes g c = takes-none (c.args.count * length c.args.rel.now.pairs) c.args.steps.now

pub returns-in_err-found-clause-takes : goal.returns-in_err-found-clause-takes
returns-in_err-found-clause-takes g c =
    takes-at c.loop-goal_choice.goal_choice c.args.count (length c.args.rel.now.pairs) c.args.steps.now c.loop-goal_choice.steps c.step_offer.new.steps c.loop-goal_choice-test.true
    c.loop-goal_choice.invariant.takes c.step_offer.ensures.takes

pub returns-in_err-found-clause-spent : goal.returns-in_err-found-clause-spent
returns-in_err-found-clause-spent g c =
    passed (λ e. IsCause (c.args.count * length c.args.rel.now.pairs) c.args.steps.now e) c.from_residual.result c.in_err-found.field-0.0 c.from_residual.ensures
    (cause-at c.loop-goal_choice.goal_choice c.args.count (length c.args.rel.now.pairs) c.args.steps.now c.loop-goal_choice.steps c.in_err-found.field-0.0 c.loop-goal_choice-test.true
    c.loop-goal_choice.invariant.takes c.in_err-found.ensures.spent)

pub returns-in_default-push-clause-takes : goal.returns-in_default-push-clause-takes
returns-in_default-push-clause-takes g c =
    takes-at c.loop-goal_choice.goal_choice c.args.count (length c.args.rel.now.pairs) c.args.steps.now c.loop-goal_choice.steps c.step_offer.new.steps c.loop-goal_choice-test.true
    c.loop-goal_choice.invariant.takes c.step_offer.ensures.takes

pub loop-goal_choice-preserved : goal.loop-goal_choice-preserved
loop-goal_choice-preserved g c =
    let zip : AllZip (IsOpened c.args.store.now c.args.choice) c.args.rel.now.pairs c.as_slice-in-loop-goal_choice.result.now =
    subst (λ (l : List Opened). AllZip (IsOpened c.args.store.now c.args.choice) c.args.rel.now.pairs l) (sym c.as_slice-in-loop-goal_choice.ensures.value)
    (subst (λ (l : List (ℕ × ℕ)). AllZip (IsOpened c.args.store.now c.args.choice) l c.in-Ok.opened.items) c.as_slice.ensures c.in-Ok.ensures) in
    record {
      candidates = elim c.match-found.branch [
        | in-Some+in-Ok-push w ↦
            of-rel-push g.L.Label.parts c.args.store.now c.args.choice c.args.rel.now c.args.number c.args.count c.loop-goal_choice.goal_choice c.loop-goal_choice.list.items c.match-found.list.items w.in-Some.next
            c.loop-goal_choice-test.true c.loop-goal_choice.invariant.candidates
            (subst (IsOffer g.L.Label.parts c.args.store.now c.args.choice c.args.rel.now c.args.number c.loop-goal_choice.goal_choice) w.in-Some.is (c.in_ok-found.ensures.offer c.args.choice zip))
            (ap (λ (v : Vec Candidate Global). v.items) w.list-is ∙ w.in-Ok-push.ensures.items)
        | in_default-found w ↦
            of-rel-skip g.L.Label.parts c.args.store.now c.args.choice c.args.rel.now c.args.number c.args.count c.loop-goal_choice.goal_choice c.loop-goal_choice.list.items c.match-found.list.items
            c.loop-goal_choice.invariant.candidates
            (subst (IsOffer g.L.Label.parts c.args.store.now c.args.choice c.args.rel.now c.args.number c.loop-goal_choice.goal_choice) w.in_default-found.is (c.in_ok-found.ensures.offer c.args.choice zip))
            (ap (λ (v : Vec Candidate Global). v.items) w.list-is)
      ];
      paid = elim c.match-found.branch [
        | in-Some+in-Ok-push w ↦
            paid-push c.loop-goal_choice.list.items c.match-found.list.items w.in-Some.next c.args.steps.now.taken c.loop-goal_choice.steps.taken c.step_offer.new.steps.taken
            (ap (λ (v : Vec Candidate Global). v.items) w.list-is ∙ w.in-Ok-push.ensures.items) c.loop-goal_choice.invariant.paid
            (subst (λ o. offer_size o + 2 * c.loop-goal_choice.steps.taken ≤ 2 * c.step_offer.new.steps.taken) w.in-Some.is c.in_ok-found.ensures.paid)
        | in_default-found w ↦
            paid-skip c.loop-goal_choice.list.items c.match-found.list.items c.args.steps.now.taken c.loop-goal_choice.steps.taken c.step_offer.new.steps.taken
            (ap (λ (v : Vec Candidate Global). v.items) w.list-is) c.loop-goal_choice.invariant.paid
            (subst (λ o. offer_size o + 2 * c.loop-goal_choice.steps.taken ≤ 2 * c.step_offer.new.steps.taken) w.in_default-found.is c.in_ok-found.ensures.paid)
      ];
      takes = takes-on c.loop-goal_choice.goal_choice (length c.args.rel.now.pairs) c.args.steps.now c.loop-goal_choice.steps c.step_offer.new.steps
          c.loop-goal_choice.invariant.takes c.step_offer.ensures.takes;
    }
