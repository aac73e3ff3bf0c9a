use Rattle.std.proofs.Common.{◌≡◌, List, [], ◌∷◌, ◌++◌, slice_get, Some, subst, sym, ◌∙◌}
use Rattle.std.proofs.lemmas.List.{map-id}
use Rattle.std.proofs.lemmas.Iterator.Adapters.{YieldsList-from_vec}
use Rattle.std.proofs.lemmas.Iterator.Consumers.{YieldsList-end}
use Rattle.aq_include.specs.declared.step.Candidate.{Candidate}
use Rattle.aq_include.specs.Candidates.{Thins}
use Rattle.aq_include.proofs.CandidateLemmas.{thins-trans, thins-push, thins-skip}
use Rattle.aq_include.proofs.step.thin.Goals as goal

pub loop-candidate-preserved-in-Continue-1 : goal.loop-candidate-preserved-in-Continue-1
loop-candidate-preserved-in-Continue-1 c =
    subst (λ (l : List Candidate). Thins (c.loop-candidate.yielded ++ c.in-Some.candidate ∷ []) l) (sym c.in_ok-push.ensures.items)
    (thins-push c.loop-candidate.yielded c.loop-candidate.kept.items c.in-Some.candidate c.loop-candidate.invariant)

pub loop-candidate-preserved : goal.loop-candidate-preserved
loop-candidate-preserved c =
    let r = c.is_repeat.ensures c.if-not-is_repeat.false in
    thins-skip c.loop-candidate.yielded c.loop-candidate.kept.items c.in-Some.candidate c.loop-candidate.invariant r.place r.candidate
    (subst (λ (l : List Candidate). slice_get l r.place ≡ Some r.candidate) c.as_slice.ensures.value r.here) r.is

pub returns : goal.returns
returns c =
    let v = c.sorted-candidate-items.result in
    let b = c.into_iter-candidate-iterator.ensures.into_iter_gives in
    let end = YieldsList-end (YieldsList-from_vec {s = c.into_iter-candidate-iterator.result} v.items b.0 (b.1 ∙ v.ok.0)) c.loop-candidate.yielded c.loop-candidate.candidate-iterator c.loop-candidate.yielded_by c.next.result c.next.new.self c.in-None.is c.next.ensures.steps in
    let e : c.loop-candidate.yielded ≡ v.items = sym (map-id c.loop-candidate.yielded) ∙ end.0 in
    thins-trans c.args.list.items v.items c.loop-candidate.kept.items c.sorted-candidate-items.ensures
    (subst (λ (l : List Candidate). Thins l c.loop-candidate.kept.items) e c.loop-candidate.invariant)
