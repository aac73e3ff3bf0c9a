use Rattle.std.proofs.Common.{◌≡◌, ◌+◌, ◌++◌, List, [], ◌∷◌, take, sym, ap, subst, ◌∙◌}
use Rattle.std.proofs.lemmas.List.{take_more}
use Rattle.aq_store.specs.declared.lsta.Lsta.{Lsta}
use Rattle.aq_symbolic.specs.Steps.{IsSameSet}
use Rattle.aq_decide.specs.Certified.{AreSameSets}
use Rattle.aq_decide.proofs.Elements.{zip_push}
use Rattle.aq_decide.proofs.certified.copy_all.Goals as goal

pub loop-goal-preserved : goal.loop-goal-preserved
loop-goal-preserved c =
    let goals = c.args.goals.now in
    let k = c.loop-goal.goal-index in
    let goal = c.goal-item.result in
    let copy = c.in_ok-copy_of.field-0 in
    let more : take (k + 1) goals ≡ take k goals ++ goal ∷ [] = take_more goals k goal c.loop-goal-test.true ∙ ap (λ (z : Lsta). take k goals ++ z ∷ []) (sym c.goal-item.is) in
    subst (λ (l : List Lsta). AreSameSets l c.push.new.self) (sym more)
    (subst (λ (l : List Lsta). AreSameSets (take k goals ++ goal ∷ []) l) (sym c.in_ok-push.ensures.ok) (zip_push IsSameSet (take k goals) c.loop-goal.list goal copy c.loop-goal.invariant c.in_ok-copy_of.ensures))
