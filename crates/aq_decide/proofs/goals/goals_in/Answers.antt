use Rattle.std.proofs.Common.{◌≡◌, ◌+◌, ◌<◌, List, Vec, Global, length, take, sym, ap, subst, ◌∙◌, arith}
use Rattle.aq_prog.specs.declared.stmt.Guard.{Guard}
use Rattle.aq_store.specs.declared.lsta.Lsta.{Lsta}
use Rattle.aq_obligations.specs.Claims.{are_met}
use Rattle.aq_obligations.specs.Worlds.{filled}
use Rattle.aq_obligations.specs.declared.bound.BoundCase.{BoundCase}
use Rattle.aq_symbolic.specs.Steps.{IsSameSet}
use Rattle.aq_decide.specs.Goals.{AreBuilt, met_cases}
use Rattle.aq_decide.proofs.BuildLemmas.{met_next, met_past}
use Rattle.aq_decide.proofs.Elements.{get_at}
use Rattle.aq_decide.proofs.goals.goals_in.Goals.{then-all_hold+in_ok-copy+in_ok-push, else-all_hold}
use Rattle.aq_decide.proofs.goals.goals_in.Goals as goal

pub loop-index-preserved : goal.loop-index-preserved
loop-index-preserved c = λ s table built.
    let cases = c.args.cases.now in
    let bits = c.args.bits.now in
    let k = c.loop-index.index in
    let d = c.index-cases-index.result in
    let at = get_at cases k d c.loop-index-test.true c.index-cases-index.is in
    let told : are_met d.when (filled bits) ≡ c.all_hold.result =
    ap (λ (g : List Guard). are_met g (filled bits)) (ap (λ (x : BoundCase). x.when) c.index-cases-index.is ∙ sym c.as_slice.ensures) ∙ sym c.all_hold.ensures in
    let before = c.loop-index.invariant s table built in
    elim c.if-all_hold.branch [
      | then-all_hold+in_ok-copy+in_ok-push w ↦
          let made = w.index-goals-index.result in
          let within : k < length c.args.goals.now = (let lt = c.loop-index-test.true in let long = c.requires in omega (arith, lt, long)) in
          let goal_at = get_at c.args.goals.now k made within w.index-goals-index.is in
          let same : IsSameSet made w.in_ok-copy.copy = w.in_ok-copy.ensures in
          let items = ap (λ (v : Vec Lsta Global). v.items) w.list-is ∙ w.in_ok-push.ensures.items in
          subst (λ (l : List Lsta). AreBuilt s (met_cases (take (k + 1) cases) bits) table l) (sym items)
          (met_next cases c.args.goals.now bits k d made w.in_ok-copy.copy c.loop-index.list.items c.loop-index-test.true at goal_at (told ∙ w.if-all_hold.true) same s table built before)
      | else-all_hold w ↦
          let items = ap (λ (v : Vec Lsta Global). v.items) w.list-is in
          subst (λ (l : List Lsta). AreBuilt s (met_cases (take (k + 1) cases) bits) table l) (sym items)
          (met_past cases bits k d c.loop-index.list.items c.loop-index-test.true at (told ∙ w.if-all_hold.false) s table before)
    ]
