use Rattle.std.proofs.Common.{List, [], ◌∷◌, ◌++◌, ap, ap₂, sym, ◌∙◌, subst}
use Rattle.aq_prog.specs.Cuts.{AreUncut}
use Rattle.aq_prog.specs.declared.stmt.Stmt.{Stmt}
use Rattle.aq_prog.specs.declared.stmt.Stmt.TheVariants as stmt
use Rattle.aq_plain.specs.Replaying.{ArePlayable}
use Rattle.aq_symbolic.proofs.ExampleLemmas.{alone_playable, alone_uncut, guard}
use Rattle.aq_symbolic.proofs.tests.branch.Goals as goal

pub returns-clause-playable : goal.returns-clause-playable
returns-clause-playable c =
    let gate = c.in_ok-gate.gate in
    let yes = c.in_ok-push.ensures.ok ∙ ap (λ (l : List Stmt). l ++ stmt.Gate gate ∷ []) c.new-yes.ensures in
    let is = c.in_ok-push-2.ensures.ok ∙ ap₂ (λ (l : List Stmt) (s : Stmt). l ++ s ∷ []) c.new-body.ensures (ap₂ (λ (x y : List Stmt). stmt.If guard x y) yes c.new.ensures) in
    subst (ArePlayable 1 1) (sym is) (alone_playable gate c.in_ok-gate.ensures)

pub returns-clause-uncut : goal.returns-clause-uncut
returns-clause-uncut c =
    let gate = c.in_ok-gate.gate in
    let yes = c.in_ok-push.ensures.ok ∙ ap (λ (l : List Stmt). l ++ stmt.Gate gate ∷ []) c.new-yes.ensures in
    let is = c.in_ok-push-2.ensures.ok ∙ ap₂ (λ (l : List Stmt) (s : Stmt). l ++ s ∷ []) c.new-body.ensures (ap₂ (λ (x y : List Stmt). stmt.If guard x y) yes c.new.ensures) in
    subst AreUncut (sym is) (alone_uncut gate)
