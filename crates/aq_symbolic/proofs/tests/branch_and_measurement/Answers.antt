use Rattle.std.proofs.Common.{List, [], ◌∷◌, ◌++◌, None, ap, ap₂, sym, ◌∙◌, subst}
use Rattle.aq_prog.specs.Cuts.{AreUncut}
use Rattle.aq_prog.specs.declared.stmt.Stmt.{Stmt}
use Rattle.aq_prog.specs.declared.stmt.Stmt.TheVariants as stmt
use Rattle.aq_plain.specs.Replaying.{ArePlayable}
use Rattle.aq_symbolic.proofs.ExampleLemmas.{both_playable, both_uncut, guard}
use Rattle.aq_symbolic.proofs.tests.branch_and_measurement.Goals as goal

pub returns-clause-playable : goal.returns-clause-playable
returns-clause-playable c =
    let gate = c.in_ok-gate.gate in
    let yes = c.in_ok-push.ensures.ok ∙ ap (λ (l : List Stmt). l ++ stmt.Gate gate ∷ []) c.new-yes.ensures in
    let first = c.in_ok-push-2.ensures.ok ∙ ap₂ (λ (l : List Stmt) (s : Stmt). l ++ s ∷ []) c.new-body.ensures (ap₂ (λ (x y : List Stmt). stmt.If guard x y) yes c.new.ensures) in
    let is = c.in_ok-push-3.ensures.ok ∙ ap (λ (l : List Stmt). l ++ stmt.Measure 0 None ∷ []) first in
    subst (ArePlayable 1 1) (sym is) (both_playable gate c.in_ok-gate.ensures)

pub returns-clause-uncut : goal.returns-clause-uncut
returns-clause-uncut c =
    let gate = c.in_ok-gate.gate in
    let yes = c.in_ok-push.ensures.ok ∙ ap (λ (l : List Stmt). l ++ stmt.Gate gate ∷ []) c.new-yes.ensures in
    let first = c.in_ok-push-2.ensures.ok ∙ ap₂ (λ (l : List Stmt) (s : Stmt). l ++ s ∷ []) c.new-body.ensures (ap₂ (λ (x y : List Stmt). stmt.If guard x y) yes c.new.ensures) in
    let is = c.in_ok-push-3.ensures.ok ∙ ap (λ (l : List Stmt). l ++ stmt.Measure 0 None ∷ []) first in
    subst AreUncut (sym is) (both_uncut gate)
