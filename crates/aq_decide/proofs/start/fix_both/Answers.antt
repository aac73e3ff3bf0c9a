use Rattle.std.proofs.Common.{◌++◌, Option, sym, ap, ◌∙◌}
use Rattle.std.specs.ControlFlow.{continue_value}
use Rattle.aq_prog.specs.declared.stmt.Guard.{Guard}
use Rattle.aq_obligations.specs.Worlds.{fixing, given_guards}
use Rattle.aq_decide.proofs.StartLemmas.{fixing_none, fixing_given}
use Rattle.aq_decide.proofs.start.fix_both.Goals as goal

pub returns-in_err-left : goal.returns-in_err-left
returns-in_err-left c =
    let none = sym c.fix_all.ensures ∙ c.branch-left.ensures ∙ ap continue_value c.in_err-left.is in
    c.from_residual.ensures ∙ sym (fixing_none c.args.when.now _ c.args.bits none)

pub returns-in-Some : goal.returns-in-Some
returns-in-Some c =
    let some = sym c.fix_all.ensures ∙ c.branch-left.ensures ∙ ap continue_value c.in_ok-left.is in
    c.fix.ensures ∙ sym (fixing_given c.args.when.now c.in-Some.guard c.args.bits c.in_ok-left.left some) ∙ sym (ap (λ (g : Option Guard). fixing (c.args.when.now ++ given_guards g) c.args.bits) c.in-Some.is)
