use Rattle.std.proofs.Common.{◌||◌, Bool, List, ap, ap₂, sym, ◌∙◌}
use Rattle.std.specs.List.{list_any}
use Rattle.aq_prog.specs.Cuts.{has_loop}
use Rattle.aq_prog.specs.declared.stmt.Stmt.{Stmt}
use Rattle.aq_prog.proofs.CutLaws.{branch_loops}
use Rattle.aq_prog.proofs.cuts.+looping.Goals as goal

pub is_looping-returns-in-If : goal.is_looping-returns-in-If
is_looping-returns-in-If t c =
    let first = c.has_loop.ensures ∙ ap (λ (l : List Stmt). list_any has_loop l) c.as_slice.ensures in
    let second = c.has_loop-in-If.ensures ∙ ap (λ (l : List Stmt). list_any has_loop l) c.as_slice-in-If.ensures in
    c.either.ensures ∙ ap₂ (λ (a b : Bool). a || b) first second ∙ sym (branch_loops c.args.stmt.now c.in-If.guard c.in-If.yes c.in-If.no c.in-If.is)
