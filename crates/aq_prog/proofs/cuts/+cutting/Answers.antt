use Rattle.std.proofs.Common.{◌||◌, Bool, List, ap, ap₂, sym, ◌∙◌}
use Rattle.std.specs.List.{list_any}
use Rattle.aq_prog.specs.Cuts.{has_cut}
use Rattle.aq_prog.specs.declared.stmt.Stmt.{Stmt}
use Rattle.aq_prog.proofs.CutLaws.{branch_cuts}
use Rattle.aq_prog.proofs.cuts.+cutting.Goals as goal

pub is_cut-returns-in-If : goal.is_cut-returns-in-If
is_cut-returns-in-If t c =
    let first = c.has_cut.ensures ∙ ap (λ (l : List Stmt). list_any has_cut l) c.as_slice.ensures in
    let second = c.has_cut-in-If.ensures ∙ ap (λ (l : List Stmt). list_any has_cut l) c.as_slice-in-If.ensures in
    c.either.ensures ∙ ap₂ (λ (a b : Bool). a || b) first second ∙ sym (branch_cuts c.args.stmt.now c.in-If.guard c.in-If.yes c.in-If.no c.in-If.is)
