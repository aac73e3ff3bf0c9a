use Rattle.std.proofs.Common.{List, ap₂, sym, ◌∙◌}
use Rattle.aq_prog.specs.declared.stmt.Stmt.{Stmt}
use Rattle.aq_prog.specs.declared.stmt.Stmt.TheVariants as stmt
use Rattle.aq_owing.proofs.PartLaws.{branch_is}
use Rattle.aq_owing.proofs.part.part_of.Goals as goal

pub returns-then-inside : goal.returns-then-inside
returns-then-inside c = (
  c.in-If.is ∙ ap₂ (λ (a b : List Stmt). stmt.If c.in-If.guard a b) (sym c.as_slice-then-inside.ensures) (sym c.as_slice-then-inside-2.ensures),
  branch_is c.args.stmt.now c.in-If.guard c.in-If.yes c.in-If.no _ _ _ _ _ c.in-If.is c.as_slice.ensures c.as_slice-in-If.ensures c.has_cut.ensures c.has_cut-in-If.ensures c.either-inside.ensures ∙ c.if-inside.true,
)

pub returns-else-inside : goal.returns-else-inside
returns-else-inside c =
    branch_is c.args.stmt.now c.in-If.guard c.in-If.yes c.in-If.no _ _ _ _ _ c.in-If.is c.as_slice.ensures c.as_slice-in-If.ensures c.has_cut.ensures c.has_cut-in-If.ensures c.either-inside.ensures ∙ c.if-inside.false
