-- A branch with a cut inside.
use Rattle.std.proofs.Common.{◌≡◌, ◌||◌, Bool, List, ap, ap₂, sym, ◌∙◌}
use Rattle.std.specs.List.{list_any}
use Rattle.aq_prog.specs.Cuts.{has_cut}
use Rattle.aq_prog.specs.declared.stmt.Guard.{Guard}
use Rattle.aq_prog.specs.declared.stmt.Stmt.{Stmt}
use Rattle.aq_prog.specs.declared.stmt.Stmt.TheVariants as stmt
use Rattle.aq_prog.proofs.CutLaws.{branch_cuts}

-- the branches u and v of a statement, with tests a and b of theirs
pub branch_is : (s : Stmt) (g : Guard) (y z u v : List Stmt) (a b r : Bool) → s ≡ stmt.If g y z → u ≡ y → v ≡ z → a ≡ list_any has_cut u → b ≡ list_any has_cut v → r ≡ (a || b)
    → has_cut s ≡ r
branch_is s g y z u v a b r e f h i j k =
    branch_cuts s g y z e ∙ sym (k ∙ ap₂ (λ (p q : Bool). p || q) (i ∙ ap (list_any has_cut) f) (j ∙ ap (list_any has_cut) h))
