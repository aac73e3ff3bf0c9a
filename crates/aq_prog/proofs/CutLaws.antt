-- Loops and cuts among the statements of a branch.
use Rattle.std.proofs.Common.{◌≡◌, ◌||◌, Bool, List, [], ◌∷◌, map, refl, ap, ap₂, ◌∙◌}
use Rattle.std.specs.List.{list_any}
use Rattle.aq_prog.specs.Cuts.{has_cut, cut_step, has_loop, loop_step}
use Rattle.aq_prog.specs.declared.stmt.Guard.{Guard}
use Rattle.aq_prog.specs.declared.stmt.Stmt.{Stmt}
use Rattle.aq_prog.specs.declared.stmt.Stmt.TheVariants as stmt
use Rattle.aq_prog.proofs.StmtLaws.{fold-if}

any_map : (test : Stmt → Bool) (body : List Stmt) → list_any (λ (b : Bool). b) (map test body) ≡ list_any test body
any_map test [] = refl
any_map test (s ∷ body) = ap (λ b. test s || b) (any_map test body)

pub branch_loops : (s : Stmt) (g : Guard) (a b : List Stmt) → s ≡ stmt.If g a b → has_loop s ≡ (list_any has_loop a || list_any has_loop b)
branch_loops s g a b e = ap has_loop e ∙ fold-if Bool loop_step g a b ∙ ap₂ (λ (x y : Bool). x || y) (any_map has_loop a) (any_map has_loop b)

pub branch_cuts : (s : Stmt) (g : Guard) (a b : List Stmt) → s ≡ stmt.If g a b → has_cut s ≡ (list_any has_cut a || list_any has_cut b)
branch_cuts s g a b e = ap has_cut e ∙ fold-if Bool cut_step g a b ∙ ap₂ (λ (x y : Bool). x || y) (any_map has_cut a) (any_map has_cut b)
