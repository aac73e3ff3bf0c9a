-- Statements with a loop, and statements at which a claim is to hold: assertions and loops, and branches with one inside.
-- The latter cut a program into fragments.
use Rattle.std.specs.Prelude.{◌≡◌, Bool, true, false, ◌||◌, List}
use Rattle.std.specs.List.{list_any}
use Rattle.aq_prog.specs.declared.stmt.Stmt.{Stmt, fold-Stmt}
use Rattle.aq_prog.specs.declared.stmt.Stmt.TheOpen.{Stmt-F}

-- one level of a statement, in which it already stands whether a statement inside has a loop
abbrev pub loop_step : Stmt-F Bool → Bool
loop_step (Stmt-F.Gate gate) = false
loop_step (Stmt-F.Measure qubit bit) = false
loop_step (Stmt-F.Reset qubit) = false
loop_step (Stmt-F.If guard when_true when_false) = list_any (λ b. b) when_true || list_any (λ b. b) when_false
loop_step (Stmt-F.While guard claim body line) = true
loop_step (Stmt-F.Assert claim line) = false
loop_step (Stmt-F.Assume guard) = false

-- the statement is a loop or has one inside
abbrev pub has_loop : Stmt → Bool
has_loop = fold-Stmt Bool loop_step

abbrev pub IsLoopFree : List Stmt → Type 0
IsLoopFree body = list_any has_loop body ≡ false

-- one level of a statement, in which it already stands whether a statement inside is a cut or has one
abbrev pub cut_step : Stmt-F Bool → Bool
cut_step (Stmt-F.Gate gate) = false
cut_step (Stmt-F.Measure qubit bit) = false
cut_step (Stmt-F.Reset qubit) = false
cut_step (Stmt-F.If guard when_true when_false) = list_any (λ b. b) when_true || list_any (λ b. b) when_false
cut_step (Stmt-F.While guard claim body line) = true
cut_step (Stmt-F.Assert claim line) = true
cut_step (Stmt-F.Assume guard) = false

-- the statement is a cut or has one inside
abbrev pub has_cut : Stmt → Bool
has_cut = fold-Stmt Bool cut_step

-- no statement is a cut or has one inside
abbrev pub AreUncut : List Stmt → Type 0
AreUncut body = list_any has_cut body ≡ false
