-- The run of gates alone.
use Rattle.std.proofs.Common.{◌≡◌, ℕ, List, [], ◌∷◌, map, refl, ap, ◌∙◌}
use Rattle.aq_prog.specs.Runs.{State, Run, Meaning, meaning, meaning_step, run, joined, then_go, in_order, played_gate}
use Rattle.aq_prog.specs.Laws.{run_of_gates}
use Rattle.aq_prog.specs.declared.gate.Gate.{Gate}
use Rattle.aq_prog.specs.declared.stmt.Stmt.TheVariants as stmt
use Rattle.aq_prog.specs.declared.stmt.Stmt.TheOpen.{Stmt-F}
use Rattle.aq_prog.specs.declared.stmt.Stmt.TheFolds.{fold-roll-Stmt}
use Rattle.aq_prog.specs.declared.stmt.Stmt.TheViews.{roll-Stmt}
use denote.Hole.Carrier.{roll}

pub meaning-gate : (n : ℕ) (g : Gate) (s : State) → meaning n (stmt.Gate g) s ≡ played_gate n g s
unfolding roll-Stmt roll
meaning-gate n g s = ap (λ (m : Meaning). m s) (fold-roll-Stmt Meaning (meaning_step n) (Stmt-F.Gate g))

pub gates_alone : (n : ℕ) (gates : List Gate) (s : State) → run n (map stmt.Gate gates) s ≡ run_of_gates n gates s
gates_alone n [] s = refl
gates_alone n (g ∷ gs) s =
    ap (λ (r : Run). then_go r (in_order (map (meaning n) (map stmt.Gate gs)))) (meaning-gate n g s)
    ∙ ap (joined (played_gate n g s)) (gates_alone n gs (played_gate n g s).last)
