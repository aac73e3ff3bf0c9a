-- The fragments of the tests.
use Rattle.std.proofs.Common.{◌≡◌, Bool, true, false, ◌||◌, List, [], ◌∷◌, None, refl, ap, ap₂, ◌∙◌, arith}
use Rattle.std.proofs.lemmas.List.Elements.{All-cons, All-nil}
use Rattle.aq_prog.specs.Cuts.{AreUncut, cut_step, has_cut}
use Rattle.aq_prog.specs.Gates.{IsValidGate}
use Rattle.aq_prog.specs.Programs.{IsValidLevel, IsValidStmt}
use Rattle.aq_prog.specs.declared.gate.Gate.{Gate}
use Rattle.aq_prog.specs.declared.stmt.Guard.{Guard}
use Rattle.aq_prog.specs.declared.stmt.Stmt.{Stmt, every_made-Stmt}
use Rattle.aq_prog.specs.declared.stmt.Stmt.TheOpen.{Stmt-F}
use Rattle.aq_prog.specs.declared.stmt.Stmt.TheVariants as stmt
use Rattle.aq_prog.specs.declared.stmt.Stmt.TheViews.{roll-Stmt}
use Rattle.aq_prog.proofs.CutLaws.{branch_cuts}
use Rattle.aq_prog.proofs.StmtLaws.{fold-gate, fold-measure}
use Rattle.aq_plain.specs.Replaying.{ArePlayable}
use denote.Hole.Carrier.{roll}

abbrev pub guard : Guard
guard = record { bit = 0; value = true }

abbrev pub both : Gate → List Stmt
both gate = stmt.If guard (stmt.Gate gate ∷ []) [] ∷ stmt.Measure 0 None ∷ []

abbrev pub alone : Gate → List Stmt
alone gate = stmt.If guard (stmt.Gate gate ∷ []) [] ∷ []

module _ (gate : Gate) where
  flip_valid : IsValidGate 1 gate → IsValidStmt 1 1 0 (stmt.Gate gate)
  unfolding roll-Stmt roll
  flip_valid v = every_made-Stmt (IsValidLevel 1 1 0) (Stmt-F.Gate gate) (Stmt-F.Gate gate) refl v

  branch_valid : IsValidStmt 1 1 0 (stmt.Gate gate) → IsValidStmt 1 1 0 (stmt.If guard (stmt.Gate gate ∷ []) [])
  unfolding roll-Stmt roll
  branch_valid v =
      every_made-Stmt (IsValidLevel 1 1 0) (Stmt-F.If guard (stmt.Gate gate ∷ []) []) (Stmt-F.If guard ((stmt.Gate gate, v) ∷ []) []) refl (omega arith)

  measure_valid : IsValidStmt 1 1 0 (stmt.Measure 0 None)
  unfolding roll-Stmt roll
  measure_valid = every_made-Stmt (IsValidLevel 1 1 0) (Stmt-F.Measure 0 None) (Stmt-F.Measure 0 None) refl (omega arith, tt)

  pub both_playable : IsValidGate 1 gate → ArePlayable 1 1 (both gate)
  both_playable v = record {
    claims = 0;
    valid = All-cons (IsValidStmt 1 1 0) (stmt.If guard (stmt.Gate gate ∷ []) []) (stmt.Measure 0 None ∷ []) (branch_valid (flip_valid v))
        (All-cons (IsValidStmt 1 1 0) (stmt.Measure 0 None) [] measure_valid (All-nil (IsValidStmt 1 1 0)));
  }

  branch_uncut : has_cut (stmt.If guard (stmt.Gate gate ∷ []) []) ≡ false
  branch_uncut = branch_cuts (stmt.If guard (stmt.Gate gate ∷ []) []) guard (stmt.Gate gate ∷ []) [] refl ∙ ap (λ (b : Bool). (b || false) || false) (fold-gate Bool cut_step gate)

  pub both_uncut : AreUncut (both gate)
  both_uncut = ap₂ (λ (x y : Bool). x || (y || false)) branch_uncut (fold-measure Bool cut_step 0 None)

  pub alone_playable : IsValidGate 1 gate → ArePlayable 1 1 (alone gate)
  alone_playable v = record {
    claims = 0;
    valid = All-cons (IsValidStmt 1 1 0) (stmt.If guard (stmt.Gate gate ∷ []) []) [] (branch_valid (flip_valid v)) (All-nil (IsValidStmt 1 1 0));
  }

  pub alone_uncut : AreUncut (alone gate)
  alone_uncut = ap (λ (x : Bool). x || false) branch_uncut
