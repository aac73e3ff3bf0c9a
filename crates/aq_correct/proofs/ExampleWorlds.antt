-- Two examples that were worked out by hand: the worlds of a branch on an open bit and a measurement, and the obligations of a
-- program with a loop.
use Rattle.std.proofs.Common.{◌≡◌, ℕ, Bool, true, false, List, [], ◌∷◌, ◌++◌, map, Some, None, ap, ◌∙◌}
use Rattle.aq_prog.specs.declared.gate.Gate.{Gate}
use Rattle.aq_prog.specs.declared.stmt.Guard.{Guard}
use Rattle.aq_prog.specs.declared.stmt.Stmt.{Stmt}
use Rattle.aq_prog.specs.declared.stmt.Stmt.TheVariants as stmt
use Rattle.aq_prog.specs.declared.stmt.Stmt.TheOpen.{Stmt-F}
use Rattle.aq_obligations.specs.Claims.{ClaimCase}
use Rattle.aq_prog.specs.Cuts.{cut_step}
use Rattle.aq_obligations.specs.Worlds.{World, Partial, Spread, in_worlds, spread, spread_step}
use Rattle.aq_obligations.specs.Owing.{Here, Owed, Debt, further, opposite, fresh, owed, at_end, owes_all, claim_at, obligations}
use Rattle.aq_obligations.specs.declared.kind.Kind.{Kind}
use Rattle.aq_obligations.specs.declared.kind.Kind.TheVariants as kinds
use Rattle.aq_correct.proofs.StmtLaws.{fold-gate, fold-measure, fold-if}
use Rattle.aq_correct.proofs.OwingProofs.{owes_by_rule}

abbrev bit_is_one : Guard
bit_is_one = record { bit = 0; value = true }

-- a branch on bit 0 with a gate where it is 1, and a measurement of qubit 0 that is stored nowhere
abbrev branch_and_measure : Gate → List Stmt
branch_and_measure x = stmt.If bit_is_one (stmt.Gate x ∷ []) [] ∷ stmt.Measure 0 None ∷ []

abbrev open_world : ClaimCase → World
open_world c = record { case = c; start = None ∷ []; bits = None ∷ []; outcomes = []; vectors = c.vectors }

abbrev told_of : World → Partial × List Bool
told_of w = (w.bits, w.outcomes)

four_worlds : (x : Gate) (c : ClaimCase) → map told_of (in_worlds (map (spread 1) (branch_and_measure x)) (open_world c))
    ≡ (Some false ∷ [], false ∷ []) ∷ (Some false ∷ [], true ∷ []) ∷ (Some true ∷ [], false ∷ []) ∷ (Some true ∷ [], true ∷ []) ∷ []
four_worlds x c =
    ap (λ (s : Spread). map told_of (in_worlds (s ∷ spread 1 (stmt.Measure 0 None) ∷ []) (open_world c))) (fold-if Spread (spread_step 1) bit_is_one (stmt.Gate x ∷ []) [])
    ∙ ap (λ (s : Spread). map told_of (in_worlds (spread_step 1 (Stmt-F.If bit_is_one (spread 1 (stmt.Gate x) ∷ []) []) ∷ s ∷ []) (open_world c))) (fold-measure Spread (spread_step 1) 0 None)
    ∙ ap (λ (s : Spread). map told_of (in_worlds (spread_step 1 (Stmt-F.If bit_is_one (s ∷ []) []) ∷ spread_step 1 (Stmt-F.Measure 0 None) ∷ []) (open_world c))) (fold-gate Spread (spread_step 1) x)

-- h q[0]; c = measure q[0]; while (c) { x q[0]; h q[0]; c = measure q[0]; }, the loop on line 7 with claim 0
abbrev walk : Gate → Gate → List Stmt
walk h x = stmt.Gate h ∷ stmt.Measure 0 (Some 0) ∷ stmt.While bit_is_one 0 (stmt.Gate x ∷ stmt.Gate h ∷ stmt.Measure 0 (Some 0) ∷ []) 7 ∷ []

abbrev kind_of : {B : Type 0} → Owed B → Kind × ℕ
kind_of d = (d.kind, d.line)

module _ (B : Type 0) (claims : List (List B)) (pre post : List B) (h x : Gate) where
  three : map kind_of (obligations claims pre post (walk h x)) ≡ (kinds.Entry, 7) ∷ (kinds.Keep, 7) ∷ (kinds.Post, 0) ∷ []
  three =
      let r = owes_by_rule B in
      let rest : Debt B = at_end kinds.Post 0 post in
      let inner : List Stmt = stmt.Gate x ∷ stmt.Gate h ∷ stmt.Measure 0 (Some 0) ∷ [] in
      let keep : Debt B = at_end kinds.Keep 7 (claim_at claims 0) in
      let start : Here B = record { start = true; from = pre; given = None; fragment = [] } in
      let begun : Here B = fresh (claim_at claims 0) (Some bit_is_one) in
      let measured = fold-measure Bool cut_step 0 (Some 0) in
      let inside : owes_all (claim_at claims) inner keep begun ≡ keep (further (stmt.Measure 0 (Some 0)) (further (stmt.Gate h) (further (stmt.Gate x) begun))) =
      r.plain (claim_at claims) (stmt.Gate x) (stmt.Gate h ∷ stmt.Measure 0 (Some 0) ∷ []) keep begun (fold-gate Bool cut_step x)
      ∙ r.plain (claim_at claims) (stmt.Gate h) (stmt.Measure 0 (Some 0) ∷ []) keep (further (stmt.Gate x) begun) (fold-gate Bool cut_step h)
      ∙ r.plain (claim_at claims) (stmt.Measure 0 (Some 0)) [] keep (further (stmt.Gate h) (further (stmt.Gate x) begun)) measured in
      ap (map kind_of)
      (r.plain (claim_at claims) (stmt.Gate h) (stmt.Measure 0 (Some 0) ∷ stmt.While bit_is_one 0 inner 7 ∷ []) rest start (fold-gate Bool cut_step h)
      ∙ r.plain (claim_at claims) (stmt.Measure 0 (Some 0)) (stmt.While bit_is_one 0 inner 7 ∷ []) rest (further (stmt.Gate h) start) measured
      ∙ r.looped (claim_at claims) bit_is_one 0 inner 7 [] rest (further (stmt.Measure 0 (Some 0)) (further (stmt.Gate h) start))
      ∙ (λ i. owed kinds.Entry 7 (claim_at claims 0) (further (stmt.Measure 0 (Some 0)) (further (stmt.Gate h) start)) ∷ (inside i ++ rest (fresh (claim_at claims 0) (Some (opposite bit_is_one))))))
