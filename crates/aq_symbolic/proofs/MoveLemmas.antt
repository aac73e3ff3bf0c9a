-- What a statement is, played.
use Rattle.std.proofs.Common.{◌≡◌, ℕ, ◌+◌, List, [], ◌∷◌, ◌++◌, map, Option, refl, ap, ap₂, ◌∙◌}
use Rattle.std.specs.List.{flat_map}
use Rattle.std.proofs.lemmas.List.Sums.{sum-map}
use Rattle.aq_prog.specs.declared.gate.Gate.{Gate}
use Rattle.aq_prog.specs.declared.stmt.Guard.{Guard}
use Rattle.aq_prog.specs.declared.stmt.Stmt.{Stmt, fold-Stmt}
use Rattle.aq_prog.specs.declared.stmt.Stmt.TheVariants as stmt
use Rattle.aq_prog.proofs.StmtLaws.{fold-gate, fold-measure, fold-reset, fold-if, fold-assume, para-gate, para-measure, para-reset, para-if, para-assume}
use Rattle.aq_obligations.specs.Counting.{guards_of}
use Rattle.aq_obligations.specs.Covering.{Meets, meets_step}
use Rattle.aq_obligations.specs.Enough.{all_of, guards, guards_step, outcomes, outcomes_step, statements, statements_step}
use Rattle.aq_obligations.specs.Worlds.{Spread, split, spread_step}
use Rattle.aq_symbolic.specs.Moves.{Move, of_stmt, of_branch, of_gate, of_measurement, of_reset, of_assumption}

pub gate_move : (s : Stmt) (g : Gate) → s ≡ stmt.Gate g → of_stmt s ≡ of_gate g
gate_move s g e = ap of_stmt e ∙ (λ i. record {
  spread = λ n. fold-gate Spread (spread_step n) g i;
  meets = λ n. para-gate Meets (meets_step n) g i;
  outcomes = fold-gate ℕ outcomes_step g i;
  statements = fold-gate ℕ statements_step g i;
  guards = fold-gate (List Guard) guards_step g i;
})

pub measure_move : (s : Stmt) (qubit : ℕ) (bit : Option ℕ) → s ≡ stmt.Measure qubit bit → of_stmt s ≡ of_measurement qubit bit
measure_move s qubit bit e = ap of_stmt e ∙ (λ i. record {
  spread = λ n. fold-measure Spread (spread_step n) qubit bit i;
  meets = λ n. para-measure Meets (meets_step n) qubit bit i;
  outcomes = fold-measure ℕ outcomes_step qubit bit i;
  statements = fold-measure ℕ statements_step qubit bit i;
  guards = fold-measure (List Guard) guards_step qubit bit i;
})

pub reset_move : (s : Stmt) (qubit : ℕ) → s ≡ stmt.Reset qubit → of_stmt s ≡ of_reset qubit
reset_move s qubit e = ap of_stmt e ∙ (λ i. record {
  spread = λ n. fold-reset Spread (spread_step n) qubit i;
  meets = λ n. para-reset Meets (meets_step n) qubit i;
  outcomes = fold-reset ℕ outcomes_step qubit i;
  statements = fold-reset ℕ statements_step qubit i;
  guards = fold-reset (List Guard) guards_step qubit i;
})

pub assume_move : (s : Stmt) (g : Guard) → s ≡ stmt.Assume g → of_stmt s ≡ of_assumption g
assume_move s g e = ap of_stmt e ∙ (λ i. record {
  spread = λ n. fold-assume Spread (spread_step n) g i;
  meets = λ n. para-assume Meets (meets_step n) g i;
  outcomes = fold-assume ℕ outcomes_step g i;
  statements = fold-assume ℕ statements_step g i;
  guards = fold-assume (List Guard) guards_step g i;
})

-- a branch, after the split at its bit
abbrev pub of_if : Guard → List Stmt → List Stmt → Move
of_if g a b = record {
  spread = λ n w. flat_map ((of_branch g a b).spread n) (split g.bit w);
  meets = λ n w. flat_map ((of_branch g a b).meets n) (split g.bit w);
  outcomes = outcomes a + outcomes b;
  statements = 1 + (statements a + statements b);
  guards = g ∷ (guards a ++ guards b);
}

all_guards : (body : List Stmt) → all_of (map guards_of body) ≡ guards body
all_guards [] = refl
all_guards (s ∷ body) = ap (λ (l : List Guard). guards_of s ++ l) (all_guards body)

pub if_move : (s : Stmt) (g : Guard) (a b : List Stmt) → s ≡ stmt.If g a b → of_stmt s ≡ of_if g a b
if_move s g a b e = ap of_stmt e ∙ (λ i. record {
  spread = λ n. fold-if Spread (spread_step n) g a b i;
  meets = λ n. para-if Meets (meets_step n) g a b i;
  outcomes = (fold-if ℕ outcomes_step g a b ∙ ap₂ (λ x y. x + y) (sum-map (fold-Stmt ℕ outcomes_step) a) (sum-map (fold-Stmt ℕ outcomes_step) b)) i;
  statements = (fold-if ℕ statements_step g a b ∙ ap₂ (λ x y. 1 + (x + y)) (sum-map (fold-Stmt ℕ statements_step) a) (sum-map (fold-Stmt ℕ statements_step) b)) i;
  guards = (fold-if (List Guard) guards_step g a b ∙ ap₂ (λ (x y : List Guard). g ∷ (x ++ y)) (all_guards a) (all_guards b)) i;
})
