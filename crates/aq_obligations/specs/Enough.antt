-- How many steps are enough for an obligation. It is a whole number without width.
use Rattle.std.specs.Prelude.{ℕ, suc, ◌+◌, ◌*◌, ◌^◌, ◌==◌, List, [], ◌∷◌, ◌++◌}
use Rattle.std.specs.List.{sum, sum_by, count_by, list_any, flat_map, range_with_len}
use Rattle.aq_prog.specs.declared.program.Program.{Program}
use Rattle.aq_prog.specs.declared.stmt.Guard.{Guard}
use Rattle.aq_prog.specs.declared.stmt.Stmt.{Stmt, fold-Stmt}
use Rattle.aq_prog.specs.declared.stmt.Stmt.TheOpen.{Stmt-F}
use Rattle.aq_sets.specs.Sizes.{size_of, words}
use Rattle.aq_sets.specs.declared.sets.Sets.{Sets}
use Rattle.aq_obligations.specs.Worlds.{given_guards}
use Rattle.aq_obligations.specs.declared.bound.BoundCase.{BoundCase}
use Rattle.aq_obligations.specs.declared.bound.Obligation.{Obligation}

-- the number of statements, inner ones included
abbrev pub statements_step : Stmt-F ℕ → ℕ
statements_step (Stmt-F.Gate gate) = 1
statements_step (Stmt-F.Measure qubit bit) = 1
statements_step (Stmt-F.Reset qubit) = 1
statements_step (Stmt-F.If guard when_true when_false) = 1 + (sum when_true + sum when_false)
statements_step (Stmt-F.While guard claim body line) = 1 + sum body
statements_step (Stmt-F.Assert claim line) = 1
statements_step (Stmt-F.Assume guard) = 1

abbrev pub statements : List Stmt → ℕ
statements body = sum_by (fold-Stmt ℕ statements_step) body

-- the number of measurements and resets
abbrev pub outcomes_step : Stmt-F ℕ → ℕ
outcomes_step (Stmt-F.Gate gate) = 0
outcomes_step (Stmt-F.Measure qubit bit) = 1
outcomes_step (Stmt-F.Reset qubit) = 1
outcomes_step (Stmt-F.If guard when_true when_false) = sum when_true + sum when_false
outcomes_step (Stmt-F.While guard claim body line) = sum body
outcomes_step (Stmt-F.Assert claim line) = 0
outcomes_step (Stmt-F.Assume guard) = 0

abbrev pub outcomes : List Stmt → ℕ
outcomes body = sum_by (fold-Stmt ℕ outcomes_step) body

abbrev pub all_of : List (List Guard) → List Guard
all_of guards = flat_map (λ gs. gs) guards

-- the guards of branches, loops and assumptions
abbrev pub guards_step : Stmt-F (List Guard) → List Guard
guards_step (Stmt-F.Gate gate) = []
guards_step (Stmt-F.Measure qubit bit) = []
guards_step (Stmt-F.Reset qubit) = []
guards_step (Stmt-F.If guard when_true when_false) = guard ∷ (all_of when_true ++ all_of when_false)
guards_step (Stmt-F.While guard claim body line) = guard ∷ all_of body
guards_step (Stmt-F.Assert claim line) = []
guards_step (Stmt-F.Assume guard) = guard ∷ []

abbrev pub guards : List Stmt → List Guard
guards body = flat_map (fold-Stmt (List Guard) guards_step) body

abbrev pub conditions : List BoundCase → List Guard
conditions cases = flat_map (λ c. c.when) cases

-- the guards of the statements and what is given, and the conditions of all cases
abbrev pub all_guards : Obligation → List Guard
all_guards o = guards o.fragment ++ (given_guards o.given ++ (conditions o.from ++ conditions o.goal.cases))

-- the number of the program's bits that a guard or a condition mentions
abbrev pub mentioned_bits : Program → Obligation → ℕ
mentioned_bits p o = count_by (λ bit. list_any (λ g. g.bit == bit) (all_guards o)) (range_with_len 0 p.bits)

abbrev pub words_of : Sets → BoundCase → ℕ
words_of s c = words (size_of s.exprs c.set).shape

-- a case's size times its words
abbrev pub weight_of : Sets → BoundCase → ℕ
weight_of s c = (size_of s.exprs c.set).nodes * words_of s c

-- With M measurements and resets, U bits mentioned, W and V words of the assumption's and the goal's cases, L statements
-- and one more, and X the weights of all cases: 8 * (2^(M+U) * W * 2^(n+1) * (L + V) + 2^(n+1) * X).
unfoldable pub enough : Program → Sets → Obligation → ℕ
enough p s o =
    let W = sum_by (words_of s) o.from in
    let V = sum_by (words_of s) o.goal.cases in
    let L = suc (statements o.fragment) in
    let X = sum_by (weight_of s) o.from + sum_by (weight_of s) o.goal.cases in
    8 * (2 ^ (outcomes o.fragment + mentioned_bits p o) * W * 2 ^ (suc p.qubits) * (L + V) + 2 ^ (suc p.qubits) * X)
