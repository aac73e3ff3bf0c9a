-- Lists of statements without a cut: the worlds that they make are those of their runs.
use Rattle.std.proofs.Common.{ℕ, false, List, [], ◌∷◌, map, Option, None, sym, subst, ◌≡◌, ◌∙◌}
use Rattle.std.specs.List.{AllByRecursion}
use Rattle.std.proofs.lemmas.List.{length-map}
use Rattle.aq_prog.specs.Gates.{project}
use Rattle.aq_prog.specs.Runs.{State, Meaning, in_order, flipped, meaning, meaning_step, run}
use Rattle.aq_prog.specs.declared.gate.Gate.{Gate}
use Rattle.aq_prog.specs.declared.stmt.Guard.{Guard}
use Rattle.aq_prog.specs.declared.stmt.Stmt.{Stmt}
use Rattle.aq_prog.specs.declared.stmt.Stmt.TheVariants as stmt
use Rattle.aq_prog.specs.Cuts.{has_cut, AreUncut}
use Rattle.aq_obligations.specs.Worlds.{Spread, in_worlds, split, branch, spread, spread_step}
use Rattle.aq_obligations.specs.Covering.{Meets, meets, meets_step, meets_of}
use Rattle.aq_correct.proofs.StmtLaws.{fold-gate, fold-measure, fold-reset, fold-if, fold-assume, para-gate, para-measure, para-reset, para-if, para-assume, by_uncut_induction, all_by_uncut_induction}
use Rattle.aq_correct.proofs.CoverLaws.{Follows, Keeps, keeps-none, keeps-then, follows-none, follows-then}
use Rattle.aq_correct.proofs.LevelLaws.{gate-keeps, gate-follows, outcome-keeps, outcome-follows, measure_is, reset_is, get-map, branch-keeps, branch-follows, split-keeps, assume-keeps, assume-follows}

-- what a statement makes of a state, of a world, and what a world meets
abbrev Trio : Type 0
Trio = Meaning × Spread × Meets

abbrev IsGoodTrio : Trio → Type 0
IsGoodTrio t = Keeps t.1 × Follows t.0 t.1 t.2

abbrev trio : ℕ → Stmt → Trio
trio n s = (meaning n s, spread n s, meets n s)

abbrev trio_of : ℕ → List Stmt → Trio
trio_of n body = (in_order (map (meaning n) body), in_worlds (map (spread n) body), meets_of n body)

abbrev IsGood : ℕ → Stmt → Type 0
IsGood n s = IsGoodTrio (trio n s)

all_good : (n : ℕ) (body : List Stmt) → AllByRecursion (IsGood n) body → IsGoodTrio (trio_of n body)
all_good n [] h = (keeps-none, follows-none)
all_good n (s ∷ body) h =
    let r = all_good n body h.1 in (
      keeps-then (spread n s) (in_worlds (map (spread n) body)) h.0.0 r.0,
      follows-then (meaning n s) (in_order (map (meaning n) body)) (spread n s) (in_worlds (map (spread n) body)) (meets n s) (meets_of n body) h.0.0 r.0 h.0.1 r.1,
    )

-- the three parts by equations
moved : (m m' : Meaning) (S S' : Spread) (M M' : Meets) → m ≡ m' → S ≡ S' → M ≡ M' → Keeps S → Follows m S M → IsGoodTrio (m', S', M')
moved m m' S S' M M' e f g k h = subst IsGoodTrio {x = (m, S, M)} {y = (m', S', M')} (λ i. (e i, f i, g i)) (k, h)

good-gate : (n : ℕ) (g : Gate) → IsGood n (stmt.Gate g)
good-gate n g = moved _ _ _ _ _ _ (sym (fold-gate Meaning (meaning_step n) g)) (sym (fold-gate Spread (spread_step n) g)) (sym (para-gate Meets (meets_step n) g)) (gate-keeps n g) (gate-follows n g)

good-measure : (n qubit : ℕ) (bit : Option ℕ) → IsGood n (stmt.Measure qubit bit)
good-measure n qubit bit = moved _ _ _ _ _ _
    (λ i. ((λ j s. measure_is n qubit bit s.outcomes s j) ∙ sym (fold-measure Meaning (meaning_step n) qubit bit)) i)
    (sym (fold-measure Spread (spread_step n) qubit bit)) (sym (para-measure Meets (meets_step n) qubit bit))
    (outcome-keeps bit (λ b vs. map (project n qubit b) vs) (λ b vs. length-map vs (project n qubit b)))
    (outcome-follows bit (λ b vs. map (project n qubit b) vs) (project n qubit) (λ b vs k v e. get-map (project n qubit b) vs k v e))

good-reset : (n qubit : ℕ) → IsGood n (stmt.Reset qubit)
good-reset n qubit = moved _ _ _ _ _ _
    (λ i. ((λ j s. reset_is n qubit s.outcomes s j) ∙ sym (fold-reset Meaning (meaning_step n) qubit)) i)
    (sym (fold-reset Spread (spread_step n) qubit)) (sym (para-reset Meets (meets_step n) qubit))
    (outcome-keeps None (λ b vs. map (flipped n qubit b) (map (project n qubit b) vs))
    (λ b vs. length-map (map (project n qubit b) vs) (flipped n qubit b) ∙ length-map vs (project n qubit b)))
    (outcome-follows None (λ b vs. map (flipped n qubit b) (map (project n qubit b) vs)) (λ b v. flipped n qubit b (project n qubit b v))
    (λ b vs k v e. get-map (flipped n qubit b) (map (project n qubit b) vs) k (project n qubit b v) (get-map (project n qubit b) vs k v e)))

good-if : (n : ℕ) (g : Guard) (yes_body no_body : List Stmt) → AllByRecursion (IsGood n) yes_body → AllByRecursion (IsGood n) no_body → IsGood n (stmt.If g yes_body no_body)
good-if n g yes_body no_body h k =
    let y = all_good n yes_body h in
    let z = all_good n no_body k in
    moved _ _ _ _ _ _
    (sym (fold-if Meaning (meaning_step n) g yes_body no_body)) (sym (fold-if Spread (spread_step n) g yes_body no_body)) (sym (para-if Meets (meets_step n) g yes_body no_body))
    (keeps-then (split g.bit) (branch g (in_worlds (map (spread n) yes_body)) (in_worlds (map (spread n) no_body))) (split-keeps g.bit)
    (branch-keeps g (in_order (map (meaning n) yes_body)) (in_order (map (meaning n) no_body)) (in_worlds (map (spread n) yes_body)) (in_worlds (map (spread n) no_body)) (meets_of n yes_body) (meets_of n no_body) y.0 z.0))
    (branch-follows g (in_order (map (meaning n) yes_body)) (in_order (map (meaning n) no_body)) (in_worlds (map (spread n) yes_body)) (in_worlds (map (spread n) no_body)) (meets_of n yes_body) (meets_of n no_body) y.0 z.0 y.1 z.1)

good-assume : (n : ℕ) (g : Guard) → IsGood n (stmt.Assume g)
good-assume n g = moved _ _ _ _ _ _ (sym (fold-assume Meaning (meaning_step n) g)) (sym (fold-assume Spread (spread_step n) g)) (sym (para-assume Meets (meets_step n) g)) (assume-keeps g) (assume-follows g)

each_good : (n : ℕ) (body : List Stmt) → AreUncut body → AllByRecursion (IsGood n) body
each_good n = all_by_uncut_induction (IsGood n) (record { gate = good-gate n; measure = good-measure n; reset = good-reset n; branch = good-if n; assuming = good-assume n })

-- a statement without a cut passes no claim
pub statement-silent : (n : ℕ) (s : Stmt) → has_cut s ≡ false → (t : State) → (meaning n s t).passed ≡ []
statement-silent n s e t =
    (by_uncut_induction (IsGood n) (record { gate = good-gate n; measure = good-measure n; reset = good-reset n; branch = good-if n; assuming = good-assume n }) s e).1.passed t

pub fragment-keeps : (n : ℕ) (body : List Stmt) → AreUncut body → Keeps (in_worlds (map (spread n) body))
fragment-keeps n body u = (all_good n body (each_good n body u)).0

-- the runs of a fragment are in its worlds
pub fragment-follows : (n : ℕ) (body : List Stmt) → AreUncut body → Follows (run n body) (in_worlds (map (spread n) body)) (meets_of n body)
fragment-follows n body u = (all_good n body (each_good n body u)).1
