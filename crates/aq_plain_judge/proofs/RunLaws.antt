-- The run that ends in a vector which isn't zero: a replay of it stops at most at a gate that doesn't fit.
use Rattle.std.proofs.Common.{◌≡◌, ℕ, zero, suc, ◌<◌, ◌≤◌, Bool, true, false, cond, ◌||◌, List, [], ◌∷◌, ◌++◌, length, Contains, Option, ◌⊎◌, inl, inr, ⊎_elim, refl, ap, ap₂, sym, ◌∙◌, subst, append-nil, arith}
use Rattle.std.specs.List.{AllByRecursion, list_any}
use Rattle.std.proofs.lemmas.Bool.{cases_lt}
use Rattle.aq_ring.specs.Fractions.{Amplitude}
use Rattle.aq_ring.specs.Amplitudes.{FitsQuotient}
use Rattle.aq_ring.specs.Vectors.{IsZeroVector}
use Rattle.aq_prog.specs.Cuts.{loop_step, has_loop, IsLoopFree, cut_step, has_cut, AreUncut}
use Rattle.aq_prog.specs.Events.{Event, Plays, Leaves, Happens, if_ended, outcome_event, events_step, events_at, events, gates_among, IsReplayed, IsCutShort, HasLeft, IsImpossible}
use Rattle.aq_prog.specs.Gates.{project, flip_gate, divided, FitsDivided, FitsTerm, FitsGate, FitsGateAt}
use Rattle.aq_prog.specs.Runs.{State, Run, How, Passed, Played, Meaning, ended, stopped, then_go, has_bit, flipped, measured, was_reset, played_gate, passing, meaning, meaning_step, run}
use Rattle.aq_prog.specs.declared.gate.Entry.{Entry}
use Rattle.aq_prog.specs.declared.gate.Entry.TheVariants as entry
use Rattle.aq_prog.specs.declared.gate.Gate.{Gate}
use Rattle.aq_prog.specs.declared.stmt.Guard.{Guard}
use Rattle.aq_prog.specs.declared.stmt.Stmt.{Stmt}
use Rattle.aq_prog.specs.declared.stmt.Stmt.TheVariants as stmt
use Rattle.aq_prog.proofs.CutLaws.{branch_loops, branch_cuts}
use Rattle.aq_prog.proofs.EventProofs.{events_of_runs}
use Rattle.aq_prog.proofs.StmtLaws.{fold-gate, fold-measure, fold-reset, fold-if, fold-while, fold-assert, fold-assume, para-gate, para-measure, para-reset, para-if, para-assert, para-assume, by_induction}
use Rattle.aq_prog.proofs.VectorLaws.{apply_gate-zero, project-zero}
use Rattle.aq_plain.specs.Replaying.{start_of, MeetsWide}
use Rattle.aq_plain.specs.Vectors.{StateVector}
use Rattle.aq_plain.specs.Wide.{IsWideTerm, IsWideRow, IsWideAt, IsFirstWide, row_entry, paired}
use Rattle.aq_plain.specs.declared.replay_stop.Played.{Played as Reached}
use Rattle.aq_plain_judge.specs.Refuting.{EndsAlive, IsEndOf, HasWideStep}

-- ---- no cut, so no loop
or_false : (a b : Bool) → (a || b) ≡ false → (a ≡ false) × (b ≡ false)
or_false true b e = cc
or_false false b e = (refl, e)

true_false : {A : Type 0} → ◌≡◌ {A = Bool} true false → A
true_false e = cc

abbrev IsFree : Stmt → Type 0
IsFree s = has_cut s ≡ false → has_loop s ≡ false

free_body : (body : List Stmt) → AllByRecursion IsFree body → list_any has_cut body ≡ false → list_any has_loop body ≡ false
free_body [] h e = refl
free_body (s ∷ body) h e = let b = or_false (has_cut s) (list_any has_cut body) e in ap₂ (λ (x y : Bool). x || y) (h.0 b.0) (free_body body h.1 b.1)

free_branch : (g : Guard) (a b : List Stmt) → AllByRecursion IsFree a → AllByRecursion IsFree b → IsFree (stmt.If g a b)
free_branch g a b h k e =
    let c = or_false (list_any has_cut a) (list_any has_cut b) (sym (branch_cuts (stmt.If g a b) g a b refl) ∙ e) in
    branch_loops (stmt.If g a b) g a b refl ∙ ap₂ (λ (x y : Bool). x || y) (free_body a h c.0) (free_body b k c.1)

free : (s : Stmt) → IsFree s
free = by_induction IsFree (record {
  gate = λ g e. fold-gate Bool loop_step g;
  measure = λ qubit bit e. fold-measure Bool loop_step qubit bit;
  reset = λ qubit e. fold-reset Bool loop_step qubit;
  branch = free_branch;
  loop = λ g claim body line h e. true_false (sym (fold-while Bool cut_step g claim body line) ∙ e);
  claim = λ claim line e. fold-assert Bool loop_step claim line;
  assuming = λ g e. fold-assume Bool loop_step g;
})

each_free : (body : List Stmt) → AllByRecursion IsFree body
each_free [] = tt
each_free (s ∷ body) = (free s, each_free body)

pub uncut_free : (body : List Stmt) → AreUncut body → IsLoopFree body
uncut_free body e = free_body body (each_free body) e

-- ---- an outcome that can't happen leaves a zero vector to the end
abbrev HasDead : List Event → Type 0
HasDead [] = ⊥
HasDead (Plays g v ∷ es) = HasDead es
HasDead (Leaves v ∷ es) = IsZeroVector v ⊎ HasDead es

dead-append : (es fs : List Event) → HasDead (es ++ fs) → HasDead es ⊎ HasDead fs
dead-append [] fs h = inr h
dead-append (Plays g v ∷ es) fs h = dead-append es fs h
dead-append (Leaves v ∷ es) fs h = ⊎_elim (λ z. inl (inl z)) (λ d. ⊎_elim (λ e. inl (inr e)) (λ f. inr f) (dead-append es fs d)) h

dead_there : (es fs : List Event) (v : List Amplitude) → IsZeroVector v → HasDead (es ++ Leaves v ∷ fs)
dead_there [] fs v z = inl z
dead_there (Plays g w ∷ es) fs v z = dead_there es fs v z
dead_there (Leaves w ∷ es) fs v z = inr (dead_there es fs v z)

-- of one run: zero stays zero, and such an outcome leads to zero
record DeadRun (t : State) (r : Run) (es : List Event) : Type 0 where
  keeps : IsZeroVector t.vector → IsZeroVector r.last.vector
  dead : HasDead es → IsZeroVector r.last.vector

abbrev IsDeadly : Meaning → Happens → Type 0
IsDeadly m happens = (t : State) → DeadRun t (m t) (happens t)

dead_stopped : (t : State) (how : How) (last : State) (ps : List Passed) (gs : List Played) (es : List Event) → DeadRun t (record { how = how; last = last; passed = ps; played = gs }) es
    → DeadRun t (record { how = how; last = last; passed = ps; played = gs }) (es ++ [])
dead_stopped t how last ps gs es s = subst (λ (l : List Event). DeadRun t (record { how = how; last = last; passed = ps; played = gs }) l) (sym (append-nil es)) s

dead_then : (next : Meaning) (happens : Happens) → IsDeadly next happens → (t : State) (how : How) (last : State) (ps : List Passed) (gs : List Played) (es : List Event)
    → DeadRun t (record { how = how; last = last; passed = ps; played = gs }) es
    → DeadRun t (then_go (record { how = how; last = last; passed = ps; played = gs }) next) (es ++ if_ended how (happens last))
dead_then next happens n t How.Ended last ps gs es s = record {
  keeps = λ z. (n last).keeps (s.keeps z);
  dead = λ d. ⊎_elim (λ e. (n last).keeps (s.dead e)) (λ f. (n last).dead f) (dead-append es (happens last) d);
}
dead_then next happens n t How.Blocked last ps gs es s = dead_stopped t How.Blocked last ps gs es s
dead_then next happens n t How.NoOutcome last ps gs es s = dead_stopped t How.NoOutcome last ps gs es s
dead_then next happens n t How.NoTurn last ps gs es s = dead_stopped t How.NoTurn last ps gs es s

dead_still : (t : State) (how : How) → DeadRun t (stopped how t) []
dead_still t how = record { keeps = λ z. z; dead = λ d. absurd d }

abbrev IsDeadlyStmt : ℕ → Stmt → Type 0
IsDeadlyStmt n s = IsDeadly (meaning n s) (events_at n s)

deadly_body : (n : ℕ) (body : List Stmt) → AllByRecursion (IsDeadlyStmt n) body → IsDeadly (run n body) (events n body)
deadly_body n [] h = λ t. dead_still t How.Ended
deadly_body n (s ∷ body) h = λ t.
    dead_then (run n body) (events n body) (deadly_body n body h.1) t (meaning n s t).how (meaning n s t).last (meaning n s t).passed (meaning n s t).played (events_at n s t) (h.0 t)

moved : (n : ℕ) (s : Stmt) (m : Meaning) (happens : Happens) → meaning n s ≡ m → events_at n s ≡ happens → IsDeadly m happens → IsDeadlyStmt n s
moved n s m happens e f g = subst (λ (d : Meaning × Happens). IsDeadly d.0 d.1) {x = (m, happens)} {y = (meaning n s, events_at n s)} (λ i. (sym e i, sym f i)) g

flipped-zero : (n qubit : ℕ) (b : Bool) (v : List Amplitude) → IsZeroVector v → IsZeroVector (flipped n qubit b v)
flipped-zero n qubit true v z = apply_gate-zero n (flip_gate qubit) v z
flipped-zero n qubit false v z = z

dead_gate : (n : ℕ) (g : Gate) (t : State) → DeadRun t (played_gate n g t) (Plays g t.vector ∷ [])
dead_gate n g t = record { keeps = λ z. apply_gate-zero n g t.vector z; dead = λ d. absurd d }

dead_measure : (n qubit : ℕ) (bit : Option ℕ) (t : State) (outs : List Bool) → DeadRun t (measured n qubit bit outs t) (outcome_event n qubit t.vector outs)
dead_measure n qubit bit t [] = dead_still t How.NoOutcome
dead_measure n qubit bit t (o ∷ rest) = record { keeps = λ z. project-zero n qubit o t.vector z; dead = λ d. ⊎_elim (λ z. z) (λ f. absurd f) d }

dead_reset : (n qubit : ℕ) (t : State) (outs : List Bool) → DeadRun t (was_reset n qubit outs t) (outcome_event n qubit t.vector outs)
dead_reset n qubit t [] = dead_still t How.NoOutcome
dead_reset n qubit t (o ∷ rest) = record {
  keeps = λ z. flipped-zero n qubit o (project n qubit o t.vector) (project-zero n qubit o t.vector z);
  dead = λ d. ⊎_elim (λ z. flipped-zero n qubit o (project n qubit o t.vector) z) (λ f. absurd f) d;
}

dead_choice : (t : State) (b : Bool) (r q : Run) (es fs : List Event) → DeadRun t r es → DeadRun t q fs → DeadRun t (cond b r q) (cond b es fs)
dead_choice t true r q es fs s u = s
dead_choice t false r q es fs s u = u

dead_assume : (t : State) (b : Bool) → DeadRun t (cond b (ended t) (stopped How.Blocked t)) []
dead_assume t true = dead_still t How.Ended
dead_assume t false = dead_still t How.Blocked

abbrev IsDeadlyFree : ℕ → Stmt → Type 0
IsDeadlyFree n s = has_loop s ≡ false → IsDeadlyStmt n s

all_deadly : (n : ℕ) (body : List Stmt) → AllByRecursion (IsDeadlyFree n) body → list_any has_loop body ≡ false → AllByRecursion (IsDeadlyStmt n) body
all_deadly n [] h e = tt
all_deadly n (s ∷ body) h e = let b = or_false (has_loop s) (list_any has_loop body) e in (h.0 b.0, all_deadly n body h.1 b.1)

deadly_branch : (n : ℕ) (g : Guard) (a b : List Stmt) → AllByRecursion (IsDeadlyFree n) a → AllByRecursion (IsDeadlyFree n) b → IsDeadlyFree n (stmt.If g a b)
deadly_branch n g a b h k e =
    let c = or_false (list_any has_loop a) (list_any has_loop b) (sym (branch_loops (stmt.If g a b) g a b refl) ∙ e) in
    let y = deadly_body n a (all_deadly n a h c.0) in
    let z = deadly_body n b (all_deadly n b k c.1) in
    moved n (stmt.If g a b) _ _ (fold-if Meaning (meaning_step n) g a b) (para-if Happens (events_step n) g a b)
    (λ t. dead_choice t (has_bit g t.bits) (run n a t) (run n b t) (events n a t) (events n b t) (y t) (z t))

deadly : (n : ℕ) (s : Stmt) → IsDeadlyFree n s
deadly n = by_induction (IsDeadlyFree n) (record {
  gate = λ g e. moved n (stmt.Gate g) _ _ (fold-gate Meaning (meaning_step n) g) (para-gate Happens (events_step n) g) (dead_gate n g);
  measure = λ qubit bit e. moved n (stmt.Measure qubit bit) _ _ (fold-measure Meaning (meaning_step n) qubit bit) (para-measure Happens (events_step n) qubit bit) (λ t. dead_measure n qubit bit t t.outcomes);
  reset = λ qubit e. moved n (stmt.Reset qubit) _ _ (fold-reset Meaning (meaning_step n) qubit) (para-reset Happens (events_step n) qubit) (λ t. dead_reset n qubit t t.outcomes);
  branch = deadly_branch n;
  loop = λ g claim body line h e. true_false (sym (fold-while Bool loop_step g claim body line) ∙ e);
  claim = λ claim line e. moved n (stmt.Assert claim line) _ _ (fold-assert Meaning (meaning_step n) claim line) (para-assert Happens (events_step n) claim line) (λ t. passes claim t);
  assuming = λ g e. moved n (stmt.Assume g) _ _ (fold-assume Meaning (meaning_step n) g) (para-assume Happens (events_step n) g) (λ t. dead_assume t (has_bit g t.bits));
})
  where
    passes : (claim : ℕ) (t : State) → DeadRun t (passing claim t (ended t)) []
    passes claim t = record { keeps = λ z. z; dead = λ d. absurd d }

each_deadly : (n : ℕ) (body : List Stmt) → AllByRecursion (IsDeadlyFree n) body
each_deadly n [] = tt
each_deadly n (s ∷ body) = (deadly n s, each_deadly n body)

-- ---- a gate that was refused doesn't fit
last_or_before : (times before : ℕ) (p : Amplitude) → before < suc times → FitsQuotient (divided times p) → (before < times → FitsQuotient (divided before p)) → FitsQuotient (divided before p)
last_or_before times before p h last earlier = by_last (cases_lt before times)
  where
    by_last : ((before < times) ⊎ (times ≤ before)) → FitsQuotient (divided before p)
    by_last (inl lt) = earlier lt
    by_last (inr ge) = let e : times ≡ before = omega (arith, h) in subst (λ (k : ℕ). FitsQuotient (divided k p)) e last

quotient_fits : (times before : ℕ) (p : Amplitude) → before < times → FitsDivided times p → FitsQuotient (divided before p)
quotient_fits zero before p h f = absurd (omega (arith, h))
quotient_fits (suc times) before p h f = last_or_before times before p h f.1 (λ lt. quotient_fits times before p lt f.0)

unfit_term : (e : Entry) (p q : Amplitude) → IsWideTerm e p q → FitsTerm e p → ⊥
unfit_term entry.Zero p q w f = elim w [ ]
unfit_term (entry.Unit j e) p q w f = w.wide (quotient_fits e w.before _ w.within f)

unfit_row : (n : ℕ) (gate : Gate) (v : List Amplitude) (x : ℕ) (l r : Amplitude) → IsWideAt n gate v x l r → FitsGateAt n gate v x → ⊥
unfit_row n gate v x l r w f = by_row w.row
  where
    by_row : IsWideRow (row_entry n gate x 0) (row_entry n gate x 1) (paired n gate v x 0) (paired n gate v x 1) l r → ⊥
    by_row (inl a) = unfit_term _ _ _ a.operand (f.left w.controlled)
    by_row (inr (inl b)) = unfit_term _ _ _ b.operand (f.right w.controlled)
    by_row (inr (inr c)) = c.wide (f.sums w.controlled)

unfit_gate : (n : ℕ) (gate : Gate) (v : List Amplitude) (l r : Amplitude) → IsFirstWide n gate v l r → FitsGate n gate v → ⊥
unfit_gate n gate v l r w f = unfit_row n gate v w.index l r w.here (f.at w.index w.within)

plays_there : (es fs : List Event) (g : Gate) (v : List Amplitude) → Contains (gates_among (es ++ Plays g v ∷ fs)) (record { gate = g; before = v })
plays_there [] fs g v = (0, omega arith, refl)
plays_there (Plays h w ∷ es) fs g v = let c = plays_there es fs g v in (suc c.0, omega (arith, c.1), c.2)
plays_there (Leaves w ∷ es) fs g v = plays_there es fs g v

-- ---- what a replay answers
pub wide_step : (n : ℕ) (body : List Stmt) (s : State) (l r : Amplitude) → IsLoopFree body → MeetsWide n (events n body s) l r → HasWideStep n body s
wide_step n body s l r free w =
    let step : Played = record { gate = w.gate; before = w.vector } in
    record {
      step = step;
      played = subst (λ (ps : List Played). Contains ps step) (events_of_runs.gates n body s free)
          (subst (λ (es : List Event). Contains (gates_among es) step) (sym w.first.events_are) (plays_there w.first.before w.first.after w.gate w.vector));
      wide = unfit_gate n w.gate w.vector l r w.operands;
    }

pub is_end : (n : ℕ) (body : List Stmt) (s : State) (p : Reached) → p.vector.qubits ≡ n → IsReplayed n body s (start_of p.bits p.vector.amps []) → IsEndOf n body s p
is_end n body s p q r = record { qubits = q; bits = ap (λ (t : State). t.bits) (sym r.last); vector = ap (λ (t : State). t.vector) (sym r.last) }

pub not_looped : (n : ℕ) (body : List Stmt) (s : State) → EndsAlive n body s → list_any has_loop body ≡ true → ⊥
not_looped n body s e h = true_false (sym h ∙ uncut_free body e.uncut)

pub not_short : (n : ℕ) (body : List Stmt) (s : State) → EndsAlive n body s → IsCutShort n body s How.NoOutcome → ⊥
not_short n body s e c = differ (sym e.whole.0 ∙ c.stopped)
  where
    differ : How.Ended ≡ How.NoOutcome → ⊥
    differ e = cc

pub not_blocked : (n : ℕ) (body : List Stmt) (s : State) → EndsAlive n body s → IsCutShort n body s How.Blocked → ⊥
not_blocked n body s e c = differ (sym e.whole.0 ∙ c.stopped)
  where
    differ : How.Ended ≡ How.Blocked → ⊥
    differ e = cc

pub not_left : (n : ℕ) (body : List Stmt) (s : State) (left : ℕ) → EndsAlive n body s → HasLeft n body s left → ⊥
not_left n body s left e c = absurd (omega (arith, c.many, ap length e.whole.1))

pub not_dead : (n : ℕ) (body : List Stmt) (s : State) (number : ℕ) → EndsAlive n body s → IsImpossible n body s number → ⊥
not_dead n body s number e d =
    let runs = deadly_body n body (all_deadly n body (each_deadly n body) (uncut_free body e.uncut)) s in
    e.alive (runs.dead (subst HasDead (sym d.first.events_are) (dead_there d.first.before d.first.after d.left d.zero)))

-- the same of a copy of the state
pub wide_from : (body : List Stmt) (bits outcomes : List Bool) (start state : StateVector) (l r : Amplitude) → start ≡ state → IsLoopFree body → MeetsWide start.qubits (events start.qubits body (start_of bits start.amps outcomes)) l r
    → HasWideStep state.qubits body (start_of bits state.amps outcomes)
wide_from body bits outcomes start state l r e free w =
    subst (λ (x : StateVector). HasWideStep x.qubits body (start_of bits x.amps outcomes)) e (wide_step start.qubits body (start_of bits start.amps outcomes) l r free w)

pub dead_from : (body : List Stmt) (bits outcomes : List Bool) (start state : StateVector) (number : ℕ) → start ≡ state → EndsAlive state.qubits body (start_of bits state.amps outcomes)
    → IsImpossible start.qubits body (start_of bits start.amps outcomes) number → ⊥
dead_from body bits outcomes start state number e ends d =
    not_dead start.qubits body (start_of bits start.amps outcomes) number (subst (λ (x : StateVector). EndsAlive x.qubits body (start_of bits x.amps outcomes)) (sym e) ends) d
