-- How the statements of a run follow one another, as far as they are played.
use Rattle.std.proofs.Common.{◌≡◌, ℕ, zero, suc, ◌+◌, ◌<◌, ◌≤◌, Bool, true, false, cond, ◌||◌, List, [], ◌∷◌, ◌++◌, map, length, drop, Option, refl, ap, ap₂, sym, ◌∙◌, subst, append_assoc, append-nil, arith, get_or, drop-cons, add-one}
use Rattle.std.specs.Prelude.{Result, Ok, Err, IfOk, IfErr}
use Rattle.std.specs.List.{list_any}
use Rattle.std.proofs.lemmas.List.Elements.{All-from_recursion, All-append, All-nil, All-cons}
use Rattle.aq_ring.specs.Fractions.{Amplitude}
use Rattle.aq_prog.specs.Cuts.{loop_step, has_loop}
use Rattle.aq_prog.specs.Events.{Event, Plays, Leaves, Happens, if_ended, outcome_event, events_step, events_at, events, IsGood, AreGood, IsFirst, outcomes_among, HasLeft}
use Rattle.aq_prog.specs.Gates.{apply_gate, project, flip_gate, FitsGate, IsValidGate, IsEntry, entry_at}
use Rattle.aq_prog.specs.Programs.{IsValidLevel, IsValidStmt}
use Rattle.aq_prog.specs.Runs.{State, Run, How, Passed, Played, Meaning, ended, stopped, then_go, has_bit, measured, was_reset, played_gate, passing, meaning, meaning_step, run}
use Rattle.aq_prog.specs.declared.gate.Entry.{Entry}
use Rattle.aq_prog.specs.declared.gate.Gate.{Gate}
use Rattle.aq_prog.specs.declared.stmt.Guard.{Guard}
use Rattle.aq_prog.specs.declared.stmt.Stmt.{Stmt, fold-Stmt}
use Rattle.aq_prog.specs.declared.stmt.Stmt.TheVariants as stmt
use Rattle.aq_prog.specs.declared.stmt.Stmt.TheOpen.{Stmt-F}
use Rattle.aq_prog.specs.declared.stmt.Stmt.TheFolds.{every_here-Stmt}
use Rattle.aq_prog.specs.declared.stmt.Stmt.TheViews.{roll-Stmt, out-roll-Stmt}
use Rattle.aq_prog.proofs.StmtLaws.{fold-gate, fold-measure, fold-reset, fold-if, fold-while, fold-assert, fold-assume, para-gate, para-measure, para-reset, para-if, para-assert, para-assume}
use Rattle.aq_prog.proofs.CutLaws.{branch_loops}
use Rattle.aq_prog.proofs.InsideLaws.{inside_if}
use Rattle.aq_plain.proofs.ValidLaws.{valid_alone}
use Rattle.aq_plain.specs.Wide.{IsFirstWide}
use Rattle.aq_plain.specs.Replaying.{ArePlayable, IsPlayableStmt, IsPlayed, IsStopped, HaltsBy, Refuses, IsIn, IsMeasured, HaltsMeasured, IsReset, HaltsReset, PlaysStmt, HaltsStmt, PlaysAll, HaltsAll, Replays, start_of, stop_of}
use Rattle.aq_plain.specs.declared.player.Halt.{Halt}
use Rattle.aq_plain.specs.declared.player.Halt.TheVariants as halt
use Rattle.aq_plain.specs.declared.replay_stop.ReplayStop.{ReplayStop}
use Rattle.aq_plain.specs.declared.row.WideSum.{WideSum}

-- ---- lists of events

outcomes-append : (es fs : List Event) → outcomes_among (es ++ fs) ≡ outcomes_among es + outcomes_among fs
outcomes-append [] fs = omega arith
outcomes-append (Plays g v ∷ es) fs = outcomes-append es fs
outcomes-append (Leaves v ∷ es) fs = omega (arith, outcomes-append es fs)

abbrev sooner : (n : ℕ) (es fs : List Event) (a : Event) → IsFirst n es a → IsFirst n (es ++ fs) a
sooner n es fs a f = record {
  before = f.before;
  after = f.after ++ fs;
  events_are = ap (λ (l : List Event). l ++ fs) f.events_are ∙ append_assoc f.before (a ∷ f.after) fs;
  good = f.good;
}

abbrev later : (n : ℕ) (es fs : List Event) (a : Event) → AreGood n es → IsFirst n fs a → IsFirst n (es ++ fs) a
later n es fs a good f = record {
  before = es ++ f.before;
  after = f.after;
  events_are = ap (λ (l : List Event). es ++ l) f.events_are ∙ sym (append_assoc es f.before (a ∷ f.after));
  good = All-append (IsGood n) es f.before good f.good;
}

-- ---- a first part, and then more

-- it was played to its end, and so is the rest
pub played_then : (n : ℕ) (es fs : List Event) (r : Run) (next : Meaning) (s t u : State) → IsPlayed n es r s t → IsPlayed n fs (next t) t u
    → IsPlayed n (es ++ if_ended r.how fs) (then_go r next) s u
played_then n es fs r next s t u p q = by_how r.how r.last r.passed r.played p.how p.last
  where
    by_how : (how : How) (last : State) (ps : List Passed) (gs : List Played) → how ≡ How.Ended → last ≡ t
        → IsPlayed n (es ++ if_ended how fs) (then_go (record { how = how; last = last; passed = ps; played = gs }) next) s u
    by_how How.Ended last ps gs e at = record {
      good = All-append (IsGood n) es fs p.good q.good;
      how = ap (λ (z : State). (next z).how) at ∙ q.how;
      last = ap (λ (z : State). (next z).last) at ∙ q.last;
      counted = omega (arith, outcomes-append es fs, p.counted, q.counted);
    }
    by_how How.Blocked last ps gs e at = cc
    by_how How.NoOutcome last ps gs e at = cc
    by_how How.NoTurn last ps gs e at = cc

-- it was played to its end, and the rest halts
pub halted_then : (n : ℕ) (es fs : List Event) (r : Run) (next : Meaning) (s t : State) (h : Halt) → IsPlayed n es r s t → HaltsBy n fs (next t) t h
    → HaltsBy n (es ++ if_ended r.how fs) (then_go r next) s h
halted_then n es fs r next s t h p q = by_how r.how r.last r.passed r.played p.how p.last h q
  where
    by_how : (how : How) (last : State) (ps : List Passed) (gs : List Played) → how ≡ How.Ended → last ≡ t → (h : Halt) → HaltsBy n fs (next t) t h
        → HaltsBy n (es ++ if_ended how fs) (then_go (record { how = how; last = last; passed = ps; played = gs }) next) s h
    by_how How.Ended last ps gs e at halt.ShortOutcomes q = record { good = All-append (IsGood n) es fs p.good q.good; stopped = ap (λ (z : State). (next z).how) at ∙ q.stopped }
    by_how How.Ended last ps gs e at halt.Blocked q = record { good = All-append (IsGood n) es fs p.good q.good; stopped = ap (λ (z : State). (next z).how) at ∙ q.stopped }
    by_how How.Ended last ps gs e at (halt.Impossible left) q = record {
      vector = q.vector;
      first = later n es fs (Leaves q.vector) p.good q.first;
      zero = q.zero;
      counted = omega (arith, outcomes-append es q.first.before, p.counted, q.counted);
    }
    by_how How.Ended last ps gs e at (halt.Wide w) q = record { gate = q.gate; vector = q.vector; first = later n es fs (Plays q.gate q.vector) p.good q.first; operands = q.operands }
    by_how How.Blocked last ps gs e at h q = cc
    by_how How.NoOutcome last ps gs e at h q = cc
    by_how How.NoTurn last ps gs e at h q = cc

-- it halts, whatever is behind it
pub then_halted : (n : ℕ) (es fs : List Event) (r : Run) (next : Meaning) (s : State) (h : Halt) → HaltsBy n es r s h
    → HaltsBy n (es ++ if_ended r.how fs) (then_go r next) s h
then_halted n es fs r next s h q = by_how r.how r.last r.passed r.played h q
  where
    stop_here : (how : How) → IsStopped n es r how → AreGood n (es ++ [])
    stop_here how p = subst (AreGood n) (sym (append-nil es)) p.good

    by_how : (how : How) (last : State) (ps : List Passed) (gs : List Played) (h : Halt) → HaltsBy n es (record { how = how; last = last; passed = ps; played = gs }) s h
        → HaltsBy n (es ++ if_ended how fs) (then_go (record { how = how; last = last; passed = ps; played = gs }) next) s h
    by_how how last ps gs (halt.Impossible left) q = record {
      vector = q.vector;
      first = sooner n es (if_ended how fs) (Leaves q.vector) q.first;
      zero = q.zero;
      counted = q.counted;
    }
    by_how how last ps gs (halt.Wide w) q = record { gate = q.gate; vector = q.vector; first = sooner n es (if_ended how fs) (Plays q.gate q.vector) q.first; operands = q.operands }
    by_how How.Ended last ps gs halt.ShortOutcomes q = let e = q.stopped in cc
    by_how How.Blocked last ps gs halt.ShortOutcomes q = let e = q.stopped in cc
    by_how How.NoTurn last ps gs halt.ShortOutcomes q = let e = q.stopped in cc
    by_how How.NoOutcome last ps gs halt.ShortOutcomes q = record { good = subst (AreGood n) (sym (append-nil es)) q.good; stopped = refl }
    by_how How.Ended last ps gs halt.Blocked q = let e = q.stopped in cc
    by_how How.NoOutcome last ps gs halt.Blocked q = let e = q.stopped in cc
    by_how How.NoTurn last ps gs halt.Blocked q = let e = q.stopped in cc
    by_how How.Blocked last ps gs halt.Blocked q = record { good = subst (AreGood n) (sym (append-nil es)) q.good; stopped = refl }

-- ---- statements in order

-- What the statements that are left come to, all come to.
pub record LeadsOn (n : ℕ) (body : List Stmt) (s : State) (rest : List Stmt) (t : State) : Type 0 where
  pub played : (u : State) → PlaysAll n rest t u → PlaysAll n body s u
  pub halted : (h : Halt) → HaltsAll n rest t h → HaltsAll n body s h

pub leads_at_first : (n : ℕ) (body : List Stmt) (s : State) → LeadsOn n body s body s
leads_at_first n body s = record { played = λ u p. p; halted = λ h p. p }

pub leads_past : (n : ℕ) (body : List Stmt) (s : State) (x : Stmt) (rest : List Stmt) (t u : State) → LeadsOn n body s (x ∷ rest) t → PlaysStmt n x t u → LeadsOn n body s rest u
leads_past n body s x rest t u on p = record {
  played = λ w q. on.played w (subst (λ (es : List Event). IsPlayed n es (run n (x ∷ rest) t) t w) (here w) (played_then n (events_at n x t) (events n rest u) (meaning n x t) (run n rest) t u w p q));
  halted = λ h q. on.halted h (subst (λ (es : List Event). HaltsBy n es (run n (x ∷ rest) t) t h) (here u) (halted_then n (events_at n x t) (events n rest u) (meaning n x t) (run n rest) t u h p q));
}
  where
    here : State → events_at n x t ++ if_ended (meaning n x t).how (events n rest u) ≡ events n (x ∷ rest) t
    here w = ap (λ (z : State). events_at n x t ++ if_ended (meaning n x t).how (events n rest z)) (sym p.last)

pub leads_halted : (n : ℕ) (body : List Stmt) (s : State) (x : Stmt) (rest : List Stmt) (t : State) (h : Halt) → LeadsOn n body s (x ∷ rest) t → HaltsStmt n x t h → HaltsAll n body s h
leads_halted n body s x rest t h on q = on.halted h (then_halted n (events_at n x t) (events n rest (meaning n x t).last) (meaning n x t) (run n rest) t h q)

pub leads_out : (n : ℕ) (body : List Stmt) (s t : State) → LeadsOn n body s [] t → PlaysAll n body s t
leads_out n body s t on = on.played t (record { good = All-nil (IsGood n); how = refl; last = refl; counted = omega arith })

-- ---- one statement

pub same_played : (n : ℕ) (es fs : List Event) (r q : Run) (s t : State) → es ≡ fs → r ≡ q → IsPlayed n es r s t → IsPlayed n fs q s t
same_played n es fs r q s t e f p = subst (λ (z : List Event). IsPlayed n z q s t) e (subst (λ (z : Run). IsPlayed n es z s t) f p)

pub same_halted : (n : ℕ) (es fs : List Event) (r q : Run) (s : State) (h : Halt) → es ≡ fs → r ≡ q → HaltsBy n es r s h → HaltsBy n fs q s h
same_halted n es fs r q s h e f p = subst (λ (z : List Event). HaltsBy n z q s h) e (subst (λ (z : Run). HaltsBy n es z s h) f p)

-- ---- an outcome

refused_at : (n qubit : ℕ) (s : State) (r : Run) (outs : List Bool) (es : List Event) → s.outcomes ≡ outs → (h : Halt) → Refuses n qubit s.vector outs h
    → ((outs ≡ []) → (es ≡ []) × (r.how ≡ How.NoOutcome)) → ((o : Bool) (rest : List Bool) → outs ≡ o ∷ rest → es ≡ Leaves (project n qubit o s.vector) ∷ []) → HaltsBy n es r s h
refused_at n qubit s r outs es e halt.ShortOutcomes q none one = record { good = subst (AreGood n) (sym (none q).0) (All-nil (IsGood n)); stopped = (none q).1 }
refused_at n qubit s r outs es e halt.Blocked q none one = elim q [ ]
refused_at n qubit s r outs es e (halt.Impossible left) q none one =
    let is = one q.outcome q.rest q.outcomes_are in
    record {
      vector = project n qubit q.outcome s.vector;
      first = record { before = []; after = []; events_are = is; good = All-nil (IsGood n) };
      zero = q.zero;
      counted = omega (arith, q.counted, ap (λ (l : List Bool). length l) (e ∙ q.outcomes_are));
    }
refused_at n qubit s r outs es e (halt.Wide w) q none one = elim q [ ]

pub refused_measured : (n qubit : ℕ) (bit : Option ℕ) (s : State) (h : Halt) → Refuses n qubit s.vector s.outcomes h → HaltsMeasured n qubit bit s h
refused_measured n qubit bit s h q =
    refused_at n qubit s (measured n qubit bit s.outcomes s) s.outcomes (outcome_event n qubit s.vector s.outcomes) refl h q
    (λ e. (ap (outcome_event n qubit s.vector) e, ap (λ (l : List Bool). (measured n qubit bit l s).how) e)) (λ o rest e. ap (outcome_event n qubit s.vector) e)

pub refused_reset : (n qubit : ℕ) (s : State) (h : Halt) → Refuses n qubit s.vector s.outcomes h → HaltsReset n qubit s h
refused_reset n qubit s h q =
    refused_at n qubit s (was_reset n qubit s.outcomes s) s.outcomes (outcome_event n qubit s.vector s.outcomes) refl h q
    (λ e. (ap (outcome_event n qubit s.vector) e, ap (λ (l : List Bool). (was_reset n qubit l s).how) e)) (λ o rest e. ap (outcome_event n qubit s.vector) e)

-- ---- the parts of a statement

-- one level of it is valid
level_of : (n m k : ℕ) (x : Stmt-F Stmt) (s : Stmt) → s ≡ roll-Stmt x → IsValidStmt n m k s → IsValidLevel n m k x
level_of n m k x s e v =
    subst (IsValidLevel n m k) (out-roll-Stmt x) (every_here-Stmt (IsValidLevel n m k) (roll-Stmt x) (subst (IsValidStmt n m k) e v))

pub gate_valid : (n m : ℕ) (s : Stmt) (g : Gate) → s ≡ stmt.Gate g → IsPlayableStmt n m s → IsValidGate n g
gate_valid n m s g e p = level_of n m p.claims (Stmt-F.Gate g) s (e ∙ sym (stmt.rolls-Gate g)) p.valid

pub measure_valid : (n m : ℕ) (s : Stmt) (qubit : ℕ) (bit : Option ℕ) → s ≡ stmt.Measure qubit bit → IsPlayableStmt n m s → (qubit < n) × IsIn m bit
measure_valid n m s qubit bit e p = level_of n m p.claims (Stmt-F.Measure qubit bit) s (e ∙ sym (stmt.rolls-Measure qubit bit)) p.valid

pub reset_valid : (n m : ℕ) (s : Stmt) (qubit : ℕ) → s ≡ stmt.Reset qubit → IsPlayableStmt n m s → qubit < n
reset_valid n m s qubit e p = level_of n m p.claims (Stmt-F.Reset qubit) s (e ∙ sym (stmt.rolls-Reset qubit)) p.valid

pub branch_valid : (n m : ℕ) (s : Stmt) (g : Guard) (when_true when_false : List Stmt) → s ≡ stmt.If g when_true when_false → IsPlayableStmt n m s
    → ArePlayable n m when_true × ArePlayable n m when_false
branch_valid n m s g when_true when_false e p =
    let inside = inside_if (IsValidLevel n m p.claims) g when_true when_false (subst (IsValidStmt n m p.claims) e p.valid) in
    (record { claims = p.claims; valid = All-from_recursion _ when_true inside.1 }, record { claims = p.claims; valid = All-from_recursion _ when_false inside.2 })

neither : (a b : Bool) → (a || b) ≡ false → (a ≡ false) × (b ≡ false)
neither true b e = cc
neither false b e = (refl, e)

pub branch_free : (s : Stmt) (g : Guard) (when_true when_false : List Stmt) → s ≡ stmt.If g when_true when_false → has_loop s ≡ false
    → (list_any has_loop when_true ≡ false) × (list_any has_loop when_false ≡ false)
branch_free s g when_true when_false e free =
    neither _ _ (sym (branch_loops s g when_true when_false e) ∙ free)

pub loop_is_none : (s : Stmt) (g : Guard) (claim : ℕ) (body : List Stmt) (line : ℕ) → s ≡ stmt.While g claim body line → has_loop s ≡ false → ⊥
loop_is_none s g claim body line e free =
    let is : true ≡ false = sym (fold-while Bool loop_step g claim body line) ∙ sym (ap has_loop e) ∙ free in
    cc

-- ---- what a statement gives

-- the events and the run of a statement are these
abbrev Means : ℕ → Stmt → State → List Event → Run → Type 0
Means n x s es r = (es ≡ events_at n x s) × (r ≡ meaning n x s)

plays_by : (n : ℕ) (x : Stmt) (s t : State) (es : List Event) (r : Run) → Means n x s es r → IsPlayed n es r s t → PlaysStmt n x s t
plays_by n x s t es r m p = same_played n es (events_at n x s) r (meaning n x s) s t m.0 m.1 p

halts_by : (n : ℕ) (x : Stmt) (s : State) (h : Halt) (es : List Event) (r : Run) → Means n x s es r → HaltsBy n es r s h → HaltsStmt n x s h
halts_by n x s h es r m p = same_halted n es (events_at n x s) r (meaning n x s) s h m.0 m.1 p

-- from what it is
of_stmt : (n : ℕ) (x y : Stmt) (s : State) (happens : Happens) (m : Meaning) → x ≡ y → events_at n y ≡ happens → meaning n y ≡ m → Means n x s (happens s) (m s)
of_stmt n x y s happens m e f g = (ap (λ (h : Happens). h s) (sym f) ∙ ap (λ (z : Stmt). events_at n z s) (sym e), ap (λ (h : Meaning). h s) (sym g) ∙ ap (λ (z : Stmt). meaning n z s) (sym e))

is_gate : (n : ℕ) (x : Stmt) (g : Gate) (s : State) → x ≡ stmt.Gate g → Means n x s (Plays g s.vector ∷ []) (played_gate n g s)
is_gate n x g s e = of_stmt n x (stmt.Gate g) s (events_step n (Stmt-F.Gate g)) (meaning_step n (Stmt-F.Gate g)) e (para-gate Happens (events_step n) g) (fold-gate Meaning (meaning_step n) g)

is_measure : (n : ℕ) (x : Stmt) (qubit : ℕ) (bit : Option ℕ) (s : State) → x ≡ stmt.Measure qubit bit → Means n x s (outcome_event n qubit s.vector s.outcomes) (measured n qubit bit s.outcomes s)
is_measure n x qubit bit s e =
    of_stmt n x (stmt.Measure qubit bit) s (events_step n (Stmt-F.Measure qubit bit)) (meaning_step n (Stmt-F.Measure qubit bit)) e (para-measure Happens (events_step n) qubit bit)
    (fold-measure Meaning (meaning_step n) qubit bit)

is_reset : (n : ℕ) (x : Stmt) (qubit : ℕ) (s : State) → x ≡ stmt.Reset qubit → Means n x s (outcome_event n qubit s.vector s.outcomes) (was_reset n qubit s.outcomes s)
is_reset n x qubit s e =
    of_stmt n x (stmt.Reset qubit) s (events_step n (Stmt-F.Reset qubit)) (meaning_step n (Stmt-F.Reset qubit)) e (para-reset Happens (events_step n) qubit) (fold-reset Meaning (meaning_step n) qubit)

is_assert : (n : ℕ) (x : Stmt) (claim line : ℕ) (s : State) → x ≡ stmt.Assert claim line → Means n x s [] (passing claim s (ended s))
is_assert n x claim line s e =
    of_stmt n x (stmt.Assert claim line) s (events_step n (Stmt-F.Assert claim line)) (meaning_step n (Stmt-F.Assert claim line)) e (para-assert Happens (events_step n) claim line)
    (fold-assert Meaning (meaning_step n) claim line)

is_assume : (n : ℕ) (x : Stmt) (g : Guard) (s : State) → x ≡ stmt.Assume g → Means n x s [] (cond (has_bit g s.bits) (ended s) (stopped How.Blocked s))
is_assume n x g s e =
    of_stmt n x (stmt.Assume g) s (events_step n (Stmt-F.Assume g)) (meaning_step n (Stmt-F.Assume g)) e (para-assume Happens (events_step n) g) (fold-assume Meaning (meaning_step n) g)

is_branch : (n : ℕ) (x : Stmt) (g : Guard) (when_true when_false : List Stmt) (s : State) → x ≡ stmt.If g when_true when_false
    → Means n x s (cond (has_bit g s.bits) (events n when_true s) (events n when_false s)) (cond (has_bit g s.bits) (run n when_true s) (run n when_false s))
is_branch n x g when_true when_false s e =
    of_stmt n x (stmt.If g when_true when_false) s (λ z. cond (has_bit g z.bits) (events n when_true z) (events n when_false z)) (λ z. cond (has_bit g z.bits) (run n when_true z) (run n when_false z)) e
    (para-if Happens (events_step n) g when_true when_false) (fold-if Meaning (meaning_step n) g when_true when_false)

pub gate_played : (n : ℕ) (x : Stmt) (g : Gate) (s t : State) → x ≡ stmt.Gate g → FitsGate n g s.vector
    → t ≡ record { bits = s.bits; vector = apply_gate n g s.vector; outcomes = s.outcomes; turns = s.turns } → PlaysStmt n x s t
gate_played n x g s t e fits at =
    plays_by n x s t _ _ (is_gate n x g s e)
    (record { good = All-cons (IsGood n) (Plays g s.vector) [] fits (All-nil (IsGood n)); how = refl; last = sym at; counted = omega (arith, ap (λ (z : State). length z.outcomes) at) })

pub gate_halted : (n : ℕ) (x : Stmt) (g : Gate) (s : State) (w : WideSum) → x ≡ stmt.Gate g → IsFirstWide n g s.vector w.left w.right → HaltsStmt n x s (halt.Wide w)
gate_halted n x g s w e wide =
    halts_by n x s (halt.Wide w) _ _ (is_gate n x g s e)
    (record { gate = g; vector = s.vector; first = record { before = []; after = []; events_are = refl; good = All-nil (IsGood n) }; operands = wide })

pub measure_played : (n : ℕ) (x : Stmt) (qubit : ℕ) (bit : Option ℕ) (s t : State) → x ≡ stmt.Measure qubit bit → IsMeasured n qubit bit s t → PlaysStmt n x s t
measure_played n x qubit bit s t e p = plays_by n x s t _ _ (is_measure n x qubit bit s e) p

pub measure_halted : (n : ℕ) (x : Stmt) (qubit : ℕ) (bit : Option ℕ) (s : State) (h : Halt) → x ≡ stmt.Measure qubit bit → HaltsMeasured n qubit bit s h → HaltsStmt n x s h
measure_halted n x qubit bit s h e p = halts_by n x s h _ _ (is_measure n x qubit bit s e) p

pub reset_played : (n : ℕ) (x : Stmt) (qubit : ℕ) (s t : State) → x ≡ stmt.Reset qubit → IsReset n qubit s t → PlaysStmt n x s t
reset_played n x qubit s t e p = plays_by n x s t _ _ (is_reset n x qubit s e) p

pub reset_halted : (n : ℕ) (x : Stmt) (qubit : ℕ) (s : State) (h : Halt) → x ≡ stmt.Reset qubit → HaltsReset n qubit s h → HaltsStmt n x s h
reset_halted n x qubit s h e p = halts_by n x s h _ _ (is_reset n x qubit s e) p

pub stays : (n : ℕ) (s : State) (r : Run) → r.how ≡ How.Ended → r.last ≡ s → IsPlayed n [] r s s
stays n s r h l = record { good = All-nil (IsGood n); how = h; last = l; counted = omega arith }

pub assert_played : (n : ℕ) (x : Stmt) (claim line : ℕ) (s : State) → x ≡ stmt.Assert claim line → PlaysStmt n x s s
assert_played n x claim line s e = plays_by n x s s _ _ (is_assert n x claim line s e) (stays n s _ refl refl)

pub assume_played : (n : ℕ) (x : Stmt) (g : Guard) (s : State) → x ≡ stmt.Assume g → has_bit g s.bits ≡ true → PlaysStmt n x s s
assume_played n x g s e holds =
    plays_by n x s s _ _ (is_assume n x g s e)
    (stays n s _ (ap (λ b. (cond b (ended s) (stopped How.Blocked s)).how) holds) (ap (λ b. (cond b (ended s) (stopped How.Blocked s)).last) holds))

pub assume_halted : (n : ℕ) (x : Stmt) (g : Guard) (s : State) (h : Halt) → x ≡ stmt.Assume g → h ≡ halt.Blocked → has_bit g s.bits ≡ false → HaltsStmt n x s h
assume_halted n x g s h e is fails =
    subst (HaltsStmt n x s) (sym is)
    (halts_by n x s halt.Blocked _ _ (is_assume n x g s e) (record { good = All-nil (IsGood n); stopped = ap (λ b. (cond b (ended s) (stopped How.Blocked s)).how) fails }))

pub branch_played : (n : ℕ) (x : Stmt) (g : Guard) (when_true when_false : List Stmt) (s t : State) (b : Bool) → x ≡ stmt.If g when_true when_false → b ≡ has_bit g s.bits
    → PlaysAll n (cond b when_true when_false) s t → PlaysStmt n x s t
branch_played n x g when_true when_false s t true e is p =
    plays_by n x s t _ _ (is_branch n x g when_true when_false s e)
    (subst (λ (b : Bool). IsPlayed n (cond b (events n when_true s) (events n when_false s)) (cond b (run n when_true s) (run n when_false s)) s t) is p)
branch_played n x g when_true when_false s t false e is p =
    plays_by n x s t _ _ (is_branch n x g when_true when_false s e)
    (subst (λ (b : Bool). IsPlayed n (cond b (events n when_true s) (events n when_false s)) (cond b (run n when_true s) (run n when_false s)) s t) is p)

pub branch_halted : (n : ℕ) (x : Stmt) (g : Guard) (when_true when_false : List Stmt) (s : State) (h : Halt) (b : Bool) → x ≡ stmt.If g when_true when_false → b ≡ has_bit g s.bits
    → HaltsAll n (cond b when_true when_false) s h → HaltsStmt n x s h
branch_halted n x g when_true when_false s h true e is p =
    halts_by n x s h _ _ (is_branch n x g when_true when_false s e)
    (subst (λ (b : Bool). HaltsBy n (cond b (events n when_true s) (events n when_false s)) (cond b (run n when_true s) (run n when_false s)) s h) is p)
branch_halted n x g when_true when_false s h false e is p =
    halts_by n x s h _ _ (is_branch n x g when_true when_false s e)
    (subst (λ (b : Bool). HaltsBy n (cond b (events n when_true s) (events n when_false s)) (cond b (run n when_true s) (run n when_false s)) s h) is p)

-- ---- the flip of a reset

flip_entries : (qubit row column : ℕ) → IsEntry (entry_at (flip_gate qubit).matrix.rows row column)
flip_entries qubit zero zero = tt
flip_entries qubit zero (suc zero) = (omega arith, omega arith)
flip_entries qubit zero (suc (suc column)) = tt
flip_entries qubit (suc zero) zero = (omega arith, omega arith)
flip_entries qubit (suc zero) (suc zero) = tt
flip_entries qubit (suc zero) (suc (suc column)) = tt
flip_entries qubit (suc (suc row)) zero = tt
flip_entries qubit (suc (suc row)) (suc column) = tt

pub flip_valid : (n qubit : ℕ) (g : Gate) → qubit < n → g.controls ≡ [] → g.target ≡ qubit → g.matrix.rows ≡ (flip_gate qubit).matrix.rows → IsValidGate n g
flip_valid n qubit g lt none at rows =
    valid_alone n g none (λ row column. subst (λ (m : List (List Entry)). IsEntry (entry_at m row column)) (sym rows) (flip_entries qubit row column)) (omega (arith, at, lt))

-- ---- the statements of a branch

pub yes_playable : (n m : ℕ) (s : Stmt) (g : Guard) (a b l : List Stmt) → s ≡ stmt.If g a b → l ≡ a → IsPlayableStmt n m s → ArePlayable n m l
yes_playable n m s g a b l e f p = subst (ArePlayable n m) (sym f) (branch_valid n m s g a b e p).0

pub no_playable : (n m : ℕ) (s : Stmt) (g : Guard) (a b l : List Stmt) → s ≡ stmt.If g a b → l ≡ b → IsPlayableStmt n m s → ArePlayable n m l
no_playable n m s g a b l e f p = subst (ArePlayable n m) (sym f) (branch_valid n m s g a b e p).1

pub yes_free : (s : Stmt) (g : Guard) (a b l : List Stmt) → s ≡ stmt.If g a b → l ≡ a → has_loop s ≡ false → list_any has_loop l ≡ false
yes_free s g a b l e f free = ap (λ (x : List Stmt). list_any has_loop x) f ∙ (branch_free s g a b e free).0

pub no_free : (s : Stmt) (g : Guard) (a b l : List Stmt) → s ≡ stmt.If g a b → l ≡ b → has_loop s ≡ false → list_any has_loop l ≡ false
no_free s g a b l e f free = ap (λ (x : List Stmt). list_any has_loop x) f ∙ (branch_free s g a b e free).1

-- ---- steps of the code

pub ok_gives : {T E : Type 0} {P Q : T → Type 0} (r : Result T E) → IfOk r P → ((x : T) → P x → Q x) → IfOk r Q
ok_gives (Ok x) h f = f x h
ok_gives (Err e) h f = tt

pub err_gives : {T E : Type 0} {P Q : E → Type 0} (r : Result T E) → IfErr r P → ((x : E) → P x → Q x) → IfErr r Q
err_gives (Ok x) h f = tt
err_gives (Err e) h f = f e h

-- the branch that is taken has these statements
pub branch_plays : (n : ℕ) (x : Stmt) (g : Guard) (a b l : List Stmt) (s t : State) (bit : Bool) → x ≡ stmt.If g a b → bit ≡ has_bit g s.bits → l ≡ cond bit a b
    → PlaysAll n l s t → PlaysStmt n x s t
branch_plays n x g a b l s t bit e is at p = branch_played n x g a b s t bit e is (subst (λ (z : List Stmt). PlaysAll n z s t) at p)

pub branch_halts : (n : ℕ) (x : Stmt) (g : Guard) (a b l : List Stmt) (s : State) (h : Halt) (bit : Bool) → x ≡ stmt.If g a b → bit ≡ has_bit g s.bits → l ≡ cond bit a b
    → HaltsAll n l s h → HaltsStmt n x s h
branch_halts n x g a b l s h bit e is at p = branch_halted n x g a b s h bit e is (subst (λ (z : List Stmt). HaltsAll n z s h) at p)

cut_at : (i : ℕ) (body : List Stmt) (d : Stmt) → i < length body → drop i body ≡ get_or body i d ∷ drop (i + 1) body
cut_at i body d h = drop-cons body i d h ∙ ap (λ (k : ℕ). get_or body i d ∷ drop k body) (sym (add-one i))

-- the next statement is played
pub leads_next : (n : ℕ) (body : List Stmt) (s : State) (i : ℕ) (d x : Stmt) (t u : State) → i < length body → x ≡ get_or body i d → LeadsOn n body s (drop i body) t
    → PlaysStmt n x t u → LeadsOn n body s (drop (i + 1) body) u
leads_next n body s i d x t u h e on p =
    leads_past n body s (get_or body i d) (drop (i + 1) body) t u (subst (λ (l : List Stmt). LeadsOn n body s l t) (cut_at i body d h) on) (subst (λ (z : Stmt). PlaysStmt n z t u) e p)

-- the next statement halts
pub leads_stop : (n : ℕ) (body : List Stmt) (s : State) (i : ℕ) (d x : Stmt) (t : State) (h : Halt) → i < length body → x ≡ get_or body i d → LeadsOn n body s (drop i body) t
    → HaltsStmt n x t h → HaltsAll n body s h
leads_stop n body s i d x t h lt e on p =
    leads_halted n body s (get_or body i d) (drop (i + 1) body) t h (subst (λ (l : List Stmt). LeadsOn n body s l t) (cut_at i body d lt) on) (subst (λ (z : Stmt). HaltsStmt n z t h) e p)

-- ---- how many statements there are, inner ones included

abbrev total : List ℕ → ℕ
total [] = 0
total (k ∷ ks) = k + total ks

abbrev weight_step : Stmt-F ℕ → ℕ
weight_step (Stmt-F.Gate gate) = 1
weight_step (Stmt-F.Measure qubit bit) = 1
weight_step (Stmt-F.Reset qubit) = 1
weight_step (Stmt-F.If guard when_true when_false) = 1 + (total when_true + total when_false)
weight_step (Stmt-F.While guard claim body line) = 1
weight_step (Stmt-F.Assert claim line) = 1
weight_step (Stmt-F.Assume guard) = 1

abbrev pub weight : Stmt → ℕ
weight = fold-Stmt ℕ weight_step

abbrev pub weight_of : List Stmt → ℕ
weight_of [] = 0
weight_of (s ∷ body) = weight s + weight_of body

weight_is : (body : List Stmt) → total (map weight body) ≡ weight_of body
weight_is [] = refl
weight_is (s ∷ body) = ap (λ k. weight s + k) (weight_is body)

pub branch_weight : (s : Stmt) (g : Guard) (a b : List Stmt) → s ≡ stmt.If g a b → weight s ≡ 1 + (weight_of a + weight_of b)
branch_weight s g a b e = ap weight e ∙ fold-if ℕ weight_step g a b ∙ ap₂ (λ x y. 1 + (x + y)) (weight_is a) (weight_is b)

pub weight_at : (i : ℕ) (body : List Stmt) (d : Stmt) → i < length body → weight (get_or body i d) ≤ weight_of body
weight_at i [] d h = absurd (omega (arith, h))
weight_at zero (s ∷ body) d h = omega arith
weight_at (suc i) (s ∷ body) d h = let below = weight_at i body d (omega (arith, h)) in omega arith

-- ---- the next statement of a body

none_at : (i : ℕ) (body : List Stmt) (d : Stmt) → i < length body → list_any has_loop body ≡ false → has_loop (get_or body i d) ≡ false
none_at i [] d h e = absurd (omega (arith, h))
none_at zero (s ∷ body) d h e = (neither (has_loop s) (list_any has_loop body) e).0
none_at (suc i) (s ∷ body) d h e = none_at i body d (omega (arith, h)) (neither (has_loop s) (list_any has_loop body) e).1

pub next_free : (i : ℕ) (body : List Stmt) (d x : Stmt) → i < length body → x ≡ get_or body i d → list_any has_loop body ≡ false → has_loop x ≡ false
next_free i body d x h e free = ap has_loop e ∙ none_at i body d h free

pub next_playable : (n m p q i : ℕ) (body : List Stmt) (d x : Stmt) → i < length body → x ≡ get_or body i d → p ≡ n → q ≡ m → ArePlayable n m body → IsPlayableStmt p q x
next_playable n m p q i body d x h e same_n same_m all =
    let here : IsValidStmt n m all.claims x = subst (IsValidStmt n m all.claims) (sym e) (all.valid i d h) in
    record { claims = all.claims; valid = subst (λ (k : ℕ). IsValidStmt k q all.claims x) (sym same_n) (subst (λ (k : ℕ). IsValidStmt n k all.claims x) (sym same_m) here) }

pub next_weight : (i : ℕ) (body : List Stmt) (d x : Stmt) → i < length body → x ≡ get_or body i d → weight x ≤ weight_of body
next_weight i body d x h e = let same = ap weight e in let below = weight_at i body d h in omega arith

-- it is played with the program's number of qubits, by another name
pub same_qubits : (p n : ℕ) (x : Stmt) (s t : State) → p ≡ n → PlaysStmt p x s t → PlaysStmt n x s t
same_qubits p n x s t e h = subst (λ (k : ℕ). PlaysStmt k x s t) e h

pub same_halts : (p n : ℕ) (x : Stmt) (s : State) (a : Halt) → p ≡ n → HaltsStmt p x s a → HaltsStmt n x s a
same_halts p n x s a e h = subst (λ (k : ℕ). HaltsStmt k x s a) e h

-- ---- what the replay tells of it

pub left_over : (n : ℕ) (body : List Stmt) (v : List Amplitude) (bits b outs left : List Bool) (t : State) → b ≡ bits → t.outcomes ≡ left → 0 < length left
    → PlaysAll n body (start_of b v outs) t → (x : ℕ) × (length left ≡ suc x) × HasLeft n body (start_of bits v outs) x
left_over n body v bits b outs [] t e at some p = absurd (omega (arith, some))
left_over n body v bits b outs (o ∷ rest) t e at some p =
    let q : PlaysAll n body (start_of bits v outs) t = subst (λ (l : List Bool). PlaysAll n body (start_of l v outs) t) e p in
    (length rest, refl, record { good = q.good; how = q.how; many = ap (λ (z : State). length z.outcomes) q.last ∙ ap (λ (l : List Bool). length l) at })

pub stops_so : (n : ℕ) (body : List Stmt) (v : List Amplitude) (bits b outs : List Bool) (h : Halt) (told : ReplayStop) → b ≡ bits → list_any has_loop body ≡ false
    → HaltsAll n body (start_of b v outs) h → told ≡ stop_of (length outs) h → Replays n body (start_of bits v outs) (Err told)
stops_so n body v bits b outs h told e free p is =
    subst (λ (z : ReplayStop). Replays n body (start_of bits v outs) (Err z)) (sym is) (by_halt h (subst (λ (l : List Bool). HaltsAll n body (start_of l v outs) h) e p))
  where
    by_halt : (h : Halt) → HaltsAll n body (start_of bits v outs) h → Replays n body (start_of bits v outs) (Err (stop_of (length outs) h))
    by_halt halt.ShortOutcomes q = (free, record { good = q.good; stopped = q.stopped })
    by_halt halt.Blocked q = (free, record { good = q.good; stopped = q.stopped })
    by_halt (halt.Impossible left) q = (free, record { left = q.vector; first = q.first; zero = q.zero; counted = omega (arith, q.counted) })
    by_halt (halt.Wide w) q = (free, q)
