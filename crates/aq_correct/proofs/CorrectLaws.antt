-- Where every obligation is true, the program is correct: by induction over its statements, and over the turns of its loops.
use Rattle.std.proofs.Common.{◌≡◌, ℕ, zero, suc, ◌<◌, Bool, true, false, not, cond, List, [], ◌∷◌, ◌++◌, map, length, All, Any, Option, Some, None, IfSome, slice_get, slice_index_or, ⊎_elim, refl, ap, sym, ◌∙◌, subst, append_assoc, append-nil}
use Rattle.std.specs.List.{AllByRecursion}
use Rattle.std.specs.Option.{option_map_or}
use Rattle.std.proofs.lemmas.List.Elements.{All-from_recursion, recursion_from_All}
use Rattle.aq_ring.specs.Fractions.{Amplitude}
use Rattle.aq_ring.specs.Vectors.{IsZeroVector, Proportional}
use Rattle.aq_ring.proofs.ProportionalLaws.{proportional-equivalence, proportional-keeps}
use Rattle.aq_prog.specs.Programs.{IsValidLevel, IsValidStmt}
use Rattle.aq_prog.specs.Runs.{State, Run, How, Passed, Played, Meaning, ended, stopped, joined, then_go, has_bit, passing, one_turn, looped, meaning, meaning_step, run}
use Rattle.aq_prog.specs.declared.stmt.Guard.{Guard}
use Rattle.aq_prog.specs.declared.stmt.Stmt.{Stmt}
use Rattle.aq_prog.specs.declared.stmt.Stmt.TheVariants as stmt
use Rattle.aq_obligations.specs.Claims.{ClaimCase, Holds}
use Rattle.aq_obligations.specs.Correct.{IsCorrect, PassedHolds, zeros}
use Rattle.aq_prog.specs.Cuts.{has_cut, cut_step, AreUncut}
use Rattle.aq_obligations.specs.Obligations.{IsTrueOf}
use Rattle.aq_obligations.specs.Owing.{Here, Owed, Debt, opposite, fresh, further, owed, at_end, owed_by_branch, owed_by_loop, owes, owes_all, claim_at, obligations, obligation_of, annotated_by}
use Rattle.aq_correct.specs.OwingLaws.{TrueThenCorrect}
use Rattle.aq_obligations.specs.declared.kind.Kind.{Kind}
use Rattle.aq_obligations.specs.declared.kind.Kind.TheVariants as kinds
use Rattle.aq_correct.proofs.StmtLaws.{fold-gate, fold-measure, fold-reset, fold-if, fold-while, fold-assert, fold-assume, by_induction}
use Rattle.aq_correct.proofs.Elements.{get_within}
use Rattle.aq_correct.proofs.ZeroTests.{zero_or_not}
use Rattle.aq_prog.proofs.InsideLaws.{inside_if, inside_while}
use Rattle.aq_correct.proofs.FragmentLaws.{statement-silent}
use Rattle.aq_correct.proofs.OwingProofs.{owes-loop, owes-assert, owes-branch, owes-plain, assume_uncut, further_uncut}
use Rattle.aq_correct.proofs.TameLaws.{Tame, IsZeroPassed, tame-body, tame-then, tame-stopped, both_ended, go_on, local-body}
use Rattle.aq_correct.proofs.ZeroBits.{zeros_sized, zero_at}

-- ---- runs in parts
then_joined_run : (r : Run) (rest : Meaning) (how : How) (last : State) (ps : List Passed) (gs : List Played)
    → then_go (joined r (record { how = how; last = last; passed = ps; played = gs })) rest ≡ joined r (then_go (record { how = how; last = last; passed = ps; played = gs }) rest)
then_joined_run r rest How.Ended last ps gs = λ i. record {
  how = (rest last).how;
  last = (rest last).last;
  passed = append_assoc r.passed ps (rest last).passed i;
  played = append_assoc r.played gs (rest last).played i;
}
then_joined_run r rest How.Blocked last ps gs = refl
then_joined_run r rest How.NoOutcome last ps gs = refl
then_joined_run r rest How.NoTurn last ps gs = refl

then_twice_run : (f rest : Meaning) (how : How) (last : State) (ps : List Passed) (gs : List Played)
    → then_go (then_go (record { how = how; last = last; passed = ps; played = gs }) f) rest ≡ then_go (record { how = how; last = last; passed = ps; played = gs }) (λ t. then_go (f t) rest)
then_twice_run f rest How.Ended last ps gs = then_joined_run (record { how = How.Ended; last = last; passed = ps; played = gs }) rest (f last).how (f last).last (f last).passed (f last).played
then_twice_run f rest How.Blocked last ps gs = refl
then_twice_run f rest How.NoOutcome last ps gs = refl
then_twice_run f rest How.NoTurn last ps gs = refl

then_twice : (r : Run) (f rest : Meaning) → then_go (then_go r f) rest ≡ then_go r (λ t. then_go (f t) rest)
then_twice r f rest = then_twice_run f rest r.how r.last r.passed r.played

then_ended_run : (how : How) (last : State) (ps : List Passed) (gs : List Played) → then_go (record { how = how; last = last; passed = ps; played = gs }) ended ≡ record { how = how; last = last; passed = ps; played = gs }
then_ended_run How.Ended last ps gs = λ i. record { how = How.Ended; last = last; passed = append-nil ps i; played = append-nil gs i }
then_ended_run How.Blocked last ps gs = refl
then_ended_run How.NoOutcome last ps gs = refl
then_ended_run How.NoTurn last ps gs = refl

then_ended : (r : Run) → then_go r ended ≡ r
then_ended r = then_ended_run r.how r.last r.passed r.played

-- a statement behind others that have ended
record OneMore (n : ℕ) (xs : List Stmt) (x : Stmt) (s : State) : Type 0 where
  how : (run n (xs ++ x ∷ []) s).how ≡ How.Ended
  last : (run n (xs ++ x ∷ []) s).last ≡ (meaning n x (run n xs s).last).last

run_more : (n : ℕ) (xs : List Stmt) (x : Stmt) (s : State) → (run n xs s).how ≡ How.Ended → (meaning n x (run n xs s).last).how ≡ How.Ended → OneMore n xs x s
run_more n [] x s e f = let is = then_ended (meaning n x s) in record { how = ap (λ (r : Run). r.how) is ∙ f; last = ap (λ (r : Run). r.last) is }
run_more n (y ∷ xs) x s e f =
    let b = both_ended (meaning n y s) (run n xs) e in
    let same : (then_go (meaning n y s) (run n xs)).last ≡ (run n xs (meaning n y s).last).last = ap (λ (r : Run). r.last) b.is in
    let m = run_more n xs x (meaning n y s).last b.second (ap (λ (t : State). (meaning n x t).how) (sym same) ∙ f) in
    let is = go_on (meaning n y s) (run n (xs ++ x ∷ [])) b.first in
    record { how = ap (λ (r : Run). r.how) is ∙ m.how; last = ap (λ (r : Run). r.last) is ∙ m.last ∙ ap (λ (t : State). (meaning n x t).last) (sym same) }

-- ---- claims
any_proportional : (vs : List (List Amplitude)) (u v : List Amplitude) → Proportional u v → Any (λ w. Proportional v w) vs → Any (λ w. Proportional u w) vs
any_proportional vs u v p a = (a.0, a.1, a.2, a.3, proportional-equivalence.transitive u v a.1 p a.4)

-- a claim holds of every nonzero multiple
holds_proportional : (cases : List ClaimCase) (bits : List Bool) (u v : List Amplitude) → Proportional u v → Holds cases bits v → Holds cases bits u
holds_proportional cases bits u v p h = (h.0, h.1, h.2, h.3, (h.4.0, any_proportional h.1.vectors u v p h.4.1))

has_opposite : (g : Guard) (bits : List Bool) → g.bit < length bits → has_bit g bits ≡ false → has_bit (opposite g) bits ≡ true
has_opposite g bits lt e = let x = get_within bits g.bit lt in by_value x.0 x.1
  where
    turned : (value b : Bool) → cond value b (not b) ≡ false → cond (not value) b (not b) ≡ true
    turned true true f = cc
    turned true false f = refl
    turned false true f = refl
    turned false false f = cc

    by_value : (b : Bool) → slice_get bits g.bit ≡ Some b → has_bit (opposite g) bits ≡ true
    by_value b is =
        ap (λ (x : Option Bool). option_map_or (λ (c : Bool). cond (not g.value) c (not c)) x false) is
        ∙ turned g.value b (ap (λ (x : Option Bool). option_map_or (λ (c : Bool). cond g.value c (not c)) x false) (sym is) ∙ e)

not_ended : {A : Type 0} → How.NoTurn ≡ How.Ended → A
not_ended e = cc

not_ended_blocked : {A : Type 0} → How.Blocked ≡ How.Ended → A
not_ended_blocked e = cc

not_ended_outcome : {A : Type 0} → How.NoOutcome ≡ How.Ended → A
not_ended_outcome e = cc

module _ (B : Type 0) (n m k : ℕ) (case : B → ClaimCase) (products : List B → List (Amplitude × Amplitude)) (claims : List (List B)) where
  abbrev IsTrueOwed : Owed B → Type 0
  IsTrueOwed d = IsTrueOf (obligation_of n m case products d)

  -- a claim that a run passed
  abbrev IsMet : Passed → Type 0
  IsMet p = (IsZeroVector p.vector → ⊥) → Holds (map case (claim_at claims p.claim)) p.bits p.vector

  -- the state is one from which a fragment may start, or a nonzero multiple
  record IsAt (h : Here B) (bits : List Bool) (v : List Amplitude) : Type 0 where
    sized : length bits ≡ m
    holds : Holds (map case h.from) bits v
    given : IfSome h.given (λ g. has_bit g bits ≡ true)
    zero : h.start ≡ true → All (λ b. b ≡ false) bits

  -- the run meets each claim that it passes, and ends, if it does, in the goal
  record Fine (goal : List B) (r : Run) : Type 0 where
    passed : AllByRecursion IsMet r.passed
    ends : r.how ≡ How.Ended → (IsZeroVector r.last.vector → ⊥) → Holds (map case goal) r.last.bits r.last.vector

  -- and goes on well where it has ended
  record Leads (goal : List B) (rest : Meaning) (r : Run) : Type 0 where
    passed : AllByRecursion IsMet r.passed
    ends : r.how ≡ How.Ended → Fine goal (rest r.last)

  each_join : (ps qs : List Passed) → AllByRecursion IsMet ps → AllByRecursion IsMet qs → AllByRecursion IsMet (ps ++ qs)
  each_join [] qs h k = k
  each_join (p ∷ ps) qs h k = (h.0, each_join ps qs h.1 k)

  each_zero : (ps : List Passed) → AllByRecursion IsZeroPassed ps → AllByRecursion IsMet ps
  each_zero [] h = tt
  each_zero (p ∷ ps) h = ((λ some. absurd (some h.0)), each_zero ps h.1)

  fine_zero : (goal : List B) (rest : Meaning) → Tame rest → (s : State) → IsZeroVector s.vector → Fine goal (rest s)
  fine_zero goal rest t s z = record { passed = each_zero (rest s).passed ((t s).zero_passed z); ends = λ e some. absurd (some ((t s).zero_end z)) }

  leads_zero : (goal : List B) (rest f : Meaning) → Tame rest → Tame f → (s : State) → IsZeroVector s.vector → Leads goal rest (f s)
  leads_zero goal rest f t u s z = record { passed = each_zero (f s).passed ((u s).zero_passed z); ends = λ e. fine_zero goal rest t (f s).last ((u s).zero_end z) }

  fine_then_run : (goal : List B) (rest : Meaning) (how : How) (last : State) (ps : List Passed) (gs : List Played) → Leads goal rest (record { how = how; last = last; passed = ps; played = gs })
      → Fine goal (then_go (record { how = how; last = last; passed = ps; played = gs }) rest)
  fine_then_run goal rest How.Ended last ps gs l = let f = l.ends refl in record { passed = each_join ps (rest last).passed l.passed f.passed; ends = f.ends }
  fine_then_run goal rest How.Blocked last ps gs l = record { passed = l.passed; ends = λ e. not_ended_blocked e }
  fine_then_run goal rest How.NoOutcome last ps gs l = record { passed = l.passed; ends = λ e. not_ended_outcome e }
  fine_then_run goal rest How.NoTurn last ps gs l = record { passed = l.passed; ends = λ e. not_ended e }

  fine_then : (goal : List B) (rest : Meaning) (r : Run) → Leads goal rest r → Fine goal (then_go r rest)
  fine_then goal rest r l = fine_then_run goal rest r.how r.last r.passed r.played l

  leads_then_run : (goal : List B) (rest next : Meaning) (how : How) (last : State) (ps : List Passed) (gs : List Played) → AllByRecursion IsMet ps → (how ≡ How.Ended → Leads goal rest (next last))
      → Leads goal rest (then_go (record { how = how; last = last; passed = ps; played = gs }) next)
  leads_then_run goal rest next How.Ended last ps gs h f = let l = f refl in record { passed = each_join ps (next last).passed h l.passed; ends = l.ends }
  leads_then_run goal rest next How.Blocked last ps gs h f = record { passed = h; ends = λ e. not_ended_blocked e }
  leads_then_run goal rest next How.NoOutcome last ps gs h f = record { passed = h; ends = λ e. not_ended_outcome e }
  leads_then_run goal rest next How.NoTurn last ps gs h f = record { passed = h; ends = λ e. not_ended e }

  leads_then : (goal : List B) (rest next : Meaning) (r : Run) → AllByRecursion IsMet r.passed → (r.how ≡ How.Ended → Leads goal rest (next r.last)) → Leads goal rest (then_go r next)
  leads_then goal rest next r h f = leads_then_run goal rest next r.how r.last r.passed r.played h f

  -- ---- a true obligation serves every nonzero multiple, whatever outcomes and turns are left
  use_owed : (h : Here B) (kind : Kind) (line : ℕ) (goal : List B) → AreUncut h.fragment → IsTrueOwed (owed kind line goal h) → (s : State) → IsAt h s.bits s.vector → (run n h.fragment s).how ≡ How.Ended
      → (IsZeroVector (run n h.fragment s).last.vector → ⊥) → Holds (map case goal) (run n h.fragment s).last.bits (run n h.fragment s).last.vector
  use_owed h kind line goal u holds s at e some =
      let c : ClaimCase = at.holds.1 in
      let listed = at.holds.4.1 in
      let w : List Amplitude = listed.1 in
      let local = local-body n h.fragment u s e in
      let start : State = record { bits = s.bits; vector = w; outcomes = local.taken; turns = 0 } in
      let a = local.again start [] refl listed.4 (sym (append-nil local.taken)) in
      let end : Run = run n h.fragment start in
      let nonzero : IsZeroVector end.last.vector → ⊥ = λ z. some (proportional-keeps.zero_together end.last.vector (run n h.fragment s).last.vector
      (proportional-equivalence.symmetric (run n h.fragment s).last.vector end.last.vector a.vector) z) in
      let held : Holds (map case goal) end.last.bits end.last.vector = holds s.bits w local.taken
      (record { sized = at.sized; listed = (at.holds.0, c, at.holds.2, at.holds.3, (at.holds.4.0, (listed.0, listed.2, listed.3))); given = at.given; zeros = at.zero }) (a.how, a.outcomes) nonzero in
      holds_proportional (map case goal) (run n h.fragment s).last.bits (run n h.fragment s).last.vector end.last.vector a.vector
      (subst (λ (b : List Bool). Holds (map case goal) b end.last.vector) a.bits held)

  -- ---- what is owed serves what is run
  abbrev AllTrue : List (Owed B) → Type 0
  AllTrue ds = AllByRecursion IsTrueOwed ds

  Serves : List B → Meaning → Debt B → Type 0
  Serves goal rest debt = (h : Here B) → AreUncut h.fragment → AllTrue (debt h) → (s : State) → IsAt h s.bits s.vector → (run n h.fragment s).how ≡ How.Ended → Fine goal (rest (run n h.fragment s).last)

  at_end_serves : (kind : Kind) (line : ℕ) (goal : List B) → Serves goal ended (at_end kind line goal)
  unfolding Serves
  at_end_serves kind line goal h u t s at e = record { passed = tt; ends = λ f some. use_owed h kind line goal u t.0 s at e some }

  abbrev IsServed : Stmt → Type 0
  IsServed s = IsValidStmt n m k s → (goal : List B) (rest : Meaning) (debt : Debt B) → Tame rest → Serves goal rest debt → Serves goal (λ t. then_go (meaning n s t) rest) (owes (claim_at claims) s debt)

  abbrev AreValid : List Stmt → Type 0
  AreValid body = AllByRecursion (IsValidStmt n m k) body

  serves_all : (body : List Stmt) → AllByRecursion IsServed body → AreValid body → (goal : List B) (rest : Meaning) (debt : Debt B) → Tame rest → Serves goal rest debt
      → Serves goal (λ t. then_go (run n body t) rest) (owes_all (claim_at claims) body debt)
  unfolding Serves
  serves_all [] h v goal rest debt t d = d
  serves_all (s ∷ body) h v goal rest debt t d = λ here u ds st at e.
      subst (Fine goal) (sym (then_twice (meaning n s (run n here.fragment st).last) (run n body) rest))
      (h.0 v.0 goal (λ q. then_go (run n body q) rest) (owes_all (claim_at claims) body debt) (λ q. tame-then q (run n body q) rest (tame-body n body q) t)
      (serves_all body h.1 v.1 goal rest debt t d) here u ds st at e)

  -- ---- statements without a cut
  serves_plain : (s : Stmt) → has_cut s ≡ false → IsServed s
  unfolding Serves
  serves_plain s c v goal rest debt t d = λ h u ds st at e.
      let l : State = (run n h.fragment st).last in
      fine_then goal rest (meaning n s l) (record {
        passed = subst (AllByRecursion IsMet) (sym (statement-silent n s c l)) tt;
        ends = λ f.
            let one = run_more n h.fragment s st e f in
            subst (λ (q : State). Fine goal (rest q)) one.last
            (d (further s h) (further_uncut h.fragment s u c) (subst AllTrue (owes-plain B (claim_at claims) s c debt h) ds) st (record { sized = at.sized; holds = at.holds; given = at.given; zero = at.zero }) one.how);
      })

  -- ---- assertions
  -- behind a claim, as at a fresh start from it
  fresh_serves : (claim : List B) (given : Option Guard) (goal : List B) (rest : Meaning) (debt : Debt B) → Tame rest → Serves goal rest debt → AllTrue (debt (fresh claim given)) → (l : State) → length l.bits ≡ m
      → ((IsZeroVector l.vector → ⊥) → Holds (map case claim) l.bits l.vector) → IfSome given (λ g. has_bit g l.bits ≡ true) → Fine goal (rest l)
  unfolding Serves
  fresh_serves claim given goal rest debt t d ds l sized met known = ⊎_elim
      (λ z. fine_zero goal rest t l z)
      (λ some. d (fresh claim given) refl ds l (record { sized = sized; holds = met some; given = known; zero = λ f. false_true f }) refl)
      (zero_or_not l.vector)
    where
      false_true : {A : Type 0} → ◌≡◌ {A = Bool} false true → A
      false_true f = cc

  fragment_sized : (h : Here B) (st : State) → length st.bits ≡ m → length (run n h.fragment st).last.bits ≡ m
  fragment_sized h st e = (tame-body n h.fragment st).bits ∙ e

  assert_run : ℕ → Meaning
  assert_run claim l = passing claim l (ended l)

  serves_assert : (claim line : ℕ) → IsServed (stmt.Assert claim line)
  unfolding Serves
  serves_assert claim line v goal rest debt t d = λ h u ds st at e.
      let l : State = (run n h.fragment st).last in
      let all : AllTrue (owed kinds.Assert line (claim_at claims claim) h ∷ debt (fresh (claim_at claims claim) None)) = subst AllTrue (owes-assert B (claim_at claims) claim line debt h) ds in
      let met : (IsZeroVector l.vector → ⊥) → Holds (map case (claim_at claims claim)) l.bits l.vector = λ some. use_owed h kinds.Assert line (claim_at claims claim) u all.0 st at e some in
      subst (λ (q : Meaning). Fine goal (then_go (q l) rest)) (sym (fold-assert Meaning (meaning_step n) claim line))
      (fine_then goal rest (passing claim l (ended l)) (record {
        passed = (met, tt);
        ends = λ f. fresh_serves (claim_at claims claim) None goal rest debt t d all.1 l (fragment_sized h st at.sized) met tt;
      }))

  -- ---- branches
  each_left : (ds es : List (Owed B)) → AllTrue (ds ++ es) → AllTrue ds
  each_left [] es h = tt
  each_left (x ∷ ds) es h = (h.0, each_left ds es h.1)

  each_right : (ds es : List (Owed B)) → AllTrue (ds ++ es) → AllTrue es
  each_right [] es h = h
  each_right (x ∷ ds) es h = each_right ds es h.1

  -- a branch, from where its guard is assumed
  assumed_serves : (g : Guard) (inner : List Stmt) (goal : List B) (rest : Meaning) (debt : Debt B) → Serves goal (λ t. then_go (run n inner t) rest) (owes_all (claim_at claims) inner debt)
      → (h : Here B) → AreUncut h.fragment → AllTrue (owes_all (claim_at claims) inner debt (further (stmt.Assume g) h)) → (st : State) → IsAt h st.bits st.vector → (run n h.fragment st).how ≡ How.Ended
      → has_bit g (run n h.fragment st).last.bits ≡ true → Fine goal (then_go (run n inner (run n h.fragment st).last) rest)
  unfolding Serves
  assumed_serves g inner goal rest debt d h u ds st at e bit =
      let l : State = (run n h.fragment st).last in
      let is : meaning n (stmt.Assume g) l ≡ ended l =
      ap (λ (q : Meaning). q l) (fold-assume Meaning (meaning_step n) g) ∙ ap (λ (b : Bool). cond b (ended l) (stopped How.Blocked l)) bit in
      let one = run_more n h.fragment (stmt.Assume g) st e (ap (λ (r : Run). r.how) is) in
      subst (λ (q : State). Fine goal (then_go (run n inner q) rest)) (one.last ∙ ap (λ (r : Run). r.last) is)
      (d (further (stmt.Assume g) h) (further_uncut h.fragment (stmt.Assume g) u (assume_uncut B (claim_at claims) g)) ds st
      (record { sized = at.sized; holds = at.holds; given = at.given; zero = at.zero }) one.how)

  cut_serves : (g : Guard) (when_true when_false : List Stmt) → has_cut (stmt.If g when_true when_false) ≡ true → AllByRecursion IsServed when_true → AllByRecursion IsServed when_false → IsServed (stmt.If g when_true when_false)
  unfolding Serves
  cut_serves g when_true when_false c hy hz v goal rest debt t d = λ h u ds st at e.
      let l : State = (run n h.fragment st).last in
      let inside = inside_if (IsValidLevel n m k) g when_true when_false v in
      let all : AllTrue (owed_by_branch g (owes_all (claim_at claims) when_true) (owes_all (claim_at claims) when_false) debt h) = subst AllTrue (owes-branch B (claim_at claims) g when_true when_false debt h c) ds in
      let first : List (Owed B) = owes_all (claim_at claims) when_true debt (further (stmt.Assume g) h) in
      let second : List (Owed B) = owes_all (claim_at claims) when_false debt (further (stmt.Assume (opposite g)) h) in
      subst (λ (q : Meaning). Fine goal (then_go (q l) rest)) (sym (fold-if Meaning (meaning_step n) g when_true when_false))
      (by_bit goal rest l (has_bit g l.bits) refl
      (λ bit. assumed_serves g when_true goal rest debt (serves_all when_true hy inside.1 goal rest debt t d) h u (each_left first second all) st at e bit)
      (λ bit. assumed_serves (opposite g) when_false goal rest debt (serves_all when_false hz inside.2 goal rest debt t d) h u (each_right first second all) st at e
      (has_opposite g l.bits (subst (λ (k : ℕ). g.bit < k) (sym (fragment_sized h st at.sized)) inside.0) bit)))
    where
      by_bit : (goal : List B) (rest : Meaning) (l : State) (b : Bool) → has_bit g l.bits ≡ b → (has_bit g l.bits ≡ true → Fine goal (then_go (run n when_true l) rest)) → (has_bit g l.bits ≡ false → Fine goal (then_go (run n when_false l) rest))
          → Fine goal (then_go (cond (has_bit g l.bits) (run n when_true l) (run n when_false l)) rest)
      by_bit goal rest l true is f k = subst (λ (b : Bool). Fine goal (then_go (cond b (run n when_true l) (run n when_false l)) rest)) (sym is) (f is)
      by_bit goal rest l false is f k = subst (λ (b : Bool). Fine goal (then_go (cond b (run n when_true l) (run n when_false l)) rest)) (sym is) (k is)

  serves_branch : (g : Guard) (when_true when_false : List Stmt) → AllByRecursion IsServed when_true → AllByRecursion IsServed when_false → IsServed (stmt.If g when_true when_false)
  serves_branch g when_true when_false hy hz = by_test (has_cut (stmt.If g when_true when_false)) refl
    where
      by_test : (b : Bool) → has_cut (stmt.If g when_true when_false) ≡ b → IsServed (stmt.If g when_true when_false)
      by_test false c = serves_plain (stmt.If g when_true when_false) c
      by_test true c = cut_serves g when_true when_false c hy hz

  -- ---- loops
  leads_cond : (goal : List B) (rest : Meaning) (b : Bool) (r q : Run) → (b ≡ true → Leads goal rest r) → (b ≡ false → Leads goal rest q) → Leads goal rest (cond b r q)
  leads_cond goal rest true r q f g = f refl
  leads_cond goal rest false r q f g = g refl

  leads_passing : (goal : List B) (rest : Meaning) (claim : ℕ) (s : State) (r : Run) → ((IsZeroVector s.vector → ⊥) → Holds (map case (claim_at claims claim)) s.bits s.vector) → Leads goal rest r → Leads goal rest (passing claim s r)
  leads_passing goal rest claim s r met l = record { passed = (met, l.passed); ends = l.ends }

  -- what a turn of the loop's body comes to
  abbrev KeepsClaim : ℕ → Guard → Meaning → Type 0
  KeepsClaim claim g body = (s : State) → length s.bits ≡ m → ((IsZeroVector s.vector → ⊥) → Holds (map case (claim_at claims claim)) s.bits s.vector) → has_bit g s.bits ≡ true → Fine (claim_at claims claim) (body s)

  -- and what is behind the loop
  abbrev GoesOn : ℕ → Guard → List B → Meaning → Type 0
  GoesOn claim g goal rest = (s : State) → length s.bits ≡ m → ((IsZeroVector s.vector → ⊥) → Holds (map case (claim_at claims claim)) s.bits s.vector) → has_bit g s.bits ≡ false → Fine goal (rest s)

  stops : (goal : List B) (rest : Meaning) (s : State) → Leads goal rest (stopped How.NoTurn s)
  stops goal rest s = record { passed = tt; ends = λ e. not_ended e }

  leaves : (goal : List B) (rest : Meaning) (s : State) → Fine goal (rest s) → Leads goal rest (ended s)
  leaves goal rest s f = record { passed = tt; ends = λ e. f }

  -- by induction over the turns that the loop may make
  turns_lead : (claim : ℕ) (g : Guard) (body : Meaning) (goal : List B) (rest : Meaning) → Tame body → KeepsClaim claim g body → GoesOn claim g goal rest
      → (most : ℕ) (s : State) → length s.bits ≡ m → ((IsZeroVector s.vector → ⊥) → Holds (map case (claim_at claims claim)) s.bits s.vector) → Leads goal rest (looped most g claim body s)
  turns_lead claim g body goal rest t keep on zero s sized met = leads_passing goal rest claim s _ met
      (leads_cond goal rest (has_bit g s.bits) (stopped How.NoTurn s) (ended s) (λ bit. stops goal rest s) (λ bit. leaves goal rest s (on s sized met bit)))
  turns_lead claim g body goal rest t keep on (suc most) s sized met = leads_passing goal rest claim s _ met
      (leads_cond goal rest (has_bit g s.bits) (one_turn s.turns body (looped most g claim body) s) (ended s)
      (λ bit. turn s.turns (turns_lead claim g body goal rest t keep on most) bit) (λ bit. leaves goal rest s (on s sized met bit)))
    where
      turn : (turns : ℕ) → ((q : State) → length q.bits ≡ m → ((IsZeroVector q.vector → ⊥) → Holds (map case (claim_at claims claim)) q.bits q.vector) → Leads goal rest (looped most g claim body q))
          → has_bit g s.bits ≡ true → Leads goal rest (one_turn turns body (looped most g claim body) s)
      turn zero again bit = stops goal rest s
      turn (suc turns) again bit =
          let s' : State = record { bits = s.bits; vector = s.vector; outcomes = s.outcomes; turns = turns } in
          let f = keep s' sized met bit in
          leads_then goal rest (looped most g claim body) (body s') f.passed
          (λ e. again (body s').last ((t s').bits ∙ sized) (λ some. f.ends e some))

  serves_loop : (g : Guard) (claim : ℕ) (inner : List Stmt) (line : ℕ) → AllByRecursion IsServed inner → IsServed (stmt.While g claim inner line)
  unfolding Serves
  serves_loop g claim inner line hi v goal rest debt t d = λ h u ds st at e.
      let l : State = (run n h.fragment st).last in
      let c : List B = claim_at claims claim in
      let inside = inside_while (IsValidLevel n m k) g claim inner line v in
      let all : AllTrue (owed_by_loop c line g (owes_all (claim_at claims) inner) debt h) = subst AllTrue (owes-loop B (claim_at claims) g claim inner line debt h) ds in
      let turns_owed : List (Owed B) = owes_all (claim_at claims) inner (at_end kinds.Keep line c) (fresh c (Some g)) in
      let behind_owed : List (Owed B) = debt (fresh c (Some (opposite g))) in
      let body_serves : Serves c (λ q. then_go (run n inner q) ended) (owes_all (claim_at claims) inner (at_end kinds.Keep line c)) =
      serves_all inner hi inside.1 c ended (at_end kinds.Keep line c) (tame-stopped How.Ended) (at_end_serves kinds.Keep line c) in
      subst (λ (q : Meaning). Fine goal (then_go (q l) rest)) (sym (fold-while Meaning (meaning_step n) g claim inner line))
      (fine_then goal rest (looped l.turns g claim (run n inner) l)
      (turns_lead claim g (run n inner) goal rest (tame-body n inner)
      (λ s sized met bit. subst (Fine c) (then_ended (run n inner s))
      (fresh_serves c (Some g) c (λ q. then_go (run n inner q) ended) (owes_all (claim_at claims) inner (at_end kinds.Keep line c)) (λ q. tame-then q (run n inner q) ended (tame-body n inner q) (tame-stopped How.Ended))
      body_serves (each_left turns_owed behind_owed all.1) s sized met bit))
      (λ s sized met bit. fresh_serves c (Some (opposite g)) goal rest debt t d (each_right turns_owed behind_owed all.1) s sized met (has_opposite g s.bits (subst (λ (k : ℕ). g.bit < k) (sym sized) inside.0.0) bit))
      l.turns l (fragment_sized h st at.sized) (λ some. use_owed h kinds.Entry line c u all.0 st at e some)))

  -- ---- the theorem
  served : (s : Stmt) → IsServed s
  served = by_induction IsServed (record {
    gate = λ g. serves_plain (stmt.Gate g) (fold-gate Bool cut_step g);
    measure = λ qubit bit. serves_plain (stmt.Measure qubit bit) (fold-measure Bool cut_step qubit bit);
    reset = λ qubit. serves_plain (stmt.Reset qubit) (fold-reset Bool cut_step qubit);
    branch = serves_branch;
    loop = serves_loop;
    claim = serves_assert;
    assuming = λ g. serves_plain (stmt.Assume g) (fold-assume Bool cut_step g);
  })

  each_served : (body : List Stmt) → AllByRecursion IsServed body
  each_served [] = tt
  each_served (s ∷ body) = (served s, each_served body)

  claim_is : (cs : List (List B)) (k : ℕ) → map case (claim_at cs k) ≡ slice_index_or (map (map case) cs) k []
  claim_is [] k = refl
  claim_is (c ∷ cs) zero = refl
  claim_is (c ∷ cs) (suc k) = claim_is cs k

  passed_holds : (pre post : List B) (body : List Stmt) (ps : List Passed) → AllByRecursion IsMet ps → AllByRecursion (PassedHolds (annotated_by n m case claims pre post body)) ps
  passed_holds pre post body [] h = tt
  passed_holds pre post body (p ∷ ps) h =
      ((λ some. subst (λ (cs : List ClaimCase). Holds cs p.bits p.vector) (claim_is claims p.claim) (h.0 some)), passed_holds pre post body ps h.1)

  correct_if_true : (pre post : List B) (body : List Stmt) → All (IsValidStmt n m k) body → All IsTrueOwed (obligations claims pre post body) → IsCorrect (annotated_by n m case claims pre post body)
  unfolding Serves
  correct_if_true pre post body valid ds = λ v outcomes turns some held.
      let st : State = record { bits = zeros m; vector = v; outcomes = outcomes; turns = turns } in
      let start : Here B = record { start = true; from = pre; given = None; fragment = [] } in
      let serves : Serves post (λ t. then_go (run n body t) ended) (owes_all (claim_at claims) body (at_end kinds.Post 0 post)) =
      serves_all body (each_served body) (recursion_from_All (IsValidStmt n m k) body valid) post ended (at_end kinds.Post 0 post) (tame-stopped How.Ended) (at_end_serves kinds.Post 0 post) in
      let f : Fine post (run n body st) = subst (Fine post) (then_ended (run n body st))
      (serves start refl (recursion_from_All IsTrueOwed (obligations claims pre post body) ds) st (record { sized = zeros_sized m; holds = held; given = tt; zero = λ z. zero_at m }) refl) in
      (All-from_recursion (PassedHolds (annotated_by n m case claims pre post body)) (run n body st).passed (passed_holds pre post body (run n body st).passed f.passed), f.ends)

pub true_then_correct : (B : Type 0) → TrueThenCorrect B
true_then_correct B = record { correct = λ n m k case products claims pre post body valid ds. correct_if_true B n m k case products claims pre post body valid ds }
