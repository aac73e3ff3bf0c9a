-- The laws of worlds.
use Rattle.std.proofs.Common.{◌≡◌, ℕ, ◌<◌, Bool, true, false, not, cond, List, [], ◌∷◌, ◌++◌, map, filter, length, All, Contains, Option, Some, None, replicate, slice_get, unwrap_or, inl, inr, ⊎_elim, refl, ap, sym, ◌∙◌, subst, arith, append-nil, length-append}
use Rattle.std.specs.List.{flat_map, list_all}
use Rattle.std.proofs.lemmas.List.Concat.{flat_map-append}
use Rattle.std.proofs.lemmas.List.Elements.{filter-append, All-contains, Contains-append_right}
use Rattle.aq_ring.specs.Fractions.{Amplitude}
use Rattle.aq_ring.specs.Amplitudes.{FitsAmplitudeProduct}
use Rattle.aq_ring.specs.Vectors.{IsZeroVector, is_zero_vector}
use Rattle.aq_ring.proofs.VectorLaws.{is_zero_vector_true}
use Rattle.aq_prog.specs.Gates.{FitsGate}
use Rattle.aq_prog.specs.Runs.{State, Run, How, Played}
use Rattle.aq_prog.specs.declared.gate.Gate.{Gate}
use Rattle.aq_prog.specs.declared.stmt.Guard.{Guard}
use Rattle.aq_obligations.specs.Claims.{ClaimCase, are_met, Holds}
use Rattle.aq_obligations.specs.Obligations.{Meaning, Shown, IsListed, IsStart, run_of, IsWhole, IsTrueOf, IsCounterexample}
use Rattle.aq_obligations.specs.Wide.{WideGate, WideComparison}
use Rattle.aq_obligations.specs.Worlds.{World, Partial, Spread, in_worlds, spread, split, mentioned, is_nought, given_guards, fixing, first_bits, starting, start_worlds, worlds, filled, IsKept, IsRefutation}
use Rattle.aq_prog.specs.Cuts.{AreUncut}
use Rattle.aq_obligations.specs.Covering.{matches, is_front, takes, Met, met, meets_of, played_at}
use Rattle.aq_correct.specs.WorldLaws.{start_of, worlds_from, worlds_of, StartsWith, HasEnd, WorldsCoverRuns, WorldsDecide, WorldsMeetGates, WorldsCompare}
use Rattle.aq_correct.proofs.ZeroTests.{nonzero_of}
use Rattle.aq_correct.proofs.Elements.{contains_none, contains_cases, contains_here, contains_there, each_contains, contains_all, contains_flat, flat_contains, contains_filter, filter_contains, contains_one, contains_empty, get-contains, contains-get, get_within}
use Rattle.aq_correct.proofs.StoreLaws.{stored-now, stored-sized, loose_same, both_true, front_itself}
use Rattle.aq_correct.proofs.CoverLaws.{Covers, IsTraced, Keeps, IsFrom, keeps-then, taken_there, filter_flat}
use Rattle.aq_correct.proofs.FragmentLaws.{fragment-keeps, fragment-follows}
use Rattle.aq_correct.proofs.StartLaws.{and_true, matches_known, fixing-matches, open_matches, open_sized, zero_matches, zero_sized, stored_start, filled_matches, all-append, given_met, met_given}
use Rattle.aq_correct.proofs.DecideLaws.{IsReady, ready, ready_same, goal_there, goal_back, decisions-keep, decisions-traced}

-- ---- the worlds of an obligation, case by case
abbrev spreading : Meaning → Spread
spreading o = in_worlds (map (spread o.qubits) o.fragment)

abbrev deciding : Meaning → Spread
deciding o = in_worlds (map split (mentioned o))

abbrev all_from : Meaning → Spread
all_from o w = flat_map (deciding o) (spreading o w)

abbrev alive : World → Bool
alive w = not (is_nought w)

from_each : (o : Meaning) (ws : List World) → filter alive (flat_map (deciding o) (flat_map (spreading o) ws)) ≡ flat_map (worlds_from o) ws
from_each o [] = refl
from_each o (w ∷ ws) =
    ap (filter alive) (flat_map-append (deciding o) (spreading o w) (flat_map (spreading o) ws))
    ∙ filter-append alive (all_from o w) (flat_map (deciding o) (flat_map (spreading o) ws))
    ∙ ap (λ (us : List World). worlds_from o w ++ us) (from_each o ws)

flat_twice : {A B C : Type 0} (f : B → List C) (g : A → List B) (xs : List A) → flat_map f (flat_map g xs) ≡ flat_map (λ x. flat_map f (g x)) xs
flat_twice f g [] = refl
flat_twice f g (x ∷ xs) = flat_map-append f (g x) (flat_map g xs) ∙ ap (λ l. flat_map f (g x) ++ l) (flat_twice f g xs)

by_case : (o : Meaning) → worlds o ≡ flat_map (worlds_of o) o.assumed
by_case o = from_each o (start_worlds o) ∙ flat_twice (worlds_from o) (start_of o) o.assumed

-- ---- the start of a case
abbrev first_world : ClaimCase → Partial → World
first_world c p = record { case = c; start = p; bits = p; outcomes = []; vectors = c.vectors }

abbrev guards_of : Meaning → ClaimCase → List Guard
guards_of o c = c.when ++ given_guards o.given

matches_first : (m : ℕ) (start : Bool) (bits : List Bool) → length bits ≡ m → (start ≡ true → All (λ b. b ≡ false) bits) → matches (cond start (replicate m (Some false)) (replicate m None)) bits ≡ true
matches_first m true bits e z = zero_matches m bits e (z refl)
matches_first m false bits e z = open_matches m bits e

first_matched : (m : ℕ) (start : Bool) (bits : List Bool) → matches (cond start (replicate m (Some false)) (replicate m None)) bits ≡ true → (length bits ≡ m) × (start ≡ true → All (λ b. b ≡ false) bits)
first_matched m true bits e = let r = zero_sized m bits e in (r.0, λ h. r.1)
first_matched m false bits e = (open_sized m bits e, λ h. cc)

starts_matched : (o : Meaning) (c : ClaimCase) (bits : List Bool) → StartsWith o c bits → matches_known (fixing (guards_of o c) (first_bits o)) bits ≡ true
starts_matched o c bits s =
    fixing-matches (guards_of o c) (first_bits o) bits
    ∙ both_true _ _ (matches_first o.bits o.start bits s.sized s.zeros) (all-append c.when (given_guards o.given) bits ∙ both_true _ _ s.met (met_given o.given bits s.given))

matched_starts : (o : Meaning) (c : ClaimCase) (p : Partial) (bits : List Bool) → fixing (guards_of o c) (first_bits o) ≡ Some p → matches p bits ≡ true → StartsWith o c bits
matched_starts o c p bits e m =
    let all = and_true (matches (first_bits o) bits) (are_met (guards_of o c) bits) (sym (fixing-matches (guards_of o c) (first_bits o) bits) ∙ ap (λ (x : Option Partial). matches_known x bits) e ∙ m) in
    let first = first_matched o.bits o.start bits all.0 in
    let met = and_true (are_met c.when bits) (are_met (given_guards o.given) bits) (sym (all-append c.when (given_guards o.given) bits) ∙ all.1) in
    record { sized = first.0; met = met.0; given = given_met o.given bits met.1; zeros = first.1 }

known_start : (x : Option Partial) (bits : List Bool) → matches_known x bits ≡ true → (p : Partial) × (x ≡ Some p) × (matches p bits ≡ true)
known_start None bits e = cc
known_start (Some p) bits e = (p, refl, e)

start_world : (c : ClaimCase) (x : Option Partial) (w : World) → Contains (starting c x) w → (p : Partial) × (x ≡ Some p) × (first_world c p ≡ w)
start_world c None w h = contains_none w h
start_world c (Some p) w h = (p, refl, contains_one (first_world c p) w (first_world c p ∷ []) refl h)

-- ---- the worlds of a run
keeps-all : (o : Meaning) → AreUncut o.fragment → Keeps (all_from o)
keeps-all o u = keeps-then (spreading o) (deciding o) (fragment-keeps o.qubits o.fragment u) (decisions-keep (mentioned o))

decided-traced : (o : Meaning) (how : How) (last : State) (first : List Bool) (place : ℕ) (total : List Bool) (ws : List World) → IsTraced how last first place total ws
    → IsTraced how last first place total (flat_map (λ x. filter (takes first total) (deciding o x)) ws)
decided-traced o How.Ended last first place total ws t =
    let r = decisions-traced (mentioned o) t.0 first place total last t.2 in
    (r.0, ap (flat_map (λ x. filter (takes first total) (deciding o x))) t.1 ∙ append-nil (filter (takes first total) (deciding o t.0)) ∙ r.1, r.2)
decided-traced o How.Blocked last first place total ws t = ap (flat_map (λ x. filter (takes first total) (deciding o x))) t
decided-traced o How.NoOutcome last first place total ws t = ap (flat_map (λ x. filter (takes first total) (deciding o x))) t
decided-traced o How.NoTurn last first place total ws t = ap (flat_map (λ x. filter (takes first total) (deciding o x))) t

abbrev state_at : List Bool → List Amplitude → List Bool → State
state_at bits v outcomes = record { bits = bits; vector = v; outcomes = outcomes; turns = 0 }

covers_start : (c : ClaimCase) (p : Partial) (bits : List Bool) (place : ℕ) (v : List Amplitude) (outcomes : List Bool) → matches p bits ≡ true → slice_get c.vectors place ≡ Some v
    → Covers (first_world c p) bits place outcomes (state_at bits v outcomes)
covers_start c p bits place v outcomes m e = record { store = stored_start p bits m; outcomes = refl; vector = e }

traced_from : (o : Meaning) → AreUncut o.fragment → (c : ClaimCase) (p : Partial) (bits : List Bool) (place : ℕ) (v : List Amplitude) (outcomes : List Bool) → matches p bits ≡ true → slice_get c.vectors place ≡ Some v
    → IsTraced (run_of o bits v outcomes).how (run_of o bits v outcomes).last bits place outcomes (filter (takes bits outcomes) (all_from o (first_world c p)))
traced_from o u c p bits place v outcomes m e =
    let cover = covers_start c p bits place v outcomes m e in
    let r : Run = run_of o bits v outcomes in
    subst (λ (us : List World). IsTraced r.how r.last bits place outcomes us)
    (sym (filter_flat (deciding o) (takes bits outcomes) (takes bits outcomes) (IsFrom (first_world c p)) (λ x h f. (decisions-keep (mentioned o)).apart x bits outcomes h.loose f)
    (spreading o (first_world c p)) ((fragment-keeps o.qubits o.fragment u).from (first_world c p) (loose_same p))))
    (decided-traced o r.how r.last bits place outcomes (filter (takes bits outcomes) (spreading o (first_world c p)))
    ((fragment-follows o.qubits o.fragment u).traced (first_world c p) bits place outcomes (state_at bits v outcomes) cover))

-- what a world that covers a whole run has of it
has_end : (o : Meaning) (w : World) (place : ℕ) (bits : List Bool) (v : List Amplitude) (outcomes : List Bool) → length bits ≡ o.bits → w.outcomes ≡ outcomes → IsWhole (run_of o bits v outcomes)
    → Covers w bits place outcomes (run_of o bits v outcomes).last → (length w.bits ≡ o.bits → IsReady o w) → HasEnd o w place bits v
has_end o w place bits v outcomes sized e whole cover rdy =
    let whole' : IsWhole (run_of o bits v w.outcomes) = subst (λ (os : List Bool). IsWhole (run_of o bits v os)) (sym e) whole in
    let cover' : Covers w bits place w.outcomes (run_of o bits v w.outcomes).last = subst (λ (os : List Bool). Covers w bits place os (run_of o bits v os).last) (sym e) cover in
    let now : matches w.bits (run_of o bits v w.outcomes).last.bits ≡ true = stored-now cover'.store in
    let r : IsReady o w = rdy ((stored-sized cover'.store).0 ∙ sized) in
    record {
      whole = whole';
      vector = cover'.vector;
      bits_match = now;
      asks = λ c h. ready_same o w (run_of o bits v w.outcomes).last.bits r now c h;
      goal = λ u h. goal_there o w (run_of o bits v w.outcomes).last.bits u r now h;
      goal_of_run = λ u h. goal_back o w (run_of o bits v w.outcomes).last.bits u r now h;
    }

-- a world of the obligation, and where it comes from
record Origin (o : Meaning) (w : World) : Type 0 where
  case : ClaimCase
  in_case : Contains o.assumed case
  known : Partial
  fixed : fixing (guards_of o case) (first_bits o) ≡ Some known
  there : Contains (all_from o (first_world case known)) w
  ready_if : length w.bits ≡ o.bits → IsReady o w

origin : (o : Meaning) (w : World) → Contains (worlds o) w → Origin o w
origin o w h =
    let in_all : Contains (flat_map (deciding o) (flat_map (spreading o) (start_worlds o))) w = contains_filter alive _ w h in
    let d = contains_flat (deciding o) (flat_map (spreading o) (start_worlds o)) w in_all in
    let f = contains_flat (spreading o) (start_worlds o) d.0 d.1 in
    let s = contains_flat (start_of o) o.assumed f.0 f.1 in
    let p = start_world s.0 (fixing (guards_of o s.0) (first_bits o)) f.0 s.2 in
    record {
      case = s.0;
      in_case = s.1;
      known = p.0;
      fixed = p.1;
      there = subst (λ (x : World). Contains (all_from o x) w) (sym p.2) (flat_contains (deciding o) (spreading o f.0) d.0 w f.2 d.2);
      ready_if = ready o d.0 w d.2;
    }

origin-from : (o : Meaning) (w : World) → AreUncut o.fragment → (g : Origin o w) → IsFrom (first_world g.case g.known) w
origin-from o w u g = each_contains (IsFrom (first_world g.case g.known)) (all_from o (first_world g.case g.known)) w ((keeps-all o u).from (first_world g.case g.known) (loose_same g.known)) g.there

append_self : (xs ys : List Bool) → xs ++ ys ≡ xs → ys ≡ []
append_self xs [] e = refl
append_self xs (y ∷ ys) e = absurd (omega (arith, length-append xs (y ∷ ys), (let l : length (xs ++ y ∷ ys) ≡ length xs = ap length e in l)))

takes_itself : (w : World) (bits : List Bool) → matches w.start bits ≡ true → takes bits w.outcomes w ≡ true
takes_itself w bits m = both_true _ _ m (subst (λ (l : List Bool). is_front w.outcomes l ≡ true) (append-nil w.outcomes) (front_itself w.outcomes []))

-- the runs of a world start where its start does
starts_there : (o : Meaning) (w : World) (bits : List Bool) → AreUncut o.fragment → (g : Origin o w) → matches w.start bits ≡ true → matches g.known bits ≡ true
starts_there o w bits u g m = by_test (takes bits w.outcomes (first_world g.case g.known)) refl
  where
    by_test : (b : Bool) → takes bits w.outcomes (first_world g.case g.known) ≡ b → matches g.known bits ≡ true
    by_test true e = (and_true (matches g.known bits) true e).0
    by_test false e = contains_empty w (filter (takes bits w.outcomes) (all_from o (first_world g.case g.known)))
        ((keeps-all o u).apart (first_world g.case g.known) bits w.outcomes (loose_same g.known) e)
        (filter_contains (takes bits w.outcomes) (all_from o (first_world g.case g.known)) w g.there (takes_itself w bits m))

is_start : (o : Meaning) (c : ClaimCase) (bits : List Bool) (v : List Amplitude) → Contains o.assumed c → StartsWith o c bits → Contains c.vectors v → IsStart o bits v
is_start o c bits v h s l = record { sized = s.sized; listed = (h.0, c, h.1, h.2, (s.met, l)); given = s.given; zeros = s.zeros }

ends_of : (o : Meaning) (w : World) (bits : List Bool) (place : ℕ) (v : List Amplitude) → AreUncut o.fragment
    → Contains (worlds o) w → matches w.start bits ≡ true → slice_get w.case.vectors place ≡ Some v → IsStart o bits v × HasEnd o w place bits v
ends_of o w bits place v u h m e =
    let g = origin o w h in
    let known : matches g.known bits ≡ true = starts_there o w bits u g m in
    let start = matched_starts o g.case g.known bits g.fixed known in
    let at : slice_get g.case.vectors place ≡ Some v = ap (λ (c : ClaimCase). slice_get c.vectors place) (sym (origin-from o w u g).case) ∙ e in (
      is_start o g.case bits v g.in_case start (get-contains g.case.vectors place v at),
      by_how g start.sized (run_of o bits v w.outcomes).how refl (traced_from o u g.case g.known bits place v w.outcomes known at),
    )
  where
    taken : (g : Origin o w) → Contains (filter (takes bits w.outcomes) (all_from o (first_world g.case g.known))) w
    taken g = filter_contains (takes bits w.outcomes) (all_from o (first_world g.case g.known)) w g.there (takes_itself w bits m)

    by_how : (g : Origin o w) → length bits ≡ o.bits → (how : How) → (run_of o bits v w.outcomes).how ≡ how
        → IsTraced how (run_of o bits v w.outcomes).last bits place w.outcomes (filter (takes bits w.outcomes) (all_from o (first_world g.case g.known))) → HasEnd o w place bits v
    by_how g sized How.Ended is t =
        let cover : Covers w bits place w.outcomes (run_of o bits v w.outcomes).last = subst (λ (x : World). Covers x bits place w.outcomes (run_of o bits v w.outcomes).last) (contains_one t.0 w _ t.1 (taken g)) t.2 in
        has_end o w place bits v w.outcomes sized refl (is, append_self w.outcomes (run_of o bits v w.outcomes).last.outcomes cover.outcomes) cover g.ready_if
    by_how g sized How.Blocked is t = contains_empty w _ t (taken g)
    by_how g sized How.NoOutcome is t = contains_empty w _ t (taken g)
    by_how g sized How.NoTurn is t = contains_empty w _ t (taken g)

sized_of : (o : Meaning) (w : World) → AreUncut o.fragment → Contains (worlds o) w → Contains o.assumed w.case × (length w.vectors ≡ length w.case.vectors)
sized_of o w u h =
    let g = origin o w h in
    let f = origin-from o w u g in
    (subst (λ (c : ClaimCase). Contains o.assumed c) (sym f.case) g.in_case, f.sized ∙ ap (λ (c : ClaimCase). length c.vectors) (sym f.case))

-- ---- each run is in one world
zero_in : (vs : List (List Amplitude)) (v : List Amplitude) → list_all is_zero_vector vs ≡ true → Contains vs v → IsZeroVector v
zero_in [] v e c = contains_none v c
zero_in (u ∷ vs) v e c =
    let b = and_true (is_zero_vector u) (list_all is_zero_vector vs) e in
    ⊎_elim (λ s. subst IsZeroVector s (is_zero_vector_true u b.0)) (λ h. zero_in vs v b.1 h) (contains_cases u v vs c)

is_alive : (w : World) (place : ℕ) (v : List Amplitude) → slice_get w.vectors place ≡ Some v → (IsZeroVector v → ⊥) → is_nought w ≡ false
is_alive w place v e nonzero = by_test (is_nought w) refl
  where
    by_test : (b : Bool) → is_nought w ≡ b → is_nought w ≡ false
    by_test true h = absurd (nonzero (zero_in w.vectors v h (get-contains w.vectors place v e)))
    by_test false h = h

filter_swap : {A : Type 0} (t u : A → Bool) (xs : List A) → filter t (filter u xs) ≡ filter u (filter t xs)
filter_swap t u [] = refl
filter_swap {A = A} t u (x ∷ xs) = by_tests (t x) (u x) refl refl (filter_swap t u xs)
  where
    by_tests : (a b : Bool) → t x ≡ a → u x ≡ b → filter t (filter u xs) ≡ filter u (filter t xs) → filter t (cond (u x) (x ∷ filter u xs) (filter u xs)) ≡ filter u (cond (t x) (x ∷ filter t xs) (filter t xs))
    by_tests true true e f r =
        ap (λ (b : Bool). filter t (cond b (x ∷ filter u xs) (filter u xs))) f ∙ ap (λ (b : Bool). cond b (x ∷ filter t (filter u xs)) (filter t (filter u xs))) e ∙ ap (λ l. x ∷ l) r
        ∙ ap (λ (b : Bool). cond b (x ∷ filter u (filter t xs)) (filter u (filter t xs))) (sym f) ∙ ap (λ (b : Bool). filter u (cond b (x ∷ filter t xs) (filter t xs))) (sym e)
    by_tests true false e f r =
        ap (λ (b : Bool). filter t (cond b (x ∷ filter u xs) (filter u xs))) f ∙ r
        ∙ ap (λ (b : Bool). cond b (x ∷ filter u (filter t xs)) (filter u (filter t xs))) (sym f) ∙ ap (λ (b : Bool). filter u (cond b (x ∷ filter t xs) (filter t xs))) (sym e)
    by_tests false true e f r =
        ap (λ (b : Bool). filter t (cond b (x ∷ filter u xs) (filter u xs))) f ∙ ap (λ (b : Bool). cond b (x ∷ filter t (filter u xs)) (filter t (filter u xs))) e ∙ r
        ∙ ap (λ (b : Bool). filter u (cond b (x ∷ filter t xs) (filter t xs))) (sym e)
    by_tests false false e f r =
        ap (λ (b : Bool). filter t (cond b (x ∷ filter u xs) (filter u xs))) f ∙ r ∙ ap (λ (b : Bool). filter u (cond b (x ∷ filter t xs) (filter t xs))) (sym e)

one_world_of : (o : Meaning) (c : ClaimCase) (bits : List Bool) (place : ℕ) (v : List Amplitude) (outcomes : List Bool) → AreUncut o.fragment
    → StartsWith o c bits → slice_get c.vectors place ≡ Some v → IsWhole (run_of o bits v outcomes) → (IsZeroVector (run_of o bits v outcomes).last.vector → ⊥)
    → (w : World) × (filter (takes bits outcomes) (worlds_of o c) ≡ w ∷ []) × (w.outcomes ≡ outcomes) × HasEnd o w place bits v
one_world_of o c bits place v outcomes u s e whole nonzero =
    let k = known_start (fixing (guards_of o c) (first_bits o)) bits (starts_matched o c bits s) in
    let p : Partial = k.0 in
    let t : IsTraced How.Ended (run_of o bits v outcomes).last bits place outcomes (filter (takes bits outcomes) (all_from o (first_world c p))) =
    subst (λ (h : How). IsTraced h (run_of o bits v outcomes).last bits place outcomes (filter (takes bits outcomes) (all_from o (first_world c p)))) whole.0
    (traced_from o u c p bits place v outcomes k.2 e) in
    let w : World = t.0 in
    let in_all : Contains (all_from o (first_world c p)) w = contains_filter (takes bits outcomes) (all_from o (first_world c p)) w (subst (λ (us : List World). Contains us w) (sym t.1) (contains_here w [])) in
    let d = contains_flat (deciding o) (spreading o (first_world c p)) w in_all in
    let same : w.outcomes ≡ outcomes = sym (append-nil w.outcomes) ∙ ap (λ (os : List Bool). w.outcomes ++ os) (sym whole.1) ∙ t.2.outcomes in (
      w,
      ap (λ (x : Option Partial). filter (takes bits outcomes) (flat_map (worlds_from o) (starting c x))) k.1
          ∙ ap (filter (takes bits outcomes)) (append-nil (worlds_from o (first_world c p)))
          ∙ filter_swap (takes bits outcomes) alive (all_from o (first_world c p))
          ∙ ap (filter alive) t.1
          ∙ ap (λ (b : Bool). cond (not b) (w ∷ []) []) (is_alive w place (run_of o bits v outcomes).last.vector t.2.vector nonzero),
      same,
      has_end o w place bits v outcomes s.sized same whole t.2 (ready o d.0 w d.2),
    )

pub worlds_cover_runs : WorldsCoverRuns
worlds_cover_runs = record { by_case = by_case; one_world = one_world_of; ends = ends_of; sized = sized_of }

-- ---- what the worlds decide
in_worlds_of : (o : Meaning) (c : ClaimCase) (w : World) → Contains o.assumed c → Contains (worlds_of o c) w → Contains (worlds o) w
in_worlds_of o c w h k = subst (λ (us : List World). Contains us w) (sym (by_case o)) (flat_contains (worlds_of o) o.assumed c w h k)

true_from : (o : Meaning) → AreUncut o.fragment → All (λ w. All (IsKept o w) w.vectors) (worlds o) → IsTrueOf o
true_from o u kept = λ bits v outcomes start whole nonzero.
    let c : ClaimCase = start.listed.1 in
    let l : IsListed bits v c = start.listed.4 in
    let in_case : Contains o.assumed c = (start.listed.0, start.listed.2, start.listed.3) in
    let g = contains-get c.vectors v l.1 in
    let one = one_world_of o c bits g.0 v outcomes u (record { sized = start.sized; met = l.0; given = start.given; zeros = start.zeros }) g.2 whole nonzero in
    let w : World = one.0 in
    let there : Contains (worlds o) w = in_worlds_of o c w in_case (contains_filter (takes bits outcomes) (worlds_of o c) w (subst (λ (us : List World). Contains us w) (sym one.1) (contains_here w []))) in
    let end : List Amplitude = (run_of o bits v w.outcomes).last.vector in
    let k : IsKept o w end = All-contains (IsKept o w) w.vectors end (All-contains (λ x. All (IsKept o x) x.vectors) (worlds o) w kept there) (get-contains w.vectors g.0 end one.3.vector) in
    let h : Holds o.goal (run_of o bits v w.outcomes).last.bits end =
    ⊎_elim (λ z. absurd (nonzero (subst (λ (os : List Bool). IsZeroVector (run_of o bits v os).last.vector) one.2 z))) (λ j. one.3.goal end j) k in
    subst (λ (os : List Bool). Holds o.goal (run_of o bits v os).last.bits (run_of o bits v os).last.vector) one.2 h

some_is : {A : Type 0} (x y : A) → ◌≡◌ {A = Option A} (Some x) (Some y) → x ≡ y
some_is x y e = cc

kept_end : (o : Meaning) (w : World) (place : ℕ) (v u : List Amplitude) → IsTrueOf o → IsStart o (filled w.start) u → HasEnd o w place (filled w.start) u → slice_get w.vectors place ≡ Some v → IsKept o w v
kept_end o w place v u holds start e at = by_test (is_zero_vector v) refl
  where
    same : (run_of o (filled w.start) u w.outcomes).last.vector ≡ v
    same = some_is (run_of o (filled w.start) u w.outcomes).last.vector v (sym e.vector ∙ at)

    by_test : (b : Bool) → is_zero_vector v ≡ b → IsKept o w v
    by_test true z = inl (is_zero_vector_true v z)
    by_test false z =
        let h : Holds o.goal (run_of o (filled w.start) u w.outcomes).last.bits (run_of o (filled w.start) u w.outcomes).last.vector =
        holds (filled w.start) u w.outcomes start e.whole (λ n. nonzero_of v z (subst IsZeroVector same n)) in
        inr (e.goal_of_run v (subst (λ (x : List Amplitude). Holds o.goal (run_of o (filled w.start) u w.outcomes).last.bits x) same h))

kept_from : (o : Meaning) → AreUncut o.fragment → IsTrueOf o → All (λ w. All (IsKept o w) w.vectors) (worlds o)
kept_from o u holds = contains_all (λ w. All (IsKept o w) w.vectors) (worlds o) (λ w h. contains_all (IsKept o w) w.vectors (λ v k. kept_at w v h k))
  where
    kept_at : (w : World) (v : List Amplitude) → Contains (worlds o) w → Contains w.vectors v → IsKept o w v
    kept_at w v h k =
        let g = contains-get w.vectors v k in
        let first = get_within w.case.vectors g.0 (subst (λ (l : ℕ). g.0 < l) (sized_of o w u h).1 g.1) in
        let e = ends_of o w (filled w.start) g.0 first.0 u h (filled_matches w.start) first.1 in
        kept_end o w g.0 v first.0 holds e.0 e.1 g.2

get_behind : {A : Type 0} (front back : List A) (x : A) → slice_get (front ++ x ∷ back) (length front) ≡ Some x
get_behind [] back x = refl
get_behind (y ∷ front) back x = get_behind front back x

refutes : (o : Meaning) (r : Shown) → AreUncut o.fragment → IsRefutation o r → IsCounterexample o r
refutes o r u f =
    let w : World = f.world in
    let there : Contains (worlds o) w = subst (λ (ws : List World). Contains ws w) (sym f.worlds_are) (Contains-append_right f.earlier (w ∷ f.later) w (contains_here w f.later)) in
    let e = ends_of o w r.bits (length f.before) r.state u there (ap (matches w.start) f.bits_are ∙ filled_matches w.start) f.state_is in
    let at : slice_get w.vectors (length f.before) ≡ Some f.escaping = ap (λ (vs : List (List Amplitude)). slice_get vs (length f.before)) f.vectors_are ∙ get_behind f.before f.after f.escaping in
    let same : (run_of o r.bits r.state r.outcomes).last.vector ≡ f.escaping =
    ap (λ (os : List Bool). (run_of o r.bits r.state os).last.vector) f.outcomes_are ∙ some_is (run_of o r.bits r.state w.outcomes).last.vector f.escaping (sym e.1.vector ∙ at) in
    record {
      start = e.0;
      whole = subst (λ (os : List Bool). IsWhole (run_of o r.bits r.state os)) (sym f.outcomes_are) e.1.whole;
      end_bits_are = f.end_bits_are;
      end_is = f.end_is;
      nonzero = λ z. f.nonzero (subst IsZeroVector (f.end_is ∙ same) z);
      escapes = λ h. f.escapes (e.1.goal_of_run f.escaping
          (subst (λ (os : List Bool). Holds o.goal (run_of o r.bits r.state os).last.bits f.escaping) f.outcomes_are
          (subst (λ (b : List Bool). Holds o.goal b f.escaping) f.end_bits_are
          (subst (λ (x : List Amplitude). Holds o.goal r.end_bits x) (f.end_is ∙ same) h))));
    }

apart : (o : Meaning) (r : Shown) → IsCounterexample o r → IsTrueOf o → ⊥
apart o r c holds =
    c.escapes (subst (λ (x : List Amplitude). Holds o.goal r.end_bits x) (sym c.end_is) (subst (λ (b : List Bool). Holds o.goal b (run_of o r.bits r.state r.outcomes).last.vector) (sym c.end_bits_are)
    (holds r.bits r.state r.outcomes c.start c.whole (λ z. c.nonzero (subst IsZeroVector (sym c.end_is) z)))))

pub worlds_decide : WorldsDecide
worlds_decide = record { true_of = true_from; kept_of = kept_from; counterexample = refutes; not_both = apart }

-- ---- the gates
abbrev meeting : Meaning → World → List Met
meeting o = meets_of o.qubits o.fragment

-- a gate that is met from a start, and where it comes from
record MetOrigin (o : Meaning) (e : Met) : Type 0 where
  case : ClaimCase
  in_case : Contains o.assumed case
  known : Partial
  fixed : fixing (guards_of o case) (first_bits o) ≡ Some known
  there : Contains (meeting o (first_world case known)) e

met_origin : (o : Meaning) (e : Met) → Contains (met o) e → MetOrigin o e
met_origin o e h =
    let f = contains_flat (meeting o) (start_worlds o) e h in
    let s = contains_flat (start_of o) o.assumed f.0 f.1 in
    let p = start_world s.0 (fixing (guards_of o s.0) (first_bits o)) f.0 s.2 in
    record {
      case = s.0;
      in_case = s.1;
      known = p.0;
      fixed = p.1;
      there = subst (λ (x : World). Contains (meeting o x) e) (sym p.2) f.2;
    }

map_contains : {A B : Type 0} (f : A → B) (xs : List A) (x : A) → Contains xs x → Contains (map f xs) (f x)
map_contains f [] x c = contains_none x c
map_contains f (y ∷ xs) x c = ⊎_elim
    (λ e. subst (λ z. Contains (f y ∷ map f xs) (f z)) e (contains_here (f y) (map f xs)))
    (λ h. contains_there (f y) (f x) (map f xs) (map_contains f xs x h))
    (contains_cases y x xs c)

contains_map : {A B : Type 0} (f : A → B) (xs : List A) (y : B) → Contains (map f xs) y → (x : A) × Contains xs x × (f x ≡ y)
contains_map f [] y c = contains_none y c
contains_map f (x ∷ xs) y c = ⊎_elim
    (λ e. (x, contains_here x xs, e))
    (λ h. let r = contains_map f xs y h in (r.0, contains_there x r.0 xs r.1, r.2))
    (contains_cases (f x) y (map f xs) c)

wide_from : (o : Meaning) (e : Met) (v : List Amplitude) → AreUncut o.fragment → Contains (met o) e → Contains e.world.vectors v → (FitsGate o.qubits e.gate v → ⊥) → WideGate o
wide_from o e v u h k unfit =
    let f = fragment-follows o.qubits o.fragment u in
    let g = met_origin o e h in
    let w0 : World = first_world g.case g.known in
    let bits : List Bool = filled e.world.start in
    let outs : List Bool = e.world.outcomes in
    let place = contains-get e.world.vectors v k in
    let from : IsFrom w0 e.world = each_contains (λ (d : Met). IsFrom w0 d.world) (meeting o w0) e (f.met w0 (loose_same g.known)) g.there in
    let first = get_within g.case.vectors place.0 (subst (λ (l : ℕ). place.0 < l) from.sized place.1) in
    let taken : Contains (filter (taken_there bits outs) (meeting o w0)) e = filter_contains (taken_there bits outs) (meeting o w0) e g.there (takes_itself e.world bits (filled_matches e.world.start)) in
    let known : matches g.known bits ≡ true = start_matches g w0 refl taken (takes bits outs w0) refl in
    let start = matched_starts o g.case g.known bits g.fixed known in
    let cover = covers_start g.case g.known bits place.0 first.0 outs known first.1 in
    let in_run : Contains (run_of o bits first.0 outs).played (played_at place.0 e) =
    subst (λ (l : List Played). Contains l (played_at place.0 e)) (f.played w0 bits place.0 outs (state_at bits first.0 outs) cover) (map_contains (played_at place.0) (filter (taken_there bits outs) (meeting o w0)) e taken) in
    let before : unwrap_or (slice_get e.world.vectors place.0) [] ≡ v = ap (λ (x : Option (List Amplitude)). unwrap_or x []) place.2 in
    record {
      bits = bits;
      vector = first.0;
      outcomes = outs;
      start = is_start o g.case bits first.0 g.in_case start (get-contains g.case.vectors place.0 first.0 first.1);
      step = played_at place.0 e;
      played = in_run;
      wide = λ fits. unfit (subst (λ (x : List Amplitude). FitsGate o.qubits e.gate x) before fits);
    }
  where
    start_matches : (g : MetOrigin o e) (w0 : World) → first_world g.case g.known ≡ w0 → Contains (filter (taken_there (filled e.world.start) e.world.outcomes) (meeting o (first_world g.case g.known))) e → (b : Bool) → takes (filled e.world.start) e.world.outcomes (first_world g.case g.known) ≡ b
        → matches g.known (filled e.world.start) ≡ true
    start_matches g w0 is taken true t = (and_true (matches g.known (filled e.world.start)) true t).0
    start_matches g w0 is taken false t = contains_empty e _ ((fragment-follows o.qubits o.fragment u).unmet (first_world g.case g.known) (filled e.world.start) e.world.outcomes (loose_same g.known) t) taken

fits_same : (n : ℕ) (g h : Gate) (u v : List Amplitude) → g ≡ h → u ≡ v → FitsGate n h v → FitsGate n g u
fits_same n g h u v e f fits = subst (λ (x : Gate). FitsGate n x u) (sym e) (subst (λ (x : List Amplitude). FitsGate n h x) (sym f) fits)

step_same : (place : ℕ) (e : Met) (step : Played) (v : List Amplitude) → played_at place e ≡ step → slice_get e.world.vectors place ≡ Some v → (step.gate ≡ e.gate) × (step.before ≡ v)
step_same place e step v is at =
    (ap (λ (p : Played). p.gate) (sym is), ap (λ (p : Played). p.before) (sym is) ∙ ap (λ (x : Option (List Amplitude)). unwrap_or x []) at)

fits_from : (o : Meaning) → AreUncut o.fragment → ((e : Met) (v : List Amplitude) → Contains (met o) e → Contains e.world.vectors v → FitsGate o.qubits e.gate v) → WideGate o → ⊥
fits_from o u fits wide =
    let f = fragment-follows o.qubits o.fragment u in
    let c : ClaimCase = wide.start.listed.1 in
    let l : IsListed wide.bits wide.vector c = wide.start.listed.4 in
    let in_case : Contains o.assumed c = (wide.start.listed.0, wide.start.listed.2, wide.start.listed.3) in
    let starts : StartsWith o c wide.bits = record { sized = wide.start.sized; met = l.0; given = wide.start.given; zeros = wide.start.zeros } in
    let k = known_start (fixing (guards_of o c) (first_bits o)) wide.bits (starts_matched o c wide.bits starts) in
    let place = contains-get c.vectors wide.vector l.1 in
    let w0 : World = first_world c k.0 in
    let cover = covers_start c k.0 wide.bits place.0 wide.vector wide.outcomes k.2 place.2 in
    let there = contains_map (played_at place.0) (filter (taken_there wide.bits wide.outcomes) (meeting o w0)) wide.step
    (subst (λ (ps : List Played). Contains ps wide.step) (sym (f.played w0 wide.bits place.0 wide.outcomes (state_at wide.bits wide.vector wide.outcomes) cover)) wide.played) in
    let e : Met = there.0 in
    let in_meeting : Contains (meeting o w0) e = contains_filter (taken_there wide.bits wide.outcomes) (meeting o w0) e there.1 in
    let from : IsFrom w0 e.world = each_contains (λ (d : Met). IsFrom w0 d.world) (meeting o w0) e (f.met w0 (loose_same k.0)) in_meeting in
    let v = get_within e.world.vectors place.0 (subst (λ (n : ℕ). place.0 < n) (sym from.sized) place.1) in
    let same = step_same place.0 e wide.step v.0 there.2 v.1 in
    let at_start : Contains (start_worlds o) w0 = flat_contains (start_of o) o.assumed c w0 in_case
    (subst (λ (x : Option Partial). Contains (starting c x) w0) (sym k.1) (contains_here w0 [])) in
    let here : FitsGate o.qubits e.gate v.0 = fits e v.0 (flat_contains (meeting o) (start_worlds o) w0 e at_start in_meeting) (get-contains e.world.vectors place.0 v.0 v.1) in
    wide.wide (fits_same o.qubits wide.step.gate e.gate wide.step.before v.0 same.0 same.1 here)

pub worlds_meet_gates : WorldsMeetGates
worlds_meet_gates = record { wide_gate = wide_from; no_wide_gate = fits_from }

-- ---- the comparisons
wide_compared : (o : Meaning) (w : World) (v : List Amplitude) (c : ClaimCase) (u : List Amplitude) (left right : Amplitude) → AreUncut o.fragment
    → Contains (worlds o) w → Contains w.vectors v → Contains o.goal c → are_met c.when (filled w.bits) ≡ true → Contains c.vectors u
    → Contains v left → Contains u right → (FitsAmplitudeProduct left right → ⊥) → WideComparison o
wide_compared o w v c u left right uncut h k goal met listed of_end of_vector unfit =
    let g = contains-get w.vectors v k in
    let first = get_within w.case.vectors g.0 (subst (λ (l : ℕ). g.0 < l) (sized_of o w uncut h).1 g.1) in
    let e = ends_of o w (filled w.start) g.0 first.0 uncut h (filled_matches w.start) first.1 in
    let same : (run_of o (filled w.start) first.0 w.outcomes).last.vector ≡ v = some_is (run_of o (filled w.start) first.0 w.outcomes).last.vector v (sym e.1.vector ∙ g.2) in
    record {
      bits = filled w.start;
      vector = first.0;
      outcomes = w.outcomes;
      start = e.0;
      whole = e.1.whole;
      case = c;
      of_goal = goal;
      met = sym (e.1.asks c goal) ∙ met;
      goal = u;
      listed = listed;
      left = left;
      right = right;
      of_end = subst (λ (x : List Amplitude). Contains x left) (sym same) of_end;
      of_vector = of_vector;
      wide = unfit;
    }

pub worlds_compare : WorldsCompare
worlds_compare = record { wide_comparison = wide_compared }
