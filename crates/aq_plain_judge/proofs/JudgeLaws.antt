-- What is found of the worlds justifies the verdict.
use Rattle.std.proofs.Common.{◌≡◌, ℕ, zero, suc, ◌+◌, ◌<◌, ◌≤◌, Bool, true, false, List, [], ◌∷◌, ◌++◌, map, All, Any, Contains, length, take, drop, get_or, Option, Some, None, refl, ap, sym, ◌∙◌, subst, arith, append_assoc, append-nil, inl, inr}
use Rattle.std.specs.Prelude.{slice_get}
use Rattle.std.specs.List.{flat_map}
use Rattle.std.specs.Option.{is_some}
use Rattle.std.proofs.lemmas.List.{take_all}
use Rattle.std.proofs.lemmas.List.Concat.{flat_map-append}
use Rattle.std.proofs.lemmas.List.Elements.{All-append, All-nil, Contains-append_left, Contains-append_right}
use Rattle.aq_ring.specs.Fractions.{Amplitude}
use Rattle.aq_prog.specs.declared.program.Program.{Program}
use Rattle.aq_sets.specs.declared.sets.Sets.{Sets}
use Rattle.aq_plain.specs.Vectors.{StateVector}
use Rattle.aq_obligations.specs.Asking.{case_of, cases_of, meaning_of}
use Rattle.aq_obligations.specs.Claims.{ClaimCase, are_met}
use Rattle.aq_obligations.specs.Obligations.{Meaning, IsTrueOf}
use Rattle.aq_obligations.specs.Wide.{IsWide}
use Rattle.aq_obligations.specs.Worlds.{World, filled, worlds, IsKept, IsRefutation}
use Rattle.aq_obligations.specs.declared.bound.BoundCase.{BoundCase}
use Rattle.aq_obligations.specs.declared.bound.Obligation.{Obligation}
use Rattle.aq_correct.specs.WorldLaws.{worlds_of}
use Rattle.aq_correct.proofs.WorldProofs.{worlds_cover_runs, worlds_decide, worlds_compare}
use Rattle.aq_report.specs.Verdicts.{IsRefutedBy, shown_by}
use Rattle.aq_report.specs.declared.verdict.Refutation.{Refutation}
use Rattle.aq_worlds.specs.Asked.{CanBeJudged}
use Rattle.aq_worlds.specs.Playing.{AreSized, IsSized, amps_of, world_of}
use Rattle.aq_worlds.specs.declared.world.PlainWorld.{PlainWorld}
use Rattle.aq_plain_judge.specs.Finding.{Ends, EscapesAt, IsKeptBy, WideGoal, WideProduct}
use Rattle.aq_plain_judge.specs.declared.compare.Found.TheVariants as found
use Rattle.aq_plain_judge.specs.Listing.{AreGoal, IsGoalOn, claims_of}
use Rattle.aq_plain_judge.specs.declared.listing.GoalCase.{GoalCase}
use Rattle.aq_plain_judge.specs.Refuting.{AreKept, AreRefutedBy, IsAliveAt, Judges, Shows}
use Rattle.aq_plain_judge.proofs.SearchLaws.{all_at, all_more, before_long, contains_at, parts, take_more}

-- ---- one world
get_behind : {A : Type 0} (before after : List A) (x : A) → slice_get (before ++ x ∷ after) (length before) ≡ Some x
get_behind [] after x = refl
get_behind (y ∷ before) after x = get_behind before after x

-- the vector that escapes is alive
pub alive_there : (c : ClaimCase) (w : PlainWorld) (goal : List ClaimCase) (place : ℕ) → EscapesAt goal (filled w.bits) (amps_of w.vectors.items) place → IsAliveAt (world_of c w) place
alive_there c w goal place e = record {
  vector = e.escaping;
  there = ap (λ (l : List (List Amplitude)). slice_get l place) e.vectors_are ∙ ap (slice_get (e.before ++ e.escaping ∷ e.after)) (sym e.place_is) ∙ get_behind e.before e.after e.escaping;
  nonzero = e.nonzero;
}

-- the first vector that isn't kept
pub escapes_here : (goal : List ClaimCase) (bits : List Bool) (vectors : List StateVector) (i : ℕ) (v : StateVector) → i < length vectors → v ≡ get_or vectors i v → All (IsKeptBy goal bits) (amps_of (take i vectors)) → Ends goal bits v.amps found.Nothing
    → EscapesAt goal bits (amps_of vectors) i
escapes_here goal bits vectors i v h is before lost = record {
  before = amps_of (take i vectors);
  escaping = v.amps;
  after = amps_of (drop (suc i) vectors);
  vectors_are = parts (λ (w : StateVector). w.amps) vectors i v h is;
  place_is = before_long (λ (w : StateVector). w.amps) vectors i h;
  before_kept = before;
  nonzero = lost.0;
  escapes = lost.1;
}

-- every vector of a world is on the goal's qubits
pub goal_on_all : (p : Program) (s : Sets) (cases : List BoundCase) (goal : List GoalCase) (all : List PlainWorld) (i : ℕ) (w : PlainWorld) → i < length all → w ≡ get_or all i w → AreSized p.qubits p.bits all → AreGoal p s cases goal
    → All (λ v. IsGoalOn v.qubits goal) w.vectors.items
goal_on_all p s cases goal all i w h is sized g =
    let here = all_at (IsSized p.qubits p.bits) all i w h is sized in
    λ k d lt. subst (λ (n : ℕ). IsGoalOn n goal) (sym (here.vectors k d lt)) g.on

pub start_long : (p : Program) (all : List PlainWorld) (i : ℕ) (w : PlainWorld) → i < length all → w ≡ get_or all i w → AreSized p.qubits p.bits all → length w.start ≡ p.bits
start_long p all i w h is sized = (all_at (IsSized p.qubits p.bits) all i w h is sized).start

-- ---- the worlds of a case
flat_at : {A B C : Type 0} (f : A → B) (F : B → List C) (xs : List A) (k : ℕ) (x : A) (y : C) → k < length xs → get_or xs k x ≡ x → Contains (F (f x)) y → Contains (flat_map F (map f xs)) y
flat_at f F [] k x y h e m = absurd (omega (arith, h))
flat_at f F (z ∷ xs) zero x y h e m = Contains-append_left (F (f z)) (flat_map F (map f xs)) y (subst (λ t. Contains (F (f t)) y) (sym e) m)
flat_at f F (z ∷ xs) (suc k) x y h e m = Contains-append_right (F (f z)) (flat_map F (map f xs)) y (flat_at f F xs k x y (omega (arith, h)) e m)

module _ (p : Program) (s : Sets) (o : Obligation) (c : BoundCase) (goal : List GoalCase) (all : List PlainWorld) (i : ℕ) (w : PlainWorld) (h : i < length all) (is : w ≡ get_or all i w) where
  pub world_played : Contains o.from c → map (world_of (case_of s c)) all ≡ worlds_of (meaning_of p s o) (case_of s c) → Contains (worlds (meaning_of p s o)) (world_of (case_of s c) w)
  world_played m e =
      let here : Contains (worlds_of (meaning_of p s o) (case_of s c)) (world_of (case_of s c) w)
      = subst (λ (l : List World). Contains l (world_of (case_of s c) w)) e (contains_at (world_of (case_of s c)) all i w h is) in
      subst (λ (l : List World). Contains l (world_of (case_of s c) w)) (sym (worlds_cover_runs.by_case (meaning_of p s o)))
      (flat_at (case_of s) (worlds_of (meaning_of p s o)) o.from m.0 c (world_of (case_of s c) w) m.1 m.2 here)

  pub kept_more : AreGoal p s o.goal.cases goal → All (IsKeptBy (claims_of goal) (filled w.bits)) (amps_of w.vectors.items) → AreKept (meaning_of p s o) (map (world_of (case_of s c)) (take i all))
      → AreKept (meaning_of p s o) (map (world_of (case_of s c)) (take (i + 1) all))
  kept_more g k before =
      all_more (λ (x : World). All (IsKept (meaning_of p s o) x) x.vectors) (world_of (case_of s c)) all i w h is
      (subst (λ (l : List ClaimCase). All (IsKeptBy l (filled w.bits)) (amps_of w.vectors.items)) g.claims k) before

  pub refuted_here : AreGoal p s o.goal.cases goal → map (world_of (case_of s c)) all ≡ worlds_of (meaning_of p s o) (case_of s c) → (place : ℕ) (r : Refutation)
      → EscapesAt (claims_of goal) (filled w.bits) (amps_of w.vectors.items) place → AreKept (meaning_of p s o) (map (world_of (case_of s c)) (take i all))
      → Shows (meaning_of p s o) (world_of (case_of s c) w) place r → AreRefutedBy (meaning_of p s o) (worlds_of (meaning_of p s o) (case_of s c)) r
  refuted_here g played place r found before shown =
      let e = subst (λ (l : List ClaimCase). EscapesAt l (filled w.bits) (amps_of w.vectors.items) place) g.claims found in
      record {
        earlier = map (world_of (case_of s c)) (take i all);
        world = world_of (case_of s c) w;
        later = map (world_of (case_of s c)) (drop (suc i) all);
        worlds_are = sym played ∙ parts (world_of (case_of s c)) all i w h is;
        earlier_kept = before;
        before = e.before;
        escaping = e.escaping;
        after = e.after;
        vectors_are = e.vectors_are;
        before_kept = e.before_kept;
        nonzero = e.nonzero;
        escapes = e.escapes;
        shown = subst (λ (k : ℕ). Shows (meaning_of p s o) (world_of (case_of s c) w) k r) (sym e.place_is) shown;
      }

  pub wide_here : CanBeJudged p s o → AreGoal p s o.goal.cases goal → Contains o.from c → map (world_of (case_of s c)) all ≡ worlds_of (meaning_of p s o) (case_of s c)
      → Any (WideGoal (claims_of goal) (filled w.bits)) (amps_of w.vectors.items) → IsWide (meaning_of p s o)
  wide_here can g m e found =
      let a = subst (λ (l : List ClaimCase). Any (WideGoal l (filled w.bits)) (amps_of w.vectors.items)) g.claims found in
      by_case a.1 (a.0, a.2, a.3) a.4
    where
      by_product : (v : List Amplitude) (d : ClaimCase) (u : List Amplitude) → Contains (amps_of w.vectors.items) v → Contains (cases_of s o.goal.cases) d → are_met d.when (filled w.bits) ≡ true → Contains d.vectors u → WideProduct v u
          → IsWide (meaning_of p s o)
      by_product v d u mv md met mu q = inr (inl (worlds_compare.wide_comparison (meaning_of p s o) (world_of (case_of s c) w) v d u q.left q.right can.bound.uncut (world_played m e) mv md met mu q.of_first q.of_second q.wide))

      by_case : (v : List Amplitude) → Contains (amps_of w.vectors.items) v → WideGoal (cases_of s o.goal.cases) (filled w.bits) v → IsWide (meaning_of p s o)
      by_case v mv b = let d = b.4.1 in by_product v b.1 d.1 mv (b.0, b.2, b.3) b.4.0 (d.0, d.2, d.3) d.4

-- the worlds of a case that were all looked at
pub kept_all : (o : Meaning) (c : ClaimCase) (all : List PlainWorld) (k : ℕ) → map (world_of c) all ≡ worlds_of o c → length all ≤ k → AreKept o (map (world_of c) (take k all)) → AreKept o (worlds_of o c)
kept_all o c all k played h kept = subst (AreKept o) (ap (map (world_of c)) (take_all k all h) ∙ played) kept

-- ---- the cases
-- the worlds of the cases
abbrev pub worlds_in : Meaning → Sets → List BoundCase → List World
worlds_in o s cases = flat_map (worlds_of o) (cases_of s cases)

pub none_yet : (o : Meaning) → AreKept o []
none_yet o = All-nil (λ (x : World). All (IsKept o x) x.vectors)

pub case_kept : (o : Meaning) (s : Sets) (cases : List BoundCase) (i : ℕ) (c : BoundCase) → i < length cases → c ≡ get_or cases i c → AreKept o (worlds_of o (case_of s c)) → AreKept o (worlds_in o s (take i cases))
    → AreKept o (worlds_in o s (take (i + 1) cases))
case_kept o s cases i c h is kept before =
    subst (AreKept o) (sym (ap (flat_map (worlds_of o)) (take_more (case_of s) cases i c h is) ∙ flat_map-append (worlds_of o) (cases_of s (take i cases)) (case_of s c ∷ [])))
    (All-append (λ (x : World). All (IsKept o x) x.vectors) (worlds_in o s (take i cases)) (worlds_of o (case_of s c) ++ []) before
    (subst (AreKept o) (sym (append-nil (worlds_of o (case_of s c)))) kept))

pub cases_kept : (p : Program) (s : Sets) (o : Obligation) (k : ℕ) → length o.from ≤ k → AreKept (meaning_of p s o) (worlds_in (meaning_of p s o) s (take k o.from)) → AreKept (meaning_of p s o) (worlds (meaning_of p s o))
cases_kept p s o k h kept =
    subst (AreKept (meaning_of p s o)) (ap (worlds_in (meaning_of p s o) s) (take_all k o.from h) ∙ sym (worlds_cover_runs.by_case (meaning_of p s o))) kept

amid : {A : Type 0} (a b c d : List A) (x : A) → a ++ ((b ++ x ∷ c) ++ d) ≡ (a ++ b) ++ x ∷ (c ++ d)
amid a b c d x = ap (λ l. a ++ l) (append_assoc b (x ∷ c) d) ∙ sym (append_assoc a b (x ∷ (c ++ d)))

pub case_refuted : (p : Program) (s : Sets) (o : Obligation) (i : ℕ) (c : BoundCase) (r : Refutation) → i < length o.from → c ≡ get_or o.from i c → AreRefutedBy (meaning_of p s o) (worlds_of (meaning_of p s o) (case_of s c)) r
    → AreKept (meaning_of p s o) (worlds_in (meaning_of p s o) s (take i o.from)) → AreRefutedBy (meaning_of p s o) (worlds (meaning_of p s o)) r
case_refuted p s o i c r h is e before =
    let m = meaning_of p s o in
    let first = worlds_in m s (take i o.from) in
    let last = worlds_in m s (drop (suc i) o.from) in
    record {
      earlier = first ++ e.earlier;
      world = e.world;
      later = e.later ++ last;
      worlds_are =
          worlds_cover_runs.by_case m ∙ ap (flat_map (worlds_of m)) (parts (case_of s) o.from i c h is) ∙ flat_map-append (worlds_of m) (cases_of s (take i o.from)) (case_of s c ∷ cases_of s (drop (suc i) o.from))
          ∙ ap (λ (l : List World). first ++ (l ++ last)) e.worlds_are ∙ amid first e.earlier e.later last e.world;
      earlier_kept = All-append (λ (x : World). All (IsKept m x) x.vectors) first e.earlier before e.earlier_kept;
      before = e.before;
      escaping = e.escaping;
      after = e.after;
      vectors_are = e.vectors_are;
      before_kept = e.before_kept;
      nonzero = e.nonzero;
      escapes = e.escapes;
      shown = e.shown;
    }

-- what is told of a case, if it is a refutation, and if not
pub told_refuted : (p : Program) (s : Sets) (o : Obligation) (i : ℕ) (c : BoundCase) (told : Option Refutation) → i < length o.from → c ≡ get_or o.from i c → is_some told ≡ true → Judges (meaning_of p s o) (worlds_of (meaning_of p s o) (case_of s c)) told
    → AreKept (meaning_of p s o) (worlds_in (meaning_of p s o) s (take i o.from)) → Judges (meaning_of p s o) (worlds (meaning_of p s o)) told
told_refuted p s o i c None h is e j before = cc
told_refuted p s o i c (Some r) h is e j before = case_refuted p s o i c r h is j before

pub told_kept : (p : Program) (s : Sets) (o : Obligation) (i : ℕ) (c : BoundCase) (told : Option Refutation) → i < length o.from → c ≡ get_or o.from i c → is_some told ≡ false → Judges (meaning_of p s o) (worlds_of (meaning_of p s o) (case_of s c)) told
    → AreKept (meaning_of p s o) (worlds_in (meaning_of p s o) s (take i o.from)) → AreKept (meaning_of p s o) (worlds_in (meaning_of p s o) s (take (i + 1) o.from))
told_kept p s o i c None h is e j before = case_kept (meaning_of p s o) s o.from i c h is j before
told_kept p s o i c (Some r) h is e j before = cc

-- ---- the verdict
pub verified : (p : Program) (s : Sets) (o : Obligation) → CanBeJudged p s o → AreKept (meaning_of p s o) (worlds (meaning_of p s o)) → IsTrueOf (meaning_of p s o)
verified p s o can kept = worlds_decide.true_of (meaning_of p s o) can.bound.uncut kept

pub refuted : (p : Program) (s : Sets) (o : Obligation) (r : Refutation) → CanBeJudged p s o → AreRefutedBy (meaning_of p s o) (worlds (meaning_of p s o)) r → IsRefutedBy (meaning_of p s o) r
refuted p s o r can e =
    let shown : IsRefutation (meaning_of p s o) (shown_by r)
    = record {
      earlier = e.earlier;
      world = e.world;
      later = e.later;
      worlds_are = e.worlds_are;
      earlier_kept = e.earlier_kept;
      before = e.before;
      escaping = e.escaping;
      after = e.after;
      vectors_are = e.vectors_are;
      before_kept = e.before_kept;
      nonzero = e.nonzero;
      escapes = e.escapes;
      bits_are = e.shown.bits_are;
      state_is = e.shown.state_is;
      outcomes_are = e.shown.outcomes_are;
      end_bits_are = e.shown.end_bits_are;
      end_is = e.shown.end_is;
    } in
    record {
      state_qubits = e.shown.state_qubits;
      end_qubits = e.shown.end_qubits;
      refutation = shown;
      counterexample = worlds_decide.counterexample (meaning_of p s o) (shown_by r) can.bound.uncut shown;
    }
