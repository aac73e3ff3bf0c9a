-- Reports of several verdicts: how they grow, their counts and their status.
use Rattle.std.proofs.Common.{◌≡◌, ℕ, zero, suc, ◌+◌, ◌<◌, ◌≤◌, Bool, true, false, List, [], ◌∷◌, ◌++◌, All, length, map, take, drop, get_or, count_by, Result, Ok, Err, IfOk, nat_lt, inr, refl, ap, ap₂, sym, ◌∙◌, subst, arith, append-nil, append_assoc, add-one, take-append-drop, min, ◌^◌, ◌-◌, ◌||◌, if◌then◌else◌}
use Rattle.std.proofs.lemmas.List.{length-take, take_all}
use Rattle.std.specs.List.{list_any}
use Rattle.std.proofs.lemmas.Bool.Decides.{nat_tests}
use Rattle.std.proofs.lemmas.List.Elements.{All-cons, All-nil}
use Rattle.std.proofs.lemmas.List.Sums.{sum_by-append, sum_by-cons}
use Rattle.aq_base.specs.Limits.{most_obligations}
use Rattle.aq_prog.specs.declared.program.Program.{Program}
use Rattle.aq_sets.specs.declared.sets.Sets.{Sets}
use Rattle.aq_obligations.specs.Asking.{case_of, meaning_of, products_in}
use Rattle.aq_obligations.specs.Enough.{enough}
use Rattle.aq_obligations.specs.Obligations.{IsTrueOf, Meaning}
use Rattle.aq_obligations.specs.Wide.{IsWide}
use Rattle.aq_correct.specs.WorldLaws.{WorldsDecide}
use Rattle.aq_obligations.specs.Owing.{Owed, obligation_of}
use Rattle.aq_obligations.specs.declared.bound.BoundCase.{BoundCase}
use Rattle.aq_obligations.specs.declared.bound.Obligation.{Obligation}
use Rattle.aq_owing.specs.Made.{made}
use Rattle.aq_world.specs.Prints.{Prints}
use Rattle.aq_world.specs.Sinks.{SinkMeaning}
use Rattle.aq_world.specs.declared.sink.SinkFault.{SinkFault}
use Rattle.aq_world.proofs.PrintsLemmas.{Prints-none, Prints-then, Prints-stops}
use Rattle.aq_report.specs.Texts.{verdict_text, lines_from, counts_text, report, is_verified, is_refuted, is_given_up}
use Rattle.aq_report.specs.Verdicts.{AreJustified, IsJustified, shown_by}
use Rattle.aq_report.specs.declared.verdict.Verdict.{Verdict}
use Rattle.aq_report.specs.declared.verdict.Verdict.TheVariants as verdict
use Rattle.aq_report.specs.declared.verdict.Why.TheVariants as why
use Rattle.aq_top.specs.Judging.{AreDecided, CountsVerdicts, Decides, IsTally, PrintsVerdicts, verdicts_status}
use Rattle.aq_top.specs.declared.judging.Tally.{Tally}
use Rattle.aq_top.specs.declared.status.Status.{Status}
use Rattle.aq_top.specs.declared.status.Status.TheVariants as status

module _ (limit : ℕ) (p : Program) (s : Sets) where
  abbrev Fine : List Obligation → List Verdict → Type 0
  Fine = AreJustified limit p s

  abbrev IsFine : Obligation → Verdict → Type 0
  IsFine o v = IsJustified limit (enough p s o) (meaning_of p s o) v

  pub fine_append : (as' bs : List Obligation) (vs ws : List Verdict) → Fine as' vs → Fine bs ws → Fine (as' ++ bs) (vs ++ ws)
  fine_append [] bs [] ws f g = g
  fine_append [] bs (v ∷ vs) ws f g = absurd f
  fine_append (o ∷ as') bs [] ws f g = absurd f
  fine_append (o ∷ as') bs (v ∷ vs) ws f g = (f.0, fine_append as' bs vs ws f.1 g)

  -- an obligation that was given up for want of memory asks nothing
  pub given_up : (os : List Obligation) → Fine os (map (λ _. verdict.GaveUp why.Memory) os)
  given_up [] = tt
  given_up (o ∷ os) = (tt, given_up os)

  -- one more
  pub fine_more : (os : List Obligation) (i : ℕ) (o : Obligation) (vs : List Verdict) (v : Verdict) → i < length os → o ≡ get_or os i o → Fine (take i os) vs → IsFine o v
      → Fine (take (suc i) os) (vs ++ v ∷ [])
  fine_more [] i o vs v h e f j = absurd (omega (arith, h))
  fine_more (x ∷ os) zero o [] v h e f j = (subst (λ y. IsFine y v) e j, tt)
  fine_more (x ∷ os) zero o (w ∷ vs) v h e f j = absurd f
  fine_more (x ∷ os) (suc i) o [] v h e f j = absurd f
  fine_more (x ∷ os) (suc i) o (w ∷ vs) v h e f j = (f.0, fine_more os i o vs v (omega (arith, h)) e f.1 j)

  pub fine_length : (os : List Obligation) (vs : List Verdict) → Fine os vs → length vs ≡ length os
  fine_length [] [] f = refl
  fine_length [] (v ∷ vs) f = absurd f
  fine_length (o ∷ os) [] f = absurd f
  fine_length (o ∷ os) (v ∷ vs) f = ap suc (fine_length os vs f.1)

  pub lines_more : (n : ℕ) (os : List Obligation) (i : ℕ) (o : Obligation) (vs : List Verdict) (v : Verdict) → i < length os → o ≡ get_or os i o → Fine (take i os) vs
      → lines_from n (take (suc i) os) (vs ++ v ∷ []) ≡ lines_from n (take i os) vs ++ verdict_text (n + i) o.goal v
  lines_more n [] i o vs v h e f = absurd (omega (arith, h))
  lines_more n (x ∷ os) zero o [] v h e f =
      let same : n ≡ n + 0 = omega arith in
      append-nil (verdict_text n x.goal v) ∙ ap₂ (λ k (y : Obligation). verdict_text k y.goal v) same (sym e)
  lines_more n (x ∷ os) zero o (w ∷ vs) v h e f = absurd f
  lines_more n (x ∷ os) (suc i) o [] v h e f = absurd f
  lines_more n (x ∷ os) (suc i) o (w ∷ vs) v h e f =
      let same : (n + 1) + i ≡ n + suc i = omega arith in
      ap (λ t. verdict_text n x.goal w ++ t) (lines_more (n + 1) os i o vs v (omega (arith, h)) e f.1 ∙ ap (λ k. lines_from (n + 1) (take i os) vs ++ verdict_text k o.goal v) same)
      ∙ sym (append_assoc (verdict_text n x.goal w) (lines_from (n + 1) (take i os) vs) (verdict_text (n + suc i) o.goal v))

  -- the lines of the first obligations begin the lines of all
  pub lines_append : (n : ℕ) (as' bs : List Obligation) (vs ws : List Verdict) → Fine as' vs → lines_from n (as' ++ bs) (vs ++ ws) ≡ lines_from n as' vs ++ lines_from (n + length as') bs ws
  lines_append n [] bs [] ws f = let same : n ≡ n + 0 = omega arith in ap (λ k. lines_from k bs ws) same
  lines_append n [] bs (v ∷ vs) ws f = absurd f
  lines_append n (o ∷ as') bs [] ws f = absurd f
  lines_append n (o ∷ as') bs (v ∷ vs) ws f =
      let same : (n + 1) + length as' ≡ n + suc (length as') = omega arith in
      ap (λ t. verdict_text n o.goal v ++ t) (lines_append (n + 1) as' bs vs ws f.1 ∙ ap (λ k. lines_from (n + 1) as' vs ++ lines_from k bs ws) same)
      ∙ sym (append_assoc (verdict_text n o.goal v) (lines_from (n + 1) as' vs) (lines_from (n + suc (length as')) bs ws))

-- ---- what is decided

decides : (limit most : ℕ) (o : Meaning) (law : WorldsDecide) (v : Verdict) → IsJustified limit most o v → most ≤ limit → (IsWide o → ⊥) → Decides o v
decides limit most o law verdict.Verified j h n = j
decides limit most o law (verdict.Refuted r) j h n = law.not_both o (shown_by r) j.counterexample
decides limit most o law (verdict.GaveUp why.Width) j h n = n j
decides limit most o law (verdict.GaveUp why.Steps) j h n = omega (arith, j, h)
decides limit most o law (verdict.GaveUp why.Memory) j h n = tt

pub are_decided : (limit : ℕ) (p : Program) (s : Sets) (law : WorldsDecide) (os : List Obligation) (vs : List Verdict) → AreJustified limit p s os vs → AreDecided limit p s os vs
are_decided limit p s law [] vs f = tt
are_decided limit p s law (o ∷ os) [] f = tt
are_decided limit p s law (o ∷ os) (v ∷ vs) f = (decides limit (enough p s o) (meaning_of p s o) law v f.0, are_decided limit p s law os vs f.1)

-- ---- all verified

pub all_true : (limit : ℕ) (p : Program) (s : Sets) (ds : List (Owed BoundCase)) (vs : List Verdict) → AreJustified limit p s (map made ds) vs → list_any is_refuted vs ≡ false → list_any is_given_up vs ≡ false
    → All (λ d. IsTrueOf (obligation_of p.qubits p.bits (case_of s) (products_in s) d)) ds
all_true limit p s [] vs f r g = All-nil (λ d. IsTrueOf (obligation_of p.qubits p.bits (case_of s) (products_in s) d))
all_true limit p s (d ∷ ds) [] f r g = absurd f
all_true limit p s (d ∷ ds) (verdict.Verified ∷ vs) f r g =
    All-cons (λ d. IsTrueOf (obligation_of p.qubits p.bits (case_of s) (products_in s) d)) d ds f.0 (all_true limit p s ds vs f.1 r g)
all_true limit p s (d ∷ ds) (verdict.Refuted x ∷ vs) f r g = absurd (cc r)
all_true limit p s (d ∷ ds) (verdict.GaveUp x ∷ vs) f r g = absurd (cc g)

-- ---- counts

abbrev one : Bool → ℕ
one b = if b then 1 else 0

one_more_any : (b : Bool) (n : ℕ) (rest : Bool) → nat_lt 0 n ≡ rest → nat_lt 0 (one b + n) ≡ (b || rest)
one_more_any true n rest e = grind (arith, nat_tests)
one_more_any false n rest e = let same : 0 + n ≡ n = omega arith in ap (nat_lt 0) same ∙ e

counted_any : (test : Verdict → Bool) (vs : List Verdict) → nat_lt 0 (count_by test vs) ≡ list_any test vs
counted_any test [] = refl
counted_any test (v ∷ vs) = ap (nat_lt 0) (sum_by-cons (λ x. one (test x)) v vs) ∙ one_more_any (test v) (count_by test vs) (list_any test vs) (counted_any test vs)

at_most_one : (b : Bool) → one b ≤ 1
at_most_one true = omega arith
at_most_one false = omega arith

pub few_counted : (test : Verdict → Bool) (vs : List Verdict) → count_by test vs ≤ length vs
few_counted test [] = omega arith
few_counted test (v ∷ vs) =
    let cut = sum_by-cons (λ x. one (test x)) v vs in
    let few = few_counted test vs in
    let most = at_most_one (test v) in
    omega (arith, cut, few, most)

one_counted : (test : Verdict → Bool) (v : Verdict) → count_by test (v ∷ []) ≡ one (test v)
one_counted test v = by_test (test v)
  where
    by_test : (b : Bool) → 0 + one b ≡ one b
    by_test true = refl
    by_test false = refl

counted_more : (test : Verdict → Bool) (vs : List Verdict) (v w : Verdict) → v ≡ w → count_by test (vs ++ v ∷ []) ≡ count_by test vs + one (test w)
counted_more test vs v w e = sum_by-append (λ x. one (test x)) vs (v ∷ []) ∙ ap (λ k. count_by test vs + k) (one_counted test v ∙ ap (λ x. one (test x)) e)

-- one verdict more
pub tally_with : (t u : Tally) (vs : List Verdict) (v w : Verdict) → v ≡ w → IsTally t vs → u.verified ≡ t.verified + one (is_verified w) → u.refuted ≡ t.refuted + one (is_refuted w)
    → u.gave_up ≡ t.gave_up + one (is_given_up w) → IsTally u (vs ++ v ∷ [])
tally_with t u vs v w e h a b c = record {
  verified = a ∙ ap (λ k. k + one (is_verified w)) h.verified ∙ sym (counted_more is_verified vs v w e);
  refuted = b ∙ ap (λ k. k + one (is_refuted w)) h.refuted ∙ sym (counted_more is_refuted vs v w e);
  gave_up = c ∙ ap (λ k. k + one (is_given_up w)) h.gave_up ∙ sym (counted_more is_given_up vs v w e);
}

pub no_more : (n : ℕ) → n ≡ n + 0
no_more n = omega arith

pub one_saturated : (n m r : ℕ) → n ≡ m → m ≤ most_obligations → r ≡ min (n + 1) (2 ^ 32 - 1) → r ≡ n + 1
one_saturated n m r e h s = omega (arith, e, h, s)

-- ---- statuses

abbrev status_by : Bool → Bool → Status
status_by refuted given_up = if refuted then status.Refuted else (if given_up then status.GaveUp else status.Good)

some_told : (n m : ℕ) → n ≡ m → 0 < n → nat_lt 0 m ≡ true
some_told n m e h = grind (arith, nat_tests)

none_told : (n m : ℕ) → n ≡ m → n ≤ 0 → nat_lt 0 m ≡ false
none_told n m e h = grind (arith, nat_tests)

pub refuted_status : (t : Tally) (vs : List Verdict) → IsTally t vs → 0 < t.refuted → status.Refuted ≡ verdicts_status vs
refuted_status t vs h some =
    ap (λ b. status_by b (list_any is_given_up vs)) (sym (sym (counted_any is_refuted vs) ∙ some_told t.refuted (count_by is_refuted vs) h.refuted some))

pub given_up_status : (t : Tally) (vs : List Verdict) → IsTally t vs → t.refuted ≤ 0 → 0 < t.gave_up → status.GaveUp ≡ verdicts_status vs
given_up_status t vs h none some =
    ap₂ status_by (sym (sym (counted_any is_refuted vs) ∙ none_told t.refuted (count_by is_refuted vs) h.refuted none))
    (sym (sym (counted_any is_given_up vs) ∙ some_told t.gave_up (count_by is_given_up vs) h.gave_up some))

pub good_status : (t : Tally) (vs : List Verdict) → IsTally t vs → t.refuted ≤ 0 → t.gave_up ≤ 0 → status.Good ≡ verdicts_status vs
good_status t vs h none nil =
    ap₂ status_by (sym (sym (counted_any is_refuted vs) ∙ none_told t.refuted (count_by is_refuted vs) h.refuted none))
    (sym (sym (counted_any is_given_up vs) ∙ none_told t.gave_up (count_by is_given_up vs) h.gave_up nil))

-- ---- what is printed, verdict by verdict

-- the first obligations have their verdicts, and the lines of these were printed
pub record SoFar {S : Type 0} (sink : SinkMeaning S) (old new : S) (limit : ℕ) (p : Program) (s : Sets) (os : List Obligation) (i : ℕ) (t : Tally) : Type 0 where
  pub verdicts : List Verdict
  pub justified : AreJustified limit p s (take i os) verdicts
  pub prints : Prints {T = Unit {0}} sink old new (Ok tt) (lines_from 1 (take i os) verdicts)
  pub counts : IsTally t verdicts

pub so_far_first : {S : Type 0} (sink : SinkMeaning S) (x : S) (limit : ℕ) (p : Program) (s : Sets) (os : List Obligation)
    → SoFar sink x x limit p s os 0 (record { verified = 0; refuted = 0; gave_up = 0 })
so_far_first sink x limit p s os = record {
  verdicts = [];
  justified = tt;
  prints = Prints-none sink x tt;
  counts = record { verified = refl; refuted = refl; gave_up = refl };
}

module _ {S : Type 0} (sink : SinkMeaning S) (old mid new : S) (limit : ℕ) (p : Program) (s : Sets) (os : List Obligation) (i : ℕ) (t : Tally) where
  abbrev text_of : Obligation → Verdict → List ℕ
  text_of o v = verdict_text (i + 1) o.goal v

  abbrev numbered : (o : Obligation) (v : Verdict) → verdict_text (1 + i) o.goal v ≡ text_of o v
  numbered o v = let same : 1 + i ≡ i + 1 = omega arith in ap (λ k. verdict_text k o.goal v) same

  pub so_far_next : (u : Tally) (o : Obligation) (v : Verdict) (r : Result (Unit {0}) SinkFault) (x : Unit {0}) → SoFar sink old mid limit p s os i t → i < length os → o ≡ get_or os i o
      → IsJustified limit (enough p s o) (meaning_of p s o) v → Prints sink mid new r (text_of o v) → r ≡ Ok x
      → ((vs : List Verdict) → length vs ≡ length (take i os) → IsTally t vs → IsTally u (vs ++ v ∷ [])) → SoFar sink old new limit p s os (i + 1) u
  so_far_next u o v r x f h e j q is more = record {
    verdicts = f.verdicts ++ v ∷ [];
    justified = subst (λ k. AreJustified limit p s (take k os) (f.verdicts ++ v ∷ [])) (sym (add-one i)) (fine_more limit p s os i o f.verdicts v h e f.justified j);
    prints = subst (λ b. Prints {T = Unit {0}} sink old new (Ok tt) b)
        (ap (λ b. lines_from 1 (take i os) f.verdicts ++ b) (sym (numbered o v)) ∙ sym (ap (λ k. lines_from 1 (take k os) (f.verdicts ++ v ∷ [])) (add-one i) ∙ lines_more limit p s 1 os i o f.verdicts v h e f.justified))
        (Prints-then f.prints refl (subst (λ y. Prints sink mid new y (text_of o v)) is q));
    counts = more f.verdicts (fine_length limit p s (take i os) f.verdicts f.justified) f.counts;
  }

  pub so_far_stop : (o : Obligation) (v : Verdict) (r : Result (Unit {0}) SinkFault) (z : Result Tally SinkFault) (cause : SinkFault) → SoFar sink old mid limit p s os i t → i < length os → o ≡ get_or os i o
      → IsJustified limit (enough p s o) (meaning_of p s o) v → Prints sink mid new r (text_of o v) → r ≡ Err cause → z ≡ Err cause
      → PrintsVerdicts sink old new limit p s os (lines_from 1 os) z
  so_far_stop o v r z cause f h e j q is goes =
      let k = suc i in
      let rest = drop k os in
      let before = f.verdicts ++ v ∷ [] in
      let fine = fine_more limit p s os i o f.verdicts v h e f.justified j in
      let behind = map (λ _. verdict.GaveUp why.Memory) rest in
      let whole : take k os ++ rest ≡ os = take-append-drop k os in
      let lines = lines_append limit p s 1 (take k os) rest before behind fine in
      let first = lines_more limit p s 1 os i o f.verdicts v h e f.justified in
      record {
        verdicts = before ++ behind;
        justified = subst (λ l. AreJustified limit p s l (before ++ behind)) whole (fine_append limit p s (take k os) rest before behind fine (given_up limit p s rest));
        prints = subst (λ b. Prints sink old new z b)
            (ap (λ b. b ++ lines_from (1 + length (take k os)) rest behind) (ap (λ b. lines_from 1 (take i os) f.verdicts ++ b) (sym (numbered o v)) ∙ sym first)
            ∙ sym lines ∙ ap (λ l. lines_from 1 l (before ++ behind)) whole)
            (Prints-stops (lines_from (1 + length (take k os)) rest behind) (Prints-then f.prints refl q) is goes);
        counts = subst (λ y. IfOk y (λ t. IsTally t (before ++ behind))) (sym goes) tt;
      }

pub so_far_end : {S : Type 0} (sink : SinkMeaning S) (old new : S) (limit : ℕ) (p : Program) (s : Sets) (os : List Obligation) (i : ℕ) (t : Tally) → length os ≤ i
    → SoFar sink old new limit p s os i t → PrintsVerdicts sink old new limit p s os (lines_from 1 os) (Ok t)
so_far_end sink old new limit p s os i t h f =
    let all : take i os ≡ os = take_all i os h in
    let prints = subst (λ l. Prints {T = Unit {0}} sink old new (Ok tt) (lines_from 1 l f.verdicts)) all f.prints in
    record {
      verdicts = f.verdicts;
      justified = subst (λ l. AreJustified limit p s l f.verdicts) all f.justified;
      prints = record { bytes = prints.bytes; calls = prints.calls; later = prints.later; failed = tt };
      counts = f.counts;
    }

-- so many are few enough to be counted
pub few_so_far : (os : List Obligation) (i : ℕ) (vs : List Verdict) → length os ≤ most_obligations → length vs ≡ length (take i os) → length vs ≤ most_obligations
few_so_far os i vs h e = let cut = length-take i os in omega (arith, h, e, cut)

-- the counts behind the lines
pub counts_behind : {S : Type 0} (sink : SinkMeaning S) (old mid new : S) (limit : ℕ) (p : Program) (s : Sets) (os : List Obligation) (r z : Result Tally SinkFault) (t : Tally)
    → PrintsVerdicts sink old mid limit p s os (lines_from 1 os) r → r ≡ Ok t → ((vs : List Verdict) → IsTally t vs → Prints sink mid new z (counts_text vs)) → IfOk z (λ x. x ≡ t)
    → PrintsVerdicts sink old new limit p s os (report os) z
counts_behind sink old mid new limit p s os r z t f e q same =
    let tally : IsTally t f.verdicts = subst (λ y. IfOk y (λ x. IsTally x f.verdicts)) e f.counts in
    record {
      verdicts = f.verdicts;
      justified = f.justified;
      prints = Prints-then f.prints e (q f.verdicts tally);
      counts = kept z same;
    }
  where
    kept : (y : Result Tally SinkFault) → IfOk y (λ x. x ≡ t) → IfOk y (λ x. IsTally x f.verdicts)
    kept (Ok x) h = subst (λ k. IsTally k f.verdicts) (sym h) (subst (λ y. IfOk y (λ x. IsTally x f.verdicts)) e f.counts)
    kept (Err x) h = tt

pub counts_stop : {S : Type 0} (sink : SinkMeaning S) (old new : S) (limit : ℕ) (p : Program) (s : Sets) (os : List Obligation) (r z : Result Tally SinkFault) (cause : SinkFault)
    → PrintsVerdicts sink old new limit p s os (lines_from 1 os) r → r ≡ Err cause → z ≡ Err cause → PrintsVerdicts sink old new limit p s os (report os) z
counts_stop sink old new limit p s os r z cause f e g = record {
  verdicts = f.verdicts;
  justified = f.justified;
  prints = Prints-stops (counts_text f.verdicts) f.prints e g;
  counts = subst (λ y. IfOk y (λ t. IsTally t f.verdicts)) (sym g) tt;
}

-- ---- what is counted, verdict by verdict

-- the first obligations have their verdicts, which were counted
pub record CountedSoFar (limit : ℕ) (p : Program) (s : Sets) (os : List Obligation) (i : ℕ) (t : Tally) : Type 0 where
  pub verdicts : List Verdict
  pub justified : AreJustified limit p s (take i os) verdicts
  pub counts : IsTally t verdicts

pub counted_first : (limit : ℕ) (p : Program) (s : Sets) (os : List Obligation) (t : Tally) → IsTally t [] → CountedSoFar limit p s os 0 t
counted_first limit p s os t h = record { verdicts = []; justified = tt; counts = h }

pub counted_next : (limit : ℕ) (p : Program) (s : Sets) (os : List Obligation) (i : ℕ) (t u : Tally) (o : Obligation) (v : Verdict) → CountedSoFar limit p s os i t → i < length os
    → o ≡ get_or os i o → IsJustified limit (enough p s o) (meaning_of p s o) v
    → ((vs : List Verdict) → length vs ≡ length (take i os) → IsTally t vs → IsTally u (vs ++ v ∷ [])) → CountedSoFar limit p s os (i + 1) u
counted_next limit p s os i t u o v f h e j more = record {
  verdicts = f.verdicts ++ v ∷ [];
  justified = subst (λ k. AreJustified limit p s (take k os) (f.verdicts ++ v ∷ [])) (sym (add-one i)) (fine_more limit p s os i o f.verdicts v h e f.justified j);
  counts = more f.verdicts (fine_length limit p s (take i os) f.verdicts f.justified) f.counts;
}

pub counted_end : (limit : ℕ) (p : Program) (s : Sets) (os : List Obligation) (i : ℕ) (t : Tally) → length os ≤ i → CountedSoFar limit p s os i t → CountsVerdicts limit p s os t
counted_end limit p s os i t h f = record {
  verdicts = f.verdicts;
  justified = subst (λ l. AreJustified limit p s l f.verdicts) (take_all i os h) f.justified;
  counts = f.counts;
}
