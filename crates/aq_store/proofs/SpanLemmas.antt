-- Kept runs and runs are one to one, and a push and a read by halves are right.
use Rattle.std.proofs.Common.{◌≡◌, ℕ, zero, suc, ◌+◌, ◌-◌, ◌<◌, ◌≤◌, inl, inr, Bool, true, false, ◌&&◌, leb, nat_eq, List, [], ◌∷◌, ◌++◌, length, take, drop, slice_get, get_or}
use Rattle.std.proofs.Common.{Some, refl, sym, ap, ap₂, subst, ◌∙◌, arith}
use Rattle.std.proofs.lemmas.Bool.{leb-true, leb-false, eqb-true, cases_lt}
use Rattle.std.specs.List.{refill}
use Rattle.std.proofs.Math.ListN.{set, length-set}
use Rattle.std.proofs.lemmas.List.{length-append}
use Rattle.std.specs.List.Sorted.{IsNonDecreasingBy}
use Rattle.std.proofs.lemmas.Option.{slice_get_within, slice_get-get_or, get_or_from_slice_get}
use Rattle.aq_store.specs.declared.pairs.Span.{Span}
use Rattle.aq_store.specs.Runs.{Run, copies, run_of, pair_of, same_pair, expand, compress, IsCanonical}
use Rattle.aq_store.specs.Spans.{runs_of, spans_from, spans_of, begin_of, HasChoice}
use Rattle.aq_store.proofs.RunLemmas.{expand-compress, compress-expand, length-copies, before, before-all, run_at, merged, appended}

-- ---- one to one
spans_from-runs_of : (start : ℕ) (ss : List Span) → IsCanonical (runs_of start ss) → spans_from start (runs_of start ss) ≡ ss
unfolding runs_of spans_from IsCanonical
spans_from-runs_of start [] h = refl
spans_from-runs_of start (s ∷ ss) h =
    let end : start + (s.end - start) ≡ s.end = (let some = h.0 in omega arith) in
    (λ i. record { left = s.left; right = s.right; end = end i } ∷ spans_from (end i) (runs_of s.end ss)) ∙ ap (λ l. s ∷ l) (spans_from-runs_of s.end ss h.2)

runs_of-spans_from : (start : ℕ) (rs : List Run) → runs_of start (spans_from start rs) ≡ rs
unfolding runs_of spans_from
runs_of-spans_from start [] = refl
runs_of-spans_from start (r ∷ rs) =
    let count : start + r.count - start ≡ r.count = omega arith in
    (λ i. record { left = r.left; right = r.right; count = count i } ∷ runs_of (start + r.count) (spans_from (start + r.count) rs)) ∙ ap (λ l. r ∷ l) (runs_of-spans_from (start + r.count) rs)

-- lists of pairs that are kept alike are the same
pub spans_of_one : (ps qs : List (ℕ × ℕ)) → spans_of ps ≡ spans_of qs → ps ≡ qs
spans_of_one ps qs e =
    sym (expand-compress ps) ∙ ap expand (sym (runs_of-spans_from 0 (compress ps)) ∙ ap (runs_of 0) e ∙ runs_of-spans_from 0 (compress qs)) ∙ expand-compress qs

-- what a slice of the kept runs tells
pub kept : (ss items : List Span) (ps : List (ℕ × ℕ)) → ss ≡ items → expand (runs_of 0 items) ≡ ps → IsCanonical (runs_of 0 items)
    → IsCanonical (runs_of 0 ss) × (compress ps ≡ runs_of 0 ss) × (expand (runs_of 0 ss) ≡ ps)
kept ss items ps e is h = (
  subst (λ l. IsCanonical (runs_of 0 l)) (sym e) h,
  sym (ap compress is) ∙ compress-expand (runs_of 0 items) h ∙ ap (runs_of 0) (sym e),
  ap (λ l. expand (runs_of 0 l)) e ∙ is,
)

-- what is kept is kept as the list of its pairs is
pub spans_is : (ss : List Span) (ps : List (ℕ × ℕ)) → IsCanonical (runs_of 0 ss) → compress ps ≡ runs_of 0 ss → ss ≡ spans_of ps
spans_is ss ps h e = sym (spans_from-runs_of 0 ss h) ∙ ap (spans_from 0) (sym e)

-- ---- reading
pub runs_of-none : runs_of 0 [] ≡ []
unfolding runs_of
runs_of-none = refl

pub length-runs_of : (start : ℕ) (ss : List Span) → length (runs_of start ss) ≡ length ss
unfolding runs_of
length-runs_of start [] = refl
length-runs_of start (s ∷ ss) = ap suc (length-runs_of s.end ss)

pub span_run : (start : ℕ) (ss : List Span) (i : ℕ) (s : Span) → slice_get ss i ≡ Some s → slice_get (runs_of start ss) i ≡ Some (run_of (s.left, s.right) (s.end - begin_of start ss i))
unfolding runs_of begin_of
span_run start [] i s e = cc
span_run start (t ∷ ss) zero s e =
    let is : t ≡ s = cc in
    ap (λ (x : Span). Some (run_of (x.left, x.right) (x.end - start))) is
span_run start (t ∷ ss) (suc i) s e = span_run t.end ss i s e

-- the run that ends at a span isn't empty
pub span_some : (start : ℕ) (ss : List Span) (i : ℕ) (s : Span) → IsCanonical (runs_of start ss) → slice_get ss i ≡ Some s → begin_of start ss i < s.end
unfolding runs_of begin_of IsCanonical
span_some start [] i s h e = cc
span_some start (t ∷ ss) zero s h e =
    let is : t.end ≡ s.end = (let same : t ≡ s = cc in ap (λ (x : Span). x.end) same) in
    let some = h.0 in
    omega arith
span_some start (t ∷ ss) (suc i) s h e = span_some t.end ss i s h.2 e

span_next : (start : ℕ) (ss : List Span) (i : ℕ) (s : Span) → slice_get ss i ≡ Some s → begin_of start ss (suc i) ≡ s.end
unfolding begin_of
span_next start [] i s e = cc
span_next start (t ∷ ss) zero s e = let same : t ≡ s = cc in ap (λ (x : Span). x.end) same
span_next start (t ∷ ss) (suc i) s e = span_next t.end ss i s e

-- where a run begins, as it is read
pub begin_read : (ss : List Span) (i : ℕ) (d : Span) → 0 < i → i ≤ length ss → (get_or ss (i - 1) d).end ≡ begin_of 0 ss i
begin_read ss i d some le =
    let next : suc (i - 1) ≡ i = omega arith in
    sym (span_next 0 ss (i - 1) (get_or ss (i - 1) d) (slice_get-get_or ss (i - 1) d (omega arith))) ∙ ap (begin_of 0 ss) next

pub begin_first : (ss : List Span) (i : ℕ) → i ≡ 0 → 0 ≡ begin_of 0 ss i
unfolding begin_of
begin_first ss i e = ap (begin_of 0 ss) (sym e)

before-runs_of : (start : ℕ) (ss : List Span) (i : ℕ) → IsCanonical (runs_of start ss) → i ≤ length ss → start + before (runs_of start ss) i ≡ begin_of start ss i
unfolding runs_of begin_of IsCanonical before expand
before-runs_of start [] zero h le = omega arith
before-runs_of start [] (suc i) h le = absurd (omega arith)
before-runs_of start (s ∷ ss) zero h le = omega arith
before-runs_of start (s ∷ ss) (suc i) h le =
    let some = h.0 in
    let rest : s.end + length (expand (take i (runs_of s.end ss))) ≡ begin_of s.end ss i = before-runs_of s.end ss i h.2 (omega arith) in
    let above : before (runs_of start (s ∷ ss)) (suc i) ≡ length (copies (s.end - start) (s.left, s.right) ++ expand (take i (runs_of s.end ss))) = refl in
    let below : begin_of start (s ∷ ss) (suc i) ≡ begin_of s.end ss i = refl in
    let a = length-append (copies (s.end - start) (s.left, s.right)) (expand (take i (runs_of s.end ss))) in
    let b = length-copies {A = ℕ × ℕ} (s.end - start) (s.left, s.right) in
    omega arith

-- how many pairs there are
pub begin_last : (ss : List Span) → IsCanonical (runs_of 0 ss) → begin_of 0 ss (length ss) ≡ length (expand (runs_of 0 ss))
begin_last ss h =
    let a = before-runs_of 0 ss (length ss) h (omega arith) in
    let b = before-all (runs_of 0 ss) (length ss) (let c = length-runs_of 0 ss in omega arith) in
    omega arith

-- the pairs under the choices of a run
pub span_pair : (ss : List Span) (i c : ℕ) (s : Span) → IsCanonical (runs_of 0 ss) → slice_get ss i ≡ Some s → begin_of 0 ss i ≤ c → c < s.end
    → slice_get (expand (runs_of 0 ss)) c ≡ Some (s.left, s.right)
span_pair ss i c s h e le lt =
    let within = slice_get_within ss i s e in
    let a = before-runs_of 0 ss i h (omega arith) in
    let some = span_some 0 ss i s h e in
    run_at (runs_of 0 ss) i c (run_of (s.left, s.right) (s.end - begin_of 0 ss i)) (span_run 0 ss i s e) (omega arith) (omega arith)

-- ---- the search by halves
ends_past : (start : ℕ) (ss : List Span) → IsCanonical (runs_of start ss) → (k : ℕ) (d : Span) → k < length ss → start ≤ (get_or ss k d).end
unfolding runs_of IsCanonical
ends_past start [] h k d lt = absurd (omega arith)
ends_past start (s ∷ ss) h zero d lt = let some = h.0 in omega arith
ends_past start (s ∷ ss) h (suc k) d lt = let some = h.0 in let rest = ends_past s.end ss h.2 k d (omega arith) in omega arith

pub ends_rise : (start : ℕ) (ss : List Span) → IsCanonical (runs_of start ss) → IsNonDecreasingBy (λ (s : Span). s.end) ss
unfolding runs_of IsCanonical
ends_rise start [] h i j d le lt = absurd (omega arith)
ends_rise start (s ∷ ss) h zero zero d le lt = omega arith
ends_rise start (s ∷ ss) h zero (suc j) d le lt = ends_past s.end ss h.2 j d (omega arith)
ends_rise start (s ∷ ss) h (suc i) zero d le lt = absurd (omega arith)
ends_rise start (s ∷ ss) h (suc i) (suc j) d le lt = ends_rise s.end ss h.2 i j d (omega arith) (omega arith)

begin_below : (start : ℕ) (ss : List Span) (i c : ℕ) → start ≤ c → i ≤ length ss → ((k : ℕ) (d : Span) → k < i → (get_or ss k d).end ≤ c) → begin_of start ss i ≤ c
unfolding begin_of
begin_below start ss zero c le within below = le
begin_below start [] (suc i) c le within below = le
begin_below start (s ∷ ss) (suc i) c le within below = begin_below s.end ss i c (below 0 s (omega arith)) (omega arith) (λ k d lt. below (suc k) d (omega arith))

pub found_choice : (ss : List Span) (i c : ℕ) → IsCanonical (runs_of 0 ss) → c < length (expand (runs_of 0 ss)) → i ≤ length ss
    → ((k : ℕ) (d : Span) → 0 ≤ k → k < i → leb (get_or ss k d).end c ≡ true) → ((k : ℕ) (d : Span) → i ≤ k → k < length ss → leb (get_or ss k d).end c ≡ false) → HasChoice ss i c
found_choice ss i c h lt le below above =
    let begins = begin_below 0 ss i c (omega arith) le (λ k d l. leb-true _ _ (below k d (omega arith) l)) in
    let within : i < length ss = elim (cases_lt i (length ss)) [
      | inl l ↦ l
      | inr past ↦ (let last : i ≡ length ss = omega arith in let e = ap (begin_of 0 ss) last in let f = begin_last ss h in absurd (omega arith))
    ] in
    record {
      within = within;
      begins = begins;
      ends = λ s at. subst (λ (x : Span). c < x.end) (get_or_from_slice_get ss i s s at) (leb-false _ _ (above i s (omega arith) within));
    }

-- ---- pushes
some_one : {X : Type 0} {x y : X} → Some x ≡ Some y → x ≡ y
some_one e = cc

pub refill_same : {X : Type 0} (xs ws : List X) → length ws ≡ length xs → take (length xs) (ws ++ drop (length ws) xs) ≡ ws
refill_same [] [] e = refl
refill_same [] (w ∷ ws) e = absurd (omega arith)
refill_same (x ∷ xs) [] e = absurd (omega arith)
refill_same (x ∷ xs) (w ∷ ws) e = ap (λ l. w ∷ l) (refill_same xs ws (omega arith))

runs_of-set : (start : ℕ) (ss : List Span) (i : ℕ) (s : Span) → suc i ≡ length ss → runs_of start (set ss i s) ≡ set (runs_of start ss) i (run_of (s.left, s.right) (s.end - begin_of start ss i))
unfolding runs_of begin_of
runs_of-set start [] i s e = absurd (omega arith)
runs_of-set start (t ∷ []) zero s e = refl
runs_of-set start (t ∷ u ∷ ss) zero s e = absurd (omega arith)
runs_of-set start (t ∷ ss) (suc i) s e = ap (λ l. record { left = t.left; right = t.right; count = t.end - start } ∷ l) (runs_of-set t.end ss i s (omega arith))

runs_of-push : (start : ℕ) (ss : List Span) (s : Span) → runs_of start (ss ++ s ∷ []) ≡ runs_of start ss ++ run_of (s.left, s.right) (s.end - begin_of start ss (length ss)) ∷ []
unfolding runs_of begin_of
runs_of-push start [] s = refl
runs_of-push start (t ∷ ss) s = ap (λ l. record { left = t.left; right = t.right; count = t.end - start } ∷ l) (runs_of-push t.end ss s)

both_true : (a b : Bool) → (a && b) ≡ true → (a ≡ true) × (b ≡ true)
both_true true b e = (refl, e)
both_true false b e = cc

pushed_pair : (s r : Span) → (nat_eq s.left r.left && nat_eq s.right r.right) ≡ true → ◌≡◌ {A = ℕ × ℕ} (s.left, s.right) (r.left, r.right)
pushed_pair s r e =
    let u = both_true _ _ e in
    let left : s.left ≡ r.left = eqb-true _ _ u.0 in
    let right : s.right ≡ r.right = eqb-true _ _ u.1 in
    ap₂ (λ x y. (x, y)) left right

-- the last run goes on
pub push_same : (ss read written : List Span) (s d : Span) (i n k : ℕ) → read ≡ ss → written ≡ ss → n ≡ length ss → 0 < n → i ≡ n - 1 → 0 < k → IsCanonical (runs_of 0 ss)
    → s.end ≡ length (expand (runs_of 0 ss)) + k → (nat_eq s.left (get_or read i d).left && nat_eq s.right (get_or read i d).right) ≡ true
    → IsCanonical (runs_of 0 (refill (length ss) ss (set written i s))) × (expand (runs_of 0 (refill (length ss) ss (set written i s))) ≡ expand (runs_of 0 ss) ++ copies k (s.left, s.right))
push_same ss read written s d i n k e f long some last more h end same =
    let r = get_or ss i d in
    let at = slice_get-get_or ss i d (omega arith) in
    let b = begin_of 0 ss i in
    let old = run_of (r.left, r.right) (r.end - b) in
    let old_at = span_run 0 ss i r at in
    let old_some = span_some 0 ss i r h at in
    let total = begin_last ss h in
    let next : begin_of 0 ss (length ss) ≡ r.end = (let g : length ss ≡ suc i = omega arith in ap (begin_of 0 ss) g ∙ span_next 0 ss i r at) in
    let alike : (nat_eq s.left r.left && nat_eq s.right r.right) ≡ true = ap (λ l. nat_eq s.left (get_or l i d).left && nat_eq s.right (get_or l i d).right) (sym e) ∙ same in
    let m = merged (runs_of 0 ss) old i n k (s.left, s.right) k (long ∙ sym (length-runs_of 0 ss)) some last (sym (get_or_from_slice_get (runs_of 0 ss) i old old old_at)) more h alike in
    let pair = pushed_pair s r alike in
    let count : s.end - b ≡ r.end - b + k = omega arith in
    let is : refill (length ss) ss (set written i s) ≡ set ss i s = ap (λ l. refill (length ss) ss (set l i s)) f ∙ refill_same ss (set ss i s) (length-set ss i s) in
    let all : runs_of 0 (refill (length ss) ss (set written i s)) ≡ set (runs_of 0 ss) i (run_of (r.left, r.right) (r.end - b + k)) =
    ap (runs_of 0) is ∙ runs_of-set 0 ss i s (omega arith) ∙ (λ j. set (runs_of 0 ss) i (run_of (pair j) (count j))) in
    (subst IsCanonical (sym all) m.0, ap expand all ∙ m.1)

-- another run begins
pub push_other : (ss new : List Span) (s d : Span) (k : ℕ) → new ≡ ss ++ s ∷ [] → 0 < k → IsCanonical (runs_of 0 ss) → s.end ≡ length (expand (runs_of 0 ss)) + k
    → (0 < length ss → (nat_eq s.left (get_or ss (length ss - 1) d).left && nat_eq s.right (get_or ss (length ss - 1) d).right) ≡ false)
    → IsCanonical (runs_of 0 new) × (expand (runs_of 0 new) ≡ expand (runs_of 0 ss) ++ copies k (s.left, s.right))
push_other ss new s d k is some h end other =
    let total = begin_last ss h in
    let count : s.end - begin_of 0 ss (length ss) ≡ k = omega arith in
    let all : runs_of 0 new ≡ runs_of 0 ss ++ run_of (s.left, s.right) k ∷ [] = ap (runs_of 0) is ∙ runs_of-push 0 ss s ∙ ap (λ c. runs_of 0 ss ++ run_of (s.left, s.right) c ∷ []) count in
    appended (runs_of 0 ss) (runs_of 0 new) k (s.left, s.right) all some h (λ r at lt. by r at lt)
  where
    long : length (runs_of 0 ss) ≡ length ss
    long = length-runs_of 0 ss

    by : (r : Run) → slice_get (runs_of 0 ss) (length (runs_of 0 ss) - 1) ≡ Some r → 0 < length (runs_of 0 ss) → same_pair (run_of (s.left, s.right) k) (pair_of r) ≡ false
    by r at lt =
        let last = get_or ss (length ss - 1) d in
        let place : length (runs_of 0 ss) - 1 ≡ length ss - 1 = ap (λ n. n - 1) long in
        let both : Some r ≡ Some (run_of (last.left, last.right) (last.end - begin_of 0 ss (length ss - 1))) =
        sym at ∙ ap (slice_get (runs_of 0 ss)) place ∙ span_run 0 ss (length ss - 1) last (slice_get-get_or ss (length ss - 1) d (omega (arith, long, lt))) in
        ap (λ x. same_pair (run_of (s.left, s.right) k) (pair_of x)) (some_one both) ∙ other (omega (arith, long, lt))
