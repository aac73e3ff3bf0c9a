-- An obligation is true or has one refutation.
use Rattle.std.proofs.Common.{◌≡◌, ℕ, zero, suc, ◌<◌, Bool, true, false, List, [], ◌∷◌, ◌++◌, length, All, Any, Contains, Option, Some, slice_get, slice_index_or, ◌⊎◌, inl, inr, ⊎_elim, refl, ap, sym, ◌∙◌, subst, arith}
use Rattle.std.specs.List.{AllByRecursion}
use Rattle.std.proofs.lemmas.List.Elements.{All-from_recursion, recursion_from_All, Contains-append_right}
use Rattle.aq_ring.specs.Fractions.{Amplitude}
use Rattle.aq_ring.specs.Vectors.{IsZeroVector, Proportional}
use Rattle.aq_obligations.specs.Claims.{ClaimCase, are_met, CaseHolds, Holds}
use Rattle.aq_obligations.specs.Obligations.{Meaning, Shown, run_of, IsTrueOf}
use Rattle.aq_obligations.specs.Worlds.{World, worlds, filled, IsKept, IsRefutation}
use Rattle.aq_prog.specs.Cuts.{AreUncut}
use Rattle.aq_correct.specs.WorldLaws.{WorldsRefute, shown_by_escape}
use Rattle.aq_correct.proofs.Elements.{contains_here, each_contains, get_within}
use Rattle.aq_correct.proofs.StartLaws.{filled_matches}
use Rattle.aq_correct.proofs.ZeroTests.{zero_or_not}
use Rattle.aq_correct.proofs.ProportionalTests.{Told, proportional_told}
use Rattle.aq_correct.proofs.WorldProofs.{worlds_cover_runs, worlds_decide}

-- ---- what is told of a claim
any_told : {A : Type 0} (P : A → Type 0) → ((x : A) → Told (P x)) → (xs : List A) → Told (Any P xs)
any_told P f [] = inr (λ a. absurd (omega (arith, a.2)))
any_told {A = A} P f (x ∷ xs) = ⊎_elim
    (λ h. inl (0, x, omega arith, refl, h))
    (λ n. ⊎_elim (λ a. inl (suc a.0, a.1, omega (arith, a.2), a.3, a.4)) (λ k. inr (neither n k)) (any_told P f xs))
    (f x)
  where
    neither : (P x → ⊥) → (Any P xs → ⊥) → Any P (x ∷ xs) → ⊥
    neither n k a = by_place a.0 a.1 a.2 a.3 a.4
      where
        by_place : (i : ℕ) (y : A) → i < length (x ∷ xs) → slice_index_or (x ∷ xs) i y ≡ y → P y → ⊥
        by_place zero y h e p = n (subst P (sym e) p)
        by_place (suc i) y h e p = k (i, y, omega (arith, h), e, p)

case_told : (bits : List Bool) (v : List Amplitude) (c : ClaimCase) → Told (CaseHolds bits v c)
case_told bits v c = by_test (are_met c.when bits) refl
  where
    differ : {A : Type 0} → ◌≡◌ {A = Bool} true false → A
    differ e = cc

    by_test : (b : Bool) → are_met c.when bits ≡ b → Told (CaseHolds bits v c)
    by_test true e = ⊎_elim (λ a. inl (e, a)) (λ n. inr (λ h. n h.1)) (any_told (λ w. Proportional v w) (proportional_told v) c.vectors)
    by_test false e = inr (λ h. differ (sym h.0 ∙ e))

holds_told : (cases : List ClaimCase) (bits : List Bool) (v : List Amplitude) → Told (Holds cases bits v)
holds_told cases bits v = any_told (λ c. CaseHolds bits v c) (case_told bits v) cases

kept_told : (o : Meaning) (w : World) (v : List Amplitude) → Told (IsKept o w v)
kept_told o w v = ⊎_elim
    (λ z. inl (inl z))
    (λ n. ⊎_elim (λ h. inl (inr h)) (λ k. inr (λ e. ⊎_elim (λ z. n z) (λ h. k h) e)) (holds_told o.goal (filled w.bits) v))
    (zero_or_not v)

-- ---- the first of a list that lacks a property
record FirstWithout {A : Type 0} (P : A → Type 0) (xs : List A) : Type 0 where
  before : List A
  here : A
  after : List A
  is : xs ≡ before ++ here ∷ after
  have : AllByRecursion P before
  lacks : P here → ⊥

first_without : {A : Type 0} (P : A → Type 0) → ((x : A) → Told (P x)) → (xs : List A) → AllByRecursion P xs ⊎ FirstWithout P xs
first_without P f [] = inl tt
first_without P f (x ∷ xs) = ⊎_elim
    (λ h. ⊎_elim
    (λ all. inl (h, all))
    (λ r. inr (record { before = x ∷ r.before; here = r.here; after = r.after; is = ap (λ l. x ∷ l) r.is; have = (h, r.have); lacks = r.lacks }))
    (first_without P f xs))
    (λ n. inr (record { before = []; here = x; after = xs; is = refl; have = tt; lacks = n }))
    (f x)

first_or : {A : Type 0} → A → List A → A
first_or d [] = d
first_or d (x ∷ xs) = x

rest_of : {A : Type 0} → List A → List A
rest_of [] = []
rest_of (x ∷ xs) = xs

-- there is one such place
same_first : {A : Type 0} (P : A → Type 0) (xs ys xs' ys' : List A) (x x' : A) → xs ++ x ∷ ys ≡ xs' ++ x' ∷ ys' → AllByRecursion P xs → AllByRecursion P xs' → (P x → ⊥) → (P x' → ⊥) → (xs ≡ xs') × (x ≡ x')
unfolding first_or rest_of
same_first P [] ys [] ys' x x' e h k n m = (refl, ap (first_or x) e)
same_first P [] ys (z ∷ xs') ys' x x' e h k n m = absurd (n (subst P (sym (ap (first_or x) e)) k.0))
same_first P (z ∷ xs) ys [] ys' x x' e h k n m = absurd (m (subst P (ap (first_or x) e) h.0))
same_first P (z ∷ xs) ys (z' ∷ xs') ys' x x' e h k n m =
    let r = same_first P xs ys xs' ys' x x' (ap rest_of e) h.1 k.1 n m in
    ((λ i. first_or x (e i) ∷ r.0 i), r.1)

-- ---- the refutation
abbrev IsKeptWorld : Meaning → World → Type 0
IsKeptWorld o w = AllByRecursion (IsKept o w) w.vectors

world_told : (o : Meaning) (w : World) → Told (IsKeptWorld o w)
world_told o w = ⊎_elim (λ h. inl h) (λ r. inr (λ h. r.lacks (each_contains (IsKept o w) w.vectors r.here h
    (subst (λ (vs : List (List Amplitude)). Contains vs r.here) (sym r.is) (Contains-append_right r.before (r.here ∷ r.after) r.here (contains_here r.here r.after))))))
    (first_without (IsKept o w) (kept_told o w) w.vectors)

get_behind : {A : Type 0} (front back : List A) (x : A) → slice_get (front ++ x ∷ back) (length front) ≡ Some x
get_behind [] back x = refl
get_behind (y ∷ front) back x = get_behind front back x

length_behind : {A : Type 0} (front back : List A) (x : A) → length front < length (front ++ x ∷ back)
length_behind [] back x = omega arith
length_behind (y ∷ front) back x = omega (arith, length_behind front back x)

some_is : {A : Type 0} (x y : A) → ◌≡◌ {A = Option A} (Some x) (Some y) → x ≡ y
some_is x y e = cc

escape_of : (o : Meaning) (earlier : List World) (w : World) (later : List World) (before : List (List Amplitude)) (v : List Amplitude) (after : List (List Amplitude)) (u : List Amplitude) → AreUncut o.fragment
    → worlds o ≡ earlier ++ w ∷ later → All (λ x. All (IsKept o x) x.vectors) earlier
    → w.vectors ≡ before ++ v ∷ after → All (IsKept o w) before → (IsZeroVector v → ⊥) → (Holds o.goal (filled w.bits) v → ⊥)
    → slice_get w.case.vectors (length before) ≡ Some u → IsRefutation o (shown_by_escape o w u v)
escape_of o earlier w later before v after u uncut are kept vectors kept_before nonzero escapes at =
    let there : Contains (worlds o) w = subst (λ (ws : List World). Contains ws w) (sym are) (Contains-append_right earlier (w ∷ later) w (contains_here w later)) in
    let e = worlds_cover_runs.ends o w (filled w.start) (length before) u uncut there (filled_matches w.start) at in
    record {
      earlier = earlier;
      world = w;
      later = later;
      worlds_are = are;
      earlier_kept = kept;
      before = before;
      escaping = v;
      after = after;
      vectors_are = vectors;
      before_kept = kept_before;
      nonzero = nonzero;
      escapes = escapes;
      bits_are = refl;
      state_is = at;
      outcomes_are = refl;
      end_bits_are = refl;
      end_is = some_is v (run_of o (filled w.start) u w.outcomes).last.vector
          (sym (ap (λ (vs : List (List Amplitude)). slice_get vs (length before)) vectors ∙ get_behind before after v) ∙ e.1.vector);
    }

both_kept : (o : Meaning) (ws : List World) → AllByRecursion (IsKeptWorld o) ws → All (λ x. All (IsKept o x) x.vectors) ws
both_kept o ws h = All-from_recursion (λ (x : World). All (IsKept o x) x.vectors) ws (each ws h)
  where
    each : (ws : List World) → AllByRecursion (IsKeptWorld o) ws → AllByRecursion (λ (x : World). All (IsKept o x) x.vectors) ws
    each [] h = tt
    each (w ∷ ws) h = (All-from_recursion (IsKept o w) w.vectors h.0, each ws h.1)

kept_both : (o : Meaning) (ws : List World) → All (λ x. All (IsKept o x) x.vectors) ws → AllByRecursion (IsKeptWorld o) ws
kept_both o ws h = each ws (recursion_from_All (λ (x : World). All (IsKept o x) x.vectors) ws h)
  where
    each : (ws : List World) → AllByRecursion (λ (x : World). All (IsKept o x) x.vectors) ws → AllByRecursion (IsKeptWorld o) ws
    each [] h = tt
    each (w ∷ ws) h = (recursion_from_All (IsKept o w) w.vectors h.0, each ws h.1)

refuted_by : (o : Meaning) → AreUncut o.fragment → FirstWithout (IsKeptWorld o) (worlds o) → (r : Shown) × IsRefutation o r
refuted_by o uncut f = ⊎_elim (λ h. absurd (f.lacks h)) (λ g. by_place g) (first_without (IsKept o f.here) (kept_told o f.here) f.here.vectors)
  where
    by_place : FirstWithout (IsKept o f.here) f.here.vectors → (r : Shown) × IsRefutation o r
    by_place g =
        let there : Contains (worlds o) f.here = subst (λ (ws : List World). Contains ws f.here) (sym f.is) (Contains-append_right f.before (f.here ∷ f.after) f.here (contains_here f.here f.after)) in
        let size = (worlds_cover_runs.sized o f.here uncut there).1 in
        let lt : length g.before < length f.here.case.vectors = subst (λ (k : ℕ). length g.before < k) (sym (ap length g.is) ∙ size) (length_behind g.before g.after g.here) in
        let u = get_within f.here.case.vectors (length g.before) lt in (
          shown_by_escape o f.here u.0 g.here,
          escape_of o f.before f.here f.after g.before g.here g.after u.0 uncut f.is (both_kept o f.before f.have) g.is (All-from_recursion (IsKept o f.here) g.before g.have)
              (λ z. g.lacks (inl z)) (λ h. g.lacks (inr h)) u.1,
        )

true_or : (o : Meaning) → AreUncut o.fragment → IsTrueOf o ⊎ ((r : Shown) × IsRefutation o r)
true_or o uncut = ⊎_elim
    (λ h. inl (worlds_decide.true_of o uncut (both_kept o (worlds o) h)))
    (λ f. inr (refuted_by o uncut f))
    (first_without (IsKeptWorld o) (world_told o) (worlds o))

not_kept : (o : Meaning) (r : Shown) (f : IsRefutation o r) → IsKept o f.world f.escaping → ⊥
not_kept o r f k = ⊎_elim (λ z. f.nonzero z) (λ h. f.escapes h) k

not_kept_world : (o : Meaning) (r : Shown) (f : IsRefutation o r) → IsKeptWorld o f.world → ⊥
not_kept_world o r f h = not_kept o r f (each_contains (IsKept o f.world) f.world.vectors f.escaping h
    (subst (λ (vs : List (List Amplitude)). Contains vs f.escaping) (sym f.vectors_are) (Contains-append_right f.before (f.escaping ∷ f.after) f.escaping (contains_here f.escaping f.after))))

-- what is shown, by its state, bits and outcomes
shown_of : Meaning → List Bool → List Amplitude → List Bool → Shown
shown_of o bits state outcomes = record { bits = bits; state = state; outcomes = outcomes; end_bits = (run_of o bits state outcomes).last.bits; end = (run_of o bits state outcomes).last.vector }

shown_is : (o : Meaning) (r : Shown) → IsRefutation o r → r ≡ shown_of o r.bits r.state r.outcomes
unfolding shown_of
shown_is o r f = λ i. record { bits = r.bits; state = r.state; outcomes = r.outcomes; end_bits = f.end_bits_are i; end = f.end_is i }

one_of : (o : Meaning) (r q : Shown) → IsRefutation o r → IsRefutation o q → r ≡ q
one_of o r q f g =
    let w = same_first (IsKeptWorld o) f.earlier f.later g.earlier g.later f.world g.world (sym f.worlds_are ∙ g.worlds_are) (kept_both o f.earlier f.earlier_kept) (kept_both o g.earlier g.earlier_kept)
    (not_kept_world o r f) (not_kept_world o q g) in
    let back : g.world ≡ f.world = sym w.1 in
    let v = same_first (IsKept o f.world) f.before f.after g.before g.after f.escaping g.escaping
    (sym f.vectors_are ∙ ap (λ (x : World). x.vectors) w.1 ∙ g.vectors_are)
    (recursion_from_All (IsKept o f.world) f.before f.before_kept)
    (subst (λ (x : World). AllByRecursion (IsKept o x) g.before) back (recursion_from_All (IsKept o g.world) g.before g.before_kept))
    (not_kept o r f) (λ k. not_kept o q g (subst (λ (x : World). IsKept o x g.escaping) w.1 k)) in
    let bits : r.bits ≡ q.bits = f.bits_are ∙ ap (λ (x : World). filled x.start) w.1 ∙ sym g.bits_are in
    let outs : r.outcomes ≡ q.outcomes = f.outcomes_are ∙ ap (λ (x : World). x.outcomes) w.1 ∙ sym g.outcomes_are in
    let state : r.state ≡ q.state = some_is r.state q.state (sym f.state_is ∙ (λ i. slice_get (w.1 i).case.vectors (length (v.0 i))) ∙ g.state_is) in
    shown_is o r f ∙ (λ i. shown_of o (bits i) (state i) (outs i)) ∙ sym (shown_is o q g)

pub worlds_refute : WorldsRefute
worlds_refute = record { true_or_refuted = true_or; one_refutation = one_of; escape = escape_of }
