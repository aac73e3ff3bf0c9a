-- Bits that are decided at the end, and what the goal asks of them.
use Rattle.std.proofs.Common.{◌≡◌, ℕ, zero, suc, ◌<◌, Bool, true, false, not, cond, ◌&&◌, ◌==◌, List, [], ◌∷◌, map, filter, length, Contains, Option, Some, None, slice_get, slice_set, ⊎_elim, refl, ap, sym, ◌∙◌, subst, arith, append-nil, ◌||◌}
use Rattle.std.specs.List.{AllByRecursion, flat_map, list_any}
use Rattle.std.specs.Option.{option_map_or}
use Rattle.std.proofs.lemmas.Bool.{cases_lt, eq-eqb}
use Rattle.aq_ring.specs.Fractions.{Amplitude}
use Rattle.aq_prog.specs.Digits.{tabulate}
use Rattle.aq_prog.specs.Runs.{State}
use Rattle.aq_prog.specs.declared.stmt.Guard.{Guard}
use Rattle.aq_prog.proofs.DigitLaws.{length-tabulate, get_or-tabulate}
use Rattle.aq_obligations.specs.Claims.{ClaimCase, are_met, Holds}
use Rattle.aq_obligations.specs.Obligations.{Meaning}
use Rattle.aq_obligations.specs.Worlds.{World, Partial, either, split, in_worlds, mentions, mentioned, filled}
use Rattle.aq_obligations.specs.Covering.{is_value, matches, takes}
use Rattle.aq_correct.proofs.Elements.{contains_none, contains_cases, contains_here, contains_there, each_contains, filter_contains, get_past}
use Rattle.aq_correct.proofs.StartLaws.{and_true}
use Rattle.aq_correct.proofs.CoverLaws.{Covers, Keeps, keeps-none, keeps-then, covers-takes, each_flat, filter_flat, IsFrom}
use Rattle.aq_correct.proofs.StoreLaws.{stored-loose}
use Rattle.aq_correct.proofs.LevelLaws.{split-keeps, split-traced}

-- a bit that is there and isn't known
abbrev pub is_unknown : Option (Option Bool) → Bool
is_unknown (Some None) = true
is_unknown (Some (Some b)) = false
is_unknown None = false

abbrev pub IsClosed : ℕ → World → Type 0
IsClosed k w = is_unknown (slice_get w.bits k) ≡ false

set_closed : (xs : Partial) (j k : ℕ) (b : Bool) → is_unknown (slice_get xs k) ≡ false → is_unknown (slice_get (slice_set xs j (Some b)) k) ≡ false
set_closed [] j k b e = e
set_closed (x ∷ xs) zero zero b e = refl
set_closed (x ∷ xs) zero (suc k) b e = e
set_closed (x ∷ xs) (suc j) zero b e = e
set_closed (x ∷ xs) (suc j) (suc k) b e = set_closed xs j k b e

set_here : (xs : Partial) (k : ℕ) (b : Bool) → is_unknown (slice_get (slice_set xs k (Some b)) k) ≡ false
set_here [] k b = refl
set_here (x ∷ xs) zero b = refl
set_here (x ∷ xs) (suc k) b = set_here xs k b

split-closed : (j k : ℕ) (w : World) → IsClosed k w → AllByRecursion (IsClosed k) (split j w)
split-closed j k w e = by_known (slice_get w.bits j)
  where
    by_known : (x : Option (Option Bool)) → AllByRecursion (IsClosed k) (either j x w)
    by_known None = (e, tt)
    by_known (Some None) = (set_closed w.bits j k false e, (set_closed w.bits j k true e, tt))
    by_known (Some (Some b)) = (e, tt)

split-here : (k : ℕ) (w : World) → AllByRecursion (IsClosed k) (split k w)
split-here k w = by_known (slice_get w.bits k) refl
  where
    by_known : (x : Option (Option Bool)) → slice_get w.bits k ≡ x → AllByRecursion (IsClosed k) (either k x w)
    by_known None e = (ap is_unknown e, tt)
    by_known (Some None) e = (set_here w.bits k false, (set_here w.bits k true, tt))
    by_known (Some (Some b)) e = (ap is_unknown e, tt)

closed_stays : (ks : List ℕ) (k : ℕ) (w : World) → IsClosed k w → AllByRecursion (IsClosed k) (in_worlds (map split ks) w)
closed_stays [] k w e = (e, tt)
closed_stays (j ∷ ks) k w e = each_flat (in_worlds (map split ks)) (IsClosed k) (IsClosed k) (closed_stays ks k) (split j w) (split-closed j k w e)

pub all_decided : (ks : List ℕ) (k : ℕ) (w : World) → Contains ks k → AllByRecursion (IsClosed k) (in_worlds (map split ks) w)
all_decided [] k w c = contains_none k c
all_decided (j ∷ ks) k w c = ⊎_elim
    (λ e. each_flat (in_worlds (map split ks)) (IsClosed k) (IsClosed k) (closed_stays ks k) (split j w) (subst (λ (i : ℕ). AllByRecursion (IsClosed k) (split i w)) (sym e) (split-here k w)))
    (λ h. each_flat (in_worlds (map split ks)) (λ x. Unit {0}) (IsClosed k) (λ x e. all_decided ks k x h) (split j w) (split-any j w))
    (contains_cases j k ks c)
  where
    -- any property that holds anyway
    split-any : (j : ℕ) (w : World) → AllByRecursion (λ x. Unit {0}) (split j w)
    split-any j w = by_known (slice_get w.bits j)
      where
        by_known : (x : Option (Option Bool)) → AllByRecursion (λ y. Unit {0}) (either j x w)
        by_known None = (tt, tt)
        by_known (Some None) = (tt, (tt, tt))
        by_known (Some (Some b)) = (tt, tt)

-- ---- what is known at the end
is_same : (x b : Bool) → is_value (Some x) b ≡ true → ◌≡◌ {A = Option Bool} (Some x) (Some b)
is_same true true e = refl
is_same true false e = cc
is_same false true e = cc
is_same false false e = refl

-- a bit that is closed has one value in all bits that match
filled_read : (p : Partial) (bits : List Bool) (k : ℕ) → is_unknown (slice_get p k) ≡ false → matches p bits ≡ true → slice_get (filled p) k ≡ slice_get bits k
filled_read [] [] k c e = refl
filled_read [] (b ∷ bits) k c e = cc
filled_read (q ∷ p) [] k c e = cc
filled_read (None ∷ p) (b ∷ bits) zero c e = cc
filled_read (Some x ∷ p) (b ∷ bits) zero c e = is_same x b (and_true (is_value (Some x) b) (matches p bits) e).0
filled_read (q ∷ p) (b ∷ bits) (suc k) c e = filled_read p bits k c (and_true (is_value q b) (matches p bits) e).1

-- the world has decided every bit that the goal asks for
abbrev pub IsReady : Meaning → World → Type 0
IsReady o w = (c : ClaimCase) (g : Guard) → Contains o.goal c → Contains c.when g → IsClosed g.bit w

met_same : (gs : List Guard) (xs ys : List Bool) → ((g : Guard) → Contains gs g → slice_get xs g.bit ≡ slice_get ys g.bit) → are_met gs xs ≡ are_met gs ys
met_same [] xs ys f = refl
met_same (g ∷ gs) xs ys f =
    (λ i. option_map_or (λ (b : Bool). cond g.value b (not b)) (f g (contains_here g gs) i) false && met_same gs xs ys (λ h c. f h (contains_there g h gs c)) i)

holds_same : (cases : List ClaimCase) (xs ys : List Bool) (v : List Amplitude) → ((c : ClaimCase) → Contains cases c → are_met c.when xs ≡ are_met c.when ys) → Holds cases xs v → Holds cases ys v
holds_same cases xs ys v f h = (h.0, h.1, h.2, h.3, (sym (f h.1 (h.0, h.2, h.3)) ∙ h.4.0, h.4.1))

pub ready_same : (o : Meaning) (w : World) (bits : List Bool) → IsReady o w → matches w.bits bits ≡ true → (c : ClaimCase) → Contains o.goal c → are_met c.when (filled w.bits) ≡ are_met c.when bits
ready_same o w bits r m c h = met_same c.when (filled w.bits) bits (λ g k. filled_read w.bits bits g.bit (r c g h k) m)

pub goal_there : (o : Meaning) (w : World) (bits : List Bool) (v : List Amplitude) → IsReady o w → matches w.bits bits ≡ true → Holds o.goal (filled w.bits) v → Holds o.goal bits v
goal_there o w bits v r m h = holds_same o.goal (filled w.bits) bits v (ready_same o w bits r m) h

pub goal_back : (o : Meaning) (w : World) (bits : List Bool) (v : List Amplitude) → IsReady o w → matches w.bits bits ≡ true → Holds o.goal bits v → Holds o.goal (filled w.bits) v
goal_back o w bits v r m h = holds_same o.goal bits (filled w.bits) v (λ c k. sym (ready_same o w bits r m c k)) h

same_nat : (k : ℕ) → (k == k) ≡ true
same_nat k = eq-eqb k k refl

or_true : (u v : Bool) → v ≡ true → (u || v) ≡ true
or_true true v e = refl
or_true false v e = e

any_contains : {A : Type 0} (t : A → Bool) (xs : List A) (x : A) → Contains xs x → t x ≡ true → list_any t xs ≡ true
any_contains t [] x c e = contains_none x c
any_contains t (y ∷ xs) x c e = ⊎_elim
    (λ same. ap (λ (b : Bool). b || list_any t xs) (ap t same ∙ e))
    (λ h. or_true (t y) (list_any t xs) (any_contains t xs x h e))
    (contains_cases y x xs c)

is_mentioned : (o : Meaning) (c : ClaimCase) (g : Guard) → Contains o.goal c → Contains c.when g → g.bit < o.bits → Contains (mentioned o) g.bit
is_mentioned o c g h k lt = filter_contains (λ bit. list_any (mentions bit) o.goal) (tabulate o.bits (λ bit. bit)) g.bit
    (g.bit, subst (λ (l : ℕ). g.bit < l) (sym (length-tabulate o.bits (λ bit. bit))) lt, get_or-tabulate o.bits (λ bit. bit) g.bit g.bit lt)
    (any_contains (mentions g.bit) o.goal c h (any_contains (λ d. d.bit == g.bit) c.when g k (same_nat g.bit)))

-- after the decisions every world is ready, if it has the obligation's bits
pub ready : (o : Meaning) (w x : World) → Contains (in_worlds (map split (mentioned o)) w) x → length x.bits ≡ o.bits → IsReady o x
ready o w x h sized = λ c g k l. ⊎_elim
    (λ lt. each_contains (IsClosed g.bit) (in_worlds (map split (mentioned o)) w) x (all_decided (mentioned o) g.bit w (is_mentioned o c g k l lt)) h)
    (λ ge. ap is_unknown (get_past x.bits g.bit (omega (arith, ge, sized))))
    (cases_lt g.bit o.bits)

-- ---- decisions change no run
pub decisions-keep : (ks : List ℕ) → Keeps (in_worlds (map split ks))
decisions-keep [] = keeps-none
decisions-keep (k ∷ ks) = keeps-then (split k) (in_worlds (map split ks)) (split-keeps k) (decisions-keep ks)

pub decisions-traced : (ks : List ℕ) (w : World) (first : List Bool) (place : ℕ) (total : List Bool) (s : State) → Covers w first place total s
    → (x : World) × (filter (takes first total) (in_worlds (map split ks) w) ≡ x ∷ []) × Covers x first place total s
decisions-traced [] w first place total s c = (w, ap (λ (b : Bool). cond b (w ∷ []) []) (covers-takes w first place total s c), c)
decisions-traced (k ∷ ks) w first place total s c =
    let d = split-traced k w first place total s c in
    let r = decisions-traced ks d.world first place total s d.covers in (
      r.0,
      filter_flat (in_worlds (map split ks)) (takes first total) (takes first total) (IsFrom w) (λ x h e. (decisions-keep ks).apart x first total h.loose e) (split k w) ((split-keeps k).from w (stored-loose c.store))
          ∙ ap (flat_map (λ x. filter (takes first total) (in_worlds (map split ks) x))) d.is
          ∙ append-nil (filter (takes first total) (in_worlds (map split ks) d.world))
          ∙ r.1,
      r.2,
    )
