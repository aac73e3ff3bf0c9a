-- Each statement without a cut makes of worlds what its runs make of states.
use Rattle.std.proofs.Common.{◌≡◌, ℕ, zero, suc, Bool, true, false, not, cond, ◌&&◌, List, [], ◌∷◌, ◌++◌, map, filter, length, Option, Some, None, slice_get, slice_set, unwrap_or, refl, ap, sym, ◌∙◌, subst, append-nil, append_assoc}
use Rattle.std.specs.List.{AllByRecursion, flat_map}
use Rattle.std.specs.Option.{option_map_or}
use Rattle.std.proofs.lemmas.List.{length-map}
use Rattle.aq_ring.specs.Fractions.{Amplitude}
use Rattle.aq_prog.specs.Gates.{apply_gate, project}
use Rattle.aq_prog.specs.Runs.{State, How, Played, Meaning, ended, stopped, has_bit, with_bit, flipped, measured, was_reset, played_gate}
use Rattle.aq_prog.specs.declared.gate.Gate.{Gate}
use Rattle.aq_prog.specs.declared.stmt.Guard.{Guard}
use Rattle.aq_obligations.specs.Worlds.{World, Partial, Spread, decided, either, split, with_vectors, stored, agrees, is_known, branch, assumed_worlds}
use Rattle.aq_obligations.specs.Covering.{matches, is_front, takes, Meets, branch_meets, played_at}
use Rattle.aq_correct.proofs.StoreLaws.{Stored, Loose, Seen, beyond, is_open, seen, stored-loose, stored-matches, stored-set, loose-set, loose-decided, decided-apart, get-set_same, front-append, front-apart, both_true}
use Rattle.aq_correct.proofs.StoreLaws
use Rattle.aq_correct.proofs.CoverLaws.{Covers, IsTraced, Follows, Keeps, IsFrom, IsLoose, covers-takes, taken_there, filter_flat, each_flat, each_weaker, from_twice}

-- ---- filters over one or two
pub filter_one : {A : Type 0} (t : A → Bool) (x : A) → t x ≡ true → filter t (x ∷ []) ≡ x ∷ []
filter_one t x e = ap (λ (b : Bool). cond b (x ∷ []) []) e

pub filter_none : {A : Type 0} (t : A → Bool) (x : A) → t x ≡ false → filter t (x ∷ []) ≡ []
filter_none t x e = ap (λ (b : Bool). cond b (x ∷ []) []) e

filter_first : {A : Type 0} (t : A → Bool) (x y : A) → t x ≡ true → t y ≡ false → filter t (x ∷ y ∷ []) ≡ x ∷ []
filter_first t x y e f = ap (λ (b : Bool). cond b (x ∷ filter t (y ∷ [])) (filter t (y ∷ []))) e ∙ ap (λ l. x ∷ l) (filter_none t y f)

filter_second : {A : Type 0} (t : A → Bool) (x y : A) → t x ≡ false → t y ≡ true → filter t (x ∷ y ∷ []) ≡ y ∷ []
filter_second t x y e f = ap (λ (b : Bool). cond b (x ∷ filter t (y ∷ [])) (filter t (y ∷ []))) e ∙ filter_one t y f

filter_neither : {A : Type 0} (t : A → Bool) (x y : A) → t x ≡ false → t y ≡ false → filter t (x ∷ y ∷ []) ≡ []
filter_neither t x y e f = ap (λ (b : Bool). cond b (x ∷ filter t (y ∷ [])) (filter t (y ∷ []))) e ∙ filter_none t y f

and_falls : (m f m' f' : Bool) → (m ≡ false → m' ≡ false) → (f ≡ false → f' ≡ false) → (m && f) ≡ false → (m' && f') ≡ false
and_falls true f true f' p q e = q e
and_falls true f false f' p q e = refl
and_falls false f true f' p q e = cc (p refl)
and_falls false f false f' p q e = refl

-- a world that starts with less, or has taken more, doesn't have a run that the world before it didn't
falls : (w x : World) (bits total : List Bool) → (matches w.start bits ≡ false → matches x.start bits ≡ false) → (is_front w.outcomes total ≡ false → is_front x.outcomes total ≡ false)
    → takes bits total w ≡ false → takes bits total x ≡ false
falls w x bits total p q e = and_falls (matches w.start bits) (is_front w.outcomes total) (matches x.start bits) (is_front x.outcomes total) p q e

pub get-map : {A B : Type 0} (f : A → B) (xs : List A) (k : ℕ) (x : A) → slice_get xs k ≡ Some x → slice_get (map f xs) k ≡ Some (f x)
get-map f [] k x e = cc
get-map f (y ∷ xs) (suc k) x e = get-map f xs k x e
get-map f (y ∷ xs) zero x e = some_map f y x e
  where
    some_map : {A B : Type 0} (f : A → B) (y x : A) → ◌≡◌ {A = Option A} (Some y) (Some x) → ◌≡◌ {A = Option B} (Some (f y)) (Some (f x))
    some_map f y x e = cc

-- ---- gates
pub gate-keeps : (n : ℕ) (g : Gate) → Keeps (λ w. with_vectors (apply_gate n g) w ∷ [])
gate-keeps n g = record {
  from = λ w h. (record { loose = h; case = refl; sized = length-map w.vectors (apply_gate n g) }, tt);
  apart = λ w bits total h e. filter_none (takes bits total) (with_vectors (apply_gate n g) w) e;
}

pub gate-follows : (n : ℕ) (g : Gate) → Follows (played_gate n g) (λ w. with_vectors (apply_gate n g) w ∷ []) (λ w. record { gate = g; world = w } ∷ [])
gate-follows n g = record {
  traced = λ w first place total s c. (
    with_vectors (apply_gate n g) w,
    filter_one (takes first total) (with_vectors (apply_gate n g) w) (covers-takes w first place total s c),
    record { store = c.store; outcomes = c.outcomes; vector = get-map (apply_gate n g) w.vectors place s.vector c.vector },
  );
  played = λ w first place total s c.
      ap (map (played_at place)) (filter_one (taken_there first total) (record { gate = g; world = w }) (covers-takes w first place total s c))
      ∙ ap (λ (v : Option (List Amplitude)). record { gate = g; before = unwrap_or v [] } ∷ []) c.vector;
  passed = λ s. refl;
  unmet = λ w first total h e. filter_none (taken_there first total) (record { gate = g; world = w }) e;
  met = λ w h. (record { loose = h; case = refl; sized = refl }, tt);
}

-- ---- outcomes
-- the world after an outcome: what is stored, and the vectors
abbrev pub after_outcome : Option ℕ → (Bool → List (List Amplitude) → List (List Amplitude)) → Bool → World → World
after_outcome bit f b w = record { case = w.case; start = w.start; bits = stored bit b w.bits; outcomes = w.outcomes ++ b ∷ []; vectors = f b w.vectors }

abbrev pub either_outcome : Option ℕ → (Bool → List (List Amplitude) → List (List Amplitude)) → Spread
either_outcome bit f w = after_outcome bit f false w ∷ after_outcome bit f true w ∷ []

loose-stored : (bit : Option ℕ) (b : Bool) {ss ns : Partial} → Loose ss ns → Loose ss (stored bit b ns)
loose-stored None b h = h
loose-stored (Some k) b h = loose-set k b h

stored-stored : (bit : Option ℕ) (b : Bool) {ss ns : Partial} {fs bs : List Bool} → Stored ss ns fs bs → Stored ss (stored bit b ns) fs (with_bit bit b bs)
stored-stored None b h = h
stored-stored (Some k) b h = stored-set k b h

pub outcome-keeps : (bit : Option ℕ) (f : Bool → List (List Amplitude) → List (List Amplitude)) → ((b : Bool) (vs : List (List Amplitude)) → length (f b vs) ≡ length vs) → Keeps (either_outcome bit f)
outcome-keeps bit f sized = record {
  from = λ w h. (
    record { loose = loose-stored bit false h; case = refl; sized = sized false w.vectors },
    (record { loose = loose-stored bit true h; case = refl; sized = sized true w.vectors }, tt),
  );
  apart = λ w bits total h e. filter_neither (takes bits total) (after_outcome bit f false w) (after_outcome bit f true w)
      (falls w (after_outcome bit f false w) bits total (λ d. d) (front-apart w.outcomes (false ∷ []) total) e)
      (falls w (after_outcome bit f true w) bits total (λ d. d) (front-apart w.outcomes (true ∷ []) total) e);
}

front-of : (w : World) (total outs : List Bool) (b : Bool) → w.outcomes ++ outs ≡ total → is_front (w.outcomes ++ b ∷ []) total ≡ is_front (b ∷ []) outs
front-of w total outs b e = ap (is_front (w.outcomes ++ b ∷ [])) (sym e) ∙ front-append w.outcomes (b ∷ []) outs

-- whether the world after an outcome has the run, by the outcomes that are left
takes-after : (bit : Option ℕ) (f : Bool → List (List Amplitude) → List (List Amplitude)) (w : World) (first total outs : List Bool) (b t : Bool) → matches w.start first ≡ true → w.outcomes ++ outs ≡ total → is_front (b ∷ []) outs ≡ t
    → takes first total (after_outcome bit f b w) ≡ t
takes-after bit f w first total outs b t m e is = ap (λ (x : Bool). x && is_front (w.outcomes ++ b ∷ []) total) m ∙ front-of w total outs b e ∙ is

outcome-none : (bit : Option ℕ) (f : Bool → List (List Amplitude) → List (List Amplitude)) (w : World) (first total : List Bool) → matches w.start first ≡ true → w.outcomes ++ [] ≡ total
    → filter (takes first total) (either_outcome bit f w) ≡ []
outcome-none bit f w first total m e = filter_neither (takes first total) (after_outcome bit f false w) (after_outcome bit f true w)
    (takes-after bit f w first total [] false false m e refl) (takes-after bit f w first total [] true false m e refl)

outcome-one : (bit : Option ℕ) (f : Bool → List (List Amplitude) → List (List Amplitude)) (w : World) (first total : List Bool) (o : Bool) (rest : List Bool) → matches w.start first ≡ true → w.outcomes ++ o ∷ rest ≡ total
    → filter (takes first total) (either_outcome bit f w) ≡ after_outcome bit f o w ∷ []
outcome-one bit f w first total false rest m e = filter_first (takes first total) (after_outcome bit f false w) (after_outcome bit f true w)
    (takes-after bit f w first total (false ∷ rest) false true m e refl) (takes-after bit f w first total (false ∷ rest) true false m e refl)
outcome-one bit f w first total true rest m e = filter_second (takes first total) (after_outcome bit f false w) (after_outcome bit f true w)
    (takes-after bit f w first total (true ∷ rest) false false m e refl) (takes-after bit f w first total (true ∷ rest) true true m e refl)

-- the run by the outcomes that are left
abbrev pub outcome_run : Option ℕ → (Bool → List Amplitude → List Amplitude) → List Bool → Meaning
outcome_run bit g [] s = stopped How.NoOutcome s
outcome_run bit g (o ∷ rest) s = ended (record { bits = with_bit bit o s.bits; vector = g o s.vector; outcomes = rest; turns = s.turns })

outcome-traced : (bit : Option ℕ) (f : Bool → List (List Amplitude) → List (List Amplitude)) (g : Bool → List Amplitude → List Amplitude)
    → ((b : Bool) (vs : List (List Amplitude)) (k : ℕ) (v : List Amplitude) → slice_get vs k ≡ Some v → slice_get (f b vs) k ≡ Some (g b v))
    → (w : World) (first : List Bool) (place : ℕ) (total : List Bool) (s : State) → Covers w first place total s → (outs : List Bool) → w.outcomes ++ outs ≡ total
    → IsTraced (outcome_run bit g outs s).how (outcome_run bit g outs s).last first place total (filter (takes first total) (either_outcome bit f w))
outcome-traced bit f g at w first place total s c [] e = outcome-none bit f w first total (stored-matches c.store) e
outcome-traced bit f g at w first place total s c (o ∷ rest) e = (
  after_outcome bit f o w,
  outcome-one bit f w first total o rest (stored-matches c.store) e,
  record { store = stored-stored bit o c.store; outcomes = append_assoc w.outcomes (o ∷ []) rest ∙ e; vector = at o w.vectors place s.vector c.vector },
)

no_played : (bit : Option ℕ) (g : Bool → List Amplitude → List Amplitude) (outs : List Bool) (s : State) → ◌≡◌ {A = List Played} [] (outcome_run bit g outs s).played
no_played bit g [] s = refl
no_played bit g (o ∷ rest) s = refl

no_passed : (bit : Option ℕ) (g : Bool → List Amplitude → List Amplitude) (outs : List Bool) (s : State) → (outcome_run bit g outs s).passed ≡ []
no_passed bit g [] s = refl
no_passed bit g (o ∷ rest) s = refl

pub outcome-follows : (bit : Option ℕ) (f : Bool → List (List Amplitude) → List (List Amplitude)) (g : Bool → List Amplitude → List Amplitude)
    → ((b : Bool) (vs : List (List Amplitude)) (k : ℕ) (v : List Amplitude) → slice_get vs k ≡ Some v → slice_get (f b vs) k ≡ Some (g b v))
    → Follows (λ s. outcome_run bit g s.outcomes s) (either_outcome bit f) (λ w. [])
outcome-follows bit f g at = record {
  traced = λ w first place total s c. outcome-traced bit f g at w first place total s c s.outcomes c.outcomes;
  played = λ w first place total s c. no_played bit g s.outcomes s;
  passed = λ s. no_passed bit g s.outcomes s;
  unmet = λ w first total h e. refl;
  met = λ w h. tt;
}

pub measure_is : (n qubit : ℕ) (bit : Option ℕ) (outs : List Bool) (s : State) → outcome_run bit (project n qubit) outs s ≡ measured n qubit bit outs s
measure_is n qubit bit [] s = refl
measure_is n qubit bit (o ∷ rest) s = refl

pub reset_is : (n qubit : ℕ) (outs : List Bool) (s : State) → outcome_run None (λ b v. flipped n qubit b (project n qubit b v)) outs s ≡ was_reset n qubit outs s
reset_is n qubit [] s = refl
reset_is n qubit (o ∷ rest) s = refl

-- ---- a decision on a bit
-- what is known of a bit once it is decided
abbrev pub IsDecided : Option (Option Bool) → Option Bool → Type 0
IsDecided None now = now ≡ None
IsDecided (Some None) now = ⊥
IsDecided (Some (Some b)) now = now ≡ Some b

pub record Split (k : ℕ) (w : World) (first : List Bool) (place : ℕ) (total : List Bool) (s : State) : Type 0 where
  pub world : World
  pub is : filter (takes first total) (split k w) ≡ world ∷ []
  pub covers : Covers world first place total s
  pub decided : IsDecided (slice_get world.bits k) (slice_get s.bits k)

pub split-traced : (k : ℕ) (w : World) (first : List Bool) (place : ℕ) (total : List Bool) (s : State) → Covers w first place total s → Split k w first place total s
split-traced k w first place total s c = by_seen (seen k c.store)
  where
    t : World → Bool
    t = takes first total

    unsplit : (x : Option (Option Bool)) → slice_get w.bits k ≡ x → either k x w ≡ w ∷ [] → IsDecided x (slice_get s.bits k) → Split k w first place total s
    unsplit x e is d = record {
      world = w;
      is = ap (λ (y : Option (Option Bool)). filter (takes first total) (either k y w)) e ∙ ap (filter (takes first total)) is ∙ filter_one (takes first total) w (covers-takes w first place total s c);
      covers = c;
      decided = subst (λ (y : Option (Option Bool)). IsDecided y (slice_get s.bits k)) (sym e) d;
    }

    covers_decided : (b : Bool) → Stored (slice_set w.start k (Some b)) (slice_set w.bits k (Some b)) first s.bits → Covers (decided k b w) first place total s
    covers_decided b r = record { store = r; outcomes = c.outcomes; vector = c.vector }

    not_taken : (b : Bool) → matches (slice_set w.start k (Some b)) first ≡ false → takes first total (decided k b w) ≡ false
    not_taken b e = ap (λ (x : Bool). x && is_front w.outcomes total) e

    one_of : (b : Bool) → Stored (slice_set w.start k (Some b)) (slice_set w.bits k (Some b)) first s.bits → matches (slice_set w.start k (Some (not b))) first ≡ false
        → filter (takes first total) (decided k false w ∷ decided k true w ∷ []) ≡ decided k b w ∷ []
    one_of false r apart = filter_first (takes first total) (decided k false w) (decided k true w) (covers-takes (decided k false w) first place total s (covers_decided false r)) (not_taken true apart)
    one_of true r apart = filter_second (takes first total) (decided k false w) (decided k true w) (not_taken false apart) (covers-takes (decided k true w) first place total s (covers_decided true r))

    by_seen : Seen k w.start w.bits first s.bits → Split k w first place total s
    by_seen (beyond n m) = unsplit None n refl m
    by_seen (StoreLaws.is_known b n m) = unsplit (Some (Some b)) n refl m
    by_seen (is_open b n m r apart) = record {
      world = decided k b w;
      is = ap (λ (y : Option (Option Bool)). filter (takes first total) (either k y w)) n ∙ one_of b r apart;
      covers = covers_decided b r;
      decided = subst (λ (y : Option (Option Bool)). IsDecided y (slice_get s.bits k)) (sym (get-set_same w.bits k (Some b) None n)) m;
    }

decided-from : (k : ℕ) (b : Bool) (w : World) → IsLoose w → IsFrom w (decided k b w)
decided-from k b w h = record { loose = loose-decided k b h; case = refl; sized = refl }

decided-falls : (k : ℕ) (b : Bool) (w : World) (bits total : List Bool) → IsLoose w → slice_get w.bits k ≡ Some None → takes bits total w ≡ false → takes bits total (decided k b w) ≡ false
decided-falls k b w bits total h e d = falls w (decided k b w) bits total (decided-apart k b bits h e) (λ f. f) d

pub split-keeps : (k : ℕ) → Keeps (split k)
split-keeps k = record {
  from = λ w h. from_either w h (slice_get w.bits k);
  apart = λ w bits total h e. apart_either w bits total h e (slice_get w.bits k) refl;
}
  where
    from_either : (w : World) → IsLoose w → (x : Option (Option Bool)) → AllByRecursion (IsFrom w) (either k x w)
    from_either w h None = (record { loose = h; case = refl; sized = refl }, tt)
    from_either w h (Some None) = (decided-from k false w h, (decided-from k true w h, tt))
    from_either w h (Some (Some b)) = (record { loose = h; case = refl; sized = refl }, tt)

    apart_either : (w : World) (bits total : List Bool) → IsLoose w → takes bits total w ≡ false → (x : Option (Option Bool)) → slice_get w.bits k ≡ x → filter (takes bits total) (either k x w) ≡ []
    apart_either w bits total h e None is = filter_none (takes bits total) w e
    apart_either w bits total h e (Some None) is = filter_neither (takes bits total) (decided k false w) (decided k true w) (decided-falls k false w bits total h is e) (decided-falls k true w bits total h is e)
    apart_either w bits total h e (Some (Some b)) is = filter_none (takes bits total) w e

-- ---- branches
module _ (guard : Guard) (yes_run no_run : Meaning) (yes_worlds no_worlds : Spread) (yes_meets no_meets : Meets) where
  pub branch-keeps : Keeps yes_worlds → Keeps no_worlds → Keeps (branch guard yes_worlds no_worlds)
  branch-keeps y z = record {
    from = λ w h. from_branch w h (is_known guard (slice_get w.bits guard.bit));
    apart = λ w bits total h e. apart_branch w bits total h e (is_known guard (slice_get w.bits guard.bit));
  }
    where
      from_branch : (w : World) → IsLoose w → (b : Bool) → AllByRecursion (IsFrom w) (cond b (yes_worlds w) (no_worlds w))
      from_branch w h true = y.from w h
      from_branch w h false = z.from w h

      apart_branch : (w : World) (bits total : List Bool) → IsLoose w → takes bits total w ≡ false → (b : Bool) → filter (takes bits total) (cond b (yes_worlds w) (no_worlds w)) ≡ []
      apart_branch w bits total h e true = y.apart w bits total h e
      apart_branch w bits total h e false = z.apart w bits total h e

  abbrev pub branch_run : Meaning
  branch_run s = cond (has_bit guard s.bits) (yes_run s) (no_run s)

  known_as : (x : Option (Option Bool)) (now : Option Bool) → IsDecided x now → is_known guard x ≡ option_map_or (λ (b : Bool). cond guard.value b (not b)) now false
  known_as None now e = ap (λ (y : Option Bool). option_map_or (λ (b : Bool). cond guard.value b (not b)) y false) (sym e)
  known_as (Some None) now e = absurd e
  known_as (Some (Some b)) now e = ap (λ (y : Option Bool). option_map_or (λ (b : Bool). cond guard.value b (not b)) y false) (sym e)

  pub branch-follows : Keeps yes_worlds → Keeps no_worlds → Follows yes_run yes_worlds yes_meets → Follows no_run no_worlds no_meets
      → Follows branch_run (λ w. flat_map (branch guard yes_worlds no_worlds) (split guard.bit w)) (λ w. flat_map (branch_meets guard yes_meets no_meets) (split guard.bit w))
  branch-follows ky kn y z = record {
    traced = λ w first place total s c. traced_split w first place total s c (split-traced guard.bit w first place total s c);
    played = λ w first place total s c. played_split w first place total s c (split-traced guard.bit w first place total s c);
    passed = λ s. passed_by s (has_bit guard s.bits);
    unmet = λ w first total h e.
        filter_flat (branch_meets guard yes_meets no_meets) (takes first total) (taken_there first total) (IsFrom w) (λ x f g. unmet_by x first total f.loose g (is_known guard (slice_get x.bits guard.bit)))
        (split guard.bit w) (splits.from w h)
        ∙ ap (flat_map (λ x. filter (taken_there first total) (branch_meets guard yes_meets no_meets x))) (splits.apart w first total h e);
    met = λ w h. each_flat (branch_meets guard yes_meets no_meets) (IsFrom w) (λ e. IsFrom w e.world) (λ x f. met_by w x f (is_known guard (slice_get x.bits guard.bit))) (split guard.bit w) (splits.from w h);
  }
    where
      splits : Keeps (split guard.bit)
      splits = split-keeps guard.bit

      met_by : (w x : World) → IsFrom w x → (b : Bool) → AllByRecursion (λ e. IsFrom w e.world) (cond b (yes_meets x) (no_meets x))
      met_by w x f true = each_weaker (λ e. IsFrom x e.world) (λ e. IsFrom w e.world) (λ e d. from_twice w x e.world f d) (yes_meets x) (y.met x f.loose)
      met_by w x f false = each_weaker (λ e. IsFrom x e.world) (λ e. IsFrom w e.world) (λ e d. from_twice w x e.world f d) (no_meets x) (z.met x f.loose)

      passed_by : (s : State) (b : Bool) → (cond b (yes_run s) (no_run s)).passed ≡ []
      passed_by s true = y.passed s
      passed_by s false = z.passed s

      unmet_by : (x : World) (first total : List Bool) → IsLoose x → takes first total x ≡ false → (b : Bool) → filter (taken_there first total) (cond b (yes_meets x) (no_meets x)) ≡ []
      unmet_by x first total h e true = y.unmet x first total h e
      unmet_by x first total h e false = z.unmet x first total h e

      traced_by : (w : World) (first : List Bool) (place : ℕ) (total : List Bool) (s : State) → Covers w first place total s → (b : Bool)
          → IsTraced (cond b (yes_run s) (no_run s)).how (cond b (yes_run s) (no_run s)).last first place total (filter (takes first total) (cond b (yes_worlds w) (no_worlds w)))
      traced_by w first place total s c true = y.traced w first place total s c
      traced_by w first place total s c false = z.traced w first place total s c

      played_by : (w : World) (first : List Bool) (place : ℕ) (total : List Bool) (s : State) → Covers w first place total s → (b : Bool)
          → map (played_at place) (filter (taken_there first total) (cond b (yes_meets w) (no_meets w))) ≡ (cond b (yes_run s) (no_run s)).played
      played_by w first place total s c true = y.played w first place total s c
      played_by w first place total s c false = z.played w first place total s c

      traced_split : (w : World) (first : List Bool) (place : ℕ) (total : List Bool) (s : State) → Covers w first place total s → Split guard.bit w first place total s
          → IsTraced (branch_run s).how (branch_run s).last first place total (filter (takes first total) (flat_map (branch guard yes_worlds no_worlds) (split guard.bit w)))
      traced_split w first place total s c d =
          subst (λ (us : List World). IsTraced (branch_run s).how (branch_run s).last first place total us)
          (sym (filter_flat (branch guard yes_worlds no_worlds) (takes first total) (takes first total) (IsFrom w)
          (λ x f g. (branch-keeps ky kn).apart x first total f.loose g) (split guard.bit w) (splits.from w (stored-loose c.store))
          ∙ ap (flat_map (λ x. filter (takes first total) (branch guard yes_worlds no_worlds x))) d.is
          ∙ append-nil (filter (takes first total) (branch guard yes_worlds no_worlds d.world))
          ∙ ap (λ (b : Bool). filter (takes first total) (cond b (yes_worlds d.world) (no_worlds d.world))) (known_as (slice_get d.world.bits guard.bit) (slice_get s.bits guard.bit) d.decided)))
          (traced_by d.world first place total s d.covers (has_bit guard s.bits))

      played_split : (w : World) (first : List Bool) (place : ℕ) (total : List Bool) (s : State) → Covers w first place total s → Split guard.bit w first place total s
          → map (played_at place) (filter (taken_there first total) (flat_map (branch_meets guard yes_meets no_meets) (split guard.bit w))) ≡ (branch_run s).played
      played_split w first place total s c d =
          ap (map (played_at place))
          (filter_flat (branch_meets guard yes_meets no_meets) (takes first total) (taken_there first total) (IsFrom w)
          (λ x f g. unmet_by x first total f.loose g (is_known guard (slice_get x.bits guard.bit))) (split guard.bit w) (splits.from w (stored-loose c.store))
          ∙ ap (flat_map (λ x. filter (taken_there first total) (branch_meets guard yes_meets no_meets x))) d.is
          ∙ append-nil (filter (taken_there first total) (branch_meets guard yes_meets no_meets d.world))
          ∙ ap (λ (b : Bool). filter (taken_there first total) (cond b (yes_meets d.world) (no_meets d.world))) (known_as (slice_get d.world.bits guard.bit) (slice_get s.bits guard.bit) d.decided))
          ∙ played_by d.world first place total s d.covers (has_bit guard s.bits)

-- ---- assumptions
module _ (guard : Guard) where
  abbrev pub assume_worlds : Spread
  assume_worlds w = assumed_worlds guard (slice_get w.bits guard.bit) w

  abbrev pub assume_run : Meaning
  assume_run s = cond (has_bit guard s.bits) (ended s) (stopped How.Blocked s)

  pub assume-keeps : Keeps assume_worlds
  assume-keeps = record {
    from = λ w h. from_known w h (slice_get w.bits guard.bit);
    apart = λ w bits total h e. apart_known w bits total h e (slice_get w.bits guard.bit) refl;
  }
    where
      from_one : (w : World) → IsLoose w → (b : Bool) → AllByRecursion (IsFrom w) (cond b (w ∷ []) [])
      from_one w h true = (record { loose = h; case = refl; sized = refl }, tt)
      from_one w h false = tt

      from_known : (w : World) → IsLoose w → (x : Option (Option Bool)) → AllByRecursion (IsFrom w) (assumed_worlds guard x w)
      from_known w h None = tt
      from_known w h (Some None) = (decided-from guard.bit guard.value w h, tt)
      from_known w h (Some (Some b)) = from_one w h (agrees guard b)

      apart_one : (w : World) (bits total : List Bool) → takes bits total w ≡ false → (b : Bool) → filter (takes bits total) (cond b (w ∷ []) []) ≡ []
      apart_one w bits total e true = filter_none (takes bits total) w e
      apart_one w bits total e false = refl

      apart_known : (w : World) (bits total : List Bool) → IsLoose w → takes bits total w ≡ false → (x : Option (Option Bool)) → slice_get w.bits guard.bit ≡ x → filter (takes bits total) (assumed_worlds guard x w) ≡ []
      apart_known w bits total h e None is = refl
      apart_known w bits total h e (Some None) is = filter_none (takes bits total) (decided guard.bit guard.value w) (decided-falls guard.bit guard.value w bits total h is e)
      apart_known w bits total h e (Some (Some b)) is = apart_one w bits total e (agrees guard b)

  -- the run by the bit's value
  abbrev run_by : Bool → Meaning
  run_by b s = cond b (ended s) (stopped How.Blocked s)

  traced_if : (w : World) (first : List Bool) (place : ℕ) (total : List Bool) (s : State) → Covers w first place total s → (b : Bool)
      → IsTraced (run_by b s).how (run_by b s).last first place total (filter (takes first total) (cond b (w ∷ []) []))
  traced_if w first place total s c true = (w, filter_one (takes first total) w (covers-takes w first place total s c), c)
  traced_if w first place total s c false = refl

  -- an open bit, by the value that the guard wants and the value that the run has
  traced_open : (w : World) (first : List Bool) (place : ℕ) (total : List Bool) (s : State) → Covers w first place total s → (value b : Bool)
      → Stored (slice_set w.start guard.bit (Some b)) (slice_set w.bits guard.bit (Some b)) first s.bits → matches (slice_set w.start guard.bit (Some (not b))) first ≡ false
      → IsTraced (run_by (cond value b (not b)) s).how (run_by (cond value b (not b)) s).last first place total (filter (takes first total) (decided guard.bit value w ∷ []))
  traced_open w first place total s c true true r apart = (
    decided guard.bit true w,
    filter_one (takes first total) (decided guard.bit true w) (covers-takes (decided guard.bit true w) first place total s (record { store = r; outcomes = c.outcomes; vector = c.vector })),
    record { store = r; outcomes = c.outcomes; vector = c.vector },
  )
  traced_open w first place total s c false false r apart = (
    decided guard.bit false w,
    filter_one (takes first total) (decided guard.bit false w) (covers-takes (decided guard.bit false w) first place total s (record { store = r; outcomes = c.outcomes; vector = c.vector })),
    record { store = r; outcomes = c.outcomes; vector = c.vector },
  )
  traced_open w first place total s c true false r apart = filter_none (takes first total) (decided guard.bit true w) (ap (λ (x : Bool). x && is_front w.outcomes total) apart)
  traced_open w first place total s c false true r apart = filter_none (takes first total) (decided guard.bit false w) (ap (λ (x : Bool). x && is_front w.outcomes total) apart)

  abbrev has_value : Option Bool → Bool
  has_value now = option_map_or (λ (b : Bool). cond guard.value b (not b)) now false

  -- the same for what is known of the bit, and the bit's value in the run
  abbrev TracedAt : World → List Bool → ℕ → List Bool → State → Option (Option Bool) → Option Bool → Type 0
  TracedAt w first place total s x now = IsTraced (run_by (has_value now) s).how (run_by (has_value now) s).last first place total (filter (takes first total) (assumed_worlds guard x w))

  traced_seen : (w : World) (first : List Bool) (place : ℕ) (total : List Bool) (s : State) → Covers w first place total s → Seen guard.bit w.start w.bits first s.bits
      → TracedAt w first place total s (slice_get w.bits guard.bit) (slice_get s.bits guard.bit)
  traced_seen w first place total s c (beyond n m) =
      subst (λ (x : Option (Option Bool)). TracedAt w first place total s x (slice_get s.bits guard.bit)) (sym n)
      (subst (λ (y : Option Bool). TracedAt w first place total s None y) (sym m) refl)
  traced_seen w first place total s c (StoreLaws.is_known b n m) =
      subst (λ (x : Option (Option Bool)). TracedAt w first place total s x (slice_get s.bits guard.bit)) (sym n)
      (subst (λ (y : Option Bool). TracedAt w first place total s (Some (Some b)) y) (sym m) (traced_if w first place total s c (agrees guard b)))
  traced_seen w first place total s c (is_open b n m r apart) =
      subst (λ (x : Option (Option Bool)). TracedAt w first place total s x (slice_get s.bits guard.bit)) (sym n)
      (subst (λ (y : Option Bool). TracedAt w first place total s (Some None) y) (sym m) (traced_open w first place total s c guard.value b r apart))

  no_played_by : (b : Bool) (s : State) → ◌≡◌ {A = List Played} [] (run_by b s).played
  no_played_by true s = refl
  no_played_by false s = refl

  no_passed_by : (b : Bool) (s : State) → (run_by b s).passed ≡ []
  no_passed_by true s = refl
  no_passed_by false s = refl

  pub assume-follows : Follows assume_run assume_worlds (λ w. [])
  assume-follows = record {
    traced = λ w first place total s c. traced_seen w first place total s c (seen guard.bit c.store);
    played = λ w first place total s c. no_played_by (has_bit guard s.bits) s;
    passed = λ s. no_passed_by (has_bit guard s.bits) s;
    unmet = λ w first total h e. refl;
    met = λ w h. tt;
  }
