-- Each run of a fragment is in exactly one world: statement by statement.
use Rattle.std.proofs.Common.{◌≡◌, ℕ, Bool, true, false, cond, List, [], ◌∷◌, ◌++◌, map, filter, length, Some, slice_get, refl, ap, sym, ◌∙◌, subst, append-nil}
use Rattle.std.specs.List.{AllByRecursion, flat_map}
use Rattle.std.proofs.lemmas.List.{map-append}
use Rattle.std.proofs.lemmas.List.Elements.{filter-append}
use Rattle.aq_prog.specs.Runs.{State, How, Passed, Played, Meaning, then_go, in_order}
use Rattle.aq_obligations.specs.Worlds.{World, Spread, in_worlds}
use Rattle.aq_obligations.specs.Covering.{is_front, takes, Met, Meets, played_at}
use Rattle.aq_correct.proofs.StoreLaws.{Stored, Loose, stored-loose, stored-matches, both_true, front_itself}

-- ---- a filter over worlds that are made from worlds
pub filter_flat : {A B : Type 0} (S : A → List B) (t : A → Bool) (u : B → Bool) (Q : A → Type 0) → ((x : A) → Q x → t x ≡ false → filter u (S x) ≡ []) → (xs : List A) → AllByRecursion Q xs
    → filter u (flat_map S xs) ≡ flat_map (λ x. filter u (S x)) (filter t xs)
filter_flat S t u Q apart [] h = refl
filter_flat S t u Q apart (x ∷ xs) h =
    filter-append u (S x) (flat_map S xs) ∙ ap (λ l. filter u (S x) ++ l) (filter_flat S t u Q apart xs h.1) ∙ by_test (t x) refl
  where
    by_test : (b : Bool) → t x ≡ b → filter u (S x) ++ flat_map (λ y. filter u (S y)) (filter t xs) ≡ flat_map (λ y. filter u (S y)) (cond (t x) (x ∷ filter t xs) (filter t xs))
    by_test true e = ap (λ (b : Bool). flat_map (λ y. filter u (S y)) (cond b (x ∷ filter t xs) (filter t xs))) (sym e)
    by_test false e = ap (λ l. l ++ flat_map (λ y. filter u (S y)) (filter t xs)) (apart x h.0 e) ∙ ap (λ (b : Bool). flat_map (λ y. filter u (S y)) (cond b (x ∷ filter t xs) (filter t xs))) (sym e)

pub each_append : {A : Type 0} (Q : A → Type 0) (xs ys : List A) → AllByRecursion Q xs → AllByRecursion Q ys → AllByRecursion Q (xs ++ ys)
each_append Q [] ys h k = k
each_append Q (x ∷ xs) ys h k = (h.0, each_append Q xs ys h.1 k)

pub each_flat : {A B : Type 0} (S : A → List B) (P : A → Type 0) (Q : B → Type 0) → ((x : A) → P x → AllByRecursion Q (S x)) → (xs : List A) → AllByRecursion P xs → AllByRecursion Q (flat_map S xs)
each_flat S P Q f [] h = tt
each_flat S P Q f (x ∷ xs) h = each_append Q (S x) (flat_map S xs) (f x h.0) (each_flat S P Q f xs h.1)

pub each_weaker : {A : Type 0} (P Q : A → Type 0) → ((x : A) → P x → Q x) → (xs : List A) → AllByRecursion P xs → AllByRecursion Q xs
each_weaker P Q f [] h = tt
each_weaker P Q f (x ∷ xs) h = (f x h.0, each_weaker P Q f xs h.1)

pub each_and : {A : Type 0} (P Q : A → Type 0) (xs : List A) → AllByRecursion P xs → AllByRecursion Q xs → AllByRecursion (λ x. P x × Q x) xs
each_and P Q [] h k = tt
each_and P Q (x ∷ xs) h k = ((h.0, k.0), each_and P Q xs h.1 k.1)

-- ---- worlds that come from a world
-- what a world that comes from another shares with it: it is loose, of the same case, and has as many vectors
pub record IsFrom (w x : World) : Type 0 where
  pub loose : Loose x.start x.bits
  pub case : x.case ≡ w.case
  pub sized : length x.vectors ≡ length w.vectors

pub from_twice : (w x y : World) → IsFrom w x → IsFrom x y → IsFrom w y
from_twice w x y g h = record { loose = h.loose; case = h.case ∙ g.case; sized = h.sized ∙ g.sized }

abbrev pub IsLoose : World → Type 0
IsLoose w = Loose w.start w.bits

pub record Keeps (S : Spread) : Type 0 where
  pub from : (w : World) → IsLoose w → AllByRecursion (IsFrom w) (S w)
  pub apart : (w : World) (bits total : List Bool) → IsLoose w → takes bits total w ≡ false → filter (takes bits total) (S w) ≡ []

pub keeps-none : Keeps (in_worlds [])
keeps-none = record {
  from = λ w h. (record { loose = h; case = refl; sized = refl }, tt);
  apart = λ w bits total h e. ap (λ (b : Bool). cond b (w ∷ []) []) e;
}

nothing_of : {A B : Type 0} (f : A → List B) (xs : List A) → xs ≡ [] → flat_map f xs ≡ []
nothing_of f xs e = ap (flat_map f) e

pub keeps-then : (S rest : Spread) → Keeps S → Keeps rest → Keeps (λ w. flat_map rest (S w))
keeps-then S rest k r = record {
  from = λ w h. each_flat rest (IsFrom w) (IsFrom w) (λ x f. each_weaker (IsFrom x) (IsFrom w) (λ y g. from_twice w x y f g) (rest x) (r.from x f.loose)) (S w) (k.from w h);
  apart = λ w bits total h e.
      filter_flat rest (takes bits total) (takes bits total) (IsFrom w) (λ x f g. r.apart x bits total f.loose g) (S w) (k.from w h)
      ∙ nothing_of (λ x. filter (takes bits total) (rest x)) (filter (takes bits total) (S w)) (k.apart w bits total h e);
}

-- ---- a run in a world
-- The world has the run that began with the bits `first` at a place of its case's list and stands now at s: what is known is
-- so, the outcomes taken and those that are left are `total`, and the vector is the one at the place.
pub record Covers (w : World) (first : List Bool) (place : ℕ) (total : List Bool) (s : State) : Type 0 where
  pub store : Stored w.start w.bits first s.bits
  pub outcomes : w.outcomes ++ s.outcomes ≡ total
  pub vector : slice_get w.vectors place ≡ Some s.vector

pub covers-takes : (w : World) (first : List Bool) (place : ℕ) (total : List Bool) (s : State) → Covers w first place total s → takes first total w ≡ true
covers-takes w first place total s c = both_true _ _ (stored-matches c.store) (subst (λ (l : List Bool). is_front w.outcomes l ≡ true) c.outcomes (front_itself w.outcomes s.outcomes))

-- one world has the run where it has ended, and none where it stopped before
abbrev pub IsTraced : How → State → List Bool → ℕ → List Bool → List World → Type 0
IsTraced How.Ended last first place total ws = (w : World) × (ws ≡ w ∷ []) × Covers w first place total last
IsTraced How.Blocked last first place total ws = ws ≡ []
IsTraced How.NoOutcome last first place total ws = ws ≡ []
IsTraced How.NoTurn last first place total ws = ws ≡ []

-- the test of what a world meets
abbrev pub taken_there : List Bool → List Bool → Met → Bool
taken_there first total e = takes first total e.world

-- the runs of m are those of the worlds that S makes, and M are the gates that they play
pub record Follows (m : Meaning) (S : Spread) (M : Meets) : Type 0 where
  pub traced : (w : World) (first : List Bool) (place : ℕ) (total : List Bool) (s : State) → Covers w first place total s
      → IsTraced (m s).how (m s).last first place total (filter (takes first total) (S w))
  pub played : (w : World) (first : List Bool) (place : ℕ) (total : List Bool) (s : State) → Covers w first place total s
      → map (played_at place) (filter (taken_there first total) (M w)) ≡ (m s).played
  pub passed : (s : State) → (m s).passed ≡ []
  pub unmet : (w : World) (first total : List Bool) → IsLoose w → takes first total w ≡ false → filter (taken_there first total) (M w) ≡ []
  pub met : (w : World) → IsLoose w → AllByRecursion (λ e. IsFrom w e.world) (M w)

filter_one : {A : Type 0} (t : A → Bool) (x : A) → t x ≡ true → filter t (x ∷ []) ≡ x ∷ []
filter_one t x e = ap (λ (b : Bool). cond b (x ∷ []) []) e

pub follows-none : Follows (in_order []) (in_worlds []) (λ w. [])
follows-none = record {
  traced = λ w first place total s c. (w, filter_one (takes first total) w (covers-takes w first place total s c), c);
  played = λ w first place total s c. refl;
  passed = λ s. refl;
  unmet = λ w first total h e. refl;
  met = λ w h. tt;
}

-- ---- one after the other
module _ (next : Meaning) (rest : Spread) (meets_rest : Meets) (first : List Bool) (place : ℕ) (total : List Bool) where
  traced-then : Follows next rest meets_rest → (h : How) (l : State) (ps : List Passed) (gs : List Played) (ws : List World) → IsTraced h l first place total ws
      → IsTraced (then_go (record { how = h; last = l; passed = ps; played = gs }) next).how (then_go (record { how = h; last = l; passed = ps; played = gs }) next).last first place total
      (flat_map (λ x. filter (takes first total) (rest x)) ws)
  traced-then f How.Ended l ps gs ws t =
      subst (λ (us : List World). IsTraced (next l).how (next l).last first place total us)
      (sym (ap (flat_map (λ x. filter (takes first total) (rest x))) t.1 ∙ append-nil (filter (takes first total) (rest t.0))))
      (f.traced t.0 first place total l t.2)
  traced-then f How.Blocked l ps gs ws t = ap (flat_map (λ x. filter (takes first total) (rest x))) t
  traced-then f How.NoOutcome l ps gs ws t = ap (flat_map (λ x. filter (takes first total) (rest x))) t
  traced-then f How.NoTurn l ps gs ws t = ap (flat_map (λ x. filter (takes first total) (rest x))) t

  abbrev met_rest : List World → List Played
  met_rest ws = map (played_at place) (flat_map (λ x. filter (taken_there first total) (meets_rest x)) ws)

  played-then : Follows next rest meets_rest → (h : How) (l : State) (ps : List Passed) (gs : List Played) (ws : List World) → IsTraced h l first place total ws
      → gs ++ met_rest ws ≡ (then_go (record { how = h; last = l; passed = ps; played = gs }) next).played
  played-then f How.Ended l ps gs ws t =
      ap (λ (us : List Played). gs ++ us) (ap met_rest t.1 ∙ ap (map (played_at place)) (append-nil (filter (taken_there first total) (meets_rest t.0))) ∙ f.played t.0 first place total l t.2)
  played-then f How.Blocked l ps gs ws t = ap (λ (us : List World). gs ++ met_rest us) t ∙ append-nil gs
  played-then f How.NoOutcome l ps gs ws t = ap (λ (us : List World). gs ++ met_rest us) t ∙ append-nil gs
  played-then f How.NoTurn l ps gs ws t = ap (λ (us : List World). gs ++ met_rest us) t ∙ append-nil gs

passed-then : (next : Meaning) → ((s : State) → (next s).passed ≡ []) → (h : How) (l : State) (ps : List Passed) (gs : List Played) → ps ≡ [] → (then_go (record { how = h; last = l; passed = ps; played = gs }) next).passed ≡ []
passed-then next f How.Ended l ps gs e = (λ i. e i ++ f l i)
passed-then next f How.Blocked l ps gs e = e
passed-then next f How.NoOutcome l ps gs e = e
passed-then next f How.NoTurn l ps gs e = e

abbrev pub meets_then : Spread → Meets → Meets → Meets
meets_then S M rest w = M w ++ flat_map rest (S w)

pub follows-then : (m next : Meaning) (S rest : Spread) (M meets_rest : Meets) → Keeps S → Keeps rest → Follows m S M → Follows next rest meets_rest
    → Follows (λ s. then_go (m s) next) (λ w. flat_map rest (S w)) (meets_then S M meets_rest)
follows-then m next S rest M meets_rest k r f g = record {
  traced = λ w first place total s c.
      subst (λ (us : List World). IsTraced (then_go (m s) next).how (then_go (m s) next).last first place total us)
      (sym (filter_flat rest (takes first total) (takes first total) (IsFrom w) (λ x h e. r.apart x first total h.loose e) (S w) (k.from w (stored-loose c.store))))
      (traced-then next rest meets_rest first place total g (m s).how (m s).last (m s).passed (m s).played (filter (takes first total) (S w)) (f.traced w first place total s c));
  played = λ w first place total s c.
      ap (map (played_at place)) (filter-append (taken_there first total) (M w) (flat_map meets_rest (S w))
      ∙ ap (λ (us : List Met). filter (taken_there first total) (M w) ++ us)
      (filter_flat meets_rest (takes first total) (taken_there first total) (IsFrom w) (λ x h e. g.unmet x first total h.loose e) (S w) (k.from w (stored-loose c.store))))
      ∙ map-append (played_at place) (filter (taken_there first total) (M w)) (flat_map (λ x. filter (taken_there first total) (meets_rest x)) (filter (takes first total) (S w)))
      ∙ ap (λ (us : List Played). us ++ met_rest next rest meets_rest first place total (filter (takes first total) (S w))) (f.played w first place total s c)
      ∙ played-then next rest meets_rest first place total g (m s).how (m s).last (m s).passed (m s).played (filter (takes first total) (S w)) (f.traced w first place total s c);
  passed = λ s. passed-then next g.passed (m s).how (m s).last (m s).passed (m s).played (f.passed s);
  unmet = λ w first total h e.
      filter-append (taken_there first total) (M w) (flat_map meets_rest (S w))
      ∙ (λ i. f.unmet w first total h e i
      ++ (filter_flat meets_rest (takes first total) (taken_there first total) (IsFrom w) (λ x q d. g.unmet x first total q.loose d) (S w) (k.from w h)
      ∙ nothing_of (λ x. filter (taken_there first total) (meets_rest x)) (filter (takes first total) (S w)) (k.apart w first total h e)) i);
  met = λ w h. each_append (λ e. IsFrom w e.world) (M w) (flat_map meets_rest (S w)) (f.met w h)
      (each_flat meets_rest (IsFrom w) (λ e. IsFrom w e.world) (λ x q. each_weaker (λ e. IsFrom x e.world) (λ e. IsFrom w e.world) (λ e d. from_twice w x e.world q d) (meets_rest x) (g.met x q.loose)) (S w) (k.from w h));
}
