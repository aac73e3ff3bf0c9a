-- From automata to worlds: what an inclusion, an escape, and a comparison that doesn't fit say of a world's vectors.
use Rattle.std.proofs.Common.{◌≡◌, ℕ, zero, suc, ◌<◌, List, [], ◌∷◌, ◌++◌, map, length, take, drop, slice_get, slice_index_or, Some, Any, All, Contains, refl, sym, ap, ◌∙◌, subst, arith}
use Rattle.std.specs.List.{flat_map}
use Rattle.std.proofs.lemmas.List.Elements.{All-nil, All-cons, All-contains}
use Rattle.std.proofs.lemmas.Option.{slice_get_within}
use Rattle.aq_ring.specs.Fractions.{Amplitude}
use Rattle.aq_ring.specs.Vectors.{IsZeroVector, Proportional}
use Rattle.aq_prog.specs.Cuts.{AreUncut}
use Rattle.aq_prog.specs.declared.program.Program.{Program}
use Rattle.aq_sets.specs.Sizes.{place, size_of}
use Rattle.aq_sets.specs.Valid.{IsValidSets}
use Rattle.aq_sets.specs.Vectors.{vectors_of}
use Rattle.aq_sets.specs.declared.sets.Sets.{Sets}
use Rattle.aq_store.specs.Nodes.{tree, vector_of}
use Rattle.aq_store.specs.Words.{IsWord}
use Rattle.aq_store.specs.declared.lsta.Lsta.{Lsta}
use Rattle.aq_cert.specs.Meaning.{Included, IsEscape, IsLeastEscape, IsMatched, amplitudes}
use Rattle.aq_include.specs.Answers.{IsWideInclusion}
use Rattle.aq_obligations.specs.Asking.{case_of, cases_of, meaning_of}
use Rattle.aq_obligations.specs.Claims.{CaseHolds, Holds, are_met}
use Rattle.aq_obligations.specs.Obligations.{Meaning}
use Rattle.aq_obligations.specs.Wide.{WideComparison}
use Rattle.aq_obligations.specs.Worlds.{IsKept, Partial, filled, worlds}
use Rattle.aq_obligations.specs.Worlds as meant
use Rattle.aq_obligations.specs.declared.bound.BoundCase.{BoundCase}
use Rattle.aq_obligations.specs.declared.bound.Obligation.{Obligation}
use Rattle.aq_correct.specs.WorldLaws.{WorldsCompare}
use Rattle.aq_set_build.specs.Listing.{IsBuilt}
use Rattle.aq_set_build.specs.Tensors.{Table}
use Rattle.aq_set_build.proofs.CoverLemmas.{valid_exprs}
use Rattle.aq_set_build.proofs.ListLemmas.{tree_word}
use Rattle.aq_decide.specs.Deciding.{IsEscapeAt}
use Rattle.aq_decide.specs.Goals.{AreBuilt, met_cases}
use Rattle.aq_decide.specs.Kept.{HasVectors, alone}
use Rattle.aq_decide.proofs.Elements.{some_is, get_contains, contains_get, contains_map, any_from, filter_in, filter_out, zip_left, zip_right}
use Rattle.aq_decide.proofs.OrderLemmas.{ordered, reached}
use Rattle.aq_decide.proofs.ToldLemmas.{kept_if}

pub flat_alone : (v : List Amplitude) → flat_map alone v ≡ v
flat_alone [] = refl
flat_alone (a ∷ v) = ap (λ l. a ∷ l) (flat_alone v)

pub amplitudes_are : (table : Table) (word : List ℕ) (id : ℕ) → amplitudes alone table word id ≡ tree table word id
amplitudes_are table word id = flat_alone (tree table word id)

any_map : {A B : Type 0} (P : B → Type 0) (f : A → B) (xs : List A) → Any P (map f xs) → (x : A) × Contains xs x × P (f x)
any_map P f [] a = absurd (omega (arith, a.2))
any_map {A = A} {B = B} P f (x ∷ xs) a = by a.0 a.1 a.2 a.3 a.4 (any_map P f xs)
  where
    by : (i : ℕ) (y : B) → i < length (map f (x ∷ xs)) → slice_index_or (map f (x ∷ xs)) i y ≡ y → P y → (Any P (map f xs) → (z : A) × Contains xs z × P (f z)) → (z : A) × Contains (x ∷ xs) z × P (f z)
    by zero y lt e p rest = (x, (0, omega arith, refl), subst P (sym e) p)
    by (suc i) y lt e p rest = let r = rest (i, y, omega (arith, lt), e, p) in (r.0, (suc r.1.0, (let n = r.1.1 in omega (arith, n)), r.1.2), r.2)

any_get : {A : Type 0} (P : A → Type 0) (xs : List A) → Any P xs → (k : ℕ) × (x : A) × (slice_get xs k ≡ Some x) × P x
any_get P xs a = let g = contains_get xs a.1 (a.0, a.2, a.3) in (g.0, a.1, g.1, a.4)

pub cut : {A : Type 0} (xs : List A) (k : ℕ) (x : A) → slice_get xs k ≡ Some x → xs ≡ take k xs ++ x ∷ drop (suc k) xs
cut [] k x e = past k e
  where
    past : (k : ℕ) → slice_get [] k ≡ Some x → [] ≡ take k [] ++ x ∷ drop (suc k) []
    past zero e = cc e
    past (suc k) e = cc e
cut (y ∷ xs) zero x e = ap (λ z. z ∷ xs) (some_is y x e)
cut (y ∷ xs) (suc k) x e = ap (λ l. y ∷ l) (cut xs k x e)

cut_length : {A : Type 0} (xs : List A) (k : ℕ) (x : A) → slice_get xs k ≡ Some x → length (take k xs) ≡ k
cut_length [] zero x e = refl
cut_length [] (suc k) x e = cc e
cut_length (y ∷ xs) zero x e = refl
cut_length (y ∷ xs) (suc k) x e = ap suc (cut_length xs k x e)

all_front : {A : Type 0} (P : A → Type 0) (xs : List A) (k : ℕ) → ((j : ℕ) (x : A) → j < k → slice_get xs j ≡ Some x → P x) → All P (take k xs)
all_front P xs zero h = All-nil P
all_front P [] (suc k) h = All-nil P
all_front P (x ∷ xs) (suc k) h = All-cons P x (take k xs) (h 0 x (omega arith) refl) (all_front P xs k (λ j y lt e. h (suc j) y (omega (arith, lt)) e))

all_got : {A : Type 0} (P : A → Type 0) (xs : List A) → ((j : ℕ) (x : A) → slice_get xs j ≡ Some x → P x) → All P xs
all_got P [] h = All-nil P
all_got P (x ∷ xs) h = All-cons P x xs (h 0 x refl) (all_got P xs (λ j y e. h (suc j) y e))

contains_some : {A : Type 0} (xs : List A) (x : A) → Contains xs x → 0 < length xs
contains_some xs x c = omega (arith, c.1)

module _ (s : Sets) (valid : IsValidSets s) (table : Table) where
  -- the vector of a word that is one of the shape stands in the list
  listed : (c : BoundCase) (lsta : Lsta) (vectors : List (List Amplitude)) (word : List ℕ) → HasVectors s c table lsta vectors → IsWord (size_of s.exprs c.set).shape word
      → slice_get vectors (place s.exprs c.set word) ≡ Some (vector_of table lsta word)
  listed c lsta vectors word h w = h.words word w

  -- and each vector is that of a word
  word_of : (c : BoundCase) (lsta : Lsta) (vectors : List (List Amplitude)) (k : ℕ) (v : List Amplitude) → c.set < length s.exprs → HasVectors s c table lsta vectors → length vectors ≡ (size_of s.exprs c.set).count
      → slice_get vectors k ≡ Some v → (word : List ℕ) × IsWord (size_of s.exprs c.set).shape word × (vector_of table lsta word ≡ v)
  word_of c lsta vectors k v there h long e =
      let r = reached s.exprs (valid_exprs s valid) c.set there k (let n = slice_get_within vectors k v e in omega (arith, n, long)) in
      (r.0, r.1, some_is (vector_of table lsta r.0) v (sym (h.words r.0 r.1) ∙ ap (slice_get vectors) r.2 ∙ e))

  -- ---- goals
  matched_holds : (cases : List BoundCase) (bits : Partial) (goals : List Lsta) (v : List Amplitude) → AreBuilt s (met_cases cases bits) table goals → IsMatched alone table goals v
      → Holds (cases_of s cases) (filled bits) v
  matched_holds cases bits goals v built h =
      let z = zip_right (λ c made. IsBuilt s.exprs c.set table made) (met_cases cases bits) goals h.number h.goal built h.listed in
      let c = z.0 in
      let f = filter_out (λ (d : BoundCase). are_met d.when (filled bits)) cases c (get_contains (met_cases cases bits) h.number c z.1) in
      let at = z.2.words h.word (subst (λ t. IsWord t h.word) z.2.shape h.is_word) in
      any_from (CaseHolds (filled bits) v) (cases_of s cases) (case_of s c) (contains_map (case_of s) cases c f.0) (
        f.1,
        any_from (Proportional v) (vectors_of s.exprs c.set) (vector_of table h.goal h.word) (get_contains (vectors_of s.exprs c.set) (place s.exprs c.set h.word) (vector_of table h.goal h.word) at)
            (subst (Proportional v) (amplitudes_are table h.word h.goal.root) h.proportional),
      )

  holds_matched : (cases : List BoundCase) (bits : Partial) (goals : List Lsta) (v : List Amplitude) → All (λ c. c.set < length s.exprs) cases → AreBuilt s (met_cases cases bits) table goals
      → ((c : BoundCase) → c.set < length s.exprs → length (vectors_of s.exprs c.set) ≡ (size_of s.exprs c.set).count) → Holds (cases_of s cases) (filled bits) v → IsMatched alone table goals v
  holds_matched cases bits goals v there built counted h =
      let a = any_map (CaseHolds (filled bits) v) (case_of s) cases h in
      let c = a.0 in
      let within : c.set < length s.exprs = all_at cases c there a.1 in
      let g = any_get (Proportional v) (vectors_of s.exprs c.set) a.2.1 in
      let f = contains_get (met_cases cases bits) c (filter_in (λ (d : BoundCase). are_met d.when (filled bits)) cases c a.1 a.2.0) in
      let z = zip_left (λ d made. IsBuilt s.exprs d.set table made) (met_cases cases bits) goals f.0 c built f.1 in
      let w = word_of c z.0 (vectors_of s.exprs c.set) g.0 g.1 within z.2 (counted c within) g.2 in
      record {
        number = f.0;
        goal = z.0;
        listed = z.1;
        word = w.0;
        is_word = subst (λ t. IsWord t w.0) (sym z.2.shape) w.1;
        proportional = subst (Proportional v) (sym w.2 ∙ sym (amplitudes_are table w.0 z.0.root)) g.3;
      }
    where
      all_at : (xs : List BoundCase) (c : BoundCase) → All (λ d. d.set < length s.exprs) xs → Contains xs c → c.set < length s.exprs
      all_at xs c h k = All-contains (λ (d : BoundCase). d.set < length s.exprs) xs c h k

  -- ---- a world
  module _ (p : Program) (o : Obligation) (c : BoundCase) (there : c.set < length s.exprs) (u : meant.World) (lsta : Lsta) (goals : List Lsta) (vectors : HasVectors s c table lsta u.vectors)
      (long : length u.vectors ≡ (size_of s.exprs c.set).count) (built : AreBuilt s (met_cases o.goal.cases u.bits) table goals) where
    m : Meaning
    m = meaning_of p s o

    kept_at : (word : List ℕ) (v : List Amplitude) → vector_of table lsta word ≡ v → (IsEscape alone table lsta goals word → ⊥) → IsKept (meaning_of p s o) u v
    kept_at word v e never = kept_if (meaning_of p s o) u v (λ some lost. never (record {
      nonzero = λ z. some (subst IsZeroVector (amplitudes_are table word lsta.root ∙ e) z);
      unmatched = λ h. lost (subst (Holds (cases_of s o.goal.cases) (filled u.bits)) (amplitudes_are table word lsta.root ∙ e) (matched_holds o.goal.cases u.bits goals _ built h));
    }))

    -- where the automaton is included, none of the world's vectors escapes
    pub kept_of : Included alone table lsta goals → All (IsKept (meaning_of p s o) u) u.vectors
    kept_of included = all_got (IsKept (meaning_of p s o) u) u.vectors (λ k v e.
        let w = word_of c lsta u.vectors k v there vectors long e in
        kept_at w.0 v w.2 (λ lost. lost.unmatched (included w.0 lost.nonzero)))

    -- and the least word that escapes has the first vector that does
    pub escape_of : (word : List ℕ) → All (λ d. d.set < length s.exprs) o.goal.cases → ((d : BoundCase) → d.set < length s.exprs → length (vectors_of s.exprs d.set) ≡ (size_of s.exprs d.set).count)
        → IsLeastEscape alone table lsta goals word → IsEscapeAt (meaning_of p s o) u (place s.exprs c.set word)
    escape_of word all_there counted h =
        let is_word : IsWord (size_of s.exprs c.set).shape word = subst (λ t. IsWord t word) vectors.shape h.is_word in
        let k = place s.exprs c.set word in
        let at = vectors.words word is_word in
        record {
          before = take k u.vectors;
          escaping = vector_of table lsta word;
          after = drop (suc k) u.vectors;
          vectors_are = cut u.vectors k (vector_of table lsta word) at;
          place_is = cut_length u.vectors k (vector_of table lsta word) at;
          before_kept = all_front (IsKept (meaning_of p s o) u) u.vectors k (λ j v lt e.
              let w = ordered s.exprs (valid_exprs s valid) c.set there word is_word j lt in
              kept_at w.0 v (some_is (vector_of table lsta w.0) v (sym (vectors.words w.0 w.1) ∙ ap (slice_get u.vectors) w.2 ∙ e)) (h.least w.0 w.3));
          nonzero = λ z. h.escapes.nonzero (subst IsZeroVector (sym (amplitudes_are table word lsta.root)) z);
          escapes = λ e. h.escapes.unmatched (holds_matched o.goal.cases u.bits goals _ all_there built counted
              (subst (Holds (cases_of s o.goal.cases) (filled u.bits)) (sym (amplitudes_are table word lsta.root)) e));
        }

    -- a comparison that doesn't fit is one of an end with a vector of the goal
    pub wide_of : WorldsCompare → AreUncut o.fragment → Contains (worlds (meaning_of p s o)) u → (l r : Amplitude) → IsWideInclusion alone table lsta goals l r → WideComparison (meaning_of p s o)
    wide_of law uncut of_worlds l r h =
        let z = zip_right (λ d made. IsBuilt s.exprs d.set table made) (met_cases o.goal.cases u.bits) goals h.number h.goal built h.listed in
        let d = z.0 in
        let f = filter_out (λ (x : BoundCase). are_met x.when (filled u.bits)) o.goal.cases d (get_contains (met_cases o.goal.cases u.bits) h.number d z.1) in
        let left : Contains (vector_of table lsta h.word) l = subst (λ v. Contains v l) (amplitudes_are table h.word lsta.root) h.left_entry in
        let right : Contains (vector_of table h.goal h.other) r = subst (λ v. Contains v r) (amplitudes_are table h.other h.goal.root) h.right_entry in
        let w = subst (λ t. IsWord t h.word) vectors.shape (tree_word table lsta.shape.items lsta.root vectors.fits_store h.word (contains_some (vector_of table lsta h.word) l left)) in
        let y = subst (λ t. IsWord t h.other) z.2.shape (tree_word table h.goal.shape.items h.goal.root z.2.fits_store h.other (contains_some (vector_of table h.goal h.other) r right)) in
        law.wide_comparison (meaning_of p s o) u (vector_of table lsta h.word) (case_of s d) (vector_of table h.goal h.other) l r uncut of_worlds
        (get_contains u.vectors (place s.exprs c.set h.word) (vector_of table lsta h.word) (vectors.words h.word w))
        (contains_map (case_of s) o.goal.cases d f.0) f.1
        (get_contains (vectors_of s.exprs d.set) (place s.exprs d.set h.other) (vector_of table h.goal h.other) (z.2.words h.other y))
        left right h.unfit
