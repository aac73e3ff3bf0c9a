-- From candidates to the macro under a choice.
use Rattle.std.proofs.Common.{◌≡◌, ℕ, zero, suc, ◌+◌, ◌*◌, ◌<◌, ◌≤◌, ◌⊎◌, inl, inr, List, [], ◌∷◌, ◌++◌, length, map, drop, take, slice_get, get_or, Option, Some, None, Contains, refl, sym, ap, subst, ◌∙◌, arith, sum_by}
use Rattle.std.specs.Prelude.{slice_index}
use Rattle.std.proofs.Math.Nat.{mul-le-mul_left, mul-le-mul_right}
use Rattle.std.proofs.lemmas.List.{drop_more, drop_all, take_more, length-map, length-take-le}
use Rattle.std.proofs.lemmas.Bool.{cases_lt}
use Rattle.std.proofs.lemmas.List.Sums.{sum_by-cons, sum_by-append, sum_by_push, sum_by-take-le, get_or-le-sum_by}
use Rattle.std.proofs.lemmas.Option.{slice_get-get_or, slice_get_within, get_or_from_slice_get}
use Rattle.aq_ring.specs.Fractions.{Amplitude}
use Rattle.aq_ring.specs.Vectors.{scaled}
use Rattle.aq_store.specs.declared.node.Node.{Node}
use Rattle.aq_store.specs.declared.lsta.Lsta.{Lsta}
use Rattle.aq_store.specs.Count.{Count}
use Rattle.aq_store.specs.Nodes.{HasShape, pairs_at}
use Rattle.aq_store.proofs.TableLemmas.{slice_get-push, slice_get-some}
use Rattle.aq_cert.specs.declared.cert.Rel.{Rel}
use Rattle.aq_cert.specs.declared.cert.Macro.{Macro}
use Rattle.aq_cert.specs.Goals.{rest_of, goal_rest}
use Rattle.aq_store.proofs.ShapeLemmas.{one_shape, same_element}
use Rattle.aq_store.specs.Words.{IsWord}
use Rattle.aq_cert.specs.Meaning.{amplitudes}
use Rattle.aq_cert.specs.Macros.{IsOfLevel, IsStepOf, IsRelated}
use Rattle.aq_cert.proofs.MemberLemmas.{of-get}
use Rattle.aq_cert.proofs.HeldLemmas.{IsBelow}
use Rattle.aq_cert.proofs.StepLemmas.{pairs-length, children}
use Rattle.aq_include.specs.declared.step.Candidate.{Candidate}
use Rattle.aq_include.specs.declared.step.Stepped.{Stepped}
use Rattle.aq_include.specs.declared.own.Own.{Own}
use Rattle.aq_store.specs.declared.store.Stop.{Stop}
use Rattle.aq_store.specs.declared.store.Stop.TheVariants as stop
use Rattle.aq_include.specs.Steps.{IsOnly, IsPairChild, IsOwn, pair_children_of}
use Rattle.aq_include.proofs.ChildLemmas.{child-of, child-listed}
use Rattle.aq_include.specs.Costs.{Takes, IsCause, rel_weight, size}
use Rattle.aq_store.specs.Words.{words}
use Rattle.aq_include.specs.Candidates.{Thins, AreChildren, ArePairChildren, IsCandidate, IsCandidateAt, Offers, AreOfRel, IsStepOfSome, AreOfRels, IsOwnOf, Suffice, AreEnough, IsStepped}
use Rattle.aq_include.specs.Hopeless.{AreNull, IsHopeless}
use Rattle.aq_include.specs.Levels.{HasLevel}
use Rattle.aq_include.proofs.BudgetLemmas.{words-cons}
use Rattle.aq_include.proofs.CandidateLemmas.{get-front, get-last, offers-front}

module _ {X : Type 0} where
  get-back : (xs ys : List X) (i : ℕ) (x : X) → slice_get ys i ≡ Some x → slice_get (xs ++ ys) (length xs + i) ≡ Some x
  get-back [] ys i x e = ap (slice_get ys) (let z : 0 + i ≡ i = omega arith in z) ∙ e
  get-back (z ∷ xs) ys i x e = ap (slice_get (z ∷ (xs ++ ys))) (let n : suc (length xs) + i ≡ suc (length xs + i) = omega arith in n) ∙ get-back xs ys i x e

  get-append : (xs ys : List X) (i : ℕ) (x : X) → slice_get (xs ++ ys) i ≡ Some x → (slice_get xs i ≡ Some x) ⊎ ((j : ℕ) × (slice_get ys j ≡ Some x))
  get-append [] ys i x e = inr (i, e)
  get-append (z ∷ xs) ys zero x e = inl e
  get-append (z ∷ xs) ys (suc i) x e = get-append xs ys i x e

  no-item : (i : ℕ) (x : X) → slice_get [] i ≡ Some x → ⊥
  no-item i x e = cc

module _ {X Y : Type 0} (f : X → Y) where
  pub get-map : (xs : List X) (i : ℕ) (y : Y) → slice_get (map f xs) i ≡ Some y → (x : X) × (slice_get xs i ≡ Some x) × (f x ≡ y)
  get-map [] i y e = cc
  get-map (x ∷ xs) zero y e = (x, refl, cc)
  get-map (x ∷ xs) (suc i) y e = get-map xs i y e

  pub map-get : (xs : List X) (i : ℕ) (x : X) → slice_get xs i ≡ Some x → slice_get (map f xs) i ≡ Some (f x)
  map-get [] i x e = cc
  map-get (z ∷ xs) zero x e = (let s : z ≡ x = cc in ap (λ w. Some (f w)) s)
  map-get (z ∷ xs) (suc i) x e = map-get xs i x e

  pub sum-map : (g : Y → ℕ) (xs : List X) → sum_by g (map f xs) ≡ sum_by (λ x. g (f x)) xs
  sum-map g [] = refl
  sum-map g (x ∷ xs) = sum_by-cons g (f x) (map f xs) ∙ ap (λ n. g (f x) + n) (sum-map g xs) ∙ sym (sum_by-cons (λ z. g (f z)) x xs)

-- a list with a first number has a number
pub first-is : (left : List ℕ) (c : ℕ) → c < slice_index left 0 → (n : ℕ) × (later : List ℕ) × (left ≡ n ∷ later) × (c < n)
first-is [] c less = absurd (omega (arith, less))
first-is (n ∷ later) c less = (n, later, refl, less)

pub has-level : (goals : List Lsta) (level g k : ℕ) → length (goal_rest goals level g) ≡ suc k → HasLevel goals level g
has-level goals level g k e = at (slice_get goals g) refl
  where
    inside : (xs : List ℕ) (i : ℕ) → length (drop i xs) ≡ suc k → i < length xs
    inside xs i e = elim (cases_lt i (length xs)) [ inl h ↦ h | inr h ↦ absurd (omega (arith, e, ap (λ (l : List ℕ). length l) (drop_all i xs h))) ]

    at : (o : Option Lsta) → slice_get goals g ≡ o → HasLevel goals level g
    at None is = absurd (omega (arith, e, ap (λ o. length (rest_of o level)) is))
    at (Some goal) is =
        let more : level < length goal.shape.items = inside goal.shape.items level (sym (ap (λ o. length (rest_of o level)) is) ∙ e) in
        record {
          goal = goal;
          listed = is;
          within = more;
          shape = ap (λ o. rest_of o level) is ∙ drop_more goal.shape.items level 0 more ∙ ap (λ l. get_or goal.shape.items level 0 ∷ l) (sym (ap (λ o. rest_of o (level + 1)) is));
        }

module _ {L : Type 0} (table : List (Node L)) where
  -- a place's shape has a word
  pub some-word : (shape : List ℕ) (x : ℕ) → HasShape table shape x → 0 < words shape
  unfolding HasShape
  some-word [] x h = omega arith
  some-word (n ∷ shape) x h =
      let q = slice_get-some h.0 0 h.1.some in
      let w = some-word shape q.0.0 (h.3.left 0 q.0 q.1) in
      let m : 0 < n = omega (arith, h.1.some, h.2) in
      let e = words-cons n shape in
      omega (arith, mul-le-mul_left n w, e)

  -- the pairs of a relation take no more than its weight
  pub rel-cheap : (rest : ℕ → List ℕ) (left : List ℕ) (rel : Rel) (n : ℕ) (later : List ℕ) → rest rel.goal ≡ n ∷ later
      → ((p : ℕ × ℕ) → Contains rel.pairs p → HasShape table left p.0 × HasShape table (rest rel.goal) p.1) → n * length rel.pairs ≤ rel_weight rest rel
  rel-cheap rest left rel n later e shapes = at rel.pairs (λ p h. (shapes p h).1)
    where
      unfolded : words (n ∷ later) ≡ n * words later
      unfolded = words-cons n later

      more : (ps : List (ℕ × ℕ)) → 0 < words later → n * length ps ≤ length ps * words (rest rel.goal)
      more ps w = (let k : words (rest rel.goal) ≡ n * words later = ap words e ∙ unfolded in
          let one : n * 1 ≤ n * words later = mul-le-mul_left n w in
          let all : length ps * n ≤ length ps * (n * words later) = mul-le-mul_left (length ps) (omega (arith, one)) in
          omega (arith, all, ap (λ z. length ps * z) k))

      positive : (p : ℕ × ℕ) → HasShape table (rest rel.goal) p.1 → 0 < words later
      positive p h = (let w = some-word (rest rel.goal) p.1 h in
          let k : words (rest rel.goal) ≡ n * words later = ap words e ∙ unfolded in by (words later) refl w k)
        where
          by : (z : ℕ) → words later ≡ z → 0 < words (rest rel.goal) → words (rest rel.goal) ≡ n * words later → 0 < words later
          by zero is w k = absurd (omega (arith, w, k, ap (λ v. n * v) is))
          by (suc z) is w k = omega (arith, is)

      at : (ps : List (ℕ × ℕ)) → ((p : ℕ × ℕ) → Contains ps p → HasShape table (rest rel.goal) p.1) → n * length ps ≤ length ps * words (rest rel.goal)
      at [] f = omega arith
      at (p ∷ ps) f = more (p ∷ ps) (positive p (f p (0, omega arith, refl)))

  of-rels-append : (parts : L → List Amplitude) (c : ℕ) (rest : ℕ → List ℕ) (rels : List Rel) (list more : List Candidate) (rel : Rel) (n : ℕ) (later : List ℕ) → rest rel.goal ≡ n ∷ later
      → AreOfRels parts table c rest rels list → AreOfRel parts table c rel (length rels) n n more → AreOfRels parts table c rest (rels ++ rel ∷ []) (list ++ more)
  of-rels-append parts c rest rels list more rel n later e h k = record {
    each = λ j x here. elim (get-append list more j x here) [
      | inl old ↦
          (let r = h.each j x old in
          record { rel = r.rel; here = get-front rels (rel ∷ []) x.number r.rel r.here; choices = r.choices; later = r.later; shape = r.shape; is = r.is })
      | inr new ↦ (let r = k.each new.0 x new.1 in record {
        rel = rel;
        here = ap (slice_get (rels ++ rel ∷ [])) r.number_is ∙ get-last rels rel;
        choices = n;
        later = later;
        shape = e;
        is = record { number_is = refl; same_goal = r.same_goal; choice = r.choice; pairs = r.pairs };
      })
    ];
    offers = λ i s d m other here is less. elim (slice_get-push rels rel i s here) [
      | inl old ↦ offers-front parts table c s d list more (h.offers i s d m other old is less)
      | inr new ↦
          (let counts : m ≡ n = (let z : m ∷ other ≡ n ∷ later = sym is ∙ sym (ap (λ (r : Rel). rest r.goal) new.1) ∙ e in cc) in
          subst (λ (r : Rel). Offers table c r d (list ++ more) ⊎ IsHopeless parts table c r d) new.1 (behind (k.offers d (omega (arith, less, counts)))))
    ];
  }
    where
      behind : {d : ℕ} → Offers table c rel d more ⊎ IsHopeless parts table c rel d → Offers table c rel d (list ++ more) ⊎ IsHopeless parts table c rel d
      behind (inl o) = inl (record { place = length list + o.place; candidate = o.candidate; here = get-back list more o.place o.candidate o.here; is = o.is })
      behind (inr none) = inr none

-- ---- the relations one by one

pub first-of : (xs : List ℕ) (n : ℕ) (later : List ℕ) → xs ≡ n ∷ later → slice_index xs 0 ≡ n
first-of xs n later e = ap (λ (l : List ℕ). slice_index l 0) e

module _ {L : Type 0} (table : List (Node L)) where
  -- what is known at a relation of the macro
  pub record AtRel (goals : List Lsta) (level c : ℕ) (rel : Rel) (count : ℕ) : Type 0 where
    pub shape : goal_rest goals level rel.goal ≡ count ∷ goal_rest goals (level + 1) rel.goal
    pub within : (p : ℕ × ℕ) → Contains rel.pairs p → (c < length (pairs_at table p.0)) × (count ≤ length (pairs_at table p.1))
    pub cheap : count * length rel.pairs ≤ rel_weight (goal_rest goals level) rel

  pub level-of : (goals : List Lsta) (level c : ℕ) (left : List ℕ) (m : Macro) → IsOfLevel table left (goal_rest goals level) m → c < slice_index left 0
      → (k : ℕ) (rel : Rel) → slice_get m.rels k ≡ Some rel → HasLevel goals level rel.goal
  level-of goals level c left m h less k rel here =
      let f = first-is left c less in
      has-level goals level rel.goal (length f.1) (h.deep k rel here ∙ ap (λ (l : List ℕ). length l) f.2 ∙ omega arith)

  pub at-rel : (goals : List Lsta) (level c : ℕ) (left : List ℕ) (m : Macro) → IsOfLevel table left (goal_rest goals level) m → c < slice_index left 0
      → (k : ℕ) (rel : Rel) (count : ℕ) → slice_get m.rels k ≡ Some rel → count ≡ slice_index (goal_rest goals level rel.goal) 0 → AtRel goals level c rel count
  at-rel goals level c left m h less k rel count here is =
      let f = first-is left c less in
      let g = level-of goals level c left m h less k rel here in
      let same : count ≡ get_or g.goal.shape.items level 0 = is ∙ first-of _ _ _ g.shape in
      let shape : goal_rest goals level rel.goal ≡ count ∷ goal_rest goals (level + 1) rel.goal = g.shape ∙ ap (λ n. n ∷ goal_rest goals (level + 1) rel.goal) (sym same) in
      record {
        shape = shape;
        within = λ p listed.
            let s = h.pairs k rel p here listed in
            let a : HasShape table (f.0 ∷ f.1) p.0 = subst (λ l. HasShape table l p.0) f.2 s.0 in
            let b : HasShape table (count ∷ goal_rest goals (level + 1) rel.goal) p.1 = subst (λ l. HasShape table l p.1) shape s.1 in
            (omega (arith, f.3, pairs-length table f.0 f.1 p.0 a), omega (arith, pairs-length table count (goal_rest goals (level + 1) rel.goal) p.1 b));
        cheap = rel-cheap table (goal_rest goals level) left rel count (goal_rest goals (level + 1) rel.goal) shape (λ p listed. h.pairs k rel p here listed);
      }

  pub read-rel : (xs ys : List Rel) (k : ℕ) (rel : Rel) → xs ≡ ys → k < length xs → rel ≡ get_or xs k rel → slice_get ys k ≡ Some rel
  read-rel xs ys k rel e less is = subst (λ (l : List Rel). slice_get l k ≡ Some rel) e (slice_get-get_or xs k rel less ∙ ap Some (sym is))

  -- what the relations so far take
  weights-more : (rest : ℕ → List ℕ) (xs : List Rel) (k : ℕ) (rel : Rel) → k < length xs → rel ≡ get_or xs k rel
      → sum_by (rel_weight rest) (take (k + 1) xs) ≡ sum_by (rel_weight rest) (take k xs) + rel_weight rest rel
  weights-more rest xs k rel less is =
      ap (sum_by (rel_weight rest)) (take_more xs k rel less) ∙ sum_by_push (rel_weight rest) (take k xs) (get_or xs k rel) ∙ ap (λ (r : Rel). sum_by (rel_weight rest) (take k xs) + rel_weight rest r) (sym is)

  pub weights-within : (rest : ℕ → List ℕ) (xs ys : List Rel) (k : ℕ) (rel : Rel) → xs ≡ ys → k < length xs → rel ≡ get_or xs k rel
      → sum_by (rel_weight rest) (take k xs) + rel_weight rest rel ≤ sum_by (rel_weight rest) ys
  weights-within rest xs ys k rel e less is =
      omega (arith, weights-more rest xs k rel less is, sum_by-take-le (rel_weight rest) xs (k + 1), ap (sum_by (rel_weight rest)) e)

  pub takes-then : (a b n : ℕ) (s m t : Count) → Takes a s m → Takes b m t → a + b ≤ n → Takes n s t
  takes-then a b n s m t h k le = record { later = omega (arith, h.later, k.later); cheap = omega (arith, h.cheap, k.cheap); same = k.same ∙ h.same }

  pub cause-then : (a b n : ℕ) (s m : Count) (why : Stop L) → Takes a s m → IsCause b m why → a + b ≤ n → IsCause n s why
  cause-then a b n s m stop.Spent h k le = omega (arith, h.cheap, h.same, k)
  cause-then a b n s m (stop.Wide l r) h k le = tt
  cause-then a b n s m (stop.WideParts l r) h k le = tt
  cause-then a b n s m stop.Memory h k le = tt

  -- one relation more
  pub of-rels-more : (parts : L → List Amplitude) (goals : List Lsta) (level c : ℕ) (xs : List Rel) (k number : ℕ) (rel : Rel) (count : ℕ) (list more new : List Candidate) → k < length xs → rel ≡ get_or xs k rel → number ≡ k
      → AtRel goals level c rel count → AreOfRels parts table c (goal_rest goals level) (take k xs) list → AreOfRel parts table c rel number count count more → new ≡ list ++ more
      → AreOfRels parts table c (goal_rest goals level) (take (k + 1) xs) new
  of-rels-more parts goals level c xs k number rel count list more new less is at r h g e =
      let n : length (take k xs) ≡ k = length-take-le k xs (omega arith) in
      let all : AreOfRels parts table c (goal_rest goals level) (take k xs ++ rel ∷ []) (list ++ more) =
      of-rels-append table parts c (goal_rest goals level) (take k xs) list more rel count (goal_rest goals (level + 1) rel.goal) r.shape h
      (subst (λ i. AreOfRel parts table c rel i count count more) (at ∙ sym n) g) in
      subst (λ l. AreOfRels parts table c (goal_rest goals level) l new) (ap (λ (z : Rel). take k xs ++ z ∷ []) is ∙ sym (take_more xs k rel less))
      (subst (λ l. AreOfRels parts table c (goal_rest goals level) (take k xs ++ rel ∷ []) l) (sym e) all)

  pub light-more : (parts : L → List Amplitude) (goals : List Lsta) (level c : ℕ) (xs : List Rel) (k number : ℕ) (rel : Rel) (count : ℕ) (list more new : List Candidate) → k < length xs → rel ≡ get_or xs k rel
      → AtRel goals level c rel count → AreOfRel parts table c rel number count count more → new ≡ list ++ more
      → sum_by (λ (x : Candidate). rel_weight (goal_rest goals (level + 1)) x.rel) list ≤ 2 * sum_by (rel_weight (goal_rest goals level)) (take k xs)
      → sum_by (λ (x : Candidate). rel_weight (goal_rest goals (level + 1)) x.rel) new ≤ 2 * sum_by (rel_weight (goal_rest goals level)) (take (k + 1) xs)
  light-more parts goals level c xs k number rel count list more new less is r g e h =
      let w : ℕ = words (goal_rest goals (level + 1) rel.goal) in
      let one : rel_weight (goal_rest goals level) rel ≡ length rel.pairs * (count * w) = ap (λ z. length rel.pairs * z) (ap words r.shape ∙ words-cons count (goal_rest goals (level + 1) rel.goal)) in
      let l = g.light (λ i. words (goal_rest goals (level + 1) i)) in
      let both = ap (sum_by (λ (x : Candidate). rel_weight (goal_rest goals (level + 1)) x.rel)) e ∙ sum_by-append (λ (x : Candidate). rel_weight (goal_rest goals (level + 1)) x.rel) list more in
      omega (arith, both, h, weights-more (goal_rest goals level) xs k rel less is, twice count (length rel.pairs) w _ _ l one)
    where
      twice : (n a w s t : ℕ) → s ≤ n * (2 * (a * w)) → t ≡ a * (n * w) → s ≤ 2 * t
      twice n a w s t h e = omega arith

  pub paid-more : (list more new : List Candidate) (start : ℕ) (m t : Count) → new ≡ list ++ more
      → sum_by (λ (x : Candidate). length x.rel.pairs) more + 2 * m.taken ≤ 2 * t.taken → sum_by (λ (x : Candidate). length x.rel.pairs) list + 2 * start ≤ 2 * m.taken
      → sum_by (λ (x : Candidate). length x.rel.pairs) new + 2 * start ≤ 2 * t.taken
  paid-more list more new start m t e f h =
      let both = ap (sum_by (λ (x : Candidate). length x.rel.pairs)) e ∙ sum_by-append (λ (x : Candidate). length x.rel.pairs) list more in
      omega (arith, both, h, f)

  pub takes-more : (rest : ℕ → List ℕ) (xs : List Rel) (k : ℕ) (rel : Rel) (b : ℕ) (s m t : Count) → k < length xs → rel ≡ get_or xs k rel → b ≤ rel_weight rest rel
      → Takes (sum_by (rel_weight rest) (take k xs)) s m → Takes b m t → Takes (sum_by (rel_weight rest) (take (k + 1) xs)) s t
  takes-more rest xs k rel b s m t less is le h g = takes-then _ b _ s m t h g (omega (arith, weights-more rest xs k rel less is, le))

  -- ---- the whole step

  pub domain-pairs : (rest : ℕ → List ℕ) (c : ℕ) (left : List ℕ) (m : Macro) → IsOfLevel table left rest m → c < slice_index left 0
      → (x : ℕ) → Contains m.domain x → c < length (pairs_at table x)
  domain-pairs rest c left m h less x listed =
      let f = first-is left c less in
      let a : HasShape table (f.0 ∷ f.1) x = subst (λ l. HasShape table l x) f.2 (h.domain x listed) in
      omega (arith, f.3, pairs-length table f.0 f.1 x a)

  only-of : (c : ℕ) (rel : Rel) (number count : ℕ) (x : Candidate) → IsCandidate table c rel number count x → IsOnly table c rel x.choice x.rel
  only-of c rel number count x h = record { same_goal = h.same_goal; only = h.pairs.from }

  step-of : (c : ℕ) (rest : ℕ → List ℕ) (rels : List Rel) (x : Candidate) (rel : Rel) (n : ℕ) (later : List ℕ) → slice_get rels x.number ≡ Some rel → rest rel.goal ≡ n ∷ later
      → IsCandidate table c rel x.number n x → IsStepOf table c rest rels (x.number, x.choice) x.rel
  step-of c rest rels x rel n later here shape h = record {
    source = rel;
    here = here;
    same_goal = sym h.same_goal;
    choices = n;
    later = later;
    shape = shape;
    choice = h.choice;
    pairs = h.pairs.all;
  }

  -- a candidate at a choice below the number is a candidate
  at-below : (c : ℕ) (rel : Rel) (number d n : ℕ) (x : Candidate) → d < n → IsCandidateAt table c rel number d x → IsCandidate table c rel x.number n x
  at-below c rel number d n x less h = record {
    number_is = refl;
    same_goal = h.same_goal;
    choice = omega (arith, less, h.choice_is);
    pairs = subst (λ e. ArePairChildren table c e rel.pairs x.rel.pairs) (sym h.choice_is) h.pairs;
  }

  pub rel-within : (rest : ℕ → List ℕ) (rels : List Rel) (k : ℕ) (rel : Rel) → slice_get rels k ≡ Some rel → rel_weight rest rel ≤ sum_by (rel_weight rest) rels
  rel-within rest rels k rel here =
      let less = slice_get_within rels k rel here in
      subst (λ (r : Rel). rel_weight rest r ≤ sum_by (rel_weight rest) rels) (get_or_from_slice_get rels k rel rel here) (get_or-le-sum_by (rel_weight rest) rels k rel less)

  pub own-read : (xs ys : List Rel) (k : ℕ) (rel r : Rel) → xs ≡ ys → slice_get ys k ≡ Some rel → r ≡ get_or xs k r → r ≡ rel
  own-read xs ys k rel r e here is = is ∙ get_or_from_slice_get xs k rel r (subst (λ (l : List Rel). slice_get l k ≡ Some rel) (sym e) here)

  -- the choices at an own relation's pairs
  pub own-pairs : (rest : ℕ → List ℕ) (c : ℕ) (left : List ℕ) (m : Macro) (own : Own) → IsOfLevel table left rest m → c < slice_index left 0 → (o : IsOwnOf table c rest m.rels own)
      → (p : ℕ × ℕ) → Contains o.rel.pairs p → (c < length (pairs_at table p.0)) × (own.choice < length (pairs_at table p.1))
  own-pairs rest c left m own h less o p listed =
      let f = first-is left c less in
      let s = h.pairs own.number o.rel p o.here listed in
      let a : HasShape table (f.0 ∷ f.1) p.0 = subst (λ l. HasShape table l p.0) f.2 s.0 in
      let b : HasShape table (o.choices ∷ o.later) p.1 = subst (λ l. HasShape table l p.1) o.shape s.1 in
      (omega (arith, f.3, pairs-length table f.0 f.1 p.0 a), omega (arith, o.choice, pairs-length table o.choices o.later p.1 b))

  -- the pairs of an own relation are at most its weight
  pub own-cheap : (rest : ℕ → List ℕ) (c : ℕ) (left : List ℕ) (m : Macro) (own : Own) → IsOfLevel table left rest m → (o : IsOwnOf table c rest m.rels own) → length o.rel.pairs ≤ sum_by (rel_weight rest) m.rels
  own-cheap rest c left m own h o =
      let all = rel-cheap table rest left o.rel o.choices o.later o.shape (λ p listed. h.pairs own.number o.rel p o.here listed) in
      let some : 1 ≤ o.choices = omega (arith, o.choice) in
      let more : 1 * length o.rel.pairs ≤ o.choices * length o.rel.pairs = mul-le-mul_right (length o.rel.pairs) some in
      omega (arith, all, more, rel-within rest m.rels own.number o.rel o.here)

module _ {L : Type 0} (parts : L → List Amplitude) (table : List (Node L)) where
  -- fewer pairs are related too
  fewer : (qs ps : List (ℕ × ℕ)) (word other : List ℕ) → ((p : ℕ × ℕ) → Contains ps p → Contains qs p) → IsRelated parts table qs word other → IsRelated parts table ps word other
  fewer qs ps word other sub h = record { left = h.left; right = h.right; left_nonzero = h.left_nonzero; right_nonzero = h.right_nonzero; same = λ p listed. h.same p (sub p listed) }

  -- the children of pairs have the shapes below
  child-shapes : (c d n k : ℕ) (left later : List ℕ) (ps : List (ℕ × ℕ)) → c < n → d < k → ((p : ℕ × ℕ) → Contains ps p → HasShape table (n ∷ left) p.0 × HasShape table (k ∷ later) p.1)
      → (q : ℕ × ℕ) → IsPairChild table c d ps q → HasShape table left q.0 × HasShape table later q.1
  child-shapes c d n k left later ps less inside shapes q h =
      let s = shapes h.parent h.listed in
      let a = children table n left c h.parent.0 s.0 less in
      let b = children table k later d h.parent.1 s.1 inside in
      let x : a.0 ≡ h.left = same_element _ c a.0 h.left a.1.here h.left_here in
      let y : b.0 ≡ h.right = same_element _ d b.0 h.right b.1.here h.right_here in
      let l = subst (λ (z : ℕ × ℕ). HasShape table left z.0 × HasShape table left z.1) x (a.1.left, a.1.right) in
      let r = subst (λ (z : ℕ × ℕ). HasShape table later z.0 × HasShape table later z.1) y (b.1.left, b.1.right) in
      elim h.is [
        | inl e ↦ subst (λ (z : ℕ × ℕ). HasShape table left z.0 × HasShape table later z.1) (sym e) (l.0, r.0)
        | inr e ↦ subst (λ (z : ℕ × ℕ). HasShape table left z.0 × HasShape table later z.1) (sym e) (l.1, r.1)
      ]

  -- all relations that the choices give, without repeats
  pub suffice-each : (c : ℕ) (rest below : ℕ → List ℕ) (m : Macro) (list kept : List Candidate) → IsBelow rest below → AreOfRels parts table c rest m.rels list → Thins list kept
      → sum_by (λ (x : Candidate). rel_weight below x.rel) list ≤ 2 * sum_by (rel_weight rest) m.rels → Suffice parts table c rest below m kept
  suffice-each c rest below m list kept under r t light = record {
    each = λ j x here. (let o = t.from j x here in r.each o.0 x o.1);
    keeps = λ n left h less. record {
      related = λ k rel e n' later word other here shape inside w v q. elim (r.offers k rel e n' later here shape inside) [
        | inl o ↦
            let y = t.covers o.place o.candidate o.here in
            let goal : y.1.rel.goal ≡ rel.goal = y.3.same_goal ∙ o.is.same_goal in
            record {
              number = y.0;
              rel = y.1.rel;
              here = map-get (λ (x : Candidate). x.rel) kept y.0 y.1 y.2;
              other = other;
              is_word = subst (λ sh. IsWord sh other) (sym (ap below goal ∙ under.later rel.goal n' later shape)) v;
              related = fewer (pair_children_of table c e rel.pairs) y.1.rel.pairs word other (λ p listed. child-listed table c e rel.pairs p (o.is.only p (y.3.pairs p listed))) q;
            }
        | inr hopeless ↦
            absurd (hopeless.none left later word other
            (λ p listed. child-shapes c e n n' left later rel.pairs less inside (λ z there. let s = h.pairs k rel z here there in (s.0, subst (λ sh. HasShape table sh z.1) shape s.1)) p (child-of table c e rel.pairs p listed)) w v q)
      ];
    };
    light = omega (arith, light, t.lighter (λ x. rel_weight below x.rel));
  }

  -- both sides of an own relation have one shape below
  own-shape : (c n : ℕ) (left : List ℕ) (rest : ℕ → List ℕ) (m : Macro) (own : Own) → IsOfLevel table (n ∷ left) rest m → c < n → (o : IsOwnOf table c rest m.rels own) → left ≡ o.later
  own-shape c n left rest m own h less o =
      let p = slice_get-some o.rel.pairs 0 o.same.some in
      let listed = of-get o.rel.pairs 0 p.0 p.1 in
      let s = h.pairs own.number o.rel p.0 o.here listed in
      let a = children table n left c p.0.0 s.0 less in
      let b = children table o.choices o.later own.choice p.0.1 (subst (λ l. HasShape table l p.0.1) o.shape s.1) o.choice in
      let same : a.0 ≡ b.0 = (let e : Some a.0 ≡ Some b.0 = sym a.1.here ∙ o.same.same p.0 listed ∙ b.1.here in cc) in
      one_shape table left o.later a.0.0 a.1.left (subst (λ (z : ℕ × ℕ). HasShape table o.later z.0) (sym same) b.1.left)

  -- each pair of an own relation's children has one node twice
  own-twice : (c d : ℕ) (pairs : List (ℕ × ℕ)) (q : ℕ × ℕ) → IsOwn table c d pairs → IsPairChild table c d pairs q → q.0 ≡ q.1
  own-twice c d pairs q o h =
      let same : h.left ≡ h.right = (let e : Some h.left ≡ Some h.right = sym h.left_here ∙ o.same h.parent h.listed ∙ h.right_here in cc) in
      elim h.is [
        | inl e ↦ ap (λ (z : ℕ × ℕ). z.0) e ∙ ap (λ (z : ℕ × ℕ). z.0) same ∙ sym (ap (λ (z : ℕ × ℕ). z.1) e)
        | inr e ↦ ap (λ (z : ℕ × ℕ). z.0) e ∙ ap (λ (z : ℕ × ℕ). z.1) same ∙ sym (ap (λ (z : ℕ × ℕ). z.1) e)
      ]

  -- a relation that leads to the same nodes on both sides relates each word to itself
  pub suffice-own : (c : ℕ) (rest below : ℕ → List ℕ) (m : Macro) (own : Own) (x : Candidate) (list : List Candidate) → IsBelow rest below → (o : IsOwnOf table c rest m.rels own)
      → IsCandidateAt table c o.rel own.number own.choice x → list ≡ x ∷ [] → Suffice parts table c rest below m list
  suffice-own c rest below m own x list under o k is = subst (Suffice parts table c rest below m) (sym is) (record {
    each = only-one;
    keeps = λ n left h less. record {
      related = λ j rel e n' later word other here shape inside w v q. record {
        number = 0;
        rel = x.rel;
        here = refl;
        other = word;
        is_word = subst (λ sh. IsWord sh word) (own-shape c n left rest m own h less o ∙ sym goal) w;
        related = record {
          left = q.left;
          right = q.left;
          left_nonzero = q.left_nonzero;
          right_nonzero = q.left_nonzero;
          same = λ p listed. ap (λ i. scaled q.left (amplitudes parts table word i)) (own-twice c own.choice o.rel.pairs p o.same (k.pairs.from p listed));
        };
      };
    };
    light = light;
  })
    where
      goal : below x.rel.goal ≡ o.later
      goal = ap below k.same_goal ∙ under.later o.rel.goal o.choices o.later o.shape

      first : IsStepOfSome table c rest m.rels x
      first = record {
        rel = o.rel;
        here = ap (slice_get m.rels) k.number_is ∙ o.here;
        choices = o.choices;
        later = o.later;
        shape = o.shape;
        is = at-below table c o.rel own.number own.choice o.choices x o.choice k;
      }

      only-one : (j : ℕ) (y : Candidate) → slice_get (x ∷ []) j ≡ Some y → IsStepOfSome table c rest m.rels y
      only-one zero y e = (let s : x ≡ y = cc in subst (IsStepOfSome table c rest m.rels) s first)
      only-one (suc j) y e = cc

      twice : (a l n w : ℕ) → a ≤ 2 * l → 1 ≤ n → a * w ≤ 2 * (l * (n * w))
      twice a l n w short some =
          let x : a * w ≤ 2 * l * w = mul-le-mul_right w short in
          let y : 1 * w ≤ n * w = mul-le-mul_right w some in
          let z : l * (1 * w) ≤ l * (n * w) = mul-le-mul_left l y in
          omega (arith, x, z)

      light : sum_by (λ (y : Candidate). rel_weight below y.rel) (x ∷ []) ≤ 2 * sum_by (rel_weight rest) m.rels
      light =
          let one : sum_by (λ (y : Candidate). rel_weight below y.rel) (x ∷ []) ≡ rel_weight below x.rel + 0 = sum_by-cons (λ (y : Candidate). rel_weight below y.rel) x [] in
          let mine : rel_weight below x.rel ≡ length x.rel.pairs * words o.later = ap (λ l. length x.rel.pairs * words l) goal in
          let whole : rel_weight rest o.rel ≡ length o.rel.pairs * (o.choices * words o.later) = ap (λ z. length o.rel.pairs * z) (ap words o.shape ∙ words-cons o.choices o.later) in
          let t = twice (length x.rel.pairs) (length o.rel.pairs) o.choices (words o.later) k.pairs.short (omega (arith, o.choice)) in
          omega (arith, one, mine, whole, t, rel-within table rest m.rels own.number o.rel o.here)

  -- relations that suffice are enough
  pub enough-all : (c : ℕ) (rest below : ℕ → List ℕ) (m : Macro) (places : List ℕ) (list : List Candidate) → Suffice parts table c rest below m list → AreEnough parts table c rest below m places list
  enough-all c rest below m places list h = record { each = h.each; keeps = λ n left k less. inr (h.keeps n left k less); light = h.light }

  -- where each place is always zero, no relation is enough
  pub enough-none : (c : ℕ) (rest below : ℕ → List ℕ) (m : Macro) (places : List ℕ) (list : List Candidate) → AreNull parts table places → list ≡ [] → AreEnough parts table c rest below m places list
  enough-none c rest below m places list null e = subst (AreEnough parts table c rest below m places) (sym e) (record {
    each = λ j x here. absurd (no-item j x here);
    keeps = λ n left k less. inl null;
    light = omega arith;
  })

  stepped-plain : (c : ℕ) (rest below : ℕ → List ℕ) (m : Macro) (domain : List ℕ) (kept : List Candidate) → AreChildren table c m.domain domain → AreEnough parts table c rest below m domain kept
      → IsStepped parts table c rest below m (record { to = record { domain = domain; rels = map (λ (x : Candidate). x.rel) kept }; from = map (λ (x : Candidate). (x.number, x.choice)) kept })
  stepped-plain c rest below m domain kept d u = record {
    edge = record {
      domain = d.all;
      one_each = length-map kept (λ (x : Candidate). (x.number, x.choice)) ∙ sym (length-map kept (λ (x : Candidate). x.rel));
      steps = λ k s rel here there.
          let a = get-map (λ (x : Candidate). (x.number, x.choice)) kept k s here in
          let b = get-map (λ (x : Candidate). x.rel) kept k rel there in
          let same : b.0 ≡ a.0 = (let e : Some b.0 ≡ Some a.0 = sym b.1 ∙ a.1 in cc) in
          let q = u.each k a.0 a.1 in
          subst (λ (z : ℕ × ℕ). IsStepOf table c rest m.rels z rel) a.2
          (subst (λ (z : Rel). IsStepOf table c rest m.rels (a.0.number, a.0.choice) z) (ap (λ (x : Candidate). x.rel) (sym same) ∙ b.2)
          (step-of table c rest m.rels a.0 q.rel q.choices q.later q.here q.shape q.is));
    };
    back = record {
      domain = d.from;
      sources = λ j to here.
          let b = get-map (λ (x : Candidate). x.rel) kept j to here in
          let q = u.each j b.0 b.1 in
          record { number = b.0.number; rel = q.rel; choice = b.0.choice; here = q.here; is = subst (IsOnly table c q.rel b.0.choice) b.2 (only-of table c q.rel b.0.number q.choices b.0 q.is) };
    };
    keeps = λ n left h less. elim (u.keeps n left h less) [
      | inl null ↦ inl null
      | inr k ↦ inr (record {
        related = λ j rel e n' later word other here shape inside w v q.
            let z = k.related j rel e n' later word other here shape inside w v q in
            record { number = z.number; rel = z.rel; here = z.here; other = z.other; is_word = z.is_word; related = z.related };
      })
    ];
    light = omega (arith, d.short, u.light, sum-map (λ (x : Candidate). x.rel) (rel_weight below) kept);
  }

  pub stepped : (c : ℕ) (rest below : ℕ → List ℕ) (m : Macro) (domain : List ℕ) (kept : List Candidate) (s : Stepped) → AreChildren table c m.domain domain
      → AreEnough parts table c rest below m domain kept
      → s.to.domain ≡ domain → s.to.rels ≡ map (λ (x : Candidate). x.rel) kept → s.from ≡ map (λ (x : Candidate). (x.number, x.choice)) kept
      → IsStepped parts table c rest below m s
  stepped c rest below m domain kept s d u e f h =
      let same : record { to = record { domain = domain; rels = map (λ (x : Candidate). x.rel) kept }; from = map (λ (x : Candidate). (x.number, x.choice)) kept } ≡ s =
      λ i. record { to = record { domain = sym e i; rels = sym f i }; from = sym h i } in
      subst (IsStepped parts table c rest below m) same (stepped-plain c rest below m domain kept d u)

pub thinned-size : (list kept : List Candidate) (a b : ℕ) → Thins list kept → sum_by (λ (x : Candidate). length x.rel.pairs) list + 2 * a ≤ 2 * b → sum_by (λ (x : Candidate). length x.rel.pairs) kept + 2 * a ≤ 2 * b
thinned-size list kept a b t paid = omega (arith, paid, t.lighter (λ x. length x.rel.pairs))

pub stepped-size : (domain : List ℕ) (kept : List Candidate) (s : Stepped) (n a b : ℕ) → length domain ≤ 2 * n → sum_by (λ (x : Candidate). length x.rel.pairs) kept + 2 * a ≤ 2 * b
    → s.to.domain ≡ domain → s.to.rels ≡ map (λ (x : Candidate). x.rel) kept → (start : ℕ) → a ≡ start + n → size s.to + 2 * start ≤ 2 * b
stepped-size domain kept s n a b short paid e f start is =
    omega (arith, short, paid, sum-map (λ (x : Candidate). x.rel) (λ (r : Rel). length r.pairs) kept, ap (sum_by (λ (r : Rel). length r.pairs)) f, ap (λ (l : List ℕ). length l) e)
