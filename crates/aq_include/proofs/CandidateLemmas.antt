-- Lists of candidates grow, and are thinned.
use Rattle.std.proofs.Common.{◌≡◌, ℕ, zero, suc, ◌+◌, ◌*◌, ◌<◌, ◌≤◌, ◌⊎◌, inl, inr, List, [], ◌∷◌, ◌++◌, length, slice_get, Some, Contains, refl, sym, ap, subst, ◌∙◌, arith, sum_by}
use Rattle.std.specs.List.Sorted.{IsPermutation}
use Rattle.std.proofs.Math.Nat.{mul-le-mul_right}
use Rattle.std.proofs.lemmas.Bool.{cases_lt}
use Rattle.std.proofs.lemmas.List.Sums.{sum_by_push}
use Rattle.std.proofs.lemmas.List.Sorted.{IsPermutation-sym, Contains-permutation, sum_by-IsPermutation}
use Rattle.std.proofs.lemmas.Option.{slice_get-get_or}
use Rattle.aq_ring.specs.Fractions.{Amplitude}
use Rattle.aq_store.specs.declared.node.Node.{Node}
use Rattle.aq_store.specs.Count.{Count}
use Rattle.aq_store.proofs.TableLemmas.{slice_get-push}
use Rattle.aq_cert.specs.declared.cert.Rel.{Rel}
use Rattle.aq_include.specs.declared.step.Candidate.{Candidate}
use Rattle.aq_store.specs.declared.store.Stop.{Stop}
use Rattle.aq_store.specs.declared.store.Stop.TheVariants as stop
use Rattle.aq_include.specs.Costs.{Takes, IsCause}
use Rattle.aq_include.specs.Hopeless.{IsHopeless}
use Rattle.aq_include.specs.Candidates.{IsWithin, Thins, ArePairChildren, IsCandidate, IsCandidateAt, Offers, AreOfRel}
use Rattle.aq_cert.proofs.MemberLemmas.{of-get}

module _ {X : Type 0} where
  pub get-front : (xs ys : List X) (i : ℕ) (x : X) → slice_get xs i ≡ Some x → slice_get (xs ++ ys) i ≡ Some x
  get-front [] ys i x e = cc
  get-front (z ∷ xs) ys zero x e = e
  get-front (z ∷ xs) ys (suc i) x e = get-front xs ys i x e

  pub get-last : (xs : List X) (y : X) → slice_get (xs ++ y ∷ []) (length xs) ≡ Some y
  get-last [] y = refl
  get-last (z ∷ xs) y = get-last xs y

  pub get-of : (xs : List X) (x : X) → Contains xs x → (k : ℕ) × (slice_get xs k ≡ Some x)
  get-of xs x h = (h.0, slice_get-get_or xs h.0 x h.1 ∙ ap Some h.2)

pub within-refl : (r : Rel) → IsWithin r r
within-refl r = record { same_goal = refl; pairs = λ q h. h }

pub thins-all : (xs : List Candidate) → Thins xs xs
thins-all xs = record { from = λ j x e. (j, e); covers = λ i x e. (i, x, e, within-refl x.rel); lighter = λ f. omega arith }

pub thins-permutation : (xs ys : List Candidate) → IsPermutation xs ys → Thins xs ys
thins-permutation xs ys p = record {
  from = λ j x e. get-of xs x (Contains-permutation ys xs x (IsPermutation-sym xs ys p) (of-get ys j x e));
  covers = λ i x e. (let k = get-of ys x (Contains-permutation xs ys x p (of-get xs i x e)) in (k.0, x, k.1, within-refl x.rel));
  lighter = λ f. omega (arith, sum_by-IsPermutation f xs ys p);
}

pub thins-trans : (xs ys zs : List Candidate) → Thins xs ys → Thins ys zs → Thins xs zs
thins-trans xs ys zs a b = record {
  from = λ j x e. (let k = b.from j x e in a.from k.0 x k.1);
  covers = λ i x e.
      let k = a.covers i x e in
      let l = b.covers k.0 k.1 k.2 in
      (l.0, l.1, l.2, record { same_goal = l.3.same_goal ∙ k.3.same_goal; pairs = λ q h. k.3.pairs q (l.3.pairs q h) });
  lighter = λ f. omega (arith, a.lighter f, b.lighter f);
}

-- one candidate more, and it stays
pub thins-push : (xs ys : List Candidate) (x : Candidate) → Thins xs ys → Thins (xs ++ x ∷ []) (ys ++ x ∷ [])
thins-push xs ys x h = record {
  from = λ j y e. elim (slice_get-push ys x j y e) [
    | inl k ↦ (let t = h.from j y k in (t.0, get-front xs (x ∷ []) t.0 y t.1))
    | inr k ↦ (length xs, get-last xs x ∙ ap Some k.1)
  ];
  covers = λ i y e. elim (slice_get-push xs x i y e) [
    | inl k ↦ (let t = h.covers i y k in (t.0, t.1, get-front ys (x ∷ []) t.0 t.1 t.2, t.3))
    | inr k ↦ (length ys, y, get-last ys x ∙ ap Some k.1, within-refl y.rel)
  ];
  lighter = λ f. omega (arith, sum_by_push f xs x, sum_by_push f ys x, h.lighter f);
}

-- one candidate more, and another asks for no more
pub thins-skip : (xs ys : List Candidate) (x : Candidate) → Thins xs ys → (j : ℕ) (y : Candidate) → slice_get ys j ≡ Some y → IsWithin y.rel x.rel → Thins (xs ++ x ∷ []) ys
thins-skip xs ys x h j y here within = record {
  from = λ i z e. (let t = h.from i z e in (t.0, get-front xs (x ∷ []) t.0 z t.1));
  covers = λ i z e. elim (slice_get-push xs x i z e) [
    | inl k ↦ h.covers i z k
    | inr k ↦ (j, y, here, subst (λ (w : Candidate). IsWithin y.rel w.rel) k.1 within)
  ];
  lighter = λ f. omega (arith, sum_by_push f xs x, h.lighter f);
}

light-more : (done a w q : ℕ) (s t : ℕ) → q ≤ 2 * a → s ≤ done * (2 * (a * w)) → t ≡ s + q * w → t ≤ (done + 1) * (2 * (a * w))
light-more done a w q s t less h e = omega (arith, mul-le-mul_right w less)

module _ {L : Type 0} (parts : L → List Amplitude) (table : List (Node L)) where
  pub offers-front : (c : ℕ) (rel : Rel) (d : ℕ) (xs ys : List Candidate) → Offers table c rel d xs ⊎ IsHopeless parts table c rel d → Offers table c rel d (xs ++ ys) ⊎ IsHopeless parts table c rel d
  offers-front c rel d xs ys (inl h) = inl (record { place = h.place; candidate = h.candidate; here = get-front xs ys h.place h.candidate h.here; is = h.is })
  offers-front c rel d xs ys (inr h) = inr h

  pub of-rel-push : (c : ℕ) (rel : Rel) (number count done : ℕ) (list new : List Candidate) (x : Candidate) → done < count → AreOfRel parts table c rel number count done list
      → IsCandidateAt table c rel number done x → new ≡ list ++ x ∷ []
      → AreOfRel parts table c rel number count (done + 1) new
  of-rel-push c rel number count done list new x less h at e =
      subst (AreOfRel parts table c rel number count (done + 1)) (sym e) (record {
        each = λ j y here. elim (slice_get-push list x j y here) [
          | inl k ↦ h.each j y k
          | inr k ↦ subst (IsCandidate table c rel number count) k.1 (record {
            number_is = at.number_is;
            same_goal = at.same_goal;
            choice = omega (arith, at.choice_is);
            pairs = subst (λ d. ArePairChildren table c d rel.pairs x.rel.pairs) (sym at.choice_is) at.pairs;
          })
        ];
        offers = λ d below. elim (cases_lt d done) [
          | inl early ↦ offers-front c rel d list (x ∷ []) (h.offers d early)
          | inr late ↦ (let same : done ≡ d = omega arith in inl (record {
            place = length list;
            candidate = x;
            here = get-last list x;
            is = record { same_goal = at.same_goal; only = (subst (λ i. ArePairChildren table c i rel.pairs x.rel.pairs) same at.pairs).from };
          }))
        ];
        light = λ f. light-more done (length rel.pairs) (f rel.goal) (length x.rel.pairs) _ _ at.pairs.short (h.light f)
            (sum_by_push (λ (y : Candidate). length y.rel.pairs * f y.rel.goal) list x ∙ ap (λ g. sum_by (λ (y : Candidate). length y.rel.pairs * f y.rel.goal) list + length x.rel.pairs * f g) at.same_goal);
      })

  -- a choice under which the relation relates no words is left out
  pub of-rel-skip : (c : ℕ) (rel : Rel) (number count done : ℕ) (list new : List Candidate) → AreOfRel parts table c rel number count done list → IsHopeless parts table c rel done → new ≡ list
      → AreOfRel parts table c rel number count (done + 1) new
  of-rel-skip c rel number count done list new h none e =
      subst (AreOfRel parts table c rel number count (done + 1)) (sym e) (record {
        each = h.each;
        offers = λ d below. elim (cases_lt d done) [
          | inl early ↦ h.offers d early
          | inr late ↦ (let same : done ≡ d = omega arith in inr (subst (IsHopeless parts table c rel) same none))
        ];
        light = λ f. (let more = h.light f in omega (arith, more));
      })

-- ---- steps in a loop

pub takes-none : (n : ℕ) (s : Count) → Takes n s s
takes-none n s = record { later = omega arith; cheap = omega arith; same = refl }

pub takes-at : (d count n : ℕ) (s m t : Count) → d < count → Takes (d * n) s m → Takes n m t → Takes (count * n) s t
takes-at d count n s m t less h k =
    let more : d + 1 ≤ count = omega arith in
    record {
      later = omega (arith, h.later, k.later);
      cheap = omega (arith, h.cheap, k.cheap, mul-le-mul_right n more);
      same = k.same ∙ h.same;
    }

pub cause-at : {L : Type 0} → (d count n : ℕ) (s m : Count) (why : Stop L) → d < count → Takes (d * n) s m → IsCause n m why → IsCause (count * n) s why
cause-at d count n s m stop.Spent less h k =
    let more : d + 1 ≤ count = omega arith in
    omega (arith, h.cheap, h.same, k, mul-le-mul_right n more)
cause-at d count n s m (stop.Wide l r) less h k = tt
cause-at d count n s m (stop.WideParts l r) less h k = tt
cause-at d count n s m stop.Memory less h k = tt

pub takes-on : (d n : ℕ) (s m t : Count) → Takes (d * n) s m → Takes n m t → Takes ((d + 1) * n) s t
takes-on d n s m t h k = record { later = omega (arith, h.later, k.later); cheap = omega (arith, h.cheap, k.cheap); same = k.same ∙ h.same }

-- one candidate more is paid for
pub paid-push : (list new : List Candidate) (x : Candidate) (a m t : ℕ) → new ≡ list ++ x ∷ []
    → sum_by (λ (y : Candidate). length y.rel.pairs) list + 2 * a ≤ 2 * m → length x.rel.pairs + 2 * m ≤ 2 * t
    → sum_by (λ (y : Candidate). length y.rel.pairs) new + 2 * a ≤ 2 * t
paid-push list new x a m t e h k = omega (arith, h, k, ap (sum_by (λ (y : Candidate). length y.rel.pairs)) e ∙ sum_by_push (λ (y : Candidate). length y.rel.pairs) list x)

pub paid-skip : (list new : List Candidate) (a m t : ℕ) → new ≡ list → sum_by (λ (y : Candidate). length y.rel.pairs) list + 2 * a ≤ 2 * m → 0 + 2 * m ≤ 2 * t
    → sum_by (λ (y : Candidate). length y.rel.pairs) new + 2 * a ≤ 2 * t
paid-skip list new a m t e h k = omega (arith, h, k, ap (sum_by (λ (y : Candidate). length y.rel.pairs)) e)
