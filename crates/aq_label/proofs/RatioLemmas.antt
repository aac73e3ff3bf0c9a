-- Lists that grow, and what the answers say of proportional lists.
use Rattle.std.proofs.Common.{◌≡◌, ◌≢◌, ◌⊎◌, inl, inr, ℕ, ◌<◌, ◌≤◌, List, ◌++◌, length, get_or, refl, sym, ap, ◌∙◌, arith, subst, ⊎_elim, length-append}
use Rattle.std.proofs.Math.ListN.{get_or-append}
use Rattle.std.proofs.lemmas.List.{same_lists, length-map, get_or-map}
use Rattle.std.proofs.lemmas.Bool.{cases_lt}
use Rattle.aq_ring.specs.Fractions.{Amplitude}
use Rattle.aq_ring.specs.Amplitudes.{product, amplitude_zero, FitsAmplitudeProduct}
use Rattle.aq_ring.specs.Vectors.{IsZeroVector, Proportional, scaled}
use Rattle.aq_ring.proofs.AmplitudeLaws.{product_comm, product_assoc, product-zero, product_without_zero}
use Rattle.aq_ring.proofs.MoreLaws.{product-zero_right, product-cancel}
use Rattle.aq_label.specs.declared.Ratio.{Ratio}
use Rattle.aq_label.specs.declared.Ratio.TheVariants.{AllZero, Different, Wide, Same}
use Rattle.aq_label.specs.Ratios.{at, IsPivot, Agree, Differ, IsFirstWide, IsWide, AgreeBefore, ComesTo, IsDifferentAt, IsWideBy, IsSameFrom, IsRatio, IsSame, IsDifferent, IsProportionalAndFits}

-- ---- longer lists
pub at-append : (u w : List Amplitude) (k : ℕ) → k < length u → at (u ++ w) k ≡ at u k
at-append u w k h = get_or-append u w amplitude_zero k h

pub along : (R : Amplitude → Amplitude → Amplitude → Amplitude → Type 0) (a b x y c d z w : Amplitude) → a ≡ c → b ≡ d → x ≡ z → y ≡ w → R a b x y → R c d z w
along R a b x y c d z w e f g h r =
    subst (λ t. R t d z w) e (subst (λ t. R a t z w) f (subst (λ t. R a b t w) g (subst (λ t. R a b x t) h r)))

-- a fact about the pivot's pair and another pair, in longer lists
longer : (R : Amplitude → Amplitude → Amplitude → Amplitude → Type 0) (u v w z : List Amplitude) (p k : ℕ) → length v ≡ length u → p < length u → k < length u
    → R (at u p) (at v p) (at u k) (at v k) → R (at (u ++ w) p) (at (v ++ z) p) (at (u ++ w) k) (at (v ++ z) k)
longer R u v w z p k e in_p in_k r =
    along R _ _ _ _ _ _ _ _ (sym (at-append u w p in_p)) (sym (at-append v z p (omega arith))) (sym (at-append u w k in_k)) (sym (at-append v z k (omega arith))) r

pub pivot-longer : (u v w z : List Amplitude) (p : ℕ) → length v ≡ length u → IsPivot u v p → IsPivot (u ++ w) (v ++ z) p
pivot-longer u v w z p e h =
    let inside = h.within in
    record {
      within = omega (arith, length-append u w);
      nonzero = λ a b. h.nonzero (sym (at-append u w p inside) ∙ a) (sym (at-append v z p (omega arith)) ∙ b);
      zeros = λ k lt.
          let zero = h.zeros k lt in (at-append u w k (omega arith) ∙ zero.0, at-append v z k (omega arith) ∙ zero.1);
    }

pub before-longer : (u v w z : List Amplitude) (p i : ℕ) → length v ≡ length u → p < length u → i ≤ length u → AgreeBefore u v p i → AgreeBefore (u ++ w) (v ++ z) p i
before-longer u v w z p i e inside in_i h k from to = longer Agree u v w z p k e inside (omega arith) (h k from to)

comes-longer : (u v w z : List Amplitude) (p i : ℕ) → length v ≡ length u → ComesTo u v p i → ComesTo (u ++ w) (v ++ z) p i
comes-longer u v w z p i e h =
    let inside = h.within in let in_p = h.pivot.within in
    record {
      pivot = pivot-longer u v w z p e h.pivot;
      later = h.later;
      within = omega (arith, length-append u w);
      before = before-longer u v w z p i e in_p (omega arith) h.before;
    }

pub different-longer : (u v w z : List Amplitude) (i : ℕ) → length v ≡ length u → IsDifferentAt u v i → IsDifferentAt (u ++ w) (v ++ z) i
different-longer u v w z i e h = record {
  pivot = h.pivot;
  comes = comes-longer u v w z h.pivot i e h.comes;
  differ = longer Differ u v w z h.pivot i e h.comes.pivot.within h.comes.within h.differ;
}

pub wide-longer : (u v w z : List Amplitude) (l r : Amplitude) → length v ≡ length u → IsWideBy u v l r → IsWideBy (u ++ w) (v ++ z) l r
wide-longer u v w z l r e h = record {
  pivot = h.pivot;
  place = h.place;
  comes = comes-longer u v w z h.pivot h.place e h.comes;
  wide = longer (λ a b x y. IsWide a b x y l r) u v w z h.pivot h.place e h.comes.pivot.within h.comes.within h.wide;
}

-- ---- proportional lists
at-scaled : (s : Amplitude) (u : List Amplitude) (k : ℕ) (d : Amplitude) → k < length u → get_or (scaled s u) k d ≡ product s (at u k)
at-scaled s u k d h = get_or-map (product s) u k amplitude_zero d h

pub proportional-from : (u v : List Amplitude) (p : ℕ) → length v ≡ length u → IsSameFrom u v p → Proportional u v
proportional-from u v p e h =
    let inside = h.pivot.within in
    let own = h.agree p (omega arith) inside in
    record {
      left = at v p;
      right = at u p;
      left_nonzero = λ z. h.pivot.nonzero (own.zero_together.1 z) z;
      right_nonzero = λ z. h.pivot.nonzero z (own.zero_together.0 z);
      same = same_lists _ _ (length-map u (product (at v p)) ∙ sym e ∙ sym (length-map v (product (at u p)))) (λ k d lt. entry k d (lt' k lt) (cases_lt k p));
    }
  where
    lt' : (k : ℕ) → k < length (scaled (at v p) u) → k < length u
    lt' k lt = subst (λ n. k < n) (length-map u (product (at v p))) lt

    meet : (k : ℕ) → k < length u → (k < p) ⊎ (p ≤ k) → product (at v p) (at u k) ≡ product (at u p) (at v k)
    meet k lt (inl before) =
        let zero = h.pivot.zeros k before in
        ap (product (at v p)) zero.0 ∙ product-zero_right _ ∙ sym (product-zero_right _) ∙ ap (product (at u p)) (sym zero.1)
    meet k lt (inr from) = product_comm _ _ ∙ (h.agree k from lt).same

    entry : (k : ℕ) (d : Amplitude) → k < length u → (k < p) ⊎ (p ≤ k) → get_or (scaled (at v p) u) k d ≡ get_or (scaled (at u p) v) k d
    entry k d lt at_p = at-scaled (at v p) u k d lt ∙ meet k lt at_p ∙ sym (at-scaled (at u p) v k d (omega arith))

-- proportional lists at one position
proportional-at : (u v : List Amplitude) (h : Proportional u v) (k : ℕ) → length v ≡ length u → k < length u → product h.left (at u k) ≡ product h.right (at v k)
proportional-at u v h k e lt =
    sym (at-scaled h.left u k amplitude_zero lt) ∙ ap (λ w. get_or w k amplitude_zero) h.same ∙ at-scaled h.right v k amplitude_zero (omega arith)

-- what isn't zero times a number is zero only where the number is
zero_factor : (s x : Amplitude) → s ≢ amplitude_zero → product s x ≡ amplitude_zero → x ≡ amplitude_zero
zero_factor s x n e = ⊎_elim (λ z. absurd (n z)) (λ z. z) (product_without_zero s x e)

apart : (s t a b x y : Amplitude) → s ≢ amplitude_zero → t ≢ amplitude_zero → product s a ≡ product t b → product s x ≡ product t y → Differ a b x y → ⊥
apart s t a b x y n m e f (inl (inl one)) = one.1 (zero_factor t y m (sym f ∙ ap (product s) one.0 ∙ product-zero_right s))
apart s t a b x y n m e f (inl (inr one)) = one.0 (zero_factor s x n (f ∙ ap (product t) one.1 ∙ product-zero_right t))
apart s t a b x y n m e f (inr both) =
    both.different (product-cancel s _ _ n
    (sym (product_assoc s x b) ∙ ap (λ r. product r b) f ∙ product_assoc t y b ∙ ap (product t) (product_comm y b) ∙ sym (product_assoc t b y) ∙ ap (λ r. product r y) (sym e) ∙ product_assoc s a y))

pub different-apart : (u v : List Amplitude) (i : ℕ) → length v ≡ length u → IsDifferentAt u v i → Proportional u v → ⊥
different-apart u v i e h k =
    apart k.left k.right _ _ _ _ k.left_nonzero k.right_nonzero (proportional-at u v k h.pivot e h.comes.pivot.within) (proportional-at u v k i e h.comes.within) h.differ

-- ---- what each answer says
pivot-first : (u v : List Amplitude) (p q : ℕ) → IsPivot u v p → IsPivot u v q → q ≤ p
pivot-first u v p q h k = ⊎_elim (λ (lt : p < q). absurd (h.nonzero (k.zeros p lt).0 (k.zeros p lt).1)) (λ le. le) (cases_lt p q)

pub one_pivot : (u v : List Amplitude) (p q : ℕ) → IsPivot u v p → IsPivot u v q → p ≡ q
one_pivot u v p q h k = let a = pivot-first u v p q h k in let b = pivot-first u v q p k h in omega arith

not_all_zero : (u v : List Amplitude) (p : ℕ) → length v ≡ length u → IsPivot u v p → ¬ (IsZeroVector u × IsZeroVector v)
not_all_zero u v p e h z = let inside = h.within in h.nonzero (z.0 p amplitude_zero inside) (z.1 p amplitude_zero (omega arith))

wide-unfit : (a b x y l r : Amplitude) → IsWide a b x y l r → (x ≢ amplitude_zero → y ≢ amplitude_zero → FitsAmplitudeProduct x b × FitsAmplitudeProduct a y) → ⊥
wide-unfit a b x y l r h fits = let both = fits h.left_nonzero h.right_nonzero in ⊎_elim (λ w. w.0 both.0) (λ w. w.1 both.1) h.operands

pub same-exact : (u v : List Amplitude) (r : Ratio) → length v ≡ length u → IsRatio u v r → IsSame r → IsProportionalAndFits u v
same-exact u v (Same p) e h s = record {
  nonzero = not_all_zero u v p e h.pivot;
  proportional = proportional-from u v p e h;
  fits = λ q i pivot from lt. fits q (one_pivot u v p q h.pivot pivot) i from lt;
}
  where
    fits : (q : ℕ) → p ≡ q → (i : ℕ) → q ≤ i → i < length u → at u i ≢ amplitude_zero → at v i ≢ amplitude_zero → FitsAmplitudeProduct (at u i) (at v q) × FitsAmplitudeProduct (at u q) (at v i)
    fits q is i from lt =
        subst (λ t. at u i ≢ amplitude_zero → at v i ≢ amplitude_zero → FitsAmplitudeProduct (at u i) (at v t) × FitsAmplitudeProduct (at u t) (at v i)) is (h.agree i (omega arith) lt).fits
same-exact u v AllZero e h s = absurd s
same-exact u v (Different i) e h s = absurd s
same-exact u v (Wide l r) e h s = absurd s

pub exact-same : (u v : List Amplitude) (r : Ratio) → length v ≡ length u → IsRatio u v r → IsProportionalAndFits u v → IsSame r
exact-same u v (Same p) e h k = tt
exact-same u v AllZero e h k = k.nonzero h
exact-same u v (Different i) e h k = different-apart u v i e h k.proportional
exact-same u v (Wide l r) e h k =
    wide-unfit _ _ _ _ _ _ h.wide (k.fits h.pivot h.place h.comes.pivot h.comes.later h.comes.within)

pub different-not : (u v : List Amplitude) (r : Ratio) → length v ≡ length u → IsRatio u v r → IsDifferent r → Proportional u v → ⊥
different-not u v (Different i) e h d k = different-apart u v i e h k
different-not u v (Same p) e h d k = d
different-not u v AllZero e h d k = d
different-not u v (Wide l r) e h d k = d

pub zeros-agree : (a b x y : Amplitude) → x ≡ amplitude_zero → y ≡ amplitude_zero → Agree a b x y
zeros-agree a b x y e f = record {
  zero_together = (λ _. f, λ _. e);
  fits = λ n _. absurd (n e);
  same = ap (λ r. product r b) e ∙ product-zero b ∙ sym (product-zero_right a) ∙ ap (product a) (sym f);
}

-- ---- one answer
agree-not-differ : (a b x y : Amplitude) → Agree a b x y → Differ a b x y → ⊥
agree-not-differ a b x y h (inl (inl one)) = one.1 (h.zero_together.0 one.0)
agree-not-differ a b x y h (inl (inr one)) = one.0 (h.zero_together.1 one.1)
agree-not-differ a b x y h (inr both) = both.different h.same

differ-not-wide : (a b x y l r : Amplitude) → Differ a b x y → IsWide a b x y l r → ⊥
differ-not-wide a b x y l r (inl (inl one)) w = w.left_nonzero one.0
differ-not-wide a b x y l r (inl (inr one)) w = w.right_nonzero one.1
differ-not-wide a b x y l r (inr both) w = wide-unfit a b x y l r w (λ _ _. (both.first_fits, both.second_fits))

same_operands : (a b x y l r m s : Amplitude) → IsFirstWide a b x y l r → IsFirstWide a b x y m s → (l ≡ m) × (r ≡ s)
same_operands a b x y l r m s (inl v) (inl w) = (v.1 ∙ sym w.1, v.2 ∙ sym w.2)
same_operands a b x y l r m s (inl v) (inr w) = absurd (v.0 w.0)
same_operands a b x y l r m s (inr v) (inl w) = absurd (w.0 v.0)
same_operands a b x y l r m s (inr v) (inr w) = (v.2 ∙ sym w.2, v.3 ∙ sym w.3)

-- the walk doesn't come past a position that doesn't agree
no_later : (u v : List Amplitude) (p q i j : ℕ) → ComesTo u v p i → ComesTo u v q j → (Agree (at u p) (at v p) (at u i) (at v i) → ⊥) → j ≤ i
no_later u v p q i j h k stop =
    let e = one_pivot u v q p k.pivot h.pivot in
    let later = h.later in
    ⊎_elim
    (λ (lt : i < j). absurd (stop (subst (λ t. Agree (at u t) (at v t) (at u i) (at v i)) e (k.before i (omega arith) lt))))
    (λ le. le)
    (cases_lt i j)

at_one : (R : Amplitude → Amplitude → Amplitude → Amplitude → Type 0) (u v : List Amplitude) (p q i j : ℕ) → p ≡ q → i ≡ j → R (at u p) (at v p) (at u i) (at v i) → R (at u q) (at v q) (at u j) (at v j)
at_one R u v p q i j e f h = along R _ _ _ _ _ _ _ _ (ap (at u) e) (ap (at v) e) (ap (at u) f) (ap (at v) f) h

one_stop : (u v : List Amplitude) (p q i j : ℕ) → ComesTo u v p i → ComesTo u v q j → (Agree (at u p) (at v p) (at u i) (at v i) → ⊥) → (Agree (at u q) (at v q) (at u j) (at v j) → ⊥) → (p ≡ q) × (i ≡ j)
one_stop u v p q i j h k m n =
    let a = no_later u v p q i j h k m in
    let b = no_later u v q p j i k h n in
    (one_pivot u v p q h.pivot k.pivot, omega arith)

no_stop : (u v : List Amplitude) (p q i : ℕ) → IsSameFrom u v p → ComesTo u v q i → (Agree (at u q) (at v q) (at u i) (at v i) → ⊥) → ⊥
no_stop u v p q i h k stop =
    let e = one_pivot u v p q h.pivot k.pivot in
    let later = k.later in
    stop (subst (λ t. Agree (at u t) (at v t) (at u i) (at v i)) e (h.agree i (omega arith) k.within))

differ_stops : (u v : List Amplitude) (i : ℕ) (h : IsDifferentAt u v i) → Agree (at u h.pivot) (at v h.pivot) (at u i) (at v i) → ⊥
differ_stops u v i h a = agree-not-differ _ _ _ _ a h.differ

wide_stops : (u v : List Amplitude) (l r : Amplitude) (h : IsWideBy u v l r) → Agree (at u h.pivot) (at v h.pivot) (at u h.place) (at v h.place) → ⊥
wide_stops u v l r h a = wide-unfit _ _ _ _ _ _ h.wide a.fits

different-wide : (u v : List Amplitude) (i : ℕ) (l r : Amplitude) → IsDifferentAt u v i → IsWideBy u v l r → ⊥
different-wide u v i l r h k =
    let e = one_stop u v h.pivot k.pivot i k.place h.comes k.comes (differ_stops u v i h) (wide_stops u v l r k) in
    differ-not-wide _ _ _ _ l r (at_one Differ u v _ _ _ _ e.0 e.1 h.differ) k.wide

wide-wide : (u v : List Amplitude) (l r m s : Amplitude) → IsWideBy u v l r → IsWideBy u v m s → (l ≡ m) × (r ≡ s)
wide-wide u v l r m s h k =
    let e = one_stop u v h.pivot k.pivot h.place k.place h.comes k.comes (wide_stops u v l r h) (wide_stops u v m s k) in
    same_operands _ _ _ _ l r m s (at_one (λ a b x y. IsWide a b x y l r) u v _ _ _ _ e.0 e.1 h.wide).operands k.wide.operands

-- two lists have one ratio
pub one_ratio : (u v : List Amplitude) (r s : Ratio) → length u ≡ length v → IsRatio u v r → IsRatio u v s → r ≡ s
one_ratio u v AllZero AllZero e h k = refl
one_ratio u v AllZero (Different i) e h k = absurd (not_all_zero u v k.pivot (sym e) k.comes.pivot h)
one_ratio u v AllZero (Wide l r) e h k = absurd (not_all_zero u v k.pivot (sym e) k.comes.pivot h)
one_ratio u v AllZero (Same p) e h k = absurd (not_all_zero u v p (sym e) k.pivot h)
one_ratio u v (Different i) AllZero e h k = absurd (not_all_zero u v h.pivot (sym e) h.comes.pivot k)
one_ratio u v (Different i) (Different j) e h k = ap Different (one_stop u v h.pivot k.pivot i j h.comes k.comes (differ_stops u v i h) (differ_stops u v j k)).1
one_ratio u v (Different i) (Wide l r) e h k = absurd (different-wide u v i l r h k)
one_ratio u v (Different i) (Same p) e h k = absurd (no_stop u v p h.pivot i k h.comes (differ_stops u v i h))
one_ratio u v (Wide l r) AllZero e h k = absurd (not_all_zero u v h.pivot (sym e) h.comes.pivot k)
one_ratio u v (Wide l r) (Different i) e h k = absurd (different-wide u v i l r k h)
one_ratio u v (Wide l r) (Wide m s) e h k = let f = wide-wide u v l r m s h k in (λ i. Wide (f.0 i) (f.1 i))
one_ratio u v (Wide l r) (Same p) e h k = absurd (no_stop u v p h.pivot h.place k h.comes (wide_stops u v l r h))
one_ratio u v (Same p) AllZero e h k = absurd (not_all_zero u v p (sym e) h.pivot k)
one_ratio u v (Same p) (Different i) e h k = absurd (no_stop u v p k.pivot i h k.comes (differ_stops u v i k))
one_ratio u v (Same p) (Wide l r) e h k = absurd (no_stop u v p k.pivot k.place h k.comes (wide_stops u v l r k))
one_ratio u v (Same p) (Same q) e h k = ap Same (one_pivot u v p q h.pivot k.pivot)
