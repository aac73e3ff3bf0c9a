-- Steps of the walk, over plain variables.
use Rattle.std.proofs.Common.{◌≡◌, ◌≢◌, inl, inr, ◌⊎◌, ℕ, ◌+◌, ◌<◌, ◌≤◌, List, [], ◌∷◌, ◌++◌, length, get_or, take, drop, refl, sym, ap, ◌∙◌, arith, subst, length-append, Some, None, Result, Ok, Err, MatchResult, IsErr, IsErrAnd, append_assoc, slice_get}
use Rattle.std.proofs.Math.Seq.{get_or-append_seam, take-length}
use Rattle.std.proofs.lemmas.Bool.{cases_lt}
use Rattle.std.proofs.lemmas.List.{take_more, take-append-drop, append-nil}
use Rattle.std.proofs.lemmas.Grind.{flat_map-append}
use Rattle.std.specs.List.{flat_map}
use Rattle.std.proofs.lemmas.Option.{slice_get_within, get_or_from_slice_get}
use Rattle.aq_ring.specs.Fractions.{Amplitude}
use Rattle.aq_ring.specs.Amplitudes.{amplitude_zero}
use Rattle.aq_label.specs.declared.Ratio.{Ratio}
use Rattle.aq_label.specs.declared.Ratio.TheVariants.{AllZero, Different, Wide, Same}
use Rattle.aq_label.specs.declared.walk.Pivot.{Pivot}
use Rattle.aq_label.specs.declared.walk.Walk.{Walk}
use Rattle.aq_label.specs.Ratios.{lefts, rights, at, IsPivot, Agree, Differ, IsWide, AgreeBefore, ComesTo, IsDifferentAt, IsRatio}
use Rattle.aq_label.specs.Walks.{IsWalked, IsPivotOf, IsStep, IsMismatch, WalksOver, IsMismatchOf}
use Rattle.aq_label.proofs.RatioLemmas.{along, at-append, pivot-longer, before-longer, different-longer, wide-longer}

-- ---- one pair more
at-end : (u : List Amplitude) (x : Amplitude) (n : ℕ) → n ≡ length u → at (u ++ x ∷ []) n ≡ x
at-end u x n e = ap (at (u ++ x ∷ [])) e ∙ get_or-append_seam u x [] amplitude_zero

one-longer : (u : List Amplitude) (x : Amplitude) → length (u ++ x ∷ []) ≡ length u + 1
one-longer u x = omega (arith, length-append u (x ∷ []))

-- the lists end in the pair (x, y), at position n, and all is known of what comes before
record Ready (u v : List Amplitude) (pivot : Pivot) (n : ℕ) (x y : Amplitude) : Type 0 where
  is_pivot : IsPivot u v pivot.place
  left : at u pivot.place ≡ pivot.left
  right : at v pivot.place ≡ pivot.right
  later : pivot.place ≤ n
  length_is : length u ≡ n + 1
  same_length : length v ≡ length u
  before : AgreeBefore u v pivot.place n
  here_left : at u n ≡ x
  here_right : at v n ≡ y

comes_here : (u v : List Amplitude) (pivot : Pivot) (n : ℕ) (x y : Amplitude) → Ready u v pivot n x y → ComesTo u v pivot.place n
comes_here u v pivot n x y r = let l = r.length_is in record { pivot = r.is_pivot; later = r.later; within = omega arith; before = r.before }

-- a fact about the pivot's pair and the last, in the lists
in_lists : (R : Amplitude → Amplitude → Amplitude → Amplitude → Type 0) (u v : List Amplitude) (pivot : Pivot) (n : ℕ) (x y : Amplitude) → Ready u v pivot n x y
    → R pivot.left pivot.right x y → R (at u pivot.place) (at v pivot.place) (at u n) (at v n)
in_lists R u v pivot n x y r h = along R _ _ _ _ _ _ _ _ (sym r.left) (sym r.right) (sym r.here_left) (sym r.here_right) h

all_agree : (u v : List Amplitude) (pivot : Pivot) (n : ℕ) (x y : Amplitude) → Ready u v pivot n x y → Agree pivot.left pivot.right x y → AgreeBefore u v pivot.place (length u)
all_agree u v pivot n x y r h k from to = by (cases_lt k n)
  where
    by : (k < n) ⊎ (n ≤ k) → Agree (at u pivot.place) (at v pivot.place) (at u k) (at v k)
    by (inl lt) = r.before k from lt
    by (inr ge) =
        let l = r.length_is in
        let e : n ≡ k = omega arith in
        subst (λ t. Agree (at u pivot.place) (at v pivot.place) (at u t) (at v t)) e (in_lists Agree u v pivot n x y r h)

stepped : (u v : List Amplitude) (pivot : Pivot) (n : ℕ) (x y : Amplitude) (result : Result Walk Ratio) → Ready u v pivot n x y
    → MatchResult result (IsStep n pivot x y) (IsMismatchOf n pivot x y) → WalksOver u v result
stepped u v pivot n x y (Ok walk) r s = record {
  place = s.place ∙ sym r.length_is;
  same_length = r.same_length;
  known = subst (IsPivotOf u v) (sym s.keeps) (r.is_pivot, r.left, r.right, all_agree u v pivot n x y r s.agree);
}
stepped u v pivot n x y (Err AllZero) r s = s
stepped u v pivot n x y (Err (Same p)) r s = s
stepped u v pivot n x y (Err (Different i)) r s =
    subst (IsDifferentAt u v) (sym s.0) (record { pivot = pivot.place; comes = comes_here u v pivot n x y r; differ = in_lists Differ u v pivot n x y r s.1 })
stepped u v pivot n x y (Err (Wide l m)) r s =
    record { pivot = pivot.place; place = n; comes = comes_here u v pivot n x y r; wide = in_lists (λ a b c d. IsWide a b c d l m) u v pivot n x y r s }

ready_first : (u v : List Amplitude) (pivot : Pivot) (walk : Walk) (x y : Amplitude) → IsWalked u v walk → walk.pivot ≡ None → (x ≡ amplitude_zero → y ≢ amplitude_zero)
    → pivot.place ≡ walk.position → pivot.left ≡ x → pivot.right ≡ y → Ready (u ++ x ∷ []) (v ++ y ∷ []) pivot walk.position x y
ready_first u v pivot walk x y h none nonzero place left right =
    let n = h.place in let m = h.same_length in
    let here : pivot.place ≡ length u = omega arith in
    let there : pivot.place ≡ length v = omega arith in
    let known : IsPivotOf u v None = subst (IsPivotOf u v) none h.known in
    let longer = one-longer u x in let longer' = one-longer v y in
    record {
      is_pivot = record {
        within = omega arith;
        nonzero = λ a b. nonzero (sym (at-end u x _ here) ∙ a) (sym (at-end v y _ there) ∙ b);
        zeros = λ k lt.
            let zero = known k (omega arith) in (at-append u (x ∷ []) k (omega arith) ∙ zero.0, at-append v (y ∷ []) k (omega arith) ∙ zero.1);
      };
      left = at-end u x _ here ∙ sym left;
      right = at-end v y _ there ∙ sym right;
      later = omega arith;
      length_is = omega arith;
      same_length = omega arith;
      before = λ k from to. absurd (omega arith);
      here_left = at-end u x _ n;
      here_right = at-end v y _ (omega arith);
    }

ready_later : (u v : List Amplitude) (pivot : Pivot) (walk : Walk) (x y : Amplitude) → IsWalked u v walk → walk.pivot ≡ Some pivot → Ready (u ++ x ∷ []) (v ++ y ∷ []) pivot walk.position x y
ready_later u v pivot walk x y h some =
    let n = h.place in let m = h.same_length in
    let known : IsPivotOf u v (Some pivot) = subst (IsPivotOf u v) some h.known in
    let inside = known.0.within in
    let longer = one-longer u x in let longer' = one-longer v y in
    let before : AgreeBefore u v pivot.place walk.position = (λ k from to. known.3 k from (omega arith)) in
    record {
      is_pivot = pivot-longer u v _ _ pivot.place m known.0;
      left = at-append u (x ∷ []) pivot.place inside ∙ known.1;
      right = at-append v (y ∷ []) pivot.place (omega arith) ∙ known.2;
      later = omega arith;
      length_is = omega arith;
      same_length = omega arith;
      before = before-longer u v _ _ pivot.place walk.position m inside (omega arith) before;
      here_left = at-end u x _ n;
      here_right = at-end v y _ (omega arith);
    }

pub step_first : (u v : List Amplitude) (pivot : Pivot) (walk : Walk) (x y : Amplitude) (result : Result Walk Ratio) → IsWalked u v walk → walk.pivot ≡ None → (x ≡ amplitude_zero → y ≢ amplitude_zero)
    → pivot.place ≡ walk.position → pivot.left ≡ x → pivot.right ≡ y → MatchResult result (IsStep walk.position pivot x y) (IsMismatchOf walk.position pivot x y)
    → WalksOver (u ++ x ∷ []) (v ++ y ∷ []) result
step_first u v pivot walk x y result h none nonzero place left right s =
    stepped _ _ pivot walk.position x y result (ready_first u v pivot walk x y h none nonzero place left right) s

pub step_later : (u v : List Amplitude) (pivot : Pivot) (walk : Walk) (x y : Amplitude) (result : Result Walk Ratio) → IsWalked u v walk → walk.pivot ≡ Some pivot
    → MatchResult result (IsStep walk.position pivot x y) (IsMismatchOf walk.position pivot x y)
    → WalksOver (u ++ x ∷ []) (v ++ y ∷ []) result
step_later u v pivot walk x y result h some s = stepped _ _ pivot walk.position x y result (ready_later u v pivot walk x y h some) s

-- ---- the parts of one pair, and of all
pub mismatch-longer : (u v w z : List Amplitude) (r : Ratio) → length v ≡ length u → IsMismatch u v r → IsMismatch (u ++ w) (v ++ z) r
mismatch-longer u v w z AllZero e h = h
mismatch-longer u v w z (Different i) e h = different-longer u v w z i e h
mismatch-longer u v w z (Wide l r) e h = wide-longer u v w z l r e h
mismatch-longer u v w z (Same p) e h = h

pub grows : (u xs : List Amplitude) (i : ℕ) (x : Amplitude) → slice_get xs i ≡ Some x → (u ++ take i xs) ++ x ∷ [] ≡ u ++ take (i + 1) xs
grows u xs i x e =
    append_assoc u (take i xs) (x ∷ [])
    ∙ ap (λ w. u ++ w) (ap (λ t. take i xs ++ t ∷ []) (sym (get_or_from_slice_get xs i x x e)) ∙ sym (take_more xs i x (slice_get_within xs i x e)))

pub step_in_parts : (u v xs ys : List Amplitude) (i : ℕ) (x y : Amplitude) (walk : Walk) → slice_get xs i ≡ Some x → slice_get ys i ≡ Some y
    → IsWalked ((u ++ take i xs) ++ x ∷ []) ((v ++ take i ys) ++ y ∷ []) walk → IsWalked (u ++ take (i + 1) xs) (v ++ take (i + 1) ys) walk
step_in_parts u v xs ys i x y walk e f h = subst (λ w. IsWalked w (v ++ take (i + 1) ys) walk) (grows u xs i x e) (subst (λ w. IsWalked ((u ++ take i xs) ++ x ∷ []) w walk) (grows v ys i y f) h)

whole : (u xs : List Amplitude) (i : ℕ) → (u ++ take i xs) ++ drop i xs ≡ u ++ xs
whole u xs i = append_assoc u (take i xs) (drop i xs) ∙ ap (λ w. u ++ w) (take-append-drop i xs)

-- a mismatch in the part at i is one of all
pub mismatch_in_parts : (u v xs ys : List Amplitude) (i : ℕ) (x y : Amplitude) (r : Ratio) → length (v ++ take i ys) ≡ length (u ++ take i xs) → slice_get xs i ≡ Some x → slice_get ys i ≡ Some y
    → IsMismatch ((u ++ take i xs) ++ x ∷ []) ((v ++ take i ys) ++ y ∷ []) r → IsMismatch (u ++ xs) (v ++ ys) r
mismatch_in_parts u v xs ys i x y r l e f h =
    let a = one-longer (u ++ take i xs) x in let b = one-longer (v ++ take i ys) y in
    let all = mismatch-longer _ _ (drop (i + 1) xs) (drop (i + 1) ys) r (omega arith) h in
    subst (λ w. IsMismatch w (v ++ ys) r) (ap (λ w. w ++ drop (i + 1) xs) (grows u xs i x e) ∙ whole u xs (i + 1))
    (subst (λ w. IsMismatch (((u ++ take i xs) ++ x ∷ []) ++ drop (i + 1) xs) w r) (ap (λ w. w ++ drop (i + 1) ys) (grows v ys i y f) ∙ whole v ys (i + 1)) all)

all_taken : (u xs : List Amplitude) (i : ℕ) → i ≡ length xs → u ++ take i xs ≡ u ++ xs
all_taken u xs i e = ap (λ k. u ++ take k xs) e ∙ ap (λ w. u ++ w) (take-length xs)

pub walked_all_parts : (u v xs ys : List Amplitude) (i : ℕ) (walk : Walk) → i ≡ length xs → i ≡ length ys → IsWalked (u ++ take i xs) (v ++ take i ys) walk → IsWalked (u ++ xs) (v ++ ys) walk
walked_all_parts u v xs ys i walk e f h = subst (λ w. IsWalked w (v ++ ys) walk) (all_taken u xs i e) (subst (λ w. IsWalked (u ++ take i xs) w walk) (all_taken v ys i f) h)

-- an error that was passed on
pub passed_on : (u v : List Amplitude) (result : Result Walk Ratio) (answer : Ratio) → IsErr result × IsErrAnd result (λ found. found ≡ answer) → IsMismatch u v answer → WalksOver u v result
passed_on u v (Err found) answer e h = subst (IsMismatch u v) (sym e.1) h
passed_on u v (Ok walk) answer e h = absurd e.1

-- the parts of one pair more
pub flat_more : {X : Type 0} (f : X → List Amplitude) (xs : List X) (i : ℕ) (x : X) → i < length xs → get_or xs i x ≡ x → flat_map f (take i xs) ++ f x ≡ flat_map f (take (i + 1) xs)
flat_more f xs i x lt e =
    ap (λ w. flat_map f (take i xs) ++ w) (sym (append-nil (f x))) ∙ sym (flat_map-append f (take i xs) (x ∷ []))
    ∙ ap (flat_map f) (ap (λ t. take i xs ++ t ∷ []) (sym e) ∙ sym (take_more xs i x lt))

pub flat_whole : {X : Type 0} (f : X → List Amplitude) (xs : List X) (i : ℕ) → flat_map f (take i xs) ++ flat_map f (drop i xs) ≡ flat_map f xs
flat_whole f xs i = sym (flat_map-append f (take i xs) (drop i xs)) ∙ ap (flat_map f) (take-append-drop i xs)

-- values of equally many parts give lists of one length
pub same_lengths : {L : Type 0} (parts : L → List Amplitude) (n : ℕ) → ((x : L) → length (parts x) ≡ n) → (pairs : List (L × L)) → length (rights parts pairs) ≡ length (lefts parts pairs)
same_lengths parts n all [] = refl
same_lengths parts n all (p ∷ pairs) =
    let a = all p.0 in let b = all p.1 in
    let more = same_lengths parts n all pairs in
    let l = length-append (parts p.0) (lefts parts pairs) in
    let r = length-append (parts p.1) (rights parts pairs) in omega arith

pub walked_more : {L : Type 0} (parts : L → List Amplitude) (pairs : List (L × L)) (i : ℕ) (p : L × L) (walk : Walk) → i < length pairs → get_or pairs i p ≡ p
    → IsWalked (lefts parts (take i pairs) ++ parts p.0) (rights parts (take i pairs) ++ parts p.1) walk → IsWalked (lefts parts (take (i + 1) pairs)) (rights parts (take (i + 1) pairs)) walk
walked_more parts pairs i p walk lt e h =
    subst (λ w. IsWalked w (rights parts (take (i + 1) pairs)) walk) (flat_more (λ q. parts q.0) pairs i p lt e)
    (subst (λ w. IsWalked (lefts parts (take i pairs) ++ parts p.0) w walk) (flat_more (λ q. parts q.1) pairs i p lt e) h)

-- a mismatch in the pair at i is one of all
pub mismatch_in_all : {L : Type 0} (parts : L → List Amplitude) (n : ℕ) → ((x : L) → length (parts x) ≡ n) → (pairs : List (L × L)) (i : ℕ) (p : L × L) (r : Ratio) → i < length pairs → get_or pairs i p ≡ p
    → IsMismatch (lefts parts (take i pairs) ++ parts p.0) (rights parts (take i pairs) ++ parts p.1) r → IsMismatch (lefts parts pairs) (rights parts pairs) r
mismatch_in_all parts n all pairs i p r lt e h =
    let l = flat_more (λ q. parts q.0) pairs i p lt e in
    let m = flat_more (λ q. parts q.1) pairs i p lt e in
    let here : IsMismatch (lefts parts (take (i + 1) pairs)) (rights parts (take (i + 1) pairs)) r =
    subst (λ w. IsMismatch w (rights parts (take (i + 1) pairs)) r) l (subst (λ w. IsMismatch (lefts parts (take i pairs) ++ parts p.0) w r) m h) in
    let whole_list = mismatch-longer _ _ (lefts parts (drop (i + 1) pairs)) (rights parts (drop (i + 1) pairs)) r (same_lengths parts n all (take (i + 1) pairs)) here in
    subst (λ w. IsMismatch w (rights parts pairs) r) (flat_whole (λ q. parts q.0) pairs (i + 1))
    (subst (λ w. IsMismatch (lefts parts (take (i + 1) pairs) ++ lefts parts (drop (i + 1) pairs)) w r) (flat_whole (λ q. parts q.1) pairs (i + 1)) whole_list)

-- what ends the walk is the answer
pub mismatch-ratio : (u v : List Amplitude) (r : Ratio) → IsMismatch u v r → IsRatio u v r
mismatch-ratio u v AllZero h = absurd h
mismatch-ratio u v (Different i) h = h
mismatch-ratio u v (Wide l r) h = h
mismatch-ratio u v (Same p) h = absurd h
