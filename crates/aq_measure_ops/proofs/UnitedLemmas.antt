-- Shapes of unions.
use Rattle.std.proofs.Common.{◌≡◌, ℕ, inl, inr, zero, suc, ◌+◌, ◌-◌, ◌*◌, ◌<◌, ◌≤◌, ◌⊎◌, List, [], ◌∷◌, ◌++◌, map, length, take, drop, get_or, min}
use Rattle.std.proofs.Common.{max, slice_get, sum_by, Option, None, Some, refl, sym, ap, ap₂, subst, ◌∙◌, arith}
use Rattle.std.specs.List.{AllZip, fold}
use Rattle.std.proofs.Math.Nat.{le-max_left, min-eq_left}
use Rattle.std.proofs.lemmas.List.{map-append, take_more}
use Rattle.std.proofs.lemmas.List.Sums.{sum_by-append, sum_by-cons, sum_by-take-le, fold-append}
use Rattle.std.proofs.lemmas.Option.{get_or_from_slice_get, slice_get_within}
use Rattle.aq_store.specs.declared.lsta.Lsta.{Lsta}
use Rattle.aq_store.specs.Words.{IsWord, IsWider, shortened, first_number, lower, larger, united_shape, united_shapes}
use Rattle.aq_measure_ops.specs.Joining.{shape_of, first_choices, choices_before, HaveLevels}
use Rattle.aq_measure_ops.proofs.PaddingLemmas.{wider_refl, wider-length, wider-at}

-- no numbers yet, or so many
abbrev pub IsLike : List ℕ → ℕ → Type 0
IsLike shape n = (shape ≡ []) ⊎ (length shape ≡ n)

pub wider_trans : (a b c : List ℕ) → IsWider a b → IsWider b c → IsWider a c
wider_trans [] [] [] v w = tt
wider_trans [] [] (z ∷ c) v w = absurd w
wider_trans [] (y ∷ b) c v w = absurd v
wider_trans (x ∷ a) [] c v w = absurd v
wider_trans (x ∷ a) (y ∷ b) [] v w = absurd w
wider_trans (x ∷ a) (y ∷ b) (z ∷ c) v w = (let p : x ≤ y = v.0 in let q : y ≤ z = w.0 in omega arith, wider_trans a b c v.1 w.1)

larger_left : (a b : List ℕ) → length a ≡ length b → IsWider a (larger a b)
larger_left [] [] e = tt
larger_left [] (y ∷ b) e = absurd (omega arith)
larger_left (x ∷ a) [] e = absurd (omega arith)
larger_left (x ∷ a) (y ∷ b) e = (le-max_left x y, larger_left a b (omega arith))

larger_right : (a b : List ℕ) → length a ≡ length b → IsWider b (larger a b)
larger_right [] [] e = tt
larger_right [] (y ∷ b) e = absurd (omega arith)
larger_right (x ∷ a) [] e = absurd (omega arith)
larger_right (x ∷ a) (y ∷ b) e = (omega arith, larger_right a b (omega arith))

pub wider_left : (a s : List ℕ) → length a ≡ length s → IsWider a (united_shape a s)
wider_left [] [] e = tt
wider_left [] (y ∷ s) e = absurd (omega arith)
wider_left (x ∷ a) [] e = absurd (omega arith)
wider_left (x ∷ a) (y ∷ s) e = (omega arith, larger_left a s (omega arith))

wider_both : (a s : List ℕ) → length a ≡ length s → IsWider s (united_shape a s)
wider_both [] [] e = tt
wider_both [] (y ∷ s) e = absurd (omega arith)
wider_both (x ∷ a) [] e = absurd (omega arith)
wider_both (x ∷ a) (y ∷ s) e = (omega arith, larger_right a s (omega arith))

pub wider_right : (a s : List ℕ) (n : ℕ) → IsLike a n → length s ≡ n → IsWider s (united_shape a s)
wider_right a s n (inl e) long = subst (λ u. IsWider s (united_shape u s)) (sym e) (wider_refl s)
wider_right a s n (inr e) long = wider_both a s (e ∙ sym long)

pub united_long : (a s : List ℕ) (n : ℕ) → IsLike a n → length s ≡ n → length (united_shape a s) ≡ n
united_long a s n like long = sym (wider-length s (united_shape a s) (wider_right a s n like long)) ∙ long

first_both : (a s : List ℕ) → length a ≡ length s → first_number (united_shape a s) ≡ first_number a + first_number s
first_both [] [] e = omega arith
first_both [] (y ∷ s) e = absurd (omega arith)
first_both (x ∷ a) [] e = absurd (omega arith)
first_both (x ∷ a) (y ∷ s) e = refl

pub first_united : (a s : List ℕ) (n : ℕ) → IsLike a n → length s ≡ n → first_number (united_shape a s) ≡ first_number a + first_number s
first_united a s n (inl e) long = ap (λ u. first_number (united_shape u s)) e ∙ (let z : first_number s ≡ 0 + first_number s = omega arith in z)
    ∙ ap (λ u. first_number u + first_number s) (sym e)
first_united a s n (inr e) long = first_both a s (e ∙ sym long)

-- the first choice is of the part, and what is below is shortened
pub shortened_first : (shape : List ℕ) (c : ℕ) (word : List ℕ) → c < first_number shape → shortened shape (c ∷ word) ≡ c ∷ shortened (lower shape) word
shortened_first [] c word lt = absurd (omega arith)
shortened_first (n ∷ shape) c word lt = ap (λ k. k ∷ shortened shape word) (min-eq_left {n = c} {m = n - 1} (omega arith))

-- ---- many
tail_levels : (n : ℕ) (part : Lsta) (parts : List Lsta) → HaveLevels n (part ∷ parts) → HaveLevels n parts
tail_levels n part parts h = record { each = λ k p at. h.each (suc k) p at }

pub many_first : (n : ℕ) (parts : List Lsta) (a : List ℕ) → IsLike a n → HaveLevels n parts → first_number (fold united_shape a (map shape_of parts)) ≡ first_number a + sum_by first_choices parts
many_first n [] a like h = (let z : first_number a ≡ first_number a + 0 = omega arith in z)
many_first n (part ∷ parts) a like h =
    let long = h.each 0 part refl in
    let first = first_united a part.shape.items n like long in
    let rest = many_first n parts (united_shape a part.shape.items) (inr (united_long a part.shape.items n like long)) (tail_levels n part parts h) in
    let split = sum_by-cons first_choices part parts in
    omega arith

pub many_long : (n : ℕ) (parts : List Lsta) (a : List ℕ) → length a ≡ n → HaveLevels n parts → length (fold united_shape a (map shape_of parts)) ≡ n
many_long n [] a like h = like
many_long n (part ∷ parts) a like h = many_long n parts (united_shape a part.shape.items) (united_long a part.shape.items n (inr like) (h.each 0 part refl)) (tail_levels n part parts h)

pub many_like : (n : ℕ) (parts : List Lsta) → HaveLevels n parts → IsLike (united_shapes (map shape_of parts)) n
many_like n [] h = inl refl
many_like n (part ∷ parts) h = inr (many_long n parts part.shape.items (h.each 0 part refl) (tail_levels n part parts h))

many_wider : (n : ℕ) (parts : List Lsta) (a : List ℕ) → length a ≡ n → HaveLevels n parts → IsWider a (fold united_shape a (map shape_of parts))
many_wider n [] a like h = wider_refl a
many_wider n (part ∷ parts) a like h =
    let long = h.each 0 part refl in
    wider_trans a (united_shape a part.shape.items) (fold united_shape (united_shape a part.shape.items) (map shape_of parts)) (wider_left a part.shape.items (like ∙ sym long))
    (many_wider n parts (united_shape a part.shape.items) (united_long a part.shape.items n (inr like) long) (tail_levels n part parts h))

each_wider : (n : ℕ) (parts : List Lsta) (a : List ℕ) (k : ℕ) (p : Lsta) → IsLike a n → HaveLevels n parts → slice_get parts k ≡ Some p
    → IsWider p.shape.items (fold united_shape a (map shape_of parts))
each_wider n [] a k p like h at = cc
each_wider n (part ∷ parts) a zero p like h at =
    let long = h.each 0 part refl in
    let is : part ≡ p = cc in
    subst (λ (q : Lsta). IsWider q.shape.items (fold united_shape (united_shape a part.shape.items) (map shape_of parts))) is
    (wider_trans part.shape.items (united_shape a part.shape.items) (fold united_shape (united_shape a part.shape.items) (map shape_of parts)) (wider_right a part.shape.items n like long)
    (many_wider n parts (united_shape a part.shape.items) (united_long a part.shape.items n like long) (tail_levels n part parts h)))
each_wider n (part ∷ parts) a (suc k) p like h at =
    each_wider n parts (united_shape a part.shape.items) k p (inr (united_long a part.shape.items n like (h.each 0 part refl))) (tail_levels n part parts h) at

-- a part has no more choices than the union
pub part_wider : (n : ℕ) (parts : List Lsta) (k : ℕ) (p : Lsta) → HaveLevels n parts → slice_get parts k ≡ Some p → IsWider p.shape.items (united_shapes (map shape_of parts))
part_wider n parts k p h at = each_wider n parts [] k p (inl refl) h at

pub parts_first : (n : ℕ) (parts : List Lsta) → HaveLevels n parts → first_number (united_shapes (map shape_of parts)) ≡ sum_by first_choices parts
parts_first n parts h = many_first n parts [] (inl refl) h ∙ (let z : 0 + sum_by first_choices parts ≡ sum_by first_choices parts = omega arith in z)

-- some parts from the front
pub front_levels : (n : ℕ) (parts : List Lsta) (k : ℕ) → HaveLevels n parts → HaveLevels n (take k parts)
front_levels n parts k h = record { each = λ i p at. h.each i p (in_front parts k i p at) }
  where
    in_front : (parts : List Lsta) (k i : ℕ) (p : Lsta) → slice_get (take k parts) i ≡ Some p → slice_get parts i ≡ Some p
    in_front parts zero i p at = cc
    in_front [] (suc k) i p at = cc
    in_front (x ∷ parts) (suc k) zero p at = at
    in_front (x ∷ parts) (suc k) (suc i) p at = in_front parts k i p at

-- one more from the front
pub front_more : (parts : List Lsta) (k : ℕ) (part : Lsta) → slice_get parts k ≡ Some part → take (k + 1) parts ≡ take k parts ++ part ∷ []
front_more parts k part at = take_more parts k part (slice_get_within parts k part at) ∙ ap (λ p. take k parts ++ p ∷ []) (get_or_from_slice_get parts k part part at)

pub front_sum : (parts : List Lsta) (k : ℕ) (part : Lsta) → slice_get parts k ≡ Some part → sum_by first_choices (take k parts) + first_choices part ≤ sum_by first_choices parts
front_sum parts k part at =
    let more = ap (sum_by first_choices) (front_more parts k part at) in
    let split = sum_by-append first_choices (take k parts) (part ∷ []) in
    let one = sum_by-cons first_choices part [] in
    let most = sum_by-take-le first_choices parts (k + 1) in
    omega arith

pub shapes_more : (parts : List Lsta) (k : ℕ) (part : Lsta) → slice_get parts k ≡ Some part → united_shapes (map shape_of (take (k + 1) parts)) ≡ united_shape (united_shapes
    (map shape_of (take k parts))) part.shape.items
shapes_more parts k part at = ap (λ l. united_shapes (map shape_of l)) (front_more parts k part at) ∙ ap united_shapes (map-append shape_of (take k parts) (part ∷ []))
    ∙ fold-append united_shape [] (map shape_of (take k parts)) (part.shape.items ∷ [])

-- ---- the loop that makes a shape
larger_push : (a b : List ℕ) (i : ℕ) → length a ≡ length b → i < length a → larger (take (i + 1) a) (take (i + 1) b) ≡ larger (take i a) (take i b) ++ max (get_or a i 0) (get_or b i 0) ∷ []
larger_push [] b i e lt = absurd (omega arith)
larger_push (x ∷ a) [] i e lt = absurd (omega arith)
larger_push (x ∷ a) (y ∷ b) zero e lt = refl
larger_push (x ∷ a) (y ∷ b) (suc i) e lt =
    let next : suc i + 1 ≡ suc (i + 1) = omega arith in
    ap (λ k. larger (take k (x ∷ a)) (take k (y ∷ b))) next ∙ ap (λ l. max x y ∷ l) (larger_push a b i (omega arith) (omega arith))

pub united_push : (a b : List ℕ) (i : ℕ) → length a ≡ length b → 1 ≤ i → i < length a → united_shape (take (i + 1) a) (take (i + 1) b) ≡ united_shape (take i a) (take i b) ++ max
    (get_or a i 0) (get_or b i 0) ∷ []
united_push [] b i e some lt = absurd (omega arith)
united_push (x ∷ a) [] i e some lt = absurd (omega arith)
united_push (x ∷ a) (y ∷ b) zero e some lt = absurd (omega arith)
united_push (x ∷ a) (y ∷ b) (suc i) e some lt =
    let next : suc i + 1 ≡ suc (i + 1) = omega arith in
    ap (λ k. united_shape (take k (x ∷ a)) (take k (y ∷ b))) next ∙ ap (λ l. (x + y) ∷ l) (larger_push a b i (omega arith) (omega arith))

pub united_one : (a b : List ℕ) → length a ≡ length b → 0 < length a → united_shape (take 1 a) (take 1 b) ≡ (get_or a 0 0 + get_or b 0 0) ∷ []
united_one [] b e some = absurd (omega arith)
united_one (x ∷ a) [] e some = absurd (omega arith)
united_one (x ∷ a) (y ∷ b) e some = refl

pub first_at : (a : List ℕ) → first_number a ≡ get_or a 0 0
first_at [] = refl
first_at (x ∷ a) = refl

-- what stands before a part has as many levels
pub same_levels : (before shape more : List ℕ) (n : ℕ) → before ≡ shape → IsLike shape n → length more ≡ n → 0 < length before → length before ≡ length more
same_levels before shape more n is (inl e) long some = absurd (let z = ap length (is ∙ e) in omega arith)
same_levels before shape more n is (inr e) long some = ap length is ∙ e ∙ sym long

-- the choices so far and a part's are no more than all
pub front_first : (n : ℕ) (parts : List Lsta) (k : ℕ) (part : Lsta) (before more : List ℕ) → HaveLevels n parts → slice_get parts k ≡ Some part
    → before ≡ united_shapes (map shape_of (take k parts)) → more ≡ part.shape.items
    → first_number before + first_number more ≤ first_number (united_shapes (map shape_of parts))
front_first n parts k part before more h at is same =
    let a = ap first_number is ∙ parts_first n (take k parts) (front_levels n parts k h) in
    let b = ap first_number same in
    let d = parts_first n parts h in
    let e = front_sum parts k part at in
    omega arith

pub take_all : {X : Type 0} (xs : List X) (k : ℕ) → length xs ≤ k → take k xs ≡ xs
take_all [] zero le = refl
take_all [] (suc k) le = refl
take_all (x ∷ xs) zero le = absurd (omega arith)
take_all (x ∷ xs) (suc k) le = ap (λ l. x ∷ l) (take_all xs k (omega arith))
