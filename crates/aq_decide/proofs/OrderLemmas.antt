-- The order of words is the order of places: each place before that of a word is the place of an earlier word.
use Rattle.std.proofs.Common.{◌≡◌, ℕ, zero, suc, ◌+◌, ◌-◌, ◌*◌, ◌^◌, ◌/◌, ◌%◌, ◌<◌, ◌≤◌, ◌⊎◌, inl, inr, Bool, true, false, cond, ltb, List, [], ◌∷◌, ◌++◌, Some, length, take, drop, slice_get, replicate, refl, sym, ap, ap₂, ◌∙◌, subst, arith}
use Rattle.std.specs.List.{repeat}
use Rattle.std.proofs.Math.Nat.{mul-le-mul_right, min-eq_left}
use Rattle.std.proofs.Math.Seq.{take-append_seam, drop-append_seam}
use Rattle.std.proofs.lemmas.Bool.{cases_lt, ltb-true, ltb-false}
use Rattle.std.proofs.lemmas.List.{append-nil, take-append-drop}
use Rattle.std.proofs.lemmas.Option.{slice_get_within}
use Rattle.aq_cert.specs.Meaning.{IsBefore}
use Rattle.aq_store.specs.Words.{IsWord}
use Rattle.aq_sets.specs.Sizes.{Size, size_of, larger, united_shape, Placing, place, number_of, shortened, lower, first_number, tensor_place, union_place, power_place}
use Rattle.aq_sets.specs.Valid.{IsValidExpr}
use Rattle.aq_sets.specs.ValidExprs.{AreValidExprs}
use Rattle.aq_sets.specs.declared.sets.Expr.{Expr}
use Rattle.aq_sets.specs.declared.sets.Expr.TheVariants as expr
use Rattle.aq_sets.proofs.ExprLaws.{size_by, size-is, some_times}
use Rattle.aq_sets.proofs.PlaceLaws.{place_by, place-is, word_front, word_back, length-word, ArePositive, has_positive, has_places, shortened-word}
use Rattle.aq_sets.proofs.SizeLaws.{by_position, there, has_shape, has_count, length-repeat, length-larger}
use Rattle.aq_sets.proofs.ToldLaws.{repeat_more}
use Rattle.aq_set_build.proofs.HalfLemmas.{number-more, number-below}
use Rattle.aq_set_build.proofs.ListLemmas.{word_both}
use Rattle.aq_set_build.proofs.CoverLemmas.{covered}

-- ---- words in order
pub before-trans : (u v w : List ℕ) → IsBefore u v → IsBefore v w → IsBefore u w
unfolding IsBefore
before-trans [] v w h g = absurd h
before-trans (a ∷ u) [] w h g = absurd h
before-trans (a ∷ u) (b ∷ v) [] h g = absurd g
before-trans (a ∷ u) (b ∷ v) (c ∷ w) (inl h) (inl g) = inl (omega (arith, h, g))
before-trans (a ∷ u) (b ∷ v) (c ∷ w) (inl h) (inr g) = inl (let e = g.0 in omega (arith, h, e))
before-trans (a ∷ u) (b ∷ v) (c ∷ w) (inr h) (inl g) = inl (let e = h.0 in omega (arith, e, g))
before-trans (a ∷ u) (b ∷ v) (c ∷ w) (inr h) (inr g) = inr (h.0 ∙ g.0, before-trans u v w h.1 g.1)

before_front : (u v : List ℕ) (x y : List ℕ) → IsBefore u v → IsBefore (u ++ x) (v ++ y)
unfolding IsBefore
before_front [] v x y h = absurd h
before_front (a ∷ u) [] x y h = absurd h
before_front (a ∷ u) (b ∷ v) x y (inl h) = inl h
before_front (a ∷ u) (b ∷ v) x y (inr h) = inr (h.0, before_front u v x y h.1)

before_back : (u v w : List ℕ) → IsBefore v w → IsBefore (u ++ v) (u ++ w)
unfolding IsBefore
before_back [] v w h = h
before_back (a ∷ u) v w h = inr (refl, before_back u v w h)

-- a word that is before another's shortening is before the other
before_shortened : (s u w : List ℕ) → IsBefore u (shortened s w) → IsBefore u w
unfolding IsBefore
before_shortened [] u w h = h
before_shortened (n ∷ s) [] w h = absurd h
before_shortened (n ∷ s) (a ∷ u) [] h = absurd h
before_shortened (n ∷ s) (a ∷ u) (c ∷ w) (inl h) = inl (omega (arith, h))
before_shortened (n ∷ s) (a ∷ u) (c ∷ w) (inr h) = by (cases_lt a c) (before_shortened s u w h.1)
  where
    by : (a < c) ⊎ (c ≤ a) → IsBefore u w → (a < c) ⊎ ((a ≡ c) × IsBefore u w)
    by (inl lt) rest = inl lt
    by (inr le) rest = inr (let e = h.0 in omega (arith, e, le), rest)

-- the same behind a choice
before_tail : (s : List ℕ) (c : ℕ) (u w : List ℕ) → IsBefore u (c ∷ shortened s w) → IsBefore u (c ∷ w)
unfolding IsBefore
before_tail s c [] w h = absurd h
before_tail s c (a ∷ u) w (inl h) = inl h
before_tail s c (a ∷ u) w (inr h) = inr (h.0, before_shortened s u w h.1)

-- each place before that of a word is the place of an earlier word
abbrev pub AreOrdered : Placing → List ℕ → Type 0
AreOrdered f s = (word : List ℕ) → IsWord s word → (k : ℕ) → k < f word → (w : List ℕ) × IsWord s w × (f w ≡ k) × IsBefore w word

-- each of so many places has a word
abbrev pub AreReached : ℕ → Placing → List ℕ → Type 0
AreReached n f s = (k : ℕ) → k < n → (word : List ℕ) × IsWord s word × (f word ≡ k)

-- ---- bases
power_two : (m : ℕ) → 2 ^ suc m ≡ 2 ^ m + 2 ^ m
power_two m = simp native.Mathlib.Numerals.unary_clauses (omega arith)

digits_before : (q : ℕ) (u w : List ℕ) → IsWord (replicate q 2) u → IsWord (replicate q 2) w → number_of u < number_of w → IsBefore u w
unfolding IsBefore
digits_before zero [] [] h g lt = absurd (omega arith)
digits_before zero [] (d ∷ w) h g lt = absurd g
digits_before zero (c ∷ u) w h g lt = absurd h
digits_before (suc q) [] w h g lt = absurd h
digits_before (suc q) (c ∷ u) [] h g lt = absurd g
digits_before (suc q) (c ∷ u) (d ∷ w) h g lt = by (cases_lt c d) (cases_lt d c) (digits_before q u w h.1 g.1)
  where
    a : number_of (c ∷ u) ≡ c * 2 ^ q + number_of u
    a = number-more c u ∙ ap (λ n. c * 2 ^ n + number_of u) (number-below q u h.1).1

    b : number_of (d ∷ w) ≡ d * 2 ^ q + number_of w
    b = number-more d w ∙ ap (λ n. d * 2 ^ n + number_of w) (number-below q w g.1).1

    by : (c < d) ⊎ (d ≤ c) → (d < c) ⊎ (c ≤ d) → (number_of u < number_of w → IsBefore u w) → (c < d) ⊎ ((c ≡ d) × IsBefore u w)
    by (inl less) other rest = inl less
    by (inr le) (inl less) rest = absurd (
        let m : suc d ≤ c = omega (arith, less) in
        let p = mul-le-mul_right (2 ^ q) m in
        let s : suc d * 2 ^ q ≡ d * 2 ^ q + 2 ^ q = omega arith in
        let n = (number-below q w g.1).0 in
        omega (arith, a, b, p, s, n, lt))
    by (inr le) (inr ge) rest =
        let e : c ≡ d = omega (arith, le, ge) in
        let p : c * 2 ^ q ≡ d * 2 ^ q = ap (λ n. n * 2 ^ q) e in
        inr (e, rest (omega (arith, a, b, p, lt)))

digits : (q k : ℕ) → k < 2 ^ q → (word : List ℕ) × IsWord (replicate q 2) word × (number_of word ≡ k)
digits zero k lt = ([], tt, (let one : 2 ^ 0 ≡ 1 = refl in omega (arith, one, lt)))
digits (suc q) k lt = by (cases_lt k (2 ^ q)) (digits q k) (digits q (k - 2 ^ q))
  where
    by : (k < 2 ^ q) ⊎ (2 ^ q ≤ k) → (k < 2 ^ q → (word : List ℕ) × IsWord (replicate q 2) word × (number_of word ≡ k))
        → (k - 2 ^ q < 2 ^ q → (word : List ℕ) × IsWord (replicate q 2) word × (number_of word ≡ k - 2 ^ q)) → (word : List ℕ) × IsWord (replicate (suc q) 2) word × (number_of word ≡ k)
    by (inl h) f g =
        let w = f h in
        let m = number-more 0 w.0 in
        let z : 0 * 2 ^ length w.0 ≡ 0 = omega arith in
        (0 ∷ w.0, (omega arith, w.1), (let i = w.2 in omega arith))
    by (inr h) f g =
        let p = power_two q in
        let w = g (omega arith) in
        let m = number-more 1 w.0 in
        let n = (number-below q w.0 w.1).1 in
        let e : 2 ^ length w.0 ≡ 2 ^ q = ap (λ j. 2 ^ j) n in
        (1 ∷ w.0, (omega arith, w.1), (let i = w.2 in omega arith))

-- ---- products
module _ (s t : List ℕ) (m n : ℕ) (f g : Placing) where
  abbrev both : Placing
  both word = f (take (length s) word) * n + g (drop (length s) word)

  parts_of : (v w : List ℕ) → IsWord s v → both (v ++ w) ≡ f v * n + g w
  parts_of v w h =
      let e = length-word s v h in
      let a = ap (λ k. take k (v ++ w)) (sym e) ∙ take-append_seam v w in
      let b = ap (λ k. drop k (v ++ w)) (sym e) ∙ drop-append_seam v w in
      ap₂ (λ x y. f x * n + g y) a b

  pub reached_product : AreReached m f s → AreReached n g t → AreReached (m * n) both (s ++ t)
  reached_product c d k lt = by n refl
    where
      by : (b : ℕ) → n ≡ b → (u : List ℕ) × IsWord (s ++ t) u × (both u ≡ k)
      by zero e = absurd (let z : m * n ≡ 0 = ap (λ x. m * x) e ∙ (let y : m * 0 ≡ 0 = omega arith in y) in omega (arith, z, lt))
      by (suc b) e =
          let all : m * n ≡ m * suc b = ap (λ x. m * x) e in
          let rest : k % suc b < suc b = omega arith in
          let whole : k / suc b * suc b + k % suc b ≡ k = omega arith in
          let row : k / suc b < m = elim (cases_lt (k / suc b) m) [ inl y ↦ y | inr y ↦ absurd (let z = mul-le-mul_right (suc b) y in omega (arith, z, whole, all, lt)) ] in
          let v = c (k / suc b) row in
          let w = d (k % suc b) (omega (arith, rest, e)) in (
            v.0 ++ w.0,
            word_both s t v.0 w.0 v.1 w.1,
            parts_of v.0 w.0 v.1 ∙ ap₂ (λ x y. x * n + y) v.2 w.2 ∙ ap (λ z. k / suc b * z + k % suc b) e ∙ whole,
          )

  pub below_product : ((word : List ℕ) → IsWord s word → f word < m) → ((word : List ℕ) → IsWord t word → g word < n) → (word : List ℕ) → IsWord (s ++ t) word → both word < m * n
  below_product below less word h =
      let x : suc (f (take (length s) word)) ≤ m = below (take (length s) word) (word_front s t word h) in
      let y = less (drop (length s) word) (word_back s t word h) in
      let p = mul-le-mul_right n x in
      let z : suc (f (take (length s) word)) * n ≡ f (take (length s) word) * n + n = omega arith in
      omega (arith, p, y, z)

  pub ordered_product : ((word : List ℕ) → IsWord s word → f word < m) → ((word : List ℕ) → IsWord t word → g word < n)
      → AreReached m f s → AreReached n g t → AreOrdered f s → AreOrdered g t → AreOrdered both (s ++ t)
  ordered_product below less c d o p word h k lt = by n refl
    where
      v : List ℕ
      v = take (length s) word

      w : List ℕ
      w = drop (length s) word

      in_front : IsWord s v
      in_front = word_front s t word h

      behind : IsWord t w
      behind = word_back s t word h

      same : v ++ w ≡ word
      same = take-append-drop (length s) word

      by : (b : ℕ) → n ≡ b → (u : List ℕ) × IsWord (s ++ t) u × (both u ≡ k) × IsBefore u word
      by zero e = absurd (let x = less w behind in omega (arith, x, e))
      by (suc b) e = by_row (cases_lt (k / suc b) (f v))
        where
          row : ℕ
          row = k / suc b

          column : ℕ
          column = k % suc b

          within : column < n
          within = let x : k % suc b < suc b = omega arith in omega (arith, x, e)

          whole : row * n + column ≡ k
          whole = let x : k / suc b * suc b + k % suc b ≡ k = omega arith in ap (λ z. row * z + column) e ∙ x

          -- an earlier row
          up : row < f v → (u : List ℕ) × IsWord (s ++ t) u × (both u ≡ k) × IsBefore u word
          up less' =
              let a = o v in_front row less' in
              let z = d column within in (
                a.0 ++ z.0,
                word_both s t a.0 z.0 a.1 z.1,
                parts_of a.0 z.0 a.1 ∙ ap₂ (λ x y. x * n + y) a.2 z.2 ∙ whole,
                subst (IsBefore (a.0 ++ z.0)) same (before_front a.0 v z.0 w a.3),
              )

          here : f v ≤ row → row ≡ f v
          here le = by_more (cases_lt (f v) row)
            where
              by_more : (f v < row) ⊎ (row ≤ f v) → row ≡ f v
              by_more (inr ge) = omega (arith, le, ge)
              by_more (inl more) = absurd (
                  let x : suc (f v) ≤ row = omega (arith, more) in
                  let p = mul-le-mul_right n x in
                  let s : suc (f v) * n ≡ f v * n + n = omega arith in
                  let y = less w behind in
                  omega (arith, p, s, y, lt, whole))

          by_row : (row < f v) ⊎ (f v ≤ row) → (u : List ℕ) × IsWord (s ++ t) u × (both u ≡ k) × IsBefore u word
          by_row (inl x) = up x
          by_row (inr x) =
              let e = here x in
              let q : row * n ≡ f v * n = ap (λ z. z * n) e in
              let a = p w behind column (omega (arith, q, whole, lt)) in (
                v ++ a.0,
                word_both s t v a.0 in_front a.1,
                parts_of v a.0 in_front ∙ ap₂ (λ x y. x * n + y) (sym e) a.2 ∙ whole,
                subst (IsBefore (v ++ a.0)) same (before_back v a.0 w a.3),
              )

-- ---- unions
wide_left : (xs ys w : List ℕ) → length xs ≡ length ys → IsWord xs w → IsWord (larger xs ys) w
wide_left [] [] w e h = h
wide_left [] (y ∷ ys) w e h = absurd (omega arith)
wide_left (x ∷ xs) [] w e h = h
wide_left (x ∷ xs) (y ∷ ys) [] e h = absurd h
wide_left (x ∷ xs) (y ∷ ys) (c ∷ w) e h = (let lt : c < x = h.0 in omega arith, wide_left xs ys w (omega arith) h.1)

wide_right : (xs ys w : List ℕ) → length xs ≡ length ys → IsWord ys w → IsWord (larger xs ys) w
wide_right [] ys w e h = h
wide_right (x ∷ xs) [] w e h = absurd (omega arith)
wide_right (x ∷ xs) (y ∷ ys) [] e h = absurd h
wide_right (x ∷ xs) (y ∷ ys) (c ∷ w) e h = (let lt : c < y = h.0 in omega arith, wide_right xs ys w (omega arith) h.1)

shortened_word : (s w : List ℕ) → IsWord s w → shortened s w ≡ w
shortened_word [] w h = refl
shortened_word (n ∷ s) [] h = absurd h
shortened_word (n ∷ s) (c ∷ w) h = ap₂ (λ x y. x ∷ y) (let lt : c < n = h.0 in let le : c ≤ n - 1 = omega arith in min-eq_left le) (shortened_word s w h.1)

lt-ltb : (m n : ℕ) → m < n → ltb m n ≡ true
lt-ltb m n h = by (ltb m n) refl
  where
    by : (b : Bool) → ltb m n ≡ b → ltb m n ≡ true
    by true e = e
    by false e = absurd (let f = ltb-false m n e in omega arith)

le-ltb : (m n : ℕ) → n ≤ m → ltb m n ≡ false
le-ltb m n h = by (ltb m n) refl
  where
    by : (b : Bool) → ltb m n ≡ b → ltb m n ≡ false
    by true e = absurd (let f = ltb-true m n e in omega arith)
    by false e = e

-- where a word of a union leads, by its first choice
module _ (x y : ℕ) (xs ys : List ℕ) (l r : Size) (f g : Placing) (el : l.shape ≡ x ∷ xs) (er : r.shape ≡ y ∷ ys) where
  in_left : (c : ℕ) (w : List ℕ) → c < x → union_place l r f g (c ∷ w) ≡ f (c ∷ shortened xs w)
  in_left c w lt =
      ap (λ (s : List ℕ). cond (ltb c (first_number s)) (f (c ∷ shortened (lower s) w)) (l.count + g ((c - first_number s) ∷ shortened (lower r.shape) w))) el
      ∙ ap (λ (b : Bool). cond b (f (c ∷ shortened xs w)) (l.count + g ((c - x) ∷ shortened (lower r.shape) w))) (lt-ltb c x lt)

  in_right : (c : ℕ) (w : List ℕ) → x ≤ c → union_place l r f g (c ∷ w) ≡ l.count + g ((c - x) ∷ shortened ys w)
  in_right c w le =
      ap (λ (s : List ℕ). cond (ltb c (first_number s)) (f (c ∷ shortened (lower s) w)) (l.count + g ((c - first_number s) ∷ shortened (lower r.shape) w))) el
      ∙ ap (λ (b : Bool). cond b (f (c ∷ shortened xs w)) (l.count + g ((c - x) ∷ shortened (lower r.shape) w))) (le-ltb c x le)
      ∙ ap (λ (s : List ℕ). l.count + g ((c - x) ∷ shortened (lower s) w)) er

  module _ (same : length xs ≡ length ys) (positive_left : ArePositive (x ∷ xs)) (positive_right : ArePositive (y ∷ ys)) where
    abbrev Sooner : List ℕ → ℕ → Type 0
    Sooner word k = (u : List ℕ) × IsWord (united_shape (x ∷ xs) (y ∷ ys)) u × (union_place l r f g u ≡ k) × IsBefore u word

    -- a word of the left side
    from_left : (k : ℕ) (word u : List ℕ) → IsWord (x ∷ xs) u → f u ≡ k → IsBefore u word → Sooner word k
    from_left k word [] h e b = absurd h
    from_left k word (a ∷ u) h e b = (
      a ∷ u,
      (let lt : a < x = h.0 in omega arith, wide_left xs ys u same h.1),
      in_left a u h.0 ∙ ap (λ v. f (a ∷ v)) (shortened_word xs u h.1) ∙ e,
      b,
    )

    from_right : (k : ℕ) (word u : List ℕ) → IsWord (y ∷ ys) u → l.count + g u ≡ k → ((a : ℕ) (v : List ℕ) → u ≡ a ∷ v → IsBefore ((x + a) ∷ v) word) → Sooner word k
    from_right k word [] h e b = absurd h
    from_right k word (a ∷ u) h e b = (
      (x + a) ∷ u,
      (let lt : a < y = h.0 in omega arith, wide_right xs ys u same h.1),
      in_right (x + a) u (omega arith) ∙ ap₂ (λ p q. l.count + g (p ∷ q)) (let back : x + a - x ≡ a = omega arith in back) (shortened_word ys u h.1) ∙ e,
      b a u refl,
    )

    low : AreReached l.count f (x ∷ xs) → AreOrdered f (x ∷ xs) → (c : ℕ) (w : List ℕ) → length w ≡ length xs → (k : ℕ) → c < x → k < f (c ∷ shortened xs w) → Sooner (c ∷ w) k
    unfolding IsBefore ArePositive
    low reached o c w long k lt less =
        let a = o (c ∷ shortened xs w) (lt, shortened-word xs w positive_left.1 long) k less in
        from_left k (c ∷ w) a.0 a.1 a.2 (before_tail xs c a.0 w a.3)

    first_before : (c : ℕ) (w u : List ℕ) → x ≤ c → IsWord (x ∷ xs) u → IsBefore u (c ∷ w)
    unfolding IsBefore
    first_before c w [] le h = absurd h
    first_before c w (a ∷ u) le h = inl (let lt : a < x = h.0 in omega (arith, lt, le))

    moved : (c a : ℕ) (w v : List ℕ) → x ≤ c → IsBefore (a ∷ v) ((c - x) ∷ shortened ys w) → IsBefore ((x + a) ∷ v) (c ∷ w)
    unfolding IsBefore
    moved c a w v le (inl h) = inl (omega (arith, le, h))
    moved c a w v le (inr h) = inr (let e = h.0 in omega (arith, le, e), before_shortened ys v w h.1)

    high : AreReached l.count f (x ∷ xs) → AreOrdered g (y ∷ ys) → (c : ℕ) (w : List ℕ) → length w ≡ length ys → (k : ℕ) → x ≤ c → c - x < y → k < l.count + g ((c - x) ∷ shortened ys w)
        → Sooner (c ∷ w) k
    unfolding ArePositive
    high reached o c w long k le lt less = by (cases_lt k l.count)
      where
        by : (k < l.count) ⊎ (l.count ≤ k) → Sooner (c ∷ w) k
        by (inl h) = let a = reached k h in from_left k (c ∷ w) a.0 a.1 a.2 (first_before c w a.0 le a.1)
        by (inr h) =
            let a = o ((c - x) ∷ shortened ys w) (lt, shortened-word ys w positive_right.1 long) (k - l.count) (omega (arith, h, less)) in
            from_right k (c ∷ w) a.0 a.1 (let e = a.2 in omega (arith, h, e)) (λ b v e. moved c b w v le (subst (λ z. IsBefore z ((c - x) ∷ shortened ys w)) e a.3))

    pub ordered_union : AreReached l.count f (x ∷ xs) → AreOrdered f (x ∷ xs) → AreOrdered g (y ∷ ys) → AreOrdered (union_place l r f g) (united_shape (x ∷ xs) (y ∷ ys))
    ordered_union reached o p [] h k lt = absurd h
    ordered_union reached o p (c ∷ w) h k lt = by (cases_lt c x)
      where
        long : length w ≡ length xs
        long = let a = length-word (larger xs ys) w h.1 in let b = length-larger xs ys same in omega (arith, a, b, same)

        by : (c < x) ⊎ (x ≤ c) → Sooner (c ∷ w) k
        by (inl less) = low reached o c w long k less (subst (λ n. k < n) (in_left c w less) lt)
        by (inr le) = high reached p c w (long ∙ same) k le (let a : c < x + y = h.0 in omega (arith, a, le)) (subst (λ n. k < n) (in_right c w le) lt)

-- ---- expressions
module _ (exprs : List Expr) (valid : AreValidExprs exprs) where
  abbrev IsOrdered : ℕ → Type 0
  IsOrdered i = AreOrdered (place exprs i) (size_of exprs i).shape

  pub reached : (i : ℕ) → i < length exprs → AreReached (size_of exprs i).count (place exprs i) (size_of exprs i).shape
  reached i lt k less = covered exprs valid i lt k (let e = has_count exprs valid i lt in omega (arith, e, less))

  ordered_tensor : (l r : ℕ) → l < length exprs → r < length exprs → IsOrdered l → IsOrdered r
      → AreOrdered (tensor_place (size_of exprs l) (size_of exprs r) (place exprs l) (place exprs r)) ((size_of exprs l).shape ++ (size_of exprs r).shape)
  ordered_tensor l r a b o p =
      subst (λ n. AreOrdered (λ word. place exprs l (take n word) * (size_of exprs r).count + place exprs r (drop n word)) ((size_of exprs l).shape ++ (size_of exprs r).shape)) (has_shape exprs valid l a)
      (ordered_product (size_of exprs l).shape (size_of exprs r).shape (size_of exprs l).count (size_of exprs r).count (place exprs l) (place exprs r)
      (has_places exprs valid l a) (has_places exprs valid r b) (reached l a) (reached r b) o p)

  module _ (base : ℕ) (within : base < length exprs) where
    abbrev size : Size
    size = size_of exprs base

    abbrev led : ℕ → Placing
    led n = power_place (suc n) size (place exprs base)

    abbrev shape_at : ℕ → List ℕ
    shape_at n = repeat (suc n) size.shape

    -- what is needed of a power for one more
    record IsGood (n : ℕ) : Type 0 where
      many : ℕ
      below : (word : List ℕ) → IsWord (shape_at n) word → led n word < many
      reaches : AreReached many (led n) (shape_at n)
      ordered : AreOrdered (led n) (shape_at n)

    one : repeat 1 size.shape ≡ size.shape
    one = append-nil size.shape

    more : (n : ℕ) → both (shape_at n) size.shape 0 size.count (led n) (place exprs base) ≡ led (suc n)
    more n =
        let e = length-repeat (suc n) size.shape ∙ ap (λ k. k * suc n) (has_shape exprs valid base within) in
        (λ i word. led n (take (e i) word) * size.count + place exprs base (drop (e i) word))

    good : IsOrdered base → (n : ℕ) → IsGood n
    good o zero = record {
      many = size.count;
      below = subst (λ s. (word : List ℕ) → IsWord s word → place exprs base word < size.count) (sym one) (has_places exprs valid base within);
      reaches = subst (AreReached size.count (place exprs base)) (sym one) (reached base within);
      ordered = subst (AreOrdered (place exprs base)) (sym one) o;
    }
    good o (suc n) =
        let g = good o n in
        let places = has_places exprs valid base within in
        let reach = reached base within in
        record {
          many = g.many * size.count;
          below = subst (λ s. (word : List ℕ) → IsWord s word → led (suc n) word < g.many * size.count) (repeat_more (suc n) size.shape)
              (subst (λ f. (word : List ℕ) → IsWord (shape_at n ++ size.shape) word → f word < g.many * size.count) (more n)
              (below_product (shape_at n) size.shape g.many size.count (led n) (place exprs base) g.below places));
          reaches = subst (AreReached (g.many * size.count) (led (suc n))) (repeat_more (suc n) size.shape)
              (subst (λ f. AreReached (g.many * size.count) f (shape_at n ++ size.shape)) (more n)
              (reached_product (shape_at n) size.shape g.many size.count (led n) (place exprs base) g.reaches reach));
          ordered = subst (AreOrdered (led (suc n))) (repeat_more (suc n) size.shape)
              (subst (λ f. AreOrdered f (shape_at n ++ size.shape)) (more n)
              (ordered_product (shape_at n) size.shape g.many size.count (led n) (place exprs base) g.below places g.reaches reach g.ordered o));
        }

  ordered_of_union : (l r : ℕ) → l < length exprs → r < length exprs → (size_of exprs l).qubits ≡ (size_of exprs r).qubits → IsOrdered l → IsOrdered r → (ls rs : List ℕ) → (size_of exprs l).shape ≡ ls
      → (size_of exprs r).shape ≡ rs → AreOrdered (union_place (size_of exprs l) (size_of exprs r) (place exprs l) (place exprs r)) (united_shape ls rs)
  ordered_of_union l r a b q o p [] rs el er = absurd (let e = ap length el in let s = has_shape exprs valid l a in let some = (valid.qubits l a).0 in omega (arith, e, s, some))
  ordered_of_union l r a b q o p (x ∷ xs) [] el er = absurd (let e = ap length er in let s = has_shape exprs valid r b in let some = (valid.qubits r b).0 in omega (arith, e, s, some))
  ordered_of_union l r a b q o p (x ∷ xs) (y ∷ ys) el er =
      let s = has_shape exprs valid l a in
      let t = has_shape exprs valid r b in
      let m = ap length el in
      let n = ap length er in
      ordered_union x y xs ys (size_of exprs l) (size_of exprs r) (place exprs l) (place exprs r) el er (let k : length xs ≡ length ys = omega (arith, s, t, m, n, q) in k)
      (subst ArePositive el (has_positive exprs valid l a)) (subst ArePositive er (has_positive exprs valid r b))
      (subst (AreReached (size_of exprs l).count (place exprs l)) el (reached l a)) (subst (AreOrdered (place exprs l)) el o) (subst (AreOrdered (place exprs r)) er p)

  ordered_step : (i : ℕ) (e : Expr) → slice_get exprs i ≡ Some e → IsValidExpr exprs i e → ((j : ℕ) → j < i → IsOrdered j)
      → AreOrdered (place_by (size_of exprs) (place exprs) e) (size_by (size_of exprs) e).shape
  unfolding place_by
  ordered_step i (expr.Kets q terms) at v ih = λ word h k lt. absurd (omega (arith, lt))
  ordered_step i (expr.All q) at v ih = λ word h k lt.
      let w = covered_digits q word h k lt in (w.0, w.1, w.2, digits_before q w.0 word w.1 h (let e = w.2 in omega (arith, e, lt)))
    where
      covered_digits : (q : ℕ) (word : List ℕ) → IsWord (replicate q 2) word → (k : ℕ) → k < number_of word → (u : List ℕ) × IsWord (replicate q 2) u × (number_of u ≡ k)
      covered_digits q word h k lt = digits q k (let b = (number-below q word h).0 in omega (arith, b, lt))
  ordered_step i (expr.Tensor l r) at v ih =
      let n = slice_get_within exprs i (expr.Tensor l r) at in
      ordered_tensor l r (let z = v.0 in omega (arith, n, z)) (let z = v.1 in omega (arith, n, z)) (ih l v.0) (ih r v.1)
  ordered_step i (expr.Union l r) at v ih =
      let n = slice_get_within exprs i (expr.Union l r) at in
      ordered_of_union l r (let z = v.0 in omega (arith, n, z)) (let z = v.1 in omega (arith, n, z)) v.2 (ih l v.0) (ih r v.1) (size_of exprs l).shape (size_of exprs r).shape refl refl
  ordered_step i (expr.Power base zero) at v ih = absurd (let some = some_times exprs valid i base zero at in omega (arith, some))
  ordered_step i (expr.Power base (suc n)) at v ih =
      let m = slice_get_within exprs i (expr.Power base (suc n)) at in
      (good base (omega (arith, m, v)) (ih base v) n).ordered

  -- each place before that of a word is the place of an earlier word
  pub ordered : (i : ℕ) → i < length exprs → AreOrdered (place exprs i) (size_of exprs i).shape
  ordered = by_position (λ i. i < length exprs → IsOrdered i) (λ i ih lt.
      let e = there exprs i lt in
      let v = valid.each i e.0 e.1 in
      subst (λ (f : Placing). AreOrdered f (size_of exprs i).shape) (sym (place-is exprs i e.0 e.1 v))
      (subst (λ (z : Size). AreOrdered (place_by (size_of exprs) (place exprs) e.0) z.shape) (sym (size-is exprs i e.0 e.1 v))
      (ordered_step i e.0 e.1 v (λ j h. ih j h (omega (arith, h, lt))))))
