-- Each vector of an expression has a word that leads to it.
use Rattle.std.proofs.Common.{◌≡◌, ℕ, zero, suc, ◌+◌, ◌-◌, ◌*◌, ◌^◌, ◌<◌, ◌≤◌, ◌⊎◌, inl, inr, Bool, true, false, cond, ltb, List, [], ◌∷◌, ◌++◌, length, slice_get, Some, replicate, refl, sym, ap, ap₂, subst, ◌∙◌, arith}
use native.Mathlib.Numerals.{unary_clauses}
use Rattle.std.proofs.lemmas.Bool.{cases_lt, ltb-true, ltb-false}
use Rattle.std.proofs.lemmas.List.{length-append}
use Rattle.std.proofs.lemmas.List.FromFn.{length-map-range_with_len}
use Rattle.std.proofs.lemmas.Option.{slice_get_within}
use Rattle.std.proofs.Math.Nat.{min-eq_left}
use Rattle.aq_store.specs.Words.{IsWord}
use Rattle.aq_sets.specs.Vectors.{Vector, Listed, basis_vector, lists, vectors_of}
use Rattle.aq_sets.specs.Sizes.{Size, size_of, larger, united_shape, Placing, place, number_of, shortened, lower, first_number, union_place}
use Rattle.aq_sets.specs.Valid.{IsValidExpr, IsValidSets}
use Rattle.aq_sets.specs.declared.sets.Sets.{Sets}
use Rattle.aq_sets.specs.ValidExprs.{AreValidExprs}
use Rattle.aq_sets.specs.declared.sets.Expr.{Expr}
use Rattle.aq_sets.specs.declared.sets.Expr.TheVariants as expr
use Rattle.aq_sets.proofs.ExprLaws.{listed_by, size_by, lists-is, size-is, some_times}
use Rattle.aq_sets.proofs.PlaceLaws.{place_by, place-is}
use Rattle.aq_sets.proofs.SizeLaws.{by_position, there, has_shape, has_count}
use Rattle.aq_set_build.proofs.HalfLemmas.{number-more, number-below}
use Rattle.aq_set_build.proofs.ListLemmas.{Covers, covers_tensor}
use Rattle.aq_set_build.proofs.ExprLemmas.{Covered, same_lead, covers_power}

-- ---- words of unions
pub shortened_word : (s w : List ℕ) → IsWord s w → shortened s w ≡ w
shortened_word [] w h = refl
shortened_word (n ∷ s) [] h = absurd h
shortened_word (n ∷ s) (c ∷ w) h = ap₂ (λ x y. x ∷ y) (let lt : c < n = h.0 in let le : c ≤ n - 1 = omega arith in min-eq_left le) (shortened_word s w h.1)

wide_left : (xs ys w : List ℕ) → length xs ≡ length ys → IsWord xs w → IsWord (larger xs ys) w
wide_left [] [] w e h = h
wide_left [] (y ∷ ys) w e h = absurd (omega arith)
wide_left (x ∷ xs) [] w e h = h
wide_left (x ∷ xs) (y ∷ ys) [] e h = absurd h
wide_left (x ∷ xs) (y ∷ ys) (c ∷ w) e h = (let lt : c < x = h.0 in omega arith, wide_left xs ys w (omega arith) h.1)

wide_right : (xs ys w : List ℕ) → length xs ≡ length ys → IsWord ys w → IsWord (larger xs ys) w
wide_right [] ys w e h = h
wide_right (x ∷ xs) [] w e h = absurd (omega arith)
wide_right (x ∷ xs) (y ∷ ys) [] e h = absurd h
wide_right (x ∷ xs) (y ∷ ys) (c ∷ w) e h = (let lt : c < y = h.0 in omega arith, wide_right xs ys w (omega arith) h.1)

pub chosen : (b : Bool) (x y : ℕ) → b ≡ true → cond b x y ≡ x
chosen b x y e = ap (λ t. cond t x y) e

pub other : (b : Bool) (x y : ℕ) → b ≡ false → cond b x y ≡ y
other b x y e = ap (λ t. cond t x y) e

pub lt-ltb : (m n : ℕ) → m < n → ltb m n ≡ true
lt-ltb m n h = by (ltb m n) refl
  where
    by : (b : Bool) → ltb m n ≡ b → ltb m n ≡ true
    by true e = e
    by false e = absurd (let f = ltb-false m n e in omega arith)

pub le-ltb : (m n : ℕ) → n ≤ m → ltb m n ≡ false
le-ltb m n h = by (ltb m n) refl
  where
    by : (b : Bool) → ltb m n ≡ b → ltb m n ≡ false
    by true e = absurd (let f = ltb-true m n e in omega arith)
    by false e = e

covers_union : (us vs : List Vector) (l r : Size) (f g : Placing) (ls rs : List ℕ) → l.shape ≡ ls → r.shape ≡ rs → 0 < length ls → length ls ≡ length rs → length us ≡ l.count
    → Covers us f ls → Covers vs g rs → Covers (us ++ vs) (union_place l r f g) (united_shape ls rs)
covers_union us vs l r f g [] rs el er some e n c d k lt = absurd (omega arith)
covers_union us vs l r f g (x ∷ xs) [] el er some e n c d k lt = absurd (omega arith)
covers_union us vs l r f g (x ∷ xs) (y ∷ ys) el er some e n c d k lt = by (cases_lt k (length us))
  where
    same : length xs ≡ length ys
    same = omega arith

    low : (word : List ℕ) → IsWord (x ∷ xs) word → f word ≡ k → (word : List ℕ) × IsWord (united_shape (x ∷ xs) (y ∷ ys)) word × (union_place l r f g word ≡ k)
    low [] h i = absurd h
    low (a ∷ w) h i = (
      a ∷ w,
      (let lt : a < x = h.0 in omega arith, wide_left xs ys w same h.1),
      subst (λ (s : List ℕ). cond (ltb a (first_number s)) (f (a ∷ shortened (lower s) w)) (l.count + g ((a - first_number s) ∷ shortened (lower r.shape) w)) ≡ k) (sym el)
          (chosen (ltb a x) (f (a ∷ shortened xs w)) _ (lt-ltb a x h.0) ∙ ap (λ u. f (a ∷ u)) (shortened_word xs w h.1) ∙ i),
    )

    high : (word : List ℕ) → IsWord (y ∷ ys) word → g word ≡ k - length us → length us ≤ k → (word : List ℕ) × IsWord (united_shape (x ∷ xs) (y ∷ ys)) word × (union_place l r f g word ≡ k)
    high [] h i le = absurd h
    high (a ∷ w) h i le =
        let back : x + a - x ≡ a = omega arith in (
          (x + a) ∷ w,
          (let lt : a < y = h.0 in omega arith, wide_right xs ys w same h.1),
          subst (λ (s : List ℕ). cond (ltb (x + a) (first_number s)) (f ((x + a) ∷ shortened (lower s) w)) (l.count + g ((x + a - first_number s) ∷ shortened (lower r.shape) w)) ≡ k) (sym el)
              (other (ltb (x + a) x) (f ((x + a) ∷ shortened xs w)) _ (le-ltb (x + a) x (omega arith))
              ∙ ap₂ (λ p q. l.count + g (p ∷ q)) back (ap (λ s. shortened (lower s) w) er ∙ shortened_word ys w h.1)
              ∙ (let z = i in let m = n in omega arith)),
        )

    by : (k < length us) ⊎ (length us ≤ k) → (word : List ℕ) × IsWord (united_shape (x ∷ xs) (y ∷ ys)) word × (union_place l r f g word ≡ k)
    by (inl h) = let w = c k h in low w.0 w.1 w.2
    by (inr h) = let w = d (k - length us) (let m = length-append us vs in omega arith) in high w.0 w.1 w.2 h

-- ---- brackets and bases
ones_word : (q : ℕ) → IsWord (replicate q 1) (replicate q 0)
ones_word zero = tt
ones_word (suc q) = (omega arith, ones_word q)

power_two : (m : ℕ) → 2 ^ suc m ≡ 2 ^ m + 2 ^ m
power_two m = simp unary_clauses (omega arith)

digits : (q k : ℕ) → k < 2 ^ q → (word : List ℕ) × IsWord (replicate q 2) word × (number_of word ≡ k)
digits zero k lt = ([], tt, (let one : 2 ^ 0 ≡ 1 = refl in omega arith))
digits (suc q) k lt = by (cases_lt k (2 ^ q)) (digits q k) (digits q (k - 2 ^ q))
  where
    by : (k < 2 ^ q) ⊎ (2 ^ q ≤ k) → (k < 2 ^ q → (word : List ℕ) × IsWord (replicate q 2) word × (number_of word ≡ k))
        → (k - 2 ^ q < 2 ^ q → (word : List ℕ) × IsWord (replicate q 2) word × (number_of word ≡ k - 2 ^ q)) → (word : List ℕ) × IsWord (replicate (suc q) 2) word × (number_of word ≡ k)
    by (inl h) f g =
        let w = f h in
        let m = number-more 0 w.0 in
        let z : 0 * 2 ^ length w.0 ≡ 0 = omega arith in
        (0 ∷ w.0, (omega arith, w.1), (let i = w.2 in omega arith))
    by (inr h) f g =
        let p = power_two q in
        let w = g (omega arith) in
        let m = number-more 1 w.0 in
        let n = (number-below q w.0 w.1).1 in
        let e : 2 ^ length w.0 ≡ 2 ^ q = ap (λ j. 2 ^ j) n in
        (1 ∷ w.0, (omega arith, w.1), (let i = w.2 in omega arith))

module _ (exprs : List Expr) (valid : AreValidExprs exprs) where
  cover_step : (i : ℕ) (e : Expr) → slice_get exprs i ≡ Some e → IsValidExpr exprs i e → ((j : ℕ) → j < i → Covered exprs valid j)
      → Covers (listed_by (lists exprs) e).vectors (place_by (size_of exprs) (place exprs) e) (size_by (size_of exprs) e).shape
  unfolding place_by
  cover_step i (expr.Kets q terms) at v ih = λ k lt. (replicate q 0, ones_word q, omega arith)
  cover_step i (expr.All q) at v ih = λ k lt. digits q k (let n = length-map-range_with_len (basis_vector q) 0 (2 ^ q) in omega arith)
  cover_step i (expr.Tensor l r) at v ih = λ k lt.
      let n = slice_get_within exprs i (expr.Tensor l r) at in
      let a : l < length exprs = (let z = v.0 in omega arith) in
      let b : r < length exprs = (let z = v.1 in omega arith) in
      let h = covers_tensor (vectors_of exprs l) (vectors_of exprs r) (place exprs l) (place exprs r) (size_of exprs l).shape (size_of exprs r).shape (ih l v.0) (ih r v.1) k lt in
      (h.0, h.1, sym (same_lead exprs valid l r a b h.0) ∙ h.2)
  cover_step i (expr.Union l r) at v ih =
      let n = slice_get_within exprs i (expr.Union l r) at in
      let a : l < length exprs = (let z = v.0 in omega arith) in
      let b : r < length exprs = (let z = v.1 in omega arith) in
      let x = has_shape exprs valid l a in
      let y = has_shape exprs valid r b in
      covers_union (vectors_of exprs l) (vectors_of exprs r) (size_of exprs l) (size_of exprs r) (place exprs l) (place exprs r) (size_of exprs l).shape (size_of exprs r).shape refl refl
      (let z = (valid.qubits l a).0 in omega arith) (x ∙ v.2 ∙ sym y) (has_count exprs valid l a) (ih l v.0) (ih r v.1)
  cover_step i (expr.Power base zero) at v ih = absurd (let some = some_times exprs valid i base zero at in omega arith)
  cover_step i (expr.Power base (suc n)) at v ih =
      let m = slice_get_within exprs i (expr.Power base (suc n)) at in
      covers_power exprs valid base (omega arith) n (ih base v)

  pub covered : (i : ℕ) → i < length exprs → Covered exprs valid i
  covered = by_position (λ i. i < length exprs → Covered exprs valid i) (λ i ih lt.
      let e = there exprs i lt in
      let v = valid.each i e.0 e.1 in
      subst (λ (z : Listed). Covers z.vectors (place exprs i) (size_of exprs i).shape) (sym (lists-is exprs i e.0 e.1 v))
      (subst (λ (z : Placing). Covers (listed_by (lists exprs) e.0).vectors z (size_of exprs i).shape) (sym (place-is exprs i e.0 e.1 v))
      (subst (λ (z : Size). Covers (listed_by (lists exprs) e.0).vectors (place_by (size_of exprs) (place exprs) e.0) z.shape) (sym (size-is exprs i e.0 e.1 v))
      (cover_step i e.0 e.1 v (λ j h. ih j h (omega arith))))))

pub valid_exprs : (s : Sets) → IsValidSets s → AreValidExprs s.exprs
valid_exprs s v = record { each = v.exprs; qubits = v.qubits; short = v.short }

pub tensor_within : (exprs : List Expr) → AreValidExprs exprs → (i l r : ℕ) → slice_get exprs i ≡ Some (expr.Tensor l r) → (l < length exprs) × (r < length exprs)
tensor_within exprs valid i l r at =
    let n = slice_get_within exprs i (expr.Tensor l r) at in
    let v = valid.each i (expr.Tensor l r) at in
    ((let z = v.0 in omega arith), (let z = v.1 in omega arith))

pub power_within : (exprs : List Expr) → AreValidExprs exprs → (i base times : ℕ) → slice_get exprs i ≡ Some (expr.Power base times) → base < length exprs
power_within exprs valid i base times at =
    let n = slice_get_within exprs i (expr.Power base times) at in
    let v = valid.each i (expr.Power base times) at in
    omega arith
