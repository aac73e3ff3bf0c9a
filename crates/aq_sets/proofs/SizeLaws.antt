-- What the sizes of expressions say of the vectors that they list.
use Rattle.std.proofs.Common.{◌≡◌, ℕ, zero, suc, ◌+◌, ◌*◌, ◌^◌, ◌<◌, ◌≤◌, max, List, [], ◌∷◌, ◌++◌, Some, length, get_or, refl, sym, ap, ◌∙◌, subst, arith}
use Rattle.std.specs.Prelude.{slice_get, replicate, map}
use Rattle.std.specs.List.{All, flat_map, fold, repeat, range_with_len}
use Rattle.std.proofs.Math.Nat.{mul-le-mul, mul-le-mul_left, pow-suc, pow-le-pow_left, mul_comm, mul_assoc, one-mul, mul-one, pow-zero}
use Rattle.std.proofs.lemmas.Nat.{pow-add}
use Rattle.std.proofs.lemmas.List.{length-append, length-map, length-replicate}
use Rattle.std.proofs.lemmas.List.Elements.{All-nil, All-cons, All-append, All-map, All-head, All-tail}
use Rattle.std.proofs.lemmas.List.FromFn.{length-map-range_with_len}
use Rattle.std.proofs.lemmas.List.Sums.{fold-append}
use Rattle.aq_ring.specs.Fractions.{Amplitude}
use Rattle.aq_ring.specs.Amplitudes.{product}
use Rattle.aq_sets.specs.Vectors.{Vector, Listed, power, entries, kets_vector, basis_vector, tensor, tensors, lists}
use Rattle.aq_sets.specs.Sizes.{Size, larger, united_shape, size_of, words}
use Rattle.aq_sets.specs.Valid.{IsValidExpr}
use Rattle.aq_sets.specs.declared.sets.Term.{Term}
use Rattle.aq_sets.specs.declared.sets.Expr.{Expr}
use Rattle.aq_sets.specs.declared.sets.Expr.TheVariants as expr
use Rattle.aq_sets.specs.ValidExprs.{AreValidExprs}
use Rattle.aq_sets.proofs.ExprLaws.{listed_by, size_by, lists-is, size-is}

-- ---- induction on the position

pub by_position : (P : ℕ → Type 0) → ((i : ℕ) → ((j : ℕ) → j < i → P j) → P i) → (i : ℕ) → P i
by_position P step i = step i (below i)
  where
    below : (n j : ℕ) → j < n → P j
    below zero j h = absurd (omega arith)
    below (suc n) j h = step j (λ k lt. below n k (omega arith))

pub there : {A : Type 0} (xs : List A) (i : ℕ) → i < length xs → (x : A) × (slice_get xs i ≡ Some x)
there [] i h = absurd (omega arith)
there (x ∷ xs) zero h = (x, refl)
there (x ∷ xs) (suc i) h = there xs i (omega arith)

-- what every expression has that has it where the expressions that it names have it
pub by_expr : (R : Listed → Size → Type 0) (exprs : List Expr) → AreValidExprs exprs
    → ((i : ℕ) (e : Expr) → IsValidExpr exprs i e → 0 < (size_by (size_of exprs) e).qubits → ((j : ℕ) → j < i → R (lists exprs j) (size_of exprs j))
    → R (listed_by (lists exprs) e) (size_by (size_of exprs) e))
    → (i : ℕ) → i < length exprs → R (lists exprs i) (size_of exprs i)
by_expr R exprs valid step = by_position (λ i. i < length exprs → R (lists exprs i) (size_of exprs i)) (λ i ih lt.
    let e = there exprs i lt in
    let v = valid.each i e.0 e.1 in
    let s = size-is exprs i e.0 e.1 v in
    let some = (valid.qubits i lt).0 in
    let positive : 0 < (size_by (size_of exprs) e.0).qubits = subst (λ (z : Size). 0 < z.qubits) s some in
    let here : R (listed_by (lists exprs) e.0) (size_by (size_of exprs) e.0) = step i e.0 v positive (λ j h. ih j h (omega arith)) in
    subst (λ (z : Size). R (lists exprs i) z) (sym s) (subst (λ (z : Listed). R z (size_by (size_of exprs) e.0)) (sym (lists-is exprs i e.0 e.1 v)) here))

-- ---- shapes

pub length-larger : (xs ys : List ℕ) → length xs ≡ length ys → length (larger xs ys) ≡ length xs
length-larger [] [] e = refl
length-larger [] (y ∷ ys) e = absurd (omega arith)
length-larger (x ∷ xs) [] e = refl
length-larger (x ∷ xs) (y ∷ ys) e = ap suc (length-larger xs ys (omega arith))

pub length-united_shape : (xs ys : List ℕ) → length xs ≡ length ys → length (united_shape xs ys) ≡ length xs
length-united_shape [] [] e = refl
length-united_shape [] (y ∷ ys) e = absurd (omega arith)
length-united_shape (x ∷ xs) [] e = refl
length-united_shape (x ∷ xs) (y ∷ ys) e = ap suc (length-larger xs ys (omega arith))

pub length-repeat : {A : Type 0} (k : ℕ) (xs : List A) → length (repeat k xs) ≡ length xs * k
length-repeat zero xs = omega arith
length-repeat (suc k) xs = omega (arith, length-append xs (repeat k xs), length-repeat k xs)

abbrev pub HasShape : Listed → Size → Type 0
HasShape l s = length s.shape ≡ s.qubits

shape-step : (exprs : List Expr) (i : ℕ) (e : Expr) → IsValidExpr exprs i e → ((j : ℕ) → j < i → HasShape (lists exprs j) (size_of exprs j))
    → HasShape (listed_by (lists exprs) e) (size_by (size_of exprs) e)
shape-step exprs i (expr.Kets qubits terms) v ih = length-replicate qubits 1
shape-step exprs i (expr.All qubits) v ih = length-replicate qubits 2
shape-step exprs i (expr.Tensor left right) v ih =
    length-append (size_of exprs left).shape (size_of exprs right).shape ∙ (λ k. ih left v.0 k + ih right v.1 k)
shape-step exprs i (expr.Union left right) v ih =
    length-united_shape (size_of exprs left).shape (size_of exprs right).shape (ih left v.0 ∙ v.2 ∙ sym (ih right v.1)) ∙ ih left v.0
shape-step exprs i (expr.Power base times) v ih = length-repeat times (size_of exprs base).shape ∙ ap (λ n. n * times) (ih base v)

-- an expression has one number of choices for each qubit
pub has_shape : (exprs : List Expr) → AreValidExprs exprs → (i : ℕ) → i < length exprs → length (size_of exprs i).shape ≡ (size_of exprs i).qubits
has_shape exprs valid = by_expr HasShape exprs valid (λ i e v some ih. shape-step exprs i e v ih)

-- ---- how many vectors

length-cross : {A B C : Type 0} (f : A → B → C) (us : List A) (vs : List B) → length (flat_map (λ u. map (f u) vs) us) ≡ length us * length vs
length-cross f [] vs = omega arith
length-cross f (u ∷ us) vs =
    length-append (map (f u) vs) (flat_map (λ w. map (f w) vs) us)
    ∙ (λ k. length-map vs (f u) k + length-cross f us vs k) ∙ omega arith

pub length-tensor : (u v : Vector) → length (tensor u v) ≡ length u * length v
unfolding tensor
length-tensor u v = length-cross product u v

pub length-tensors : (us vs : List Vector) → length (tensors us vs) ≡ length us * length vs
length-tensors us vs = length-cross tensor us vs

pub length-power : (k : ℕ) (base : Listed) → length (power (suc k) base).vectors ≡ length base.vectors ^ suc k
length-power zero base = sym (pow-suc (length base.vectors) 0 ∙ ap (λ n. n * length base.vectors) (pow-zero (length base.vectors)) ∙ one-mul (length base.vectors))
length-power (suc k) base =
    length-tensors (power (suc k) base).vectors base.vectors ∙ ap (λ n. n * length base.vectors) (length-power k base)
    ∙ sym (pow-suc (length base.vectors) (suc k))

abbrev pub HasCount : Listed → Size → Type 0
HasCount l s = length l.vectors ≡ s.count

count-step : (exprs : List Expr) (i : ℕ) (e : Expr) → IsValidExpr exprs i e → 0 < (size_by (size_of exprs) e).qubits
    → ((j : ℕ) → j < i → HasCount (lists exprs j) (size_of exprs j)) → HasCount (listed_by (lists exprs) e) (size_by (size_of exprs) e)
count-step exprs i (expr.Kets qubits terms) v some ih = refl
count-step exprs i (expr.All qubits) v some ih = length-map-range_with_len (basis_vector qubits) 0 (2 ^ qubits)
count-step exprs i (expr.Tensor left right) v some ih =
    length-tensors (lists exprs left).vectors (lists exprs right).vectors ∙ (λ k. ih left v.0 k * ih right v.1 k)
count-step exprs i (expr.Union left right) v some ih =
    length-append (lists exprs left).vectors (lists exprs right).vectors ∙ (λ k. ih left v.0 k + ih right v.1 k)
count-step exprs i (expr.Power base zero) v some ih = absurd (omega arith)
count-step exprs i (expr.Power base (suc k)) v some ih = length-power k (lists exprs base) ∙ ap (λ n. n ^ suc k) (ih base v)

-- an expression lists as many vectors as its size says
pub has_count : (exprs : List Expr) → AreValidExprs exprs → (i : ℕ) → i < length exprs → length (lists exprs i).vectors ≡ (size_of exprs i).count
has_count exprs valid = by_expr HasCount exprs valid (count-step exprs)

-- ---- how long a vector is

All-cross : {A B C : Type 0} (P : A → Type 0) (Q : B → Type 0) (R : C → Type 0) (f : A → B → C) → ((u : A) (v : B) → P u → Q v → R (f u v))
    → (us : List A) (vs : List B) → All P us → All Q vs → All R (flat_map (λ u. map (f u) vs) us)
All-cross P Q R f g [] vs p q = All-nil R
All-cross P Q R f g (u ∷ us) vs p q =
    All-append R (map (f u) vs) (flat_map (λ w. map (f w) vs) us)
    (All-map R (f u) vs (λ k d lt. g u (get_or vs k d) (All-head P u us p) (q k d lt)))
    (All-cross P Q R f g us vs (All-tail P u us p) q)

abbrev pub IsLong : ℕ → Vector → Type 0
IsLong n v = length v ≡ 2 ^ n

pub long-tensors : (m n : ℕ) (us vs : List Vector) → All (IsLong m) us → All (IsLong n) vs → All (IsLong (m + n)) (tensors us vs)
long-tensors m n us vs p q = All-cross (IsLong m) (IsLong n) (IsLong (m + n)) tensor
    (λ u v a b. length-tensor u v ∙ (λ k. a k * b k) ∙ sym (pow-add 2 m n)) us vs p q

pub long-power : (k n : ℕ) (base : Listed) → All (IsLong n) base.vectors → All (IsLong (n * suc k)) (power (suc k) base).vectors
long-power zero n base h = let e : n ≡ n * 1 = omega arith in subst (λ (m : ℕ). All (IsLong m) base.vectors) e h
long-power (suc k) n base h =
    let e : n * suc k + n ≡ n * suc (suc k) = omega arith in
    subst (λ (m : ℕ). All (IsLong m) (power (suc (suc k)) base).vectors) e
    (long-tensors (n * suc k) n (power (suc k) base).vectors base.vectors (long-power k n base h) h)

abbrev pub HasLong : Listed → Size → Type 0
HasLong l s = All (IsLong s.qubits) l.vectors

pub length-entries : (n : ℕ) (f : ℕ → Amplitude) → length (entries n f) ≡ 2 ^ n
length-entries n f = length-map-range_with_len f 0 (2 ^ n)

pub length-kets_vector : (n : ℕ) (terms : List Term) → length (kets_vector n terms) ≡ 2 ^ n
unfolding kets_vector
length-kets_vector n terms = length-entries n _

pub length-basis_vector : (n i : ℕ) → length (basis_vector n i) ≡ 2 ^ n
unfolding basis_vector
length-basis_vector n i = length-entries n _

long-step : (exprs : List Expr) (i : ℕ) (e : Expr) → IsValidExpr exprs i e → 0 < (size_by (size_of exprs) e).qubits
    → ((j : ℕ) → j < i → HasLong (lists exprs j) (size_of exprs j)) → HasLong (listed_by (lists exprs) e) (size_by (size_of exprs) e)
long-step exprs i (expr.Kets qubits terms) v some ih = All-cons (IsLong qubits) (kets_vector qubits terms) [] (length-kets_vector qubits terms) (All-nil (IsLong qubits))
long-step exprs i (expr.All qubits) v some ih =
    All-map (IsLong qubits) (basis_vector qubits) (range_with_len 0 (2 ^ qubits)) (λ k d lt. length-basis_vector qubits (get_or (range_with_len 0 (2 ^ qubits)) k d))
long-step exprs i (expr.Tensor left right) v some ih =
    long-tensors (size_of exprs left).qubits (size_of exprs right).qubits (lists exprs left).vectors (lists exprs right).vectors (ih left v.0) (ih right v.1)
long-step exprs i (expr.Union left right) v some ih =
    All-append (IsLong (size_of exprs left).qubits) (lists exprs left).vectors (lists exprs right).vectors (ih left v.0)
    (subst (λ (n : ℕ). All (IsLong n) (lists exprs right).vectors) (sym v.2) (ih right v.1))
long-step exprs i (expr.Power base zero) v some ih = absurd (omega arith)
long-step exprs i (expr.Power base (suc k)) v some ih = long-power k (size_of exprs base).qubits (lists exprs base) (ih base v)

-- each vector that an expression lists has an entry for each index of its qubits
pub has_long : (exprs : List Expr) → AreValidExprs exprs → (i : ℕ) → i < length exprs → All (IsLong (size_of exprs i).qubits) (lists exprs i).vectors
has_long exprs valid = by_expr HasLong exprs valid (long-step exprs)

-- ---- words

words-from : (p : ℕ) (shape : List ℕ) → fold (λ product n. product * n) p shape ≡ p * words shape
words-from p [] = sym (mul-one p)
words-from p (n ∷ ns) =
    words-from (p * n) ns ∙ mul_assoc p n (words ns)
    ∙ ap (λ k. p * k) (sym (words-from (1 * n) ns ∙ ap (λ k. k * words ns) (one-mul n)))

pub words-cons : (n : ℕ) (ns : List ℕ) → words (n ∷ ns) ≡ n * words ns
words-cons n ns = words-from (1 * n) ns ∙ ap (λ k. k * words ns) (one-mul n)

pub words-append : (xs ys : List ℕ) → words (xs ++ ys) ≡ words xs * words ys
words-append xs ys = fold-append (λ product n. product * n) 1 xs ys ∙ words-from (words xs) ys

words-replicate : (k n : ℕ) → words (replicate k n) ≡ n ^ k
words-replicate zero n = sym (pow-zero n)
words-replicate (suc k) n = words-cons n (replicate k n) ∙ ap (λ m. n * m) (words-replicate k n) ∙ mul_comm n (n ^ k) ∙ sym (pow-suc n k)

words-repeat : (k : ℕ) (xs : List ℕ) → words (repeat k xs) ≡ words xs ^ k
words-repeat zero xs = sym (pow-zero (words xs))
words-repeat (suc k) xs =
    words-append xs (repeat k xs) ∙ ap (λ m. words xs * m) (words-repeat k xs) ∙ mul_comm (words xs) (words xs ^ k) ∙ sym (pow-suc (words xs) k)

words-larger : (xs ys : List ℕ) → length xs ≡ length ys → (words xs ≤ words (larger xs ys)) × (words ys ≤ words (larger xs ys))
words-larger [] [] e = (omega arith, omega arith)
words-larger [] (y ∷ ys) e = absurd (omega arith)
words-larger (x ∷ xs) [] e = absurd (omega arith)
words-larger (x ∷ xs) (y ∷ ys) e =
    let rest = words-larger xs ys (omega arith) in
    let a : x ≤ max x y = omega arith in
    let b : y ≤ max x y = omega arith in
    let whole = words-cons (max x y) (larger xs ys) in
    (rw (words-cons x xs, whole) (mul-le-mul a rest.0), rw (words-cons y ys, whole) (mul-le-mul b rest.1))

words-united : (xs ys : List ℕ) → 0 < length xs → length xs ≡ length ys → words xs + words ys ≤ words (united_shape xs ys)
words-united [] ys some e = absurd (omega arith)
words-united (x ∷ xs) [] some e = absurd (omega arith)
words-united (x ∷ xs) (y ∷ ys) some e =
    let rest = words-larger xs ys (omega arith) in
    let a = mul-le-mul_left x rest.0 in
    let b = mul-le-mul_left y rest.1 in
    omega (arith, words-cons x xs, words-cons y ys, words-cons (x + y) (larger xs ys))

abbrev pub HasWords : Listed → Size → Type 0
HasWords l s = (length s.shape ≡ s.qubits) × (0 < s.qubits) × (s.count ≤ words s.shape)

words-step : (exprs : List Expr) (i : ℕ) (e : Expr) → IsValidExpr exprs i e → ((j : ℕ) → j < i → HasWords (lists exprs j) (size_of exprs j))
    → (size_by (size_of exprs) e).count ≤ words (size_by (size_of exprs) e).shape
words-step exprs i (expr.Kets qubits terms) v ih = omega (arith, words-replicate qubits 1, one-pow qubits)
  where
    one-pow : (k : ℕ) → 1 ^ k ≡ 1
    one-pow zero = refl
    one-pow (suc k) = pow-suc 1 k ∙ ap (λ n. n * 1) (one-pow k)
words-step exprs i (expr.All qubits) v ih = omega (arith, words-replicate qubits 2)
words-step exprs i (expr.Tensor left right) v ih =
    rw (words-append (size_of exprs left).shape (size_of exprs right).shape) (mul-le-mul (ih left v.0).2 (ih right v.1).2)
words-step exprs i (expr.Union left right) v ih =
    let l = ih left v.0 in
    let r = ih right v.1 in
    let e = l.0 ∙ v.2 ∙ sym r.0 in
    let some : 0 < length (size_of exprs left).shape = omega (arith, l.0, l.1) in
    omega (arith, words-united (size_of exprs left).shape (size_of exprs right).shape some e, l.2, r.2)
words-step exprs i (expr.Power base times) v ih =
    rw (words-repeat times (size_of exprs base).shape) (pow-le-pow_left (ih base v).2 times)

-- an expression lists at most as many vectors as its shape has words
pub has_words : (exprs : List Expr) → AreValidExprs exprs → (i : ℕ) → i < length exprs → (size_of exprs i).count ≤ words (size_of exprs i).shape
has_words exprs valid i lt = (by_expr HasWords exprs valid (λ j e v some ih. (shape-step exprs j e v (λ k h. (ih k h).0), some, words-step exprs j e v ih)) i lt).2
