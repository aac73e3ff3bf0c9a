-- Where words lead in the list of an expression.
use Rattle.std.proofs.Common.{◌≡◌, ℕ, zero, suc, ◌+◌, ◌-◌, ◌*◌, ◌^◌, ◌<◌, ◌≤◌, Bool, true, false, cond, ltb, List, [], ◌∷◌, ◌++◌, Some, length, take, drop, refl, sym, ap, ◌∙◌, subst, arith}
use Rattle.std.specs.Prelude.{slice_get, replicate}
use Rattle.std.specs.List.{fold, repeat}
use Rattle.std.proofs.lemmas.Bool.{ltb-true, ltb-false}
use Rattle.std.proofs.Math.Nat.{mul-le-mul_right, pow-suc, pow-zero, one-mul}
use Rattle.std.proofs.lemmas.List.{append-nil}
use Rattle.std.proofs.lemmas.Option.{slice_get_within}
use Rattle.aq_sets.specs.Vectors.{Listed}
use Rattle.aq_sets.specs.Sizes.{Size, size_of, larger, united_shape, Placing, first_place, number_of, shortened, lower, first_number, tensor_place, union_place, power_place, place_step, place}
use Rattle.aq_sets.specs.Valid.{IsValidExpr}
use Rattle.aq_sets.specs.declared.sets.Expr.{Expr}
use Rattle.aq_sets.specs.declared.sets.Expr.TheVariants as expr
use Rattle.aq_sets.specs.ValidExprs.{AreValidExprs}
use Rattle.aq_sets.specs.Laws.{IsWord}
use Rattle.aq_sets.proofs.TableLaws.{earlier, at_step}
use Rattle.aq_sets.proofs.ExprLaws.{size_by, size-is, some_times}
use Rattle.aq_sets.proofs.SizeLaws.{by_position, there, by_expr, has_shape, length-larger, length-repeat}
use Rattle.aq_sets.proofs.ToldLaws.{repeat_more}

-- ---- one step

unfoldable pub place_by : (ℕ → Size) → (ℕ → Placing) → Expr → Placing
place_by size f (expr.Kets qubits terms) = first_place
place_by size f (expr.All qubits) = number_of
place_by size f (expr.Tensor left right) = tensor_place (size left) (size right) (f left) (f right)
place_by size f (expr.Union left right) = union_place (size left) (size right) (f left) (f right)
place_by size f (expr.Power base times) = power_place times (size base) (f base)

pub place-is : (exprs : List Expr) (i : ℕ) (e : Expr) → slice_get exprs i ≡ Some e → IsValidExpr exprs i e → place exprs i ≡ place_by (size_of exprs) (place exprs) e
unfolding place place_by
place-is exprs i (expr.Kets qubits terms) h v = at_step (place_step (size_of exprs)) first_place exprs i (expr.Kets qubits terms) h
place-is exprs i (expr.All qubits) h v = at_step (place_step (size_of exprs)) first_place exprs i (expr.All qubits) h
place-is exprs i (expr.Tensor left right) h v =
    let lt = slice_get_within exprs i (expr.Tensor left right) h in
    let l = earlier (place_step (size_of exprs)) first_place exprs i left (omega arith) v.0 in
    let r = earlier (place_step (size_of exprs)) first_place exprs i right (omega arith) v.1 in
    at_step (place_step (size_of exprs)) first_place exprs i (expr.Tensor left right) h ∙ (λ k. tensor_place (size_of exprs left) (size_of exprs right) (l k) (r k))
place-is exprs i (expr.Union left right) h v =
    let lt = slice_get_within exprs i (expr.Union left right) h in
    let l = earlier (place_step (size_of exprs)) first_place exprs i left (omega arith) v.0 in
    let r = earlier (place_step (size_of exprs)) first_place exprs i right (omega arith) v.1 in
    at_step (place_step (size_of exprs)) first_place exprs i (expr.Union left right) h ∙ (λ k. union_place (size_of exprs left) (size_of exprs right) (l k) (r k))
place-is exprs i (expr.Power base times) h v =
    let lt = slice_get_within exprs i (expr.Power base times) h in
    at_step (place_step (size_of exprs)) first_place exprs i (expr.Power base times) h
    ∙ ap (power_place times (size_of exprs base)) (earlier (place_step (size_of exprs)) first_place exprs i base (omega arith) v)

-- ---- words

pub length-word : (shape word : List ℕ) → IsWord shape word → length word ≡ length shape
length-word [] [] h = refl
length-word [] (c ∷ word) h = absurd h
length-word (n ∷ shape) [] h = absurd h
length-word (n ∷ shape) (c ∷ word) h = ap suc (length-word shape word h.1)

pub word_front : (xs ys word : List ℕ) → IsWord (xs ++ ys) word → IsWord xs (take (length xs) word)
word_front [] ys word h = tt
word_front (x ∷ xs) ys [] h = absurd h
word_front (x ∷ xs) ys (c ∷ word) h = (h.0, word_front xs ys word h.1)

pub word_back : (xs ys word : List ℕ) → IsWord (xs ++ ys) word → IsWord ys (drop (length xs) word)
word_back [] ys word h = h
word_back (x ∷ xs) ys [] h = absurd h
word_back (x ∷ xs) ys (c ∷ word) h = word_back xs ys word h.1

-- no qubit is without a choice
unfoldable pub ArePositive : List ℕ → Type 0
ArePositive [] = Unit {0}
ArePositive (n ∷ shape) = (0 < n) × ArePositive shape

pub positive-append : (xs ys : List ℕ) → ArePositive xs → ArePositive ys → ArePositive (xs ++ ys)
unfolding ArePositive
positive-append [] ys p q = q
positive-append (x ∷ xs) ys p q = (p.0, positive-append xs ys p.1 q)

positive-replicate : (k n : ℕ) → 0 < n → ArePositive (replicate k n)
unfolding ArePositive
positive-replicate zero n h = tt
positive-replicate (suc k) n h = (h, positive-replicate k n h)

positive-repeat : (k : ℕ) (xs : List ℕ) → ArePositive xs → ArePositive (repeat k xs)
unfolding ArePositive
positive-repeat zero xs p = tt
positive-repeat (suc k) xs p = positive-append xs (repeat k xs) p (positive-repeat k xs p)

positive-larger : (xs ys : List ℕ) → ArePositive xs → ArePositive ys → ArePositive (larger xs ys)
unfolding ArePositive
positive-larger [] ys p q = q
positive-larger (x ∷ xs) [] p q = p
positive-larger (x ∷ xs) (y ∷ ys) p q = (omega (arith, p.0, q.0), positive-larger xs ys p.1 q.1)

positive-united : (xs ys : List ℕ) → ArePositive xs → ArePositive ys → ArePositive (united_shape xs ys)
unfolding ArePositive
positive-united [] ys p q = q
positive-united (x ∷ xs) [] p q = p
positive-united (x ∷ xs) (y ∷ ys) p q = (omega (arith, p.0, q.0), positive-larger xs ys p.1 q.1)

pub shortened-word : (shape word : List ℕ) → ArePositive shape → length word ≡ length shape → IsWord shape (shortened shape word)
unfolding ArePositive
shortened-word [] [] p e = tt
shortened-word [] (c ∷ word) p e = absurd (omega arith)
shortened-word (n ∷ shape) [] p e = absurd (omega arith)
shortened-word (n ∷ shape) (c ∷ word) p e = (omega (arith, p.0), shortened-word shape word p.1 (omega arith))

-- ---- places are within the list

pub number-below : (k n : ℕ) (word : List ℕ) → IsWord (replicate k 2) word → fold (λ n digit. 2 * n + digit) n word < (n + 1) * 2 ^ k
number-below zero n [] h = omega (arith, pow-zero 2)
number-below zero n (c ∷ word) h = absurd h
number-below (suc k) n [] h = absurd h
number-below (suc k) n (c ∷ word) h =
    let digit = h.0 in
    let le : 2 * n + c + 1 ≤ 2 * (n + 1) = omega arith in
    rw (pow-suc 2 k) (omega (arith, number-below k (2 * n + c) word h.1, mul-le-mul_right (2 ^ k) le))

pair-below : (p q a b : ℕ) → p < a → q < b → p * b + q < a * b
pair-below p q a b h g = omega (arith, mul-le-mul_right b h)

abbrev HasPlaces : Size → Placing → Type 0
HasPlaces s f = (word : List ℕ) → IsWord s.shape word → f word < s.count

tensor-below : (l r : Size) (f g : Placing) → length l.shape ≡ l.qubits → HasPlaces l f → HasPlaces r g → (word : List ℕ) → IsWord (l.shape ++ r.shape) word
    → tensor_place l r f g word < l.count * r.count
tensor-below l r f g e p q word h =
    pair-below (f (take l.qubits word)) (g (drop l.qubits word)) l.count r.count
    (p (take l.qubits word) (subst (λ (n : ℕ). IsWord l.shape (take n word)) e (word_front l.shape r.shape word h)))
    (q (drop l.qubits word) (subst (λ (n : ℕ). IsWord r.shape (drop n word)) e (word_back l.shape r.shape word h)))

side-below : (b : Bool) (c x y p q m n : ℕ) → ltb c x ≡ b → c < x + y → (c < x → p < m) → (x ≤ c → c - x < y → q < n) → cond b p (m + q) < m + n
side-below true c x y p q m n e h f g = let lt = f (ltb-true c x e) in omega arith
side-below false c x y p q m n e h f g =
    let ge = ltb-false c x e in
    let lt = g ge (omega arith) in
    omega arith

union-below : (ls rs : List ℕ) (l r : Size) (f g : Placing) → l.shape ≡ ls → r.shape ≡ rs → 0 < length ls → length ls ≡ length rs → ArePositive ls → ArePositive rs
    → HasPlaces l f → HasPlaces r g → (word : List ℕ) → IsWord (united_shape ls rs) word → union_place l r f g word < l.count + r.count
unfolding ArePositive
union-below [] rs l r f g el er some e pl pr p q word h = absurd (omega arith)
union-below (x ∷ xs) [] l r f g el er some e pl pr p q word h = absurd (omega arith)
union-below (x ∷ xs) (y ∷ ys) l r f g el er some e pl pr p q [] h = absurd h
union-below (x ∷ xs) (y ∷ ys) l r f g el er some e pl pr p q (c ∷ word) h =
    let n = length-word (larger xs ys) word h.1 in
    let same : length xs ≡ length ys = omega arith in
    let a = length-larger xs ys same in
    let left : c < x → f (c ∷ shortened xs word) < l.count =
    λ lt. p (c ∷ shortened xs word) (subst (λ (s : List ℕ). IsWord s (c ∷ shortened xs word)) (sym el) (lt, shortened-word xs word pl.1 (omega arith))) in
    let right : x ≤ c → c - x < y → g ((c - x) ∷ shortened ys word) < r.count =
    λ ge lt. q ((c - x) ∷ shortened ys word) (subst (λ (s : List ℕ). IsWord s ((c - x) ∷ shortened ys word)) (sym er) (lt, shortened-word ys word pr.1 (omega arith))) in
    let goal = side-below (ltb c x) c x y (f (c ∷ shortened xs word)) (g ((c - x) ∷ shortened ys word)) l.count r.count refl h.0 left right in
    subst (λ (s : List ℕ). cond (ltb c (first_number s)) (f (c ∷ shortened (lower s) word)) (l.count + g ((c - first_number s) ∷ shortened (lower r.shape) word)) < l.count + r.count) (sym el)
    (subst (λ (s : List ℕ). cond (ltb c x) (f (c ∷ shortened xs word)) (l.count + g ((c - x) ∷ shortened (lower s) word)) < l.count + r.count) (sym er) goal)

power-below : (k : ℕ) (b : Size) (f : Placing) → length b.shape ≡ b.qubits → HasPlaces b f → (word : List ℕ) → IsWord (repeat (suc k) b.shape) word
    → power_place (suc k) b f word < b.count ^ suc k
power-below zero b f e p word h =
    let one : b.count ^ 1 ≡ b.count = pow-suc b.count 0 ∙ ap (λ n. n * b.count) (pow-zero b.count) ∙ one-mul b.count in
    subst (λ (n : ℕ). f word < n) (sym one) (p word (subst (λ (s : List ℕ). IsWord s word) (append-nil b.shape) h))
power-below (suc k) b f e p word h =
    let g : IsWord (repeat (suc k) b.shape ++ b.shape) word = subst (λ (s : List ℕ). IsWord s word) (sym (repeat_more (suc k) b.shape)) h in
    let n : length (repeat (suc k) b.shape) ≡ b.qubits * suc k = length-repeat (suc k) b.shape ∙ ap (λ m. m * suc k) e in
    let front = subst (λ (m : ℕ). IsWord (repeat (suc k) b.shape) (take m word)) n (word_front (repeat (suc k) b.shape) b.shape word g) in
    let back = subst (λ (m : ℕ). IsWord b.shape (drop m word)) n (word_back (repeat (suc k) b.shape) b.shape word g) in
    rw (pow-suc b.count (suc k))
    (pair-below (power_place (suc k) b f (take (b.qubits * suc k) word)) (f (drop (b.qubits * suc k) word)) (b.count ^ suc k) b.count
    (power-below k b f e p (take (b.qubits * suc k) word) front) (p (drop (b.qubits * suc k) word) back))

-- ---- of expressions

abbrev HasPositive : Listed → Size → Type 0
HasPositive l s = ArePositive s.shape

positive-step : (exprs : List Expr) (i : ℕ) (e : Expr) → IsValidExpr exprs i e → ((j : ℕ) → j < i → ArePositive (size_of exprs j).shape)
    → ArePositive (size_by (size_of exprs) e).shape
positive-step exprs i (expr.Kets qubits terms) v ih = positive-replicate qubits 1 (omega arith)
positive-step exprs i (expr.All qubits) v ih = positive-replicate qubits 2 (omega arith)
positive-step exprs i (expr.Tensor left right) v ih = positive-append (size_of exprs left).shape (size_of exprs right).shape (ih left v.0) (ih right v.1)
positive-step exprs i (expr.Union left right) v ih = positive-united (size_of exprs left).shape (size_of exprs right).shape (ih left v.0) (ih right v.1)
positive-step exprs i (expr.Power base times) v ih = positive-repeat times (size_of exprs base).shape (ih base v)

pub has_positive : (exprs : List Expr) → AreValidExprs exprs → (i : ℕ) → i < length exprs → ArePositive (size_of exprs i).shape
has_positive exprs valid = by_expr HasPositive exprs valid (λ i e v some ih. positive-step exprs i e v ih)

places-step : (exprs : List Expr) → AreValidExprs exprs → (i : ℕ) (e : Expr) → slice_get exprs i ≡ Some e → IsValidExpr exprs i e
    → ((j : ℕ) → j < i → HasPlaces (size_of exprs j) (place exprs j)) → HasPlaces (size_by (size_of exprs) e) (place_by (size_of exprs) (place exprs) e)
unfolding place_by
places-step exprs valid i (expr.Kets qubits terms) h v ih word w = omega arith
places-step exprs valid i (expr.All qubits) h v ih word w = omega (arith, number-below qubits 0 word w)
places-step exprs valid i (expr.Tensor left right) h v ih word w =
    let lt = slice_get_within exprs i (expr.Tensor left right) h in
    tensor-below (size_of exprs left) (size_of exprs right) (place exprs left) (place exprs right) (has_shape exprs valid left (omega (arith, v.0))) (ih left v.0) (ih right v.1) word w
places-step exprs valid i (expr.Union left right) h v ih word w =
    let lt = slice_get_within exprs i (expr.Union left right) h in
    let l = has_shape exprs valid left (omega (arith, v.0)) in
    let r = has_shape exprs valid right (omega (arith, v.1)) in
    let some = (valid.qubits left (omega (arith, v.0))).0 in
    union-below (size_of exprs left).shape (size_of exprs right).shape (size_of exprs left) (size_of exprs right) (place exprs left) (place exprs right) refl refl
    (omega arith) (l ∙ v.2 ∙ sym r) (has_positive exprs valid left (omega (arith, v.0))) (has_positive exprs valid right (omega (arith, v.1)))
    (ih left v.0) (ih right v.1) word w
places-step exprs valid i (expr.Power base zero) h v ih word w = absurd (let some = some_times exprs valid i base zero h in omega arith)
places-step exprs valid i (expr.Power base (suc k)) h v ih word w =
    let lt = slice_get_within exprs i (expr.Power base (suc k)) h in
    power-below k (size_of exprs base) (place exprs base) (has_shape exprs valid base (omega (arith, v))) (ih base v) word w

-- each word of an expression's shape leads to one of its vectors
pub has_places : (exprs : List Expr) → AreValidExprs exprs → (i : ℕ) → i < length exprs → HasPlaces (size_of exprs i) (place exprs i)
has_places exprs valid = by_position (λ i. i < length exprs → HasPlaces (size_of exprs i) (place exprs i)) (λ i ih lt.
    let e = there exprs i lt in
    let v = valid.each i e.0 e.1 in
    subst (λ (s : Size). HasPlaces s (place exprs i)) (sym (size-is exprs i e.0 e.1 v))
    (subst (λ (f : Placing). HasPlaces (size_by (size_of exprs) e.0) f) (sym (place-is exprs i e.0 e.1 v))
    (places-step exprs valid i e.0 e.1 v (λ j h. ih j h (omega arith)))))
