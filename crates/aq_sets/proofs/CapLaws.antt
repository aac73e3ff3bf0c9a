-- Numbers that are capped, one operation after the other.
use Rattle.std.proofs.Common.{◌≡◌, ℕ, zero, suc, ◌+◌, ◌*◌, ◌^◌, ◌≤◌, max, List, [], ◌∷◌, ◌++◌, refl, sym, ap, ◌∙◌, ⊎_elim, add-one, arith}
use Rattle.std.specs.Prelude.{map, replicate}
use Rattle.std.specs.List.{repeat, fold}
use Rattle.std.proofs.Math.Nat.{mul-le-mul_left, mul-le-mul_right, pow-suc, pow-zero, min-eq_left, min-eq_right, mul_comm}
use Rattle.std.proofs.lemmas.Bool.{cases_lt}
use Rattle.std.proofs.lemmas.List.{map-append}
use Rattle.aq_sets.specs.Sizes.{larger, united_shape, words}
use Rattle.aq_sets.specs.Caps.{most_told, capped}

pub capped-sum : (a b : ℕ) → capped (capped a + capped b) ≡ capped (a + b)
capped-sum a b = omega arith

pub capped-max : (a b : ℕ) → capped (max (capped a) (capped b)) ≡ capped (max a b)
capped-max a b = omega arith

pub capped-capped : (a : ℕ) → capped (capped a) ≡ capped a
capped-capped a = omega arith

product_left : (a b : ℕ) → capped (capped a * b) ≡ capped (a * b)
product_left a zero = omega arith
product_left a (suc b) = ⊎_elim (λ lt. ap (λ n. capped (n * suc b)) (min-eq_left (omega arith)))
    (λ ge.
    let one : 1 ≤ suc b = omega arith in
    let low : most_told * 1 ≤ most_told * suc b = mul-le-mul_left most_told one in
    let high : most_told * suc b ≤ a * suc b = mul-le-mul_right (suc b) ge in
    let same : capped a ≡ most_told = min-eq_right ge in
    ap (λ n. capped (n * suc b)) same ∙ omega arith)
    (cases_lt a most_told)

pub capped-product : (a b : ℕ) → capped (capped a * capped b) ≡ capped (a * b)
capped-product a b =
    product_left a (capped b) ∙ ap capped (mul_comm a (capped b)) ∙ product_left b a ∙ ap capped (mul_comm b a)

pub capped-power : (a k : ℕ) → capped (capped a ^ k) ≡ capped (a ^ k)
capped-power a zero = ap capped (pow-zero (capped a) ∙ sym (pow-zero a))
capped-power a (suc k) =
    ap capped (pow-suc (capped a) k) ∙ sym (capped-product (capped a ^ k) (capped a))
    ∙ ap (λ n. capped (n * capped (capped a))) (capped-power a k) ∙ ap (λ n. capped (capped (a ^ k) * n)) (capped-capped a)
    ∙ capped-product (a ^ k) a ∙ ap capped (sym (pow-suc a k))

-- ---- shapes

pub capped-words-from : (p q : ℕ) (shape : List ℕ) → capped p ≡ capped q
    → capped (fold (λ product n. product * n) p (map capped shape)) ≡ capped (fold (λ product n. product * n) q shape)
capped-words-from p q [] e = e
capped-words-from p q (n ∷ ns) e =
    capped-words-from (p * capped n) (q * n) ns
    (sym (capped-product p (capped n)) ∙ ap (λ k. capped (k * capped (capped n))) e ∙ ap (λ k. capped (capped q * k)) (capped-capped n) ∙ capped-product q n)

pub capped-words : (shape : List ℕ) → capped (words (map capped shape)) ≡ capped (words shape)
capped-words shape = capped-words-from 1 1 shape refl

pub map-capped-capped : (xs : List ℕ) → map capped (map capped xs) ≡ map capped xs
map-capped-capped [] = refl
map-capped-capped (x ∷ xs) = (λ i. capped-capped x i ∷ map-capped-capped xs i)

pub capped-larger : (xs ys : List ℕ) → map capped (larger (map capped xs) (map capped ys)) ≡ map capped (larger xs ys)
capped-larger [] [] = refl
capped-larger [] (y ∷ ys) = map-capped-capped (y ∷ ys)
capped-larger (x ∷ xs) [] = map-capped-capped (x ∷ xs)
capped-larger (x ∷ xs) (y ∷ ys) = (λ i. capped-max x y i ∷ capped-larger xs ys i)

pub capped-united_shape : (xs ys : List ℕ) → map capped (united_shape (map capped xs) (map capped ys)) ≡ map capped (united_shape xs ys)
capped-united_shape [] ys = map-capped-capped ys
capped-united_shape (x ∷ xs) [] = map-capped-capped (x ∷ xs)
capped-united_shape (x ∷ xs) (y ∷ ys) = (λ i. capped-sum x y i ∷ capped-larger xs ys i)

pub capped-repeat : (k : ℕ) (xs : List ℕ) → repeat k (map capped xs) ≡ map capped (repeat k xs)
capped-repeat zero xs = refl
capped-repeat (suc k) xs = ap (λ zs. map capped xs ++ zs) (capped-repeat k xs) ∙ sym (map-append capped xs (repeat k xs))

pub capped-replicate : (k n : ℕ) → n ≤ most_told → map capped (replicate k n) ≡ replicate k n
capped-replicate zero n h = refl
capped-replicate (suc k) n h = (λ i. min-eq_left h i ∷ capped-replicate k n h i)

-- ---- steps of loops

pub power_none : (base : ℕ) → 1 ≡ capped (base ^ 0)
power_none base = ap capped (sym (pow-zero base))

pub power_more : (base i power : ℕ) → power ≡ capped (base ^ i) → capped (power * base) ≡ capped (base ^ (i + 1))
power_more base i power e =
    ap (λ n. capped (n * base)) e ∙ product_left (base ^ i) base ∙ ap capped (sym (pow-suc base i))
    ∙ ap (λ n. capped (base ^ n)) (sym (add-one i))
