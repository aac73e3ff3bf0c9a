-- Texts that are read back: a number ends at the first byte below 45, and so it is cut off in one way only.
use Rattle.std.proofs.Common.{◌≡◌, ℕ, zero, suc, ◌+◌, ◌<◌, ◌≤◌, ◌^◌, ◌/◌, ◌%◌, Bool, true, false, List, [], ◌∷◌, ◌++◌, map, refl, ap, ap₂, sym, ◌∙◌, subst, cond, nat_lt, nat_eq, append_assoc, arith}
use Rattle.std.proofs.lemmas.List.{append_cancel_left}
use Rattle.std.specs.Prelude.{ℤ, pos, negsuc, unsigned_abs}
use Rattle.std.specs.List.{AllByRecursion}
use Rattle.std.specs.Fmt.{decimal, signed_decimal, digit_glyph, digits_onto, digits}
use Rattle.std.specs.Str.Parse.{digits_value}
use Rattle.std.proofs.lemmas.Fmt.{decimal_is_IsNumeral_wide}
use Rattle.aq_world.specs.Pieces.{bit_digit, bits_text}

-- ---- cuts

heads : {A : Type 0} (x y : A) (xs ys : List A) → x ∷ xs ≡ y ∷ ys → x ≡ y
heads x y xs ys e = cc

pub tails : {A : Type 0} (x y : A) (xs ys : List A) → x ∷ xs ≡ y ∷ ys → xs ≡ ys
tails x y xs ys e = cc

-- what stands behind the same front
pub behind_same : (front x y r s : List ℕ) → (front ++ x) ++ r ≡ (front ++ y) ++ s → x ++ r ≡ y ++ s
behind_same front x y r s e = append_cancel_left front (x ++ r) (y ++ s) (sym (append_assoc front x r) ∙ e ∙ append_assoc front y s)

-- each byte is this one or more
abbrev pub IsFrom : ℕ → List ℕ → Type 0
IsFrom low = AllByRecursion (λ c. low ≤ c)

pub lower : (low high : ℕ) → low ≤ high → (xs : List ℕ) → IsFrom high xs → IsFrom low xs
lower low high le [] h = tt
lower low high le (x ∷ xs) h = (let p = h.0 in omega (arith, le, p), lower low high le xs h.1)

-- A front of bytes of 45 or more is cut off at the first byte below.
pub cut : (xs ys r s : List ℕ) (c : ℕ) → IsFrom 45 xs → IsFrom 45 ys → c < 45 → xs ++ c ∷ r ≡ ys ++ c ∷ s → (xs ≡ ys) × (r ≡ s)
cut [] [] r s c h k lt e = (refl, tails c c r s e)
cut [] (y ∷ ys) r s c h k lt e = let z = heads c y r (ys ++ c ∷ s) e in let p = k.0 in absurd (omega (arith, z, p, lt))
cut (x ∷ xs) [] r s c h k lt e = let z = heads x c (xs ++ c ∷ r) s e in let p = h.0 in absurd (omega (arith, z, p, lt))
cut (x ∷ xs) (y ∷ ys) r s c h k lt e =
    let rest = cut xs ys r s c h.1 k.1 lt (tails x y (xs ++ c ∷ r) (ys ++ c ∷ s) e) in
    (ap₂ (λ (z : ℕ) (zs : List ℕ). z ∷ zs) (heads x y (xs ++ c ∷ r) (ys ++ c ∷ s) e) rest.0, rest.1)

-- the same, where more stands behind what the front stands in
pub cut_in : (xs ys x y r s : List ℕ) (c : ℕ) → IsFrom 45 xs → IsFrom 45 ys → c < 45 → (xs ++ c ∷ x) ++ r ≡ (ys ++ c ∷ y) ++ s → (xs ≡ ys) × (x ++ r ≡ y ++ s)
cut_in xs ys x y r s c h k lt e = cut xs ys (x ++ r) (y ++ s) c h k lt (sym (append_assoc xs (c ∷ x) r) ∙ e ∙ append_assoc ys (c ∷ y) s)

-- ---- numbers

glyph_from : (d : ℕ) → 48 ≤ digit_glyph false d
glyph_from d = by (nat_lt d 10)
  where
    by : (b : Bool) → 48 ≤ cond b (48 + d) (87 + d)
    by true = omega arith
    by false = omega arith

either : (P : List ℕ → Type 0) (b : Bool) (xs ys : List ℕ) → P xs → P ys → P (cond b xs ys)
either P true xs ys p q = p
either P false xs ys p q = q

onto_from : (k n : ℕ) (acc : List ℕ) → IsFrom 48 acc → IsFrom 48 (digits_onto k 10 false n acc)
onto_from zero n acc h = h
onto_from (suc k) n acc h =
    let g = digit_glyph false (n % 10) in
    either (IsFrom 48) (nat_eq (n / 10) 0) (g ∷ acc) (digits_onto k 10 false (n / 10) (g ∷ acc)) (glyph_from (n % 10), h) (onto_from k (n / 10) (g ∷ acc) (glyph_from (n % 10), h))

pub decimal_from : (n : ℕ) → IsFrom 48 (decimal n)
unfolding digits
decimal_from n = onto_from 64 n [] tt

-- a list that isn't empty
abbrev pub IsMade : List ℕ → Type 0
IsMade xs = (c : ℕ) × (t : List ℕ) × (xs ≡ c ∷ t)

onto_made : (k n x : ℕ) (acc : List ℕ) → IsMade (digits_onto k 10 false n (x ∷ acc))
onto_made zero n x acc = (x, acc, refl)
onto_made (suc k) n x acc =
    let g = digit_glyph false (n % 10) in
    either IsMade (nat_eq (n / 10) 0) (g ∷ x ∷ acc) (digits_onto k 10 false (n / 10) (g ∷ x ∷ acc)) (g, x ∷ acc, refl) (onto_made k (n / 10) g (x ∷ acc))

onto_made_from : (k n : ℕ) → IsMade (digits_onto (suc k) 10 false n [])
onto_made_from k n =
    let g = digit_glyph false (n % 10) in
    either IsMade (nat_eq (n / 10) 0) (g ∷ []) (digits_onto k 10 false (n / 10) (g ∷ [])) (g, [], refl) (onto_made k (n / 10) g [])

pub decimal_made : (n : ℕ) → IsMade (decimal n)
unfolding digits
decimal_made n = onto_made_from 63 n

decimal_is : (m n : ℕ) → m < 2 ^ 127 → n < 2 ^ 127 → decimal m ≡ decimal n → m ≡ n
decimal_is m n p q e = sym (decimal_is_IsNumeral_wide m (omega arith)).1 ∙ ap (digits_value 10) e ∙ (decimal_is_IsNumeral_wide n (omega arith)).1

no_minus : (n : ℕ) (ds : List ℕ) → decimal n ≡ 45 ∷ ds → ⊥
no_minus n ds e = let h = subst (IsFrom 48) e (decimal_from n) in let p = h.0 in omega (arith, p)

signed_from : (z : ℤ) → IsFrom 45 (signed_decimal z)
signed_from (pos n) = lower 45 48 (omega arith) (decimal n) (decimal_from n)
signed_from (negsuc n) = (omega arith, lower 45 48 (omega arith) (decimal (suc n)) (decimal_from (suc n)))

signed_is : (y z : ℤ) → unsigned_abs y < 2 ^ 127 → unsigned_abs z < 2 ^ 127 → signed_decimal y ≡ signed_decimal z → y ≡ z
signed_is (pos m) (pos n) p q e = ap pos (decimal_is m n p q e)
signed_is (pos m) (negsuc n) p q e = absurd (no_minus m (decimal (suc n)) e)
signed_is (negsuc m) (pos n) p q e = absurd (no_minus n (decimal (suc m)) (sym e))
signed_is (negsuc m) (negsuc n) p q e = let s = decimal_is (suc m) (suc n) p q (tails 45 45 (decimal (suc m)) (decimal (suc n)) e) in ap negsuc (omega (arith, s))

pub number_read : (m n : ℕ) (x y r s : List ℕ) (c : ℕ) → m < 2 ^ 127 → n < 2 ^ 127 → c < 45 → (decimal m ++ c ∷ x) ++ r ≡ (decimal n ++ c ∷ y) ++ s → (m ≡ n) × (x ++ r ≡ y ++ s)
number_read m n x y r s c p q lt e =
    let both = cut_in (decimal m) (decimal n) x y r s c (lower 45 48 (omega arith) (decimal m) (decimal_from m)) (lower 45 48 (omega arith) (decimal n) (decimal_from n)) lt e in
    (decimal_is m n p q both.0, both.1)

pub signed_read : (m n : ℤ) (x y r s : List ℕ) (c : ℕ) → unsigned_abs m < 2 ^ 127 → unsigned_abs n < 2 ^ 127 → c < 45 → (signed_decimal m ++ c ∷ x) ++ r ≡ (signed_decimal n ++ c ∷ y) ++ s → (m ≡ n) × (x ++ r ≡ y ++ s)
signed_read m n x y r s c p q lt e =
    let both = cut_in (signed_decimal m) (signed_decimal n) x y r s c (signed_from m) (signed_from n) lt e in
    (signed_is m n p q both.0, both.1)

-- ---- bits

digit_from : (b : Bool) → 45 ≤ bit_digit b
digit_from true = omega arith
digit_from false = omega arith

digits_from : (bits : List Bool) → IsFrom 45 (map bit_digit bits)
digits_from [] = tt
digits_from (b ∷ bits) = (digit_from b, digits_from bits)

bits_from : (bits : List Bool) → IsFrom 45 (bits_text bits)
bits_from [] = (omega arith, tt)
bits_from (b ∷ bits) = digits_from (b ∷ bits)

digit_is : (a b : Bool) → bit_digit a ≡ bit_digit b → a ≡ b
digit_is true true e = refl
digit_is true false e = absurd (omega (arith, e))
digit_is false true e = absurd (omega (arith, e))
digit_is false false e = refl

digits_are : (xs ys : List Bool) → map bit_digit xs ≡ map bit_digit ys → xs ≡ ys
digits_are [] [] e = refl
digits_are [] (y ∷ ys) e = absurd cc
digits_are (x ∷ xs) [] e = absurd cc
digits_are (x ∷ xs) (y ∷ ys) e =
    ap₂ (λ (b : Bool) (bs : List Bool). b ∷ bs) (digit_is x y (heads (bit_digit x) (bit_digit y) (map bit_digit xs) (map bit_digit ys) e)) (digits_are xs ys (tails (bit_digit x) (bit_digit y) (map bit_digit xs) (map bit_digit ys) e))

no_dash : (y : Bool) (ys : List ℕ) → 45 ∷ [] ≡ bit_digit y ∷ ys → ⊥
no_dash true ys e = let z : 45 ≡ 49 = heads 45 49 [] ys e in omega (arith, z)
no_dash false ys e = let z : 45 ≡ 48 = heads 45 48 [] ys e in omega (arith, z)

bits_are : (xs ys : List Bool) → bits_text xs ≡ bits_text ys → xs ≡ ys
bits_are [] [] e = refl
bits_are [] (y ∷ ys) e = absurd (no_dash y (map bit_digit ys) e)
bits_are (x ∷ xs) [] e = absurd (no_dash x (map bit_digit xs) (sym e))
bits_are (x ∷ xs) (y ∷ ys) e = digits_are (x ∷ xs) (y ∷ ys) e

pub bits_read : (xs ys : List Bool) (r s : List ℕ) → (bits_text xs ++ 10 ∷ []) ++ r ≡ (bits_text ys ++ 10 ∷ []) ++ s → (xs ≡ ys) × (r ≡ s)
bits_read xs ys r s e =
    let both = cut_in (bits_text xs) (bits_text ys) [] [] r s 10 (bits_from xs) (bits_from ys) (omega arith) e in
    (bits_are xs ys both.0, both.1)
