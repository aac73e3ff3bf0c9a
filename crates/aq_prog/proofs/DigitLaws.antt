-- The digits of an index, and setting one.
use Rattle.std.proofs.Common.{◌≡◌, ◌≢◌, ℕ, zero, suc, ◌+◌, ◌-◌, ◌*◌, ◌/◌, ◌%◌, ◌^◌, ◌<◌, ◌≤◌, List, [], ◌∷◌, ◌++◌, length, get_or, refl, sym, ap, ◌∙◌, ⊎_elim, arith}
use Rattle.std.proofs.Math.Nat.{div-div-eq-div-mul, add-mul-div_left, add-mul-mod_self_left, mul-le-mul_left}
use Rattle.std.proofs.lemmas.Nat.{div-add-mod', div-mul-add, mod-mul-add, pow-add, pow_pos}
use Rattle.std.proofs.lemmas.Bool.{cases_lt}
use Rattle.std.proofs.lemmas.List.{get_or_append_left, length-append}
use Rattle.std.proofs.Math.Seq.{get_or-append_seam}
use Rattle.std.specs.List.{All}
use Rattle.std.specs.Prelude.{◌==◌, ◌&&◌}
use Rattle.aq_prog.specs.Digits.{weight, digit, with_digit, tabulate}
use Rattle.aq_prog.specs.Gates.{is_controlled}

pub weight-positive : (n q : ℕ) → 0 < weight n q
weight-positive n q = pow_pos (n - 1 - q)

pub digit-below : (n q x : ℕ) → digit n q x < 2
digit-below n q x = omega arith

-- ---- at any weight w

-- a number by its quotient, digit and rest
parts : (w x : ℕ) → x ≡ (x / w / 2 * 2 + x / w % 2) * w + x % w
parts w x =
    let a = div-add-mod' x w in
    let b : x / w / 2 * 2 + x / w % 2 ≡ x / w = omega arith in
    sym (ap (λ k. k * w + x % w) b ∙ a)

pub set : ℕ → ℕ → ℕ → ℕ
set w b x = (x / w / 2 * 2 + b) * w + x % w

set-is : (w b x : ℕ) → x - x / w % 2 * w + b * w ≡ set w b x
unfolding set
set-is w b x = let p = parts w x in omega arith

set-quotient : (w b x : ℕ) → 0 < w → set w b x / w ≡ x / w / 2 * 2 + b
unfolding set
set-quotient w b x h = div-mul-add (x / w / 2 * 2 + b) w (x % w) (omega arith)

set-rest : (w b x : ℕ) → 0 < w → set w b x % w ≡ x % w
unfolding set
set-rest w b x h = mod-mul-add (x / w / 2 * 2 + b) w (x % w) (omega arith)

set-half : (w b x : ℕ) → 0 < w → b < 2 → set w b x / w / 2 ≡ x / w / 2
set-half w b x h k = let e = set-quotient w b x h in omega arith

set-digit : (w b x : ℕ) → 0 < w → b < 2 → set w b x / w % 2 ≡ b
set-digit w b x h k = let e = set-quotient w b x h in omega arith

set-set : (w a b x : ℕ) → 0 < w → b < 2 → set w a (set w b x) ≡ set w a x
unfolding set
set-set w a b x h k = (λ i. (set-half w b x h k i * 2 + a) * w + set-rest w b x h i)

set-own : (w x : ℕ) → set w (x / w % 2) x ≡ x
unfolding set
set-own w x = sym (parts w x)

pub set-below : (w b x m : ℕ) → 0 < w → b < 2 → x < m * (2 * w) → set w b x < m * (2 * w)
unfolding set
set-below w b x m h k below =
    let p = parts w x in
    let f : x / w / 2 < m = ⊎_elim (λ lt. lt) (λ ge. absurd (let g = mul-le-mul_left (2 * w) ge in omega arith)) (cases_lt (x / w / 2) m) in
    let g = mul-le-mul_left w f in
    let one : b ≤ 1 = omega arith in
    let i = mul-le-mul_left w one in
    omega arith

-- ---- of qubits
pub with_digit-is : (n q b x : ℕ) → with_digit n q b x ≡ set (weight n q) b x
with_digit-is n q b x = set-is (weight n q) b x

pub digit-with_digit : (n q b x : ℕ) → b < 2 → digit n q (with_digit n q b x) ≡ b
digit-with_digit n q b x h = ap (λ y. digit n q y) (with_digit-is n q b x) ∙ set-digit _ b x (weight-positive n q) h

pub with_digit-with_digit : (n q a b x : ℕ) → b < 2 → with_digit n q a (with_digit n q b x) ≡ with_digit n q a x
with_digit-with_digit n q a b x h =
    ap (λ y. with_digit n q a y) (with_digit-is n q b x) ∙ with_digit-is n q a (set (weight n q) b x)
    ∙ set-set (weight n q) a b x (weight-positive n q) h ∙ sym (with_digit-is n q a x)

pub with_digit-own : (n q x : ℕ) → with_digit n q (digit n q x) x ≡ x
with_digit-own n q x = with_digit-is n q (digit n q x) x ∙ set-own (weight n q) x

-- 2^n is twice a qubit's weight times a power
pub weight-power : (n q : ℕ) → q < n → 2 ^ n ≡ 2 ^ q * (2 * weight n q)
weight-power n q h =
    let a = pow-add 2 q (1 + (n - 1 - q)) in
    let b = pow-add 2 1 (n - 1 - q) in
    let e : n ≡ q + (1 + (n - 1 - q)) = omega arith in
    ap (λ k. 2 ^ k) e ∙ a ∙ ap (λ k. 2 ^ q * k) b

pub with_digit-below : (n q b x : ℕ) → q < n → b < 2 → x < 2 ^ n → with_digit n q b x < 2 ^ n
with_digit-below n q b x h k below =
    let e = weight-power n q h in
    rw (e, with_digit-is n q b x) (set-below (weight n q) b x (2 ^ q) (weight-positive n q) k (rw e at below))

-- a lower qubit's weight is twice a higher one's times a power
pub weights : (n low high : ℕ) → low < high → high < n → weight n low ≡ weight n high * (2 * 2 ^ (high - low - 1))
weights n low high h k =
    let e : n - 1 - low ≡ (n - 1 - high) + (1 + (high - low - 1)) = omega arith in
    ap (λ j. 2 ^ j) e ∙ pow-add 2 (n - 1 - high) (1 + (high - low - 1)) ∙ ap (λ j. weight n high * j) (pow-add 2 1 (high - low - 1))

-- setting a digit leaves those above and below
above : (w m b x : ℕ) → 0 < w → b < 2 → set w b x / (w * (2 * m)) ≡ x / (w * (2 * m))
above w m b x h k =
    sym (div-div-eq-div-mul (set w b x) w (2 * m)) ∙ sym (div-div-eq-div-mul (set w b x / w) 2 m)
    ∙ ap (λ j. j / m) (set-half w b x h k)
    ∙ div-div-eq-div-mul (x / w) 2 m ∙ div-div-eq-div-mul x w (2 * m)

below : (u m k l : ℕ) → 0 < u → (k * (u * (2 * m)) + l) / u % 2 ≡ l / u % 2
below u m k l h =
    let e : k * (u * (2 * m)) + l ≡ l + u * (2 * (k * m)) = omega arith in
    ap (λ j. j / u % 2) e ∙ ap (λ j. j % 2) (add-mul-div_left l (2 * (k * m)) h) ∙ add-mul-mod_self_left (l / u) 2 (k * m)

set-below-digit : (u m b x : ℕ) → 0 < u → set (u * (2 * m)) b x / u % 2 ≡ x / u % 2
unfolding set
set-below-digit u m b x h =
    let w = u * (2 * m) in
    below u m (x / w / 2 * 2 + b) (x % w) h
    ∙ sym (ap (λ j. j / u % 2) (sym (div-add-mod' x w)) ∙ below u m (x / w) (x % w) h)

pub digit-other : (n q c b x : ℕ) → q < n → c < n → c ≢ q → b < 2 → digit n c (with_digit n q b x) ≡ digit n c x
digit-other n q c b x in_q in_c other h =
    ap (λ y. digit n c y) (with_digit-is n q b x) ∙ ⊎_elim lower higher (cases_lt c q)
  where
    lower : c < q → digit n c (set (weight n q) b x) ≡ digit n c x
    lower l =
        let m = 2 ^ (q - c - 1) in
        let e = weights n c q l in_q in
        ap (λ u. set (weight n q) b x / u % 2) e ∙ ap (λ j. j % 2) (above (weight n q) m b x (weight-positive n q) h) ∙ ap (λ u. x / u % 2) (sym e)

    higher : q ≤ c → digit n c (set (weight n q) b x) ≡ digit n c x
    higher l =
        let m = 2 ^ (c - q - 1) in
        let lt : q < c = omega arith in
        ap (λ w. set w b x / weight n c % 2) (weights n q c lt in_c) ∙ set-below-digit (weight n c) m b x (weight-positive n c)

-- ---- lists by index
pub length-tabulate : {A : Type 0} (m : ℕ) (f : ℕ → A) → length (tabulate m f) ≡ m
length-tabulate zero f = refl
length-tabulate (suc m) f = let e = length-tabulate m f in length-append (tabulate m f) (f m ∷ []) ∙ (let g : length (tabulate m f) + 1 ≡ suc m = omega arith in g)

pub get_or-tabulate : {A : Type 0} (m : ℕ) (f : ℕ → A) (d : A) (x : ℕ) → x < m → get_or (tabulate m f) x d ≡ f x
get_or-tabulate zero f d x h = absurd (omega arith)
get_or-tabulate (suc m) f d x h = ⊎_elim (before (get_or-tabulate m f d x)) last (cases_lt x m)
  where
    before : (x < m → get_or (tabulate m f) x d ≡ f x) → x < m → get_or (tabulate m f ++ f m ∷ []) x d ≡ f x
    before same lt = get_or_append_left (tabulate m f) (f m ∷ []) d x (rw (length-tabulate m f) lt) ∙ same lt

    last : m ≤ x → get_or (tabulate m f ++ f m ∷ []) x d ≡ f x
    last ge =
        let e : x ≡ length (tabulate m f) = (let g : x ≡ m = omega arith in g) ∙ sym (length-tabulate m f) in
        ap (λ i. get_or (tabulate m f ++ f m ∷ []) i d) e ∙ get_or-append_seam (tabulate m f) (f m) [] d
        ∙ ap f (let g : m ≡ x = omega arith in g)

-- ---- controls
pub controlled-other : (n q b x : ℕ) (cs : List ℕ) → q < n → b < 2 → All (λ c. (c < n) × (c ≢ q)) cs → is_controlled n cs (with_digit n q b x) ≡ is_controlled n cs x
controlled-other n q b x [] in_q h all = refl
controlled-other n q b x (c ∷ cs) in_q h all =
    let here = all 0 c (omega arith) in
    let there = controlled-other n q b x cs in_q h (λ k d lt. all (suc k) d (omega arith)) in
    λ i. (digit-other n q c b x in_q here.0 here.1 h i == 1) && there i
