-- Something looked for in a list, one element after the other.
use Rattle.std.proofs.Common.{◌≡◌, ℕ, suc, ◌+◌, ◌<◌, ◌≤◌, Bool, true, false, List, [], ◌∷◌, ◌++◌, map, All, Any, Contains, length, take, drop, get_or, ap, sym, ◌∙◌, subst, arith, add-one, drop-cons}
use Rattle.std.proofs.Math.Seq.{take-suc}
use Rattle.std.proofs.lemmas.List.{get_or-map, map-append, length-map, take_all, take-append-drop, length-take-le}
use Rattle.std.proofs.lemmas.List.Elements.{All-append, All-cons, All-nil}

-- what is known where some were looked at
abbrev pub SoFar : {A : Type 0} → (A → Type 0) → (A → Type 0) → Bool → List A → List A → Type 0
SoFar Is IsWide true all done = Any IsWide all
SoFar Is IsWide false all done = All (λ x. Is x → ⊥) done

pub all_one : {A : Type 0} (P : A → Type 0) (x : A) → P x → All P (x ∷ [])
all_one P x p = All-cons P x [] p (All-nil P)

-- one element more
pub take_more : {A B : Type 0} (f : A → B) (xs : List A) (i : ℕ) (x : A) → i < length xs → x ≡ get_or xs i x → map f (take (i + 1) xs) ≡ map f (take i xs) ++ f x ∷ []
take_more f xs i x h is =
    ap (λ (k : ℕ). map f (take k xs)) (add-one i) ∙ ap (map f) (take-suc xs i x h) ∙ map-append f (take i xs) (get_or xs i x ∷ []) ∙ ap (λ y. map f (take i xs) ++ f y ∷ []) (sym is)

pub all_more : {A B : Type 0} (P : B → Type 0) (f : A → B) (xs : List A) (i : ℕ) (x : A) → i < length xs → x ≡ get_or xs i x → P (f x) → All P (map f (take i xs)) → All P (map f (take (i + 1) xs))
all_more P f xs i x h is p before = subst (All P) (sym (take_more f xs i x h is)) (All-append P (map f (take i xs)) (f x ∷ []) before (all_one P (f x) p))

-- the elements before, this one and those behind
pub parts : {A B : Type 0} (f : A → B) (xs : List A) (i : ℕ) (x : A) → i < length xs → x ≡ get_or xs i x → map f xs ≡ map f (take i xs) ++ f x ∷ map f (drop (suc i) xs)
parts f xs i x h is =
    ap (map f) (sym (take-append-drop i xs)) ∙ map-append f (take i xs) (drop i xs) ∙ ap (λ l. map f (take i xs) ++ map f l) (drop-cons xs i x h)
    ∙ ap (λ y. map f (take i xs) ++ f y ∷ map f (drop (suc i) xs)) (sym is)

pub before_long : {A B : Type 0} (f : A → B) (xs : List A) (i : ℕ) → i < length xs → length (map f (take i xs)) ≡ i
before_long f xs i h = length-map (take i xs) f ∙ length-take-le i xs (omega (arith, h))

pub any_at : {A B : Type 0} (P : B → Type 0) (f : A → B) (xs : List A) (i : ℕ) (x : A) → i < length xs → x ≡ get_or xs i x → P (f x) → Any P (map f xs)
any_at P f xs i x h is p = (i, f x, omega (arith, h, length-map xs f), get_or-map f xs i x (f x) h ∙ ap f (sym is), p)

pub contains_at : {A B : Type 0} (f : A → B) (xs : List A) (i : ℕ) (x : A) → i < length xs → x ≡ get_or xs i x → Contains (map f xs) (f x)
contains_at f xs i x h is = (i, omega (arith, h, length-map xs f), get_or-map f xs i x (f x) h ∙ ap f (sym is))

pub item_at : {A : Type 0} (xs : List A) (i : ℕ) (x : A) → i < length xs → x ≡ get_or xs i x → Contains xs x
item_at xs i x h is = (i, h, sym is)

-- the property of the element at a place
pub all_at : {A : Type 0} (P : A → Type 0) (xs : List A) (i : ℕ) (x : A) → i < length xs → x ≡ get_or xs i x → All P xs → P x
all_at P xs i x h is a = subst P (sym is) (a i x h)

-- ---- a search
pub nothing_here : {A B : Type 0} (Is IsWide : B → Type 0) (f : A → B) (xs : List A) (wide : Bool) (i : ℕ) (x : A) → i < length xs → x ≡ get_or xs i x → (Is (f x) → ⊥)
    → SoFar Is IsWide wide (map f xs) (map f (take i xs)) → SoFar Is IsWide wide (map f xs) (map f (take (i + 1) xs))
nothing_here Is IsWide f xs true i x h is differs so = so
nothing_here Is IsWide f xs false i x h is differs so = all_more (λ y. Is y → ⊥) f xs i x h is differs so

pub none_at_all : {A B : Type 0} (Is : B → Type 0) (f : A → B) (xs : List A) → All (λ y. Is y → ⊥) (map f xs) → Any Is (map f xs) → ⊥
none_at_all Is f xs none a = none a.0 a.1 a.2 (subst Is (sym a.3) a.4)

-- all that were looked at are all
pub all_looked_at : {A B : Type 0} (P : B → Type 0) (f : A → B) (xs : List A) (k : ℕ) → length xs ≤ k → All P (map f (take k xs)) → All P (map f xs)
all_looked_at P f xs k h a = subst (All P) (ap (map f) (take_all k xs h)) a
