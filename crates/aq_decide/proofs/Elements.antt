-- Elements of lists, and lists side by side.
use Rattle.std.proofs.Common.{◌≡◌, ℕ, zero, suc, ◌<◌, Bool, true, false, cond, List, [], ◌∷◌, ◌++◌, map, filter, length, take, get_or, slice_get, slice_index_or, Option, None, Some, Any, Contains, refl, sym, ap, ◌∙◌, subst, arith, ⊎_elim}
use Rattle.std.specs.List.{AllZip, flat_map}
use Rattle.std.proofs.lemmas.List.Elements.{Contains-append_left, Contains-append_right, Contains-append_cases}

pub some_is : {A : Type 0} (x y : A) → ◌≡◌ {A = Option A} (Some x) (Some y) → x ≡ y
some_is x y e = cc

pub none_is : {A : Type 0} {B : Type 0} (x : A) → ◌≡◌ {A = Option A} None (Some x) → B
none_is x e = cc

pub no_get : {A : Type 0} (k : ℕ) → ◌≡◌ {A = Option A} (slice_get [] k) None
no_get zero = refl
no_get (suc k) = refl

pub get_contains : {A : Type 0} (xs : List A) (k : ℕ) (x : A) → slice_get xs k ≡ Some x → Contains xs x
get_contains [] k x e = none_is x (sym (no_get k) ∙ e)
get_contains (y ∷ xs) zero x e = (0, omega arith, some_is y x e)
get_contains (y ∷ xs) (suc k) x e = Contains-append_right (y ∷ []) xs x (get_contains xs k x e)

pub contains_get : {A : Type 0} (xs : List A) (x : A) → Contains xs x → (k : ℕ) × (slice_get xs k ≡ Some x)
contains_get [] x c = absurd (omega (arith, c.1))
contains_get (y ∷ xs) x c = by c.0 c.1 c.2 (contains_get xs x)
  where
    by : (k : ℕ) → k < length (y ∷ xs) → slice_index_or (y ∷ xs) k x ≡ x → (Contains xs x → (j : ℕ) × (slice_get xs j ≡ Some x)) → (j : ℕ) × (slice_get (y ∷ xs) j ≡ Some x)
    by zero lt e rest = (0, ap Some e)
    by (suc k) lt e rest = let r = rest (k, omega (arith, lt), e) in (suc r.0, r.1)

pub get_some : {A : Type 0} (xs : List A) (k : ℕ) → k < length xs → (x : A) × (slice_get xs k ≡ Some x)
get_some [] k lt = absurd (omega (arith, lt))
get_some (x ∷ xs) zero lt = (x, refl)
get_some (x ∷ xs) (suc k) lt = get_some xs k (omega (arith, lt))

-- what is read at a position
pub get_at : {A : Type 0} (xs : List A) (k : ℕ) (x : A) → k < length xs → x ≡ get_or xs k x → slice_get xs k ≡ Some x
get_at [] k x lt e = absurd (omega (arith, lt))
get_at (y ∷ xs) zero x lt e = ap Some (sym e)
get_at (y ∷ xs) (suc k) x lt e = get_at xs k x (omega (arith, lt)) e

pub get_map : {A B : Type 0} (f : A → B) (xs : List A) (k : ℕ) (x : A) → slice_get xs k ≡ Some x → slice_get (map f xs) k ≡ Some (f x)
get_map f [] k x e = none_is x (sym (no_get k) ∙ e)
get_map f (y ∷ xs) zero x e = ap (λ z. Some (f z)) (some_is y x e)
get_map f (y ∷ xs) (suc k) x e = get_map f xs k x e

pub contains_map : {A B : Type 0} (f : A → B) (xs : List A) (x : A) → Contains xs x → Contains (map f xs) (f x)
contains_map f xs x c = let g = contains_get xs x c in get_contains (map f xs) g.0 (f x) (get_map f xs g.0 x g.1)

pub any_from : {A : Type 0} (P : A → Type 0) (xs : List A) (x : A) → Contains xs x → P x → Any P xs
any_from P xs x c p = (c.0, x, c.1, c.2, p)

pub contains_flat : {A B : Type 0} (f : A → List B) (xs : List A) (y : B) → Contains (flat_map f xs) y → (x : A) × Contains xs x × Contains (f x) y
contains_flat f [] y h = absurd (omega (arith, h.1))
contains_flat f (x ∷ xs) y h = ⊎_elim
    (λ g. (x, (0, omega arith, refl), g))
    (λ g. let r = contains_flat f xs y g in (r.0, Contains-append_right (x ∷ []) xs r.0 r.1, r.2))
    (Contains-append_cases (f x) (flat_map f xs) y h)

pub flat_contains : {A B : Type 0} (f : A → List B) (xs : List A) (x : A) (y : B) → Contains xs x → Contains (f x) y → Contains (flat_map f xs) y
flat_contains f [] x y c d = absurd (omega (arith, c.1))
flat_contains f (z ∷ xs) x y c d = by c.0 c.1 c.2 (λ g. flat_contains f xs x y g d)
  where
    by : (k : ℕ) → k < length (z ∷ xs) → slice_index_or (z ∷ xs) k x ≡ x → (Contains xs x → Contains (flat_map f xs) y) → Contains (flat_map f (z ∷ xs)) y
    by zero h e next = Contains-append_left (f z) (flat_map f xs) y (subst (λ w. Contains (f w) y) (sym e) d)
    by (suc k) h e next = Contains-append_right (f z) (flat_map f xs) y (next (k, omega (arith, h), e))

-- ---- what stands in a filtered list
pub filter_in : {A : Type 0} (t : A → Bool) (xs : List A) (x : A) → Contains xs x → t x ≡ true → Contains (filter t xs) x
filter_in t [] x c e = absurd (omega (arith, c.1))
filter_in {A = A} t (y ∷ xs) x c e = by c.0 c.1 c.2 (λ d. filter_in t xs x d e)
  where
    more : (b : Bool) → Contains (filter t xs) x → Contains (cond b (y ∷ filter t xs) (filter t xs)) x
    more true d = Contains-append_right (y ∷ []) (filter t xs) x d
    more false d = d

    here : (b : Bool) → b ≡ true → y ≡ x → Contains (cond b (y ∷ filter t xs) (filter t xs)) x
    here true i d = (0, omega arith, d)
    here false i d = cc i

    by : (k : ℕ) → k < length (y ∷ xs) → slice_index_or (y ∷ xs) k x ≡ x → (Contains xs x → Contains (filter t xs) x) → Contains (filter t (y ∷ xs)) x
    by zero lt d rest = here (t y) (ap t d ∙ e) d
    by (suc k) lt d rest = more (t y) (rest (k, omega (arith, lt), d))

pub filter_out : {A : Type 0} (t : A → Bool) (xs : List A) (x : A) → Contains (filter t xs) x → Contains xs x × (t x ≡ true)
filter_out t [] x c = absurd (omega (arith, c.1))
filter_out {A = A} t (y ∷ xs) x c = by (t y) refl c (filter_out t xs x)
  where
    more : Contains xs x × (t x ≡ true) → Contains (y ∷ xs) x × (t x ≡ true)
    more d = (Contains-append_right (y ∷ []) xs x d.0, d.1)

    first : (k : ℕ) → k < length (y ∷ filter t xs) → slice_index_or (y ∷ filter t xs) k x ≡ x → t y ≡ true → (Contains (filter t xs) x → Contains xs x × (t x ≡ true)) → Contains (y ∷ xs) x × (t x ≡ true)
    first zero lt d e rest = ((0, omega arith, d), ap t (sym d) ∙ e)
    first (suc k) lt d e rest = more (rest (k, omega (arith, lt), d))

    by : (b : Bool) → t y ≡ b → Contains (cond b (y ∷ filter t xs) (filter t xs)) x → (Contains (filter t xs) x → Contains xs x × (t x ≡ true)) → Contains (y ∷ xs) x × (t x ≡ true)
    by true e d rest = first d.0 d.1 d.2 e rest
    by false e d rest = more (rest d)

-- ---- lists side by side
pub zip_right : {A B : Type 0} (R : A → B → Type 0) (xs : List A) (ys : List B) (k : ℕ) (y : B) → AllZip R xs ys → slice_get ys k ≡ Some y → (x : A) × (slice_get xs k ≡ Some x) × R x y
zip_right R [] [] k y h e = none_is y (sym (no_get k) ∙ e)
zip_right R [] (z ∷ ys) k y h e = absurd h
zip_right R (x ∷ xs) [] k y h e = absurd h
zip_right R (x ∷ xs) (z ∷ ys) zero y h e = (x, refl, subst (R x) (some_is z y e) h.0)
zip_right R (x ∷ xs) (z ∷ ys) (suc k) y h e = zip_right R xs ys k y h.1 e

pub zip_left : {A B : Type 0} (R : A → B → Type 0) (xs : List A) (ys : List B) (k : ℕ) (x : A) → AllZip R xs ys → slice_get xs k ≡ Some x → (y : B) × (slice_get ys k ≡ Some y) × R x y
zip_left R [] [] k x h e = none_is x (sym (no_get k) ∙ e)
zip_left R [] (y ∷ ys) k x h e = absurd h
zip_left R (z ∷ xs) [] k x h e = absurd h
zip_left R (z ∷ xs) (y ∷ ys) zero x h e = (y, refl, subst (λ w. R w y) (some_is z x e) h.0)
zip_left R (z ∷ xs) (y ∷ ys) (suc k) x h e = zip_left R xs ys k x h.1 e

pub zip_length : {A B : Type 0} (R : A → B → Type 0) (xs : List A) (ys : List B) → AllZip R xs ys → length xs ≡ length ys
zip_length R [] [] h = refl
zip_length R [] (y ∷ ys) h = absurd h
zip_length R (x ∷ xs) [] h = absurd h
zip_length R (x ∷ xs) (y ∷ ys) h = ap suc (zip_length R xs ys h.1)

pub zip_weaker : {A B : Type 0} (R S : A → B → Type 0) → ((x : A) (y : B) → R x y → S x y) → (xs : List A) (ys : List B) → AllZip R xs ys → AllZip S xs ys
zip_weaker R S f [] [] h = tt
zip_weaker R S f [] (y ∷ ys) h = absurd h
zip_weaker R S f (x ∷ xs) [] h = absurd h
zip_weaker R S f (x ∷ xs) (y ∷ ys) h = (f x y h.0, zip_weaker R S f xs ys h.1)

-- one more of each
pub zip_push : {A B : Type 0} (R : A → B → Type 0) (xs : List A) (ys : List B) (x : A) (y : B) → AllZip R xs ys → R x y → AllZip R (xs ++ x ∷ []) (ys ++ y ∷ [])
zip_push R [] [] x y h r = (r, tt)
zip_push R [] (z ∷ ys) x y h r = absurd h
zip_push R (z ∷ xs) [] x y h r = absurd h
zip_push R (z ∷ xs) (v ∷ ys) x y h r = (h.0, zip_push R xs ys x y h.1 r)

-- both are kept where the test of the left one says so
pub zip_take : {A B : Type 0} (R : A → B → Type 0) (xs : List A) (ys : List B) (k : ℕ) → AllZip R xs ys → AllZip R (take k xs) (take k ys)
zip_take R [] [] k h = subst (λ l. AllZip R l (take k [])) (sym (take_none k)) (subst (λ l. AllZip R [] l) (sym (take_none k)) tt)
  where
    take_none : {A : Type 0} (k : ℕ) → take {A = A} k [] ≡ []
    take_none zero = refl
    take_none (suc k) = refl
zip_take R [] (y ∷ ys) k h = absurd h
zip_take R (x ∷ xs) [] k h = absurd h
zip_take R (x ∷ xs) (y ∷ ys) zero h = tt
zip_take R (x ∷ xs) (y ∷ ys) (suc k) h = (h.0, zip_take R xs ys k h.1)
