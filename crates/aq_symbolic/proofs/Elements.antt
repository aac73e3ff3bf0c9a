-- Elements of lists that are put together.
use Rattle.std.proofs.Common.{◌≡◌, ℕ, zero, suc, ◌<◌, ⊎_elim, Bool, true, false, cond, List, [], ◌∷◌, ◌++◌, map, filter, All, Contains, length, get_or, refl, sym, ap, subst, ◌∙◌, arith}
use Rattle.std.specs.List.{flat_map}
use Rattle.std.proofs.lemmas.List.Elements.{All-cons, All-head, All-tail, All-nil, Contains-append_left, Contains-append_right, Contains-append_cases}

pub first_in : {A : Type 0} (x : A) (xs : List A) → Contains (x ∷ xs) x
first_in x xs = (0, omega arith, refl)

pub rest_in : {A : Type 0} (z : A) (xs : List A) (x : A) → Contains xs x → Contains (z ∷ xs) x
rest_in z xs x c = Contains-append_right (z ∷ []) xs x c

-- an element of a list of one is that one
pub one_is : {A : Type 0} (x y : A) → Contains (x ∷ []) y → x ≡ y
one_is x y c = by c.0 c.1 c.2
  where
    by : (k : ℕ) → k < 1 → get_or (x ∷ []) k y ≡ y → x ≡ y
    by zero h e = e
    by (suc k) h e = absurd (omega (arith, h))

pub contains_map : {A B : Type 0} (f : A → B) (xs : List A) (x : A) → Contains xs x → Contains (map f xs) (f x)
contains_map f [] x h = absurd (omega (arith, h.1))
contains_map f (y ∷ ys) x h = by_place h.0 h.1 h.2 (λ g. contains_map f ys x g)
  where
    by_place : (k : ℕ) → k < length (y ∷ ys) → get_or (y ∷ ys) k x ≡ x → (Contains ys x → Contains (map f ys) (f x)) → Contains (map f (y ∷ ys)) (f x)
    by_place zero h e next = (0, omega arith, ap f e)
    by_place (suc k) h e next = Contains-append_right (f y ∷ []) (map f ys) (f x) (next (k, omega (arith, h), e))

-- where an element of a list that is put together comes from
pub contains_flat : {A B : Type 0} (f : A → List B) (xs : List A) (y : B) → Contains (flat_map f xs) y → (x : A) × Contains xs x × Contains (f x) y
contains_flat f [] y h = absurd (omega (arith, h.1))
contains_flat f (x ∷ xs) y h = ⊎_elim
    (λ g. (x, first_in x xs, g))
    (λ g. let r = contains_flat f xs y g in (r.0, rest_in x xs r.0 r.1, r.2))
    (Contains-append_cases (f x) (flat_map f xs) y h)

pub flat_contains : {A B : Type 0} (f : A → List B) (xs : List A) (x : A) (y : B) → Contains xs x → Contains (f x) y → Contains (flat_map f xs) y
flat_contains f [] x y c d = absurd (omega (arith, c.1))
flat_contains f (z ∷ xs) x y c d = by_place c.0 c.1 c.2 (λ g. flat_contains f xs x y g d)
  where
    by_place : (k : ℕ) → k < length (z ∷ xs) → get_or (z ∷ xs) k x ≡ x → (Contains xs x → Contains (flat_map f xs) y) → Contains (flat_map f (z ∷ xs)) y
    by_place zero h e next = Contains-append_left (f z) (flat_map f xs) y (subst (λ w. Contains (f w) y) (sym e) d)
    by_place (suc k) h e next = Contains-append_right (f z) (flat_map f xs) y (next (k, omega (arith, h), e))

-- elements that pass a test
pub contains_filter : {A : Type 0} (t : A → Bool) (xs : List A) (x : A) → Contains xs x → t x ≡ true → Contains (filter t xs) x
contains_filter t [] x c e = absurd (omega (arith, c.1))
contains_filter t (z ∷ xs) x c e = ⊎_elim
    (λ g. let is = one_is z x g in kept (t z) (ap t is ∙ e) (subst (λ w. Contains (w ∷ filter t xs) x) (sym is) (first_in x (filter t xs))))
    (λ g. later (t z) (contains_filter t xs x g e))
    (Contains-append_cases (z ∷ []) xs x c)
  where
    kept : (b : Bool) → b ≡ true → Contains (z ∷ filter t xs) x → Contains (cond b (z ∷ filter t xs) (filter t xs)) x
    kept b e h = subst (λ d. Contains (cond d (z ∷ filter t xs) (filter t xs)) x) (sym e) h

    later : (b : Bool) → Contains (filter t xs) x → Contains (cond b (z ∷ filter t xs) (filter t xs)) x
    later true h = rest_in z (filter t xs) x h
    later false h = h

pub filter_contains : {A : Type 0} (t : A → Bool) (xs : List A) (x : A) → Contains (filter t xs) x → Contains xs x
filter_contains t [] x h = h
filter_contains t (z ∷ xs) x h = by_test (t z) (λ g. filter_contains t xs x g) h
  where
    by_test : (b : Bool) → (Contains (filter t xs) x → Contains xs x) → Contains (cond b (z ∷ filter t xs) (filter t xs)) x → Contains (z ∷ xs) x
    by_test true rest h = ⊎_elim (λ g. Contains-append_left (z ∷ []) xs x g) (λ g. rest_in z xs x (rest g)) (Contains-append_cases (z ∷ []) (filter t xs) x h)
    by_test false rest h = rest_in z xs x (rest h)

pub all_left : {X : Type 0} (P : X → Type 0) (xs ys : List X) → All P (xs ++ ys) → All P xs
all_left P [] ys h = All-nil P
all_left P (x ∷ xs) ys h = All-cons P x xs (All-head P x (xs ++ ys) h) (all_left P xs ys (All-tail P x (xs ++ ys) h))

pub all_right : {X : Type 0} (P : X → Type 0) (xs ys : List X) → All P (xs ++ ys) → All P ys
all_right P [] ys h = h
all_right P (x ∷ xs) ys h = all_right P xs ys (All-tail P x (xs ++ ys) h)
