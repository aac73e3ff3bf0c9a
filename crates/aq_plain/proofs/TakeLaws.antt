-- Products that are taken one after the other.
use Rattle.std.proofs.Common.{◌≡◌, ℕ, zero, suc, ◌+◌, ◌-◌, ◌<◌, ◌≤◌, ⊎_elim, List, [], ◌∷◌, ◌++◌, length, get_or, take, refl, sym, ap, ◌∙◌, subst, arith}
use Rattle.std.specs.Prelude.{map}
use Rattle.std.specs.List.{All, Contains, flat_map}
use Rattle.std.proofs.lemmas.List.{append-nil, take_more, take_at, drop_at, map_more}
use Rattle.std.proofs.lemmas.List.Concat.{flat_map-append}
use Rattle.std.proofs.lemmas.List.Elements.{All-nil, All-cons, All-append, All-take, All-drop, Contains-append_left, Contains-append_right, Contains-append_cases}
use Rattle.aq_ring.specs.Fractions.{Amplitude}
use Rattle.aq_ring.specs.Amplitudes.{product, FitsAmplitudeProduct}
use Rattle.aq_sets.specs.Vectors.{Vector, Listed, listed, tensor, tensors, all_pairs, power}
use Rattle.aq_plain.specs.Listing.{Operands, AllFit, IsWideAmong, StopsAmong}
use Rattle.aq_plain.specs.declared.stop.VectorStop.{VectorStop}
use Rattle.aq_plain.specs.declared.stop.VectorStop.TheVariants as stop

-- ---- products that fit

abbrev pub Fits : Operands → Type 0
Fits p = FitsAmplitudeProduct p.0 p.1

pub fit_none : AllFit []
fit_none = record { each = All-nil Fits }

pub fit_one : (left right : Amplitude) → FitsAmplitudeProduct left right → AllFit ((left, right) ∷ [])
fit_one left right h = record { each = All-cons Fits (left, right) [] h (All-nil Fits) }

pub fit_append : (xs ys : List Operands) → AllFit xs → AllFit ys → AllFit (xs ++ ys)
fit_append xs ys p q = record { each = All-append Fits xs ys p.each q.each }

pub fit_same : (xs ys : List Operands) → xs ≡ ys → AllFit xs → AllFit ys
fit_same xs ys e h = subst AllFit e h

fit_front : (xs ys : List Operands) → AllFit (xs ++ ys) → AllFit xs
fit_front xs ys p = record { each = subst (λ (zs : List Operands). All Fits zs) (take_at xs ys (length xs) refl) (All-take Fits (length xs) (xs ++ ys) p.each) }

fit_back : (xs ys : List Operands) → AllFit (xs ++ ys) → AllFit ys
fit_back xs ys p = record { each = subst (λ (zs : List Operands). All Fits zs) (drop_at xs ys (length xs) refl) (All-drop Fits (length xs) (xs ++ ys) p.each) }

-- ---- products that don't

pub stops_left : (xs ys : List Operands) (e : VectorStop) → StopsAmong xs e → StopsAmong (xs ++ ys) e
stops_left xs ys (stop.Wide left right) h = record { member = Contains-append_left xs ys (left, right) h.member; wide = h.wide }
stops_left xs ys stop.TooMany h = h
stops_left xs ys stop.Memory h = h

pub stops_right : (xs ys : List Operands) (e : VectorStop) → StopsAmong ys e → StopsAmong (xs ++ ys) e
stops_right xs ys (stop.Wide left right) h = record { member = Contains-append_right xs ys (left, right) h.member; wide = h.wide }
stops_right xs ys stop.TooMany h = h
stops_right xs ys stop.Memory h = h

pub stops_same : (xs ys : List Operands) (e : VectorStop) → xs ≡ ys → StopsAmong xs e → StopsAmong ys e
stops_same xs ys e s h = subst (λ (zs : List Operands). StopsAmong zs e) s h

pub stops_memory : (xs : List Operands) (e : VectorStop) → e ≡ stop.Memory → StopsAmong xs e
stops_memory xs e s = subst (λ (z : VectorStop). StopsAmong xs z) (sym s) tt

-- ---- one more of a list

pub flat_map_take_more : {A B : Type 0} (f : A → List B) (xs : List A) (i : ℕ) (x : A) → i < length xs → x ≡ get_or xs i x
    → flat_map f (take i xs) ++ f x ≡ flat_map f (take (i + 1) xs)
flat_map_take_more f xs i x lt is =
    ap (λ ys. flat_map f (take i xs) ++ ys) (sym (append-nil (f x)))
    ∙ sym (ap (flat_map f) (take_more xs i x lt ∙ ap (λ y. take i xs ++ y ∷ []) (sym is)) ∙ flat_map-append f (take i xs) (x ∷ []))

pub map_take_more : {A B : Type 0} (f : A → B) (xs : List A) (i : ℕ) (x : A) → i < length xs → x ≡ get_or xs i x
    → map f (take i xs) ++ f x ∷ [] ≡ map f (take (i + 1) xs)
map_take_more f xs i x lt is = ap (λ y. map f (take i xs) ++ f y ∷ []) is ∙ sym (map_more f xs i x lt)

-- what is among the products of one of a list is among all
pub stops_at : {A : Type 0} (f : A → List Operands) (xs : List A) (i : ℕ) (x : A) (e : VectorStop) → i < length xs → x ≡ get_or xs i x
    → StopsAmong (f x) e → StopsAmong (flat_map f xs) e
stops_at f [] i x e lt is h = absurd (omega arith)
stops_at f (y ∷ ys) zero x e lt is h = stops_left (f y) (flat_map f ys) e (stops_same (f x) (f y) e (ap f is) h)
stops_at f (y ∷ ys) (suc i) x e lt is h = stops_right (f y) (flat_map f ys) e (stops_at f ys i x e (omega arith) is h)

pub wide_at : {A : Type 0} (f : A → Operands) (xs : List A) (i : ℕ) (x : A) (left right : Amplitude) → i < length xs → x ≡ get_or xs i x
    → (left, right) ≡ f x → (FitsAmplitudeProduct left right → ⊥) → IsWideAmong (map f xs) left right
wide_at f [] i x left right lt is e h = absurd (omega arith)
wide_at f (y ∷ ys) zero x left right lt is e h = record { member = (0, omega arith, sym (e ∙ ap f is)); wide = h }
wide_at f (y ∷ ys) (suc i) x left right lt is e h =
    let rest = wide_at f ys i x left right (omega arith) is e h in
    record { member = Contains-append_right (f y ∷ []) (map f ys) (left, right) rest.member; wide = h }

-- ---- tensors

pub tensor_none : (v : Vector) → [] ≡ tensor [] v
unfolding tensor
tensor_none v = refl

pub tensor_more : (u v : Vector) (i : ℕ) (a : Amplitude) → i < length u → a ≡ get_or u i a → tensor (take i u) v ++ map (product a) v ≡ tensor (take (i + 1) u) v
unfolding tensor
tensor_more u v i a lt is = flat_map_take_more (λ b. map (product b) v) u i a lt is

-- ---- powers

-- the products of a power are among those of a larger one
pub power_more : (base : Listed) (j k : ℕ) (e : VectorStop) → StopsAmong (power (suc j) base).products e → StopsAmong (power (suc (j + k)) base).products e
power_more base j zero e h = let s : j ≡ j + 0 = omega arith in subst (λ (n : ℕ). StopsAmong (power (suc n) base).products e) s h
power_more base j (suc k) e h =
    let s : suc (j + k) ≡ j + suc k = omega arith in
    subst (λ (n : ℕ). StopsAmong (power (suc n) base).products e) s
    (stops_left (power (suc (j + k)) base).products (base.products ++ all_pairs (power (suc (j + k)) base).vectors base.vectors) e (power_more base j k e h))

pub stops_power : (base : Listed) (i n : ℕ) (e : VectorStop) → 0 < i → i ≤ n → StopsAmong (power i base).products e → StopsAmong (power n base).products e
stops_power base zero n e some le h = absurd (omega arith)
stops_power base (suc j) n e some le h =
    let s : suc (j + (n - suc j)) ≡ n = omega arith in
    subst (λ (m : ℕ). StopsAmong (power m base).products e) s (power_more base j (n - suc j) e h)

-- one more factor, of vectors whose own products are taken
pub power_next : (vs : List Vector) (i j : ℕ) → 0 < i → j ≡ i + 1
    → (tensors (power i (listed vs)).vectors vs ≡ (power j (listed vs)).vectors) × ((power i (listed vs)).products ++ all_pairs (power i (listed vs)).vectors vs ≡ (power j (listed vs)).products)
power_next vs zero j some e = absurd (omega arith)
power_next vs (suc i) j some e =
    let s : suc (suc i) ≡ j = omega arith in
    (ap (λ n. (power n (listed vs)).vectors) s, ap (λ n. (power n (listed vs)).products) s)

-- the power of vectors, and of what lists them
pub power_vectors : (base : Listed) (n : ℕ) → (power n (listed base.vectors)).vectors ≡ (power n base).vectors
power_vectors base zero = refl
power_vectors base (suc zero) = refl
power_vectors base (suc (suc n)) = ap (λ vs. tensors vs base.vectors) (power_vectors base (suc n))

pub fit_power : (base : Listed) (n : ℕ) → AllFit base.products → AllFit (power n (listed base.vectors)).products → AllFit (power n base).products
fit_power base zero own h = h
fit_power base (suc zero) own h = own
fit_power base (suc (suc n)) own h =
    let front = fit_front (power (suc n) (listed base.vectors)).products (all_pairs (power (suc n) (listed base.vectors)).vectors base.vectors) h in
    let back = fit_back (power (suc n) (listed base.vectors)).products (all_pairs (power (suc n) (listed base.vectors)).vectors base.vectors) h in
    fit_append (power (suc n) base).products (base.products ++ all_pairs (power (suc n) base).vectors base.vectors)
    (fit_power base (suc n) own front)
    (fit_append base.products (all_pairs (power (suc n) base).vectors base.vectors) own
    (subst (λ (vs : List Vector). AllFit (all_pairs vs base.vectors)) (power_vectors base (suc n)) back))

pub stops_split : (xs ys zs : List Operands) (e : VectorStop) → (StopsAmong xs e → StopsAmong zs e) → (StopsAmong ys e → StopsAmong zs e) → StopsAmong (xs ++ ys) e → StopsAmong zs e
stops_split xs ys zs (stop.Wide left right) f g h =
    ⊎_elim (λ (m : Contains xs (left, right)). f (record { member = m; wide = h.wide })) (λ (m : Contains ys (left, right)). g (record { member = m; wide = h.wide }))
    (Contains-append_cases xs ys (left, right) h.member)
stops_split xs ys zs stop.TooMany f g h = f h
stops_split xs ys zs stop.Memory f g h = f h

pub stops_power_of : (base : Listed) (n : ℕ) (e : VectorStop) → StopsAmong (power n (listed base.vectors)).products e → StopsAmong (power n base).products e
stops_power_of base zero e h = h
stops_power_of base (suc zero) e h = stops_left [] base.products e h
stops_power_of base (suc (suc n)) e h =
    let own = (power (suc n) base).products in
    let last = all_pairs (power (suc n) base).vectors base.vectors in
    stops_split (power (suc n) (listed base.vectors)).products (all_pairs (power (suc n) (listed base.vectors)).vectors base.vectors) (own ++ (base.products ++ last)) e
    (λ p. stops_left own (base.products ++ last) e (stops_power_of base (suc n) e p))
    (λ p. stops_right own (base.products ++ last) e (stops_right base.products last e
    (subst (λ (vs : List Vector). StopsAmong (all_pairs vs base.vectors) e) (power_vectors base (suc n)) p)))
    h

-- ---- steps of loops

pub fit_more : (left : Amplitude) (right : Vector) (i : ℕ) (a : Amplitude) → i < length right → a ≡ get_or right i a
    → AllFit (map (λ b. (left, b)) (take i right) ++ (left, a) ∷ []) → AllFit (map (λ b. (left, b)) (take (i + 1) right))
fit_more left right i a lt is h = fit_same _ _ (map_take_more (λ b. (left, b)) right i a lt is) h
