-- Products of vectors, part by part.
use Rattle.std.proofs.Common.{◌≡◌, ℕ, zero, suc, ◌<◌, List, [], ◌∷◌, ◌++◌, length, get_or, map, refl, sym, ap, ap₂, subst, ◌∙◌, arith}
use Rattle.std.proofs.lemmas.List.{map-append, append-nil}
use Rattle.std.proofs.lemmas.List.Elements.{All-nil, All-cons, All-append, All-map, Contains-append_left, Contains-append_right}
use Rattle.std.specs.List.{flat_map, Contains}
use Rattle.std.proofs.lemmas.List.Concat.{flat_map-append}
use Rattle.aq_ring.specs.Fractions.{Amplitude}
use Rattle.aq_ring.specs.Amplitudes.{product, FitsAmplitudeProduct}
use Rattle.aq_sets.specs.Vectors.{Vector, tensor, pairs}
use Rattle.aq_set_build.specs.Products.{AllFit, IsScaled, IsTensorOf}

-- ---- members of lists
contains_later : {X : Type 0} (x y : X) (xs : List X) → Contains xs x → Contains (y ∷ xs) x
contains_later x y xs h = (suc h.0, omega (arith, h.1), h.2)

pub contains_map : {X Y : Type 0} (f : X → Y) (xs : List X) (x : X) → Contains xs x → Contains (map f xs) (f x)
contains_map f [] x h = absurd (omega (arith, h.1))
contains_map f (y ∷ ys) x h = by h.0 h.1 h.2 (contains_map f ys x)
  where
    by : (k : ℕ) → k < length (y ∷ ys) → get_or (y ∷ ys) k x ≡ x → (Contains ys x → Contains (map f ys) (f x)) → Contains (map f (y ∷ ys)) (f x)
    by zero lt e rest = (0, omega arith, ap f e)
    by (suc k) lt e rest = contains_later (f x) (f y) (map f ys) (rest (k, omega (arith, lt), e))

pub contains_flat : {X Y : Type 0} (f : X → List Y) (xs : List X) (x : X) (y : Y) → Contains xs x → Contains (f x) y → Contains (flat_map f xs) y
contains_flat f [] x y h g = absurd (omega (arith, h.1))
contains_flat f (z ∷ zs) x y h g = by h.0 h.1 h.2 (contains_flat f zs x y)
  where
    by : (k : ℕ) → k < length (z ∷ zs) → get_or (z ∷ zs) k x ≡ x → (Contains zs x → Contains (f x) y → Contains (flat_map f zs) y) → Contains (flat_map f (z ∷ zs)) y
    by zero lt e rest = Contains-append_left (f z) (flat_map f zs) y (subst (λ u. Contains (f u) y) (sym e) g)
    by (suc k) lt e rest = Contains-append_right (f z) (flat_map f zs) y (rest (k, omega (arith, lt), e) g)

pub contains_one : {X : Type 0} (x : X) → Contains (x ∷ []) x
contains_one x = (0, omega arith, refl)

-- an entry of each vector
pub contains_pair : (u w : Vector) (a b : Amplitude) → Contains u a → Contains w b → Contains (pairs u w) (a, b)
contains_pair u w a b h g = contains_flat (λ x. map (λ y. (x, y)) w) u a (a, b) h (contains_map (λ y. (a, y)) w b g)

-- ---- a factor
pub scaled_none : (a : Amplitude) → IsScaled a [] []
scaled_none a = record { is = refl; fits = All-nil (FitsAmplitudeProduct a) }

pub scaled_one : (a b c : Amplitude) → FitsAmplitudeProduct a b → c ≡ product a b → IsScaled a (b ∷ []) (c ∷ [])
scaled_one a b c fits is = record { is = ap (λ x. x ∷ []) is; fits = All-cons (FitsAmplitudeProduct a) b [] fits (All-nil (FitsAmplitudeProduct a)) }

pub scaled_both : (a : Amplitude) (u w v z : Vector) → IsScaled a u v → IsScaled a w z → IsScaled a (u ++ w) (v ++ z)
scaled_both a u w v z h g = record {
  is = ap₂ (λ l r. l ++ r) h.is g.is ∙ sym (map-append (product a) u w);
  fits = All-append (FitsAmplitudeProduct a) u w h.fits g.fits;
}

-- ---- tensor products
abbrev pub Fits : Amplitude × Amplitude → Type 0
Fits p = FitsAmplitudeProduct p.0 p.1

pub tensor_none : (w : Vector) → IsTensorOf [] w []
unfolding tensor
tensor_none w = record { is = refl; fits = All-nil Fits }

-- the product with a vector of one entry
pub tensor_one : (a : Amplitude) (w v : Vector) → IsScaled a w v → IsTensorOf (a ∷ []) w v
unfolding tensor
tensor_one a w v h = record {
  is = h.is ∙ sym (append-nil (map (product a) w));
  fits = All-append Fits (map (λ b. (a, b)) w) [] (All-map Fits (λ b. (a, b)) w h.fits) (All-nil Fits);
}

pub tensor_both : (u w x v z : Vector) → IsTensorOf u x v → IsTensorOf w x z → IsTensorOf (u ++ w) x (v ++ z)
unfolding tensor
tensor_both u w x v z h g = record {
  is = ap₂ (λ l r. l ++ r) h.is g.is ∙ sym (flat_map-append (λ a. map (product a) x) u w);
  fits = subst AllFit (sym (flat_map-append (λ a. map (λ b. (a, b)) x) u w)) (All-append Fits (pairs u x) (pairs w x) h.fits g.fits);
}
