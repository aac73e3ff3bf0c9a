-- Vectors that stand at places of a list of vectors, as they are acted on.
use Rattle.std.proofs.Common.{◌≡◌, ℕ, zero, suc, ◌<◌, Bool, true, false, not, cond, ◌&&◌, List, [], ◌∷◌, ◌++◌, map, filter, length, slice_get, Option, None, Some, Contains, refl, sym, ap, ◌∙◌, subst, arith}
use Rattle.std.specs.List.{AllByRecursion, AllZip, flat_map, list_all}
use Rattle.std.proofs.lemmas.List.{length-map}
use Rattle.std.proofs.lemmas.List.Concat.{flat_map-append}
use Rattle.std.proofs.lemmas.List.Elements.{filter-append}
use Rattle.std.proofs.lemmas.Option.{slice_get_within}
use Rattle.aq_ring.specs.Fractions.{Amplitude}
use Rattle.aq_ring.specs.Vectors.{is_zero_vector}
use Rattle.aq_obligations.specs.Worlds.{World, Spread, either, in_worlds, split}
use Rattle.aq_correct.specs.WorldLaws.{is_alive}
use Rattle.aq_correct.proofs.NoughtLaws.{nought_worlds}
use Rattle.aq_decide.proofs.Elements.{contains_get, get_map, some_is, none_is, no_get, zip_left, zip_right}
use Rattle.aq_decide.proofs.TwinLemmas.{AreTwins, IsTwin}

-- each of the first vectors stands at its place in the second list, which has so many
pub record Stands (places : List ℕ) (count : ℕ) (vs us : List (List Amplitude)) : Type 0 where
  pub each : AllZip (λ p v. slice_get us p ≡ Some v) places vs
  pub long : length us ≡ count

map_each : (f : List Amplitude → List Amplitude) (places : List ℕ) (vs us : List (List Amplitude)) → AllZip (λ p v. slice_get us p ≡ Some v) places vs
    → AllZip (λ p v. slice_get (map f us) p ≡ Some v) places (map f vs)
map_each f [] [] us h = tt
map_each f [] (v ∷ vs) us h = absurd h
map_each f (p ∷ places) [] us h = absurd h
map_each f (p ∷ places) (v ∷ vs) us h = (get_map f us p v h.0, map_each f places vs us h.1)

pub stands_closed : (places : List ℕ) (count : ℕ) (f : List Amplitude → List Amplitude) (vs us : List (List Amplitude)) → Stands places count vs us → Stands places count (map f vs) (map f us)
stands_closed places count f vs us h = record { each = map_each f places vs us h.each; long = length-map us f ∙ h.long }

-- ---- all zero
and_true : (a b : Bool) → (a && b) ≡ true → (a ≡ true) × (b ≡ true)
and_true true b e = (refl, e)
and_true false b e = cc e

both_true : (a b : Bool) → a ≡ true → b ≡ true → (a && b) ≡ true
both_true true b e f = f
both_true false b e f = cc e

all_get : {A : Type 0} (t : A → Bool) (xs : List A) (k : ℕ) (x : A) → list_all t xs ≡ true → slice_get xs k ≡ Some x → t x ≡ true
all_get t [] k x e g = none_is x (sym (no_get k) ∙ g)
all_get t (y ∷ xs) zero x e g = ap t (sym (some_is y x g)) ∙ (and_true (t y) (list_all t xs) e).0
all_get t (y ∷ xs) (suc k) x e g = all_get t xs k x (and_true (t y) (list_all t xs) e).1 g

get_all : {A : Type 0} (t : A → Bool) (xs : List A) → ((k : ℕ) (x : A) → slice_get xs k ≡ Some x → t x ≡ true) → list_all t xs ≡ true
get_all t [] h = refl
get_all t (x ∷ xs) h = both_true (t x) (list_all t xs) (h 0 x refl) (get_all t xs (λ k y e. h (suc k) y e))

same_truth : (a b : Bool) → (a ≡ true → b ≡ true) → (b ≡ true → a ≡ true) → a ≡ b
same_truth true true f g = refl
same_truth true false f g = sym (f refl)
same_truth false true f g = g refl
same_truth false false f g = refl

-- every place is one of these
abbrev pub AreAll : List ℕ → ℕ → Type 0
AreAll places count = (k : ℕ) → k < count → Contains places k

same_zero : (places : List ℕ) (count : ℕ) (vs us : List (List Amplitude)) → AreAll places count → Stands places count vs us → list_all is_zero_vector vs ≡ list_all is_zero_vector us
same_zero places count vs us all h = same_truth (list_all is_zero_vector vs) (list_all is_zero_vector us)
    (λ e. get_all is_zero_vector us (λ k u g.
    let c = contains_get places k (all k (let n = slice_get_within us k u g in let l = h.long in omega (arith, n, l))) in
    let z = zip_left (λ p v. slice_get us p ≡ Some v) places vs c.0 k h.each c.1 in
    ap is_zero_vector (some_is u z.0 (sym g ∙ z.2)) ∙ all_get is_zero_vector vs c.0 z.0 e z.1))
    (λ e. get_all is_zero_vector vs (λ k v g.
    let z = zip_right (λ p v. slice_get us p ≡ Some v) places vs k v h.each g in
    all_get is_zero_vector us z.0 v e z.2))

pub same_alive : (places : List ℕ) (count : ℕ) (w u : World) → AreAll places count → IsTwin (Stands places count) w u → is_alive w ≡ is_alive u
same_alive places count w u all t = ap not (same_zero places count w.vectors u.vectors all t.vectors)

pub alive_twins : (places : List ℕ) (count : ℕ) → AreAll places count → (ws us : List World) → AreTwins (Stands places count) ws us
    → AreTwins (Stands places count) (filter is_alive ws) (filter is_alive us)
alive_twins places count all [] [] h = tt
alive_twins places count all [] (u ∷ us) h = absurd h
alive_twins places count all (w ∷ ws) [] h = absurd h
alive_twins places count all (w ∷ ws) (u ∷ us) h =
    subst (λ b. AreTwins (Stands places count) (filter is_alive (w ∷ ws)) (cond b (u ∷ filter is_alive us) (filter is_alive us))) (same_alive places count w u all h.0)
    (by (is_alive w) (alive_twins places count all ws us h.1))
  where
    by : (b : Bool) → AreTwins (Stands places count) (filter is_alive ws) (filter is_alive us)
        → AreTwins (Stands places count) (cond b (w ∷ filter is_alive ws) (filter is_alive ws)) (cond b (u ∷ filter is_alive us) (filter is_alive us))
    by true rest = (h.0, rest)
    by false rest = rest

-- ---- decisions leave a world as alive as it is
abbrev Lives : World → Type 0
Lives w = is_alive w ≡ true

each_append : {A : Type 0} (P : A → Type 0) (xs ys : List A) → AllByRecursion P xs → AllByRecursion P ys → AllByRecursion P (xs ++ ys)
each_append P [] ys h g = g
each_append P (x ∷ xs) ys h g = (h.0, each_append P xs ys h.1 g)

each_flat : {A B : Type 0} (P : A → Type 0) (Q : B → Type 0) (f : A → List B) → ((x : A) → P x → AllByRecursion Q (f x)) → (xs : List A) → AllByRecursion P xs → AllByRecursion Q (flat_map f xs)
each_flat P Q f step [] h = tt
each_flat P Q f step (x ∷ xs) h = each_append Q (f x) (flat_map f xs) (step x h.0) (each_flat P Q f step xs h.1)

lives_split : (k : ℕ) (w : World) → Lives w → AllByRecursion Lives (split k w)
lives_split k w e = by (slice_get w.bits k)
  where
    by : (x : Option (Option Bool)) → AllByRecursion Lives (either k x w)
    by None = (e, tt)
    by (Some None) = (e, (e, tt))
    by (Some (Some b)) = (e, tt)

lives_decided : (bits : List ℕ) (w : World) → Lives w → AllByRecursion Lives (in_worlds (map split bits) w)
lives_decided [] w e = (e, tt)
lives_decided (k ∷ bits) w e = each_flat Lives Lives (in_worlds (map split bits)) (lives_decided bits) (split k w) (lives_split k w e)

filter_lives : (ws : List World) → AllByRecursion Lives (filter is_alive ws)
filter_lives [] = tt
filter_lives (w ∷ ws) = by (is_alive w) refl (filter_lives ws)
  where
    by : (b : Bool) → is_alive w ≡ b → AllByRecursion Lives (filter is_alive ws) → AllByRecursion Lives (cond b (w ∷ filter is_alive ws) (filter is_alive ws))
    by true e rest = (e, rest)
    by false e rest = rest

filter_all : (ws : List World) → AllByRecursion Lives ws → filter is_alive ws ≡ ws
filter_all [] h = refl
filter_all (w ∷ ws) h = ap (λ (b : Bool). cond b (w ∷ filter is_alive ws) (filter is_alive ws)) h.0 ∙ ap (λ (l : List World). w ∷ l) (filter_all ws h.1)

-- so those that aren't may be left out before
pub decided_alive : (bits : List ℕ) (ws : List World) → flat_map (in_worlds (map split bits)) (filter is_alive ws) ≡ filter is_alive (flat_map (in_worlds (map split bits)) ws)
decided_alive bits ws =
    sym (filter_all (flat_map (in_worlds (map split bits)) (filter is_alive ws)) (each_flat Lives Lives (in_worlds (map split bits)) (lives_decided bits) (filter is_alive ws) (filter_lives ws)))
    ∙ nought_worlds.dropped_at_end bits ws

-- world by world
pub from_each : (A B : Spread) (ws : List World) → filter is_alive (flat_map A (flat_map B ws)) ≡ flat_map (λ w. filter is_alive (flat_map A (B w))) ws
from_each A B [] = refl
from_each A B (w ∷ ws) =
    ap (filter is_alive) (flat_map-append A (B w) (flat_map B ws)) ∙ filter-append is_alive (flat_map A (B w)) (flat_map A (flat_map B ws))
    ∙ ap (λ (l : List World). filter is_alive (flat_map A (B w)) ++ l) (from_each A B ws)
