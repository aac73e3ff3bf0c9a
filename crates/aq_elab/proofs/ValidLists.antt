-- What holds where a check passes, and of the members of lists.
use Rattle.std.proofs.Common.{◌≡◌, ℕ, zero, suc, ◌+◌, ◌<◌, Bool, true, false, cond, List, [], ◌∷◌, map, length, Option, Some, None, IfSome, Ok, Err, IfOk, refl, ap, arith}
use Rattle.std.specs.Prelude.{nat_eq, not, ◌||◌, if◌then◌else◌}
use Rattle.std.specs.List.{All, AllByRecursion, IsDistinct, list_any, flat_map, position_or_len}
use Rattle.std.proofs.lemmas.List.Elements.{All-nil, All-push, All-append, All-head, All-tail}
use Rattle.std.proofs.lemmas.Map.Keys.{IsDistinct-head, IsDistinct-tail, IsDistinct-cons}
use Rattle.aq_prog.specs.Digits.{tabulate}
use Rattle.aq_base.specs.Checks.{all_checked, or_refuse, refuse_if, ◌>>=◌, ◌>>◌}
use Rattle.aq_elab.specs.Known.{Checked}
use Rattle.aq_elab.specs.Calls.{all_but_last, last}
use Rattle.aq_elab.specs.declared.fault.ElabFault.{ElabFault}

-- ---- checks

-- what follows a check holds where it holds of each value that passes
pub follows : {A B : Type 0} (P : A → Type 0) (R : B → Type 0) (c : Checked A) (f : A → Checked B) → IfOk c P → ((x : A) → P x → IfOk (f x) R) → IfOk (c >>= f) R
follows P R (Ok x) f h k = k x h
follows P R (Err e) f h k = tt

pub ahead : {B : Type 0} (P : Type 0) (R : B → Type 0) (c : Checked (Unit {0})) (next : Checked B) → IfOk c (λ u. P) → (P → IfOk next R) → IfOk (c >> next) R
ahead P R (Ok u) next h k = k h
ahead P R (Err e) next h k = tt

pub unless : {B : Type 0} (R : B → Type 0) (test : Bool) (fault : ElabFault) (next : Checked B) → (test ≡ false → IfOk next R) → IfOk (refuse_if test fault >> next) R
unless R true fault next k = tt
unless R false fault next k = k refl

pub at_test : {A : Type 0} (P : A → Type 0) (test : Bool) (c d : Checked A) → (test ≡ true → IfOk c P) → (test ≡ false → IfOk d P) → IfOk (if test then c else d) P
at_test P true c d h k = h refl
at_test P false c d h k = k refl

pub given : {A : Type 0} (P : A → Type 0) (fault : ElabFault) (o : Option A) → IfSome o P → IfOk (or_refuse fault o) P
given P fault (Some x) h = h
given P fault None h = tt

-- each value of a list of checks, and as many of them
pub record Each {A B : Type 0} (P : B → Type 0) (xs : List A) (ys : List B) : Type 0 where
  pub all : AllByRecursion P ys
  pub as_many : length xs ≡ length ys

pub each : {A B : Type 0} (P : B → Type 0) (f : A → Checked B) → ((x : A) → IfOk (f x) P) → (xs : List A) → IfOk (all_checked f xs) (Each P xs)
each P f h [] = record { all = tt; as_many = refl }
each P f h (x ∷ xs) =
    follows P (Each P (x ∷ xs)) (f x) (λ y. all_checked f xs >>= λ ys. Ok (y ∷ ys)) (h x)
    (λ y p. follows (Each P xs) (Each P (x ∷ xs)) (all_checked f xs) (λ ys. Ok (y ∷ ys)) (each P f h xs) (λ ys e. record { all = (p, e.all); as_many = ap suc e.as_many }))

-- ---- lists

pub All-tabulate : {A : Type 0} (P : A → Type 0) (m : ℕ) (f : ℕ → A) → ((i : ℕ) → i < m → P (f i)) → All P (tabulate m f)
All-tabulate P zero f h = All-nil P
All-tabulate P (suc m) f h = All-push P (tabulate m f) (f m) (All-tabulate P m f (λ i lt. h i (omega arith))) (h m (omega arith))

pub All-flat_map : {A B : Type 0} (P : B → Type 0) (f : A → List B) (xs : List A) → AllByRecursion (λ x. All P (f x)) xs → All P (flat_map f xs)
All-flat_map P f [] h = All-nil P
All-flat_map P f (x ∷ xs) h = All-append P (f x) (flat_map f xs) h.0 (All-flat_map P f xs h.1)

-- the members of a list, each with what holds of it
pub record Paired {A : Type 0} (P : A → Type 0) (xs : List A) : Type 0 where
  pub list : List ((x : A) × P x)
  pub same : map (λ (e : (x : A) × P x). e.0) list ≡ xs

pub paired_with : {A : Type 0} (P : A → Type 0) (xs : List A) → All P xs → Paired P xs
paired_with P [] h = record { list = []; same = refl }
paired_with P (x ∷ xs) h =
    let rest = paired_with P xs (All-tail P x xs h) in
    record { list = (x, All-head P x xs h) ∷ rest.list; same = ap (λ ys. x ∷ ys) rest.same }

-- ---- the last of a list, and those before it

pub holds-last : (P : ℕ → Type 0) (q : ℕ) (qs : List ℕ) → AllByRecursion P (q ∷ qs) → P (last (q ∷ qs))
holds-last P q [] h = h.0
holds-last P q (r ∷ rs) h = holds-last P r rs h.1

pub holds-all_but_last : (P : ℕ → Type 0) (qs : List ℕ) → AllByRecursion P qs → AllByRecursion P (all_but_last qs)
holds-all_but_last P [] h = tt
holds-all_but_last P (q ∷ []) h = tt
holds-all_but_last P (q ∷ r ∷ rs) h = (h.0, holds-all_but_last P (r ∷ rs) h.1)

pub IsDistinct-all_but_last : (qs : List ℕ) → IsDistinct nat_eq qs → IsDistinct nat_eq (all_but_last qs)
IsDistinct-all_but_last [] d = d
IsDistinct-all_but_last (q ∷ []) d = IsDistinct-tail nat_eq q [] d
IsDistinct-all_but_last (q ∷ r ∷ rs) d =
    IsDistinct-cons nat_eq q (all_but_last (r ∷ rs)) (holds-all_but_last _ (r ∷ rs) (IsDistinct-head nat_eq q (r ∷ rs) d))
    (IsDistinct-all_but_last (r ∷ rs) (IsDistinct-tail nat_eq q (r ∷ rs) d))

-- those before the last differ from it
pub others-differ : (q : ℕ) (qs : List ℕ) → IsDistinct nat_eq (q ∷ qs) → AllByRecursion (λ c. nat_eq c (last (q ∷ qs)) ≡ false) (all_but_last (q ∷ qs))
others-differ q [] d = tt
others-differ q (r ∷ rs) d =
    (holds-last (λ y. nat_eq q y ≡ false) r rs (IsDistinct-head nat_eq q (r ∷ rs) d), others-differ r rs (IsDistinct-tail nat_eq q (r ∷ rs) d))

pub both_hold : {A : Type 0} (P R : A → Type 0) (xs : List A) → AllByRecursion P xs → AllByRecursion R xs → AllByRecursion (λ x. P x × R x) xs
both_hold P R [] h k = tt
both_hold P R (x ∷ xs) h k = ((h.0, k.0), both_hold P R xs h.1 k.1)

pub holds_more : {A : Type 0} (P R : A → Type 0) → ((x : A) → P x → R x) → (xs : List A) → AllByRecursion P xs → AllByRecursion R xs
holds_more P R f [] h = tt
holds_more P R f (x ∷ xs) h = (f x h.0, holds_more P R f xs h.1)

-- ---- places

-- what is in a list has a place in it
pub place-below : {A : Type 0} (p : A → Bool) (xs : List A) → list_any p xs ≡ true → position_or_len p xs < length xs
place-below p [] h = absurd cc
place-below p (x ∷ xs) h = by (p x) h (place-below p xs)
  where
    by : (b : Bool) → (b || list_any p xs) ≡ true → (list_any p xs ≡ true → position_or_len p xs < length xs) → cond (not b) (1 + position_or_len p xs) 0 < suc (length xs)
    by true e below = omega arith
    by false e below = let lt = below e in omega arith
