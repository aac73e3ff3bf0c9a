-- The bits with which a case may start, and what its world knows of them.
use Rattle.std.proofs.Common.{◌≡◌, ℕ, zero, suc, Bool, true, false, not, cond, ◌&&◌, List, [], ◌∷◌, ◌++◌, length, replicate, All, Option, Some, None, IfSome, slice_get, slice_set, refl, ap, sym, ◌∙◌, subst, arith}
use Rattle.std.specs.Option.{option_and_then, option_map_or}
use Rattle.std.proofs.lemmas.List.Elements.{All-cons, All-head, All-tail}
use Rattle.aq_prog.specs.Runs.{has_bit}
use Rattle.aq_prog.specs.declared.stmt.Guard.{Guard}
use Rattle.aq_obligations.specs.Claims.{are_met}
use Rattle.aq_obligations.specs.Worlds.{Partial, agrees, fixing, fixing_as, given_guards, filled}
use Rattle.aq_obligations.specs.Covering.{is_value, matches}
use Rattle.aq_correct.proofs.StoreLaws.{Stored, none, known, free}

pub and_true : (u v : Bool) → (u && v) ≡ true → (u ≡ true) × (v ≡ true)
and_true true true e = (refl, refl)
and_true true false e = cc
and_true false v e = cc

and_assoc : (u v w : Bool) → ((u && v) && w) ≡ (u && (v && w))
and_assoc true v w = refl
and_assoc false v w = refl

and_comm : (u v : Bool) → (u && v) ≡ (v && u)
and_comm true true = refl
and_comm true false = refl
and_comm false true = refl
and_comm false false = refl

some_is : {A : Type 0} (x y : A) → ◌≡◌ {A = Option A} (Some x) (Some y) → x ≡ y
some_is x y e = cc

-- bits that match have what is known
is_same : (x b : Bool) → is_value (Some x) b ≡ true → b ≡ x
is_same true true e = refl
is_same true false e = cc
is_same false true e = cc
is_same false false e = refl

pub known_read : (p : Partial) (bits : List Bool) (k : ℕ) (b : Bool) → slice_get p k ≡ Some (Some b) → matches p bits ≡ true → slice_get bits k ≡ Some b
known_read [] bits k b e m = cc
known_read (q ∷ p) [] k b e m = cc
known_read (q ∷ p) (c ∷ bits) zero b e m =
    let s : q ≡ Some b = some_is q (Some b) e in
    ap Some (is_same b c (subst (λ (x : Option Bool). is_value x c ≡ true) s (and_true (is_value q c) (matches p bits) m).0))
known_read (q ∷ p) (c ∷ bits) (suc k) b e m = known_read p bits k b e (and_true (is_value q c) (matches p bits) m).1

pub past_read : (p : Partial) (bits : List Bool) (k : ℕ) → slice_get p k ≡ None → matches p bits ≡ true → slice_get bits k ≡ None
past_read [] [] k e m = refl
past_read [] (c ∷ bits) k e m = cc
past_read (q ∷ p) [] k e m = cc
past_read (q ∷ p) (c ∷ bits) zero e m = cc
past_read (q ∷ p) (c ∷ bits) (suc k) e m = past_read p bits k e (and_true (is_value q c) (matches p bits) m).1

-- a bit more is known
matches-set : (p : Partial) (bits : List Bool) (g : Guard) (k : ℕ) → slice_get p k ≡ Some None
    → matches (slice_set p k (Some g.value)) bits ≡ (matches p bits && option_map_or (λ b. cond g.value b (not b)) (slice_get bits k) false)
matches-set [] bits g k e = cc
matches-set (q ∷ p) [] g zero e = refl
matches-set (q ∷ p) [] g (suc k) e = refl
matches-set (q ∷ p) (b ∷ bits) g zero e =
    and_comm (cond g.value b (not b)) (matches p bits)
    ∙ ap (λ (x : Option Bool). (is_value x b && matches p bits) && cond g.value b (not b)) (sym (some_is q None e))
matches-set (q ∷ p) (b ∷ bits) g (suc k) e =
    ap (λ (x : Bool). is_value q b && x) (matches-set p bits g k e) ∙ sym (and_assoc (is_value q b) (matches p bits) _)

abbrev pub matches_known : Option Partial → List Bool → Bool
matches_known None bits = false
matches_known (Some p) bits = matches p bits

abbrev IsFixed : Guard → List Guard → Partial → List Bool → Option (Option Bool) → Type 0
IsFixed g gs p bits x = matches_known (option_and_then (fixing gs) (fixing_as x g p)) bits ≡ (matches p bits && (has_bit g bits && are_met gs bits))

abbrev read : Guard → Option Bool → Bool
read g now = option_map_or (λ b. cond g.value b (not b)) now false

-- what is fixed by guards is matched by the bits that meet them
pub fixing-matches : (gs : List Guard) (p : Partial) (bits : List Bool) → matches_known (fixing gs p) bits ≡ (matches p bits && are_met gs bits)
fixing-matches [] p bits = and_comm true (matches p bits)
fixing-matches (g ∷ gs) p bits = by_known (fixing-matches gs) (slice_get p g.bit) refl
  where
    -- where the bits match, the guard is this, and so the rest
    given_match : (m t : Bool) (x : Option (Option Bool)) → matches p bits ≡ m → (matches p bits ≡ true → has_bit g bits ≡ t) → (matches p bits && (t && are_met gs bits)) ≡ (matches p bits && (has_bit g bits && are_met gs bits))
    given_match true t x e f = ap (λ (y : Bool). matches p bits && (y && are_met gs bits)) (sym (f e))
    given_match false t x e f = ap (λ (y : Bool). y && (t && are_met gs bits)) e ∙ ap (λ (y : Bool). y && (has_bit g bits && are_met gs bits)) (sym e)

    false_end : (m : Bool) → false ≡ (m && false)
    false_end true = refl
    false_end false = refl

    if_agrees : (a : Bool) → matches_known (fixing gs p) bits ≡ (matches p bits && are_met gs bits) → matches_known (option_and_then (fixing gs) (cond a (Some p) None)) bits ≡ (matches p bits && (a && are_met gs bits))
    if_agrees true in_rest = in_rest
    if_agrees false in_rest = false_end (matches p bits)

    by_known : ((q : Partial) (bs : List Bool) → matches_known (fixing gs q) bs ≡ (matches q bs && are_met gs bs)) → (x : Option (Option Bool)) → slice_get p g.bit ≡ x → IsFixed g gs p bits (slice_get p g.bit)
    by_known later None e = subst (IsFixed g gs p bits) (sym e)
        (false_end (matches p bits) ∙ given_match (matches p bits) false None refl (λ m. ap (read g) (past_read p bits g.bit e m)))
    by_known later (Some None) e = subst (IsFixed g gs p bits) (sym e)
        (later (slice_set p g.bit (Some g.value)) bits
        ∙ ap (λ (y : Bool). y && are_met gs bits) (matches-set p bits g g.bit e)
        ∙ and_assoc (matches p bits) (has_bit g bits) (are_met gs bits))
    by_known later (Some (Some b)) e = subst (IsFixed g gs p bits) (sym e)
        (if_agrees (agrees g b) (later p bits)
        ∙ given_match (matches p bits) (agrees g b) (Some (Some b)) refl (λ m. ap (read g) (known_read p bits g.bit b e m)))

-- ---- before any condition
pub open_matches : (m : ℕ) (bits : List Bool) → length bits ≡ m → matches (replicate m None) bits ≡ true
open_matches zero [] e = refl
open_matches zero (b ∷ bits) e = absurd (omega (arith, e))
open_matches (suc m) [] e = absurd (omega (arith, e))
open_matches (suc m) (b ∷ bits) e = open_matches m bits (omega (arith, e))

pub open_sized : (m : ℕ) (bits : List Bool) → matches (replicate m None) bits ≡ true → length bits ≡ m
open_sized zero [] e = refl
open_sized zero (b ∷ bits) e = cc
open_sized (suc m) [] e = cc
open_sized (suc m) (b ∷ bits) e = ap suc (open_sized m bits e)

not_true : (b : Bool) → not b ≡ true → b ≡ false
not_true true e = cc
not_true false e = refl

pub zero_matches : (m : ℕ) (bits : List Bool) → length bits ≡ m → All (λ b. b ≡ false) bits → matches (replicate m (Some false)) bits ≡ true
zero_matches zero [] e z = refl
zero_matches zero (b ∷ bits) e z = absurd (omega (arith, e))
zero_matches (suc m) [] e z = absurd (omega (arith, e))
zero_matches (suc m) (b ∷ bits) e z =
    ap (λ (x : Bool). not x && matches (replicate m (Some false)) bits) (All-head (λ b. b ≡ false) b bits z)
    ∙ zero_matches m bits (omega (arith, e)) (All-tail (λ b. b ≡ false) b bits z)

pub zero_sized : (m : ℕ) (bits : List Bool) → matches (replicate m (Some false)) bits ≡ true → (length bits ≡ m) × All (λ b. b ≡ false) bits
zero_sized zero [] e = (refl, λ k d h. absurd (omega (arith, h)))
zero_sized zero (b ∷ bits) e = cc
zero_sized (suc m) [] e = cc
zero_sized (suc m) (b ∷ bits) e =
    let h = and_true (not b) (matches (replicate m (Some false)) bits) e in
    let r = zero_sized m bits h.1 in
    (ap suc r.0, All-cons (λ b. b ≡ false) b bits (not_true b h.0) r.1)

-- the world at the start has the bits, now and at the start
pub stored_start : (p : Partial) (bits : List Bool) → matches p bits ≡ true → Stored p p bits bits
stored_start [] [] e = none
stored_start [] (b ∷ bits) e = cc
stored_start (q ∷ p) [] e = cc
stored_start (None ∷ p) (b ∷ bits) e = free (stored_start p bits e)
stored_start (Some x ∷ p) (b ∷ bits) e =
    let h = and_true (is_value (Some x) b) (matches p bits) e in
    subst (λ (y : Bool). Stored (Some y ∷ p) (Some y ∷ p) (b ∷ bits) (b ∷ bits)) (is_same x b h.0) (known (subst (λ (y : Bool). is_value (Some y) b ≡ true) (sym (is_same x b h.0)) h.0) (stored_start p bits h.1))

-- what isn't known may be 0
same_bool : (b : Bool) → is_value (Some b) b ≡ true
same_bool true = refl
same_bool false = refl

pub filled_matches : (p : Partial) → matches p (filled p) ≡ true
filled_matches [] = refl
filled_matches (None ∷ p) = filled_matches p
filled_matches (Some b ∷ p) = ap (λ (x : Bool). x && matches p (filled p)) (same_bool b) ∙ filled_matches p

pub all-append : (xs ys : List Guard) (bits : List Bool) → are_met (xs ++ ys) bits ≡ (are_met xs bits && are_met ys bits)
all-append [] ys bits = refl
all-append (x ∷ xs) ys bits = ap (λ (b : Bool). has_bit x bits && b) (all-append xs ys bits) ∙ sym (and_assoc (has_bit x bits) (are_met xs bits) (are_met ys bits))

pub given_met : (g : Option Guard) (bits : List Bool) → are_met (given_guards g) bits ≡ true → IfSome g (λ d. has_bit d bits ≡ true)
given_met None bits e = tt
given_met (Some g) bits e = (and_true (has_bit g bits) true e).0

pub met_given : (g : Option Guard) (bits : List Bool) → IfSome g (λ d. has_bit d bits ≡ true) → are_met (given_guards g) bits ≡ true
met_given None bits e = refl
met_given (Some g) bits e = ap (λ (x : Bool). x && true) e
