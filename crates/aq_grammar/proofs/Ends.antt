-- No reader takes the token that ends the list, so each fault before it has a token.
use Rattle.std.proofs.Common.{◌≡◌, ℕ, zero, suc, List, [], ◌∷◌, length, Result, Ok, Err, Bool, true, false, cond, refl, sym, subst, ◌∙◌, Option, Some, None}
use Rattle.aq_grammar.specs.Words.{first}
use Rattle.aq_grammar.specs.Readers.{Answer, Reader, ◌>>=◌, along, taken, see_at, both, mapped, after, before, Test, switch, choice, optional, several, many, then_maybe, placed, refuse}

-- the last token passes the test
abbrev pub EndsIn : {T : Type 0} → (T → Bool) → List T → Type 0
EndsIn last [] = ⊥
EndsIn last (t ∷ []) = last t ≡ true
EndsIn last (t ∷ u ∷ us) = EndsIn last (u ∷ us)

abbrev pub Kept : {T F A : Type 0} → (T → Bool) → Answer T F A → Type 0
Kept last (Ok x) = EndsIn last x.1
Kept last (Err d) = EndsIn last d.1

-- What p leaves ends as the list ends.
abbrev pub Keeps : {T F A : Type 0} → (T → Bool) → Reader T F A → Type 0
Keeps {T = T} last p = (ts : List T) → EndsIn last ts → Kept last (p ts)

no_truth : true ≡ false → ⊥
no_truth e = cc

tail_ends : {T : Type 0} (last : T → Bool) (t : T) (ts : List T) → last t ≡ false → EndsIn last (t ∷ ts) → EndsIn last ts
tail_ends last t [] other e = absurd (no_truth (sym e ∙ other))
tail_ends last t (u ∷ us) other e = e

kept_bind : {T F A B : Type 0} (last : T → Bool) (r : Answer T F A) (f : A × List T → Answer T F B) → Kept last r → ((x : A × List T) → EndsIn last x.1 → Kept last (f x)) → Kept last (r >>= f)
kept_bind last (Ok x) f k h = h x k
kept_bind last (Err d) f k h = k

kept_along : {T F A B : Type 0} (last : T → Bool) (f : A → B) (r : Answer T F A) → Kept last r → Kept last (along f r)
kept_along last f (Ok x) k = k
kept_along last f (Err d) k = k

kept_cond : {T F A : Type 0} (last : T → Bool) (b : Bool) (r s : Answer T F A) → Kept last r → Kept last s → Kept last (cond b r s)
kept_cond last true r s h k = h
kept_cond last false r s h k = k

taken_kept : {T F A : Type 0} (last : T → Bool) (o : Result A F) (t : T) (ts : List T) → ((x : A) → o ≡ Ok x → last t ≡ false) → EndsIn last (t ∷ ts) → Kept last (taken o t ts)
taken_kept last (Err k) t ts other e = e
taken_kept last (Ok x) t ts other e = tail_ends last t ts (other x refl) e

-- the view sees nothing in a last token
pub seen_keeps : {T F A : Type 0} (last : T → Bool) (none : F) (view : T → Result A F) → ((t : T) (x : A) → view t ≡ Ok x → last t ≡ false) → Keeps last (see_at none view)
seen_keeps last none view other [] e = absurd e
seen_keeps last none view other (t ∷ ts) e = taken_kept last (view t) t ts (other t) e

pub both_keeps : {T F A B : Type 0} (last : T → Bool) (p : Reader T F A) (q : Reader T F B) → Keeps last p → Keeps last q → Keeps last (both p q)
unfolding both
both_keeps last p q h k ts e = kept_bind last (p ts) (λ x. along (λ y. (x.0, y)) (q x.1)) (h ts e) (λ x d. kept_along last (λ y. (x.0, y)) (q x.1) (k x.1 d))

pub mapped_keeps : {T F A B : Type 0} (last : T → Bool) (f : A → B) (p : Reader T F A) → Keeps last p → Keeps last (mapped f p)
unfolding mapped
mapped_keeps last f p h ts e = kept_along last f (p ts) (h ts e)

pub choice_keeps : {T F A : Type 0} (last : T → Bool) (test : Test T) (p q : Reader T F A) → Keeps last p → Keeps last q → Keeps last (choice test p q)
unfolding choice
choice_keeps last test p q h k ts e = kept_cond last (test (first ts)) (p ts) (q ts) (h ts e) (k ts e)

pub switch_keeps : {T F A K : Type 0} (last : T → Bool) (key : Option T → K) (reader : K → Reader T F A) → ((k : K) → Keeps last (reader k)) → Keeps last (switch key reader)
unfolding switch
switch_keeps last key reader h ts e = h (key (first ts)) ts e

pub placed_keeps : {T F A P : Type 0} (last : T → Bool) (place : Option T → P) (p : Reader T F A) → Keeps last p → Keeps last (placed place p)
unfolding placed
placed_keeps last place p h ts e = kept_along last (λ x. (place (first ts), x)) (p ts) (h ts e)

pub optional_keeps : {T F A : Type 0} (last : T → Bool) (test : Test T) (p : Reader T F A) → Keeps last p → Keeps last (optional test p)
unfolding optional
optional_keeps last test p h ts e = kept_cond last (test (first ts)) (along Some (p ts)) (Ok (None, ts)) (kept_along last Some (p ts) (h ts e)) e

pub after_keeps : {T F A : Type 0} (last : T → Bool) (s : Reader T F (Unit {0})) (p : Reader T F A) → Keeps last s → Keeps last p → Keeps last (after s p)
unfolding after
after_keeps last s p k h ts e = kept_bind last (s ts) (λ x. p x.1) (k ts e) (λ x d. h x.1 d)

pub before_keeps : {T F A : Type 0} (last : T → Bool) (p : Reader T F A) (s : Reader T F (Unit {0})) → Keeps last p → Keeps last s → Keeps last (before p s)
unfolding before
before_keeps last p s h k ts e = kept_bind last (p ts) (λ x. along (λ _. x.0) (s x.1)) (h ts e) (λ x d. kept_along last (λ _. x.0) (s x.1) (k x.1 d))

pub then_maybe_keeps : {T F A B : Type 0} (last : T → Bool) (test : Test T) (p : Reader T F A) (q : Reader T F B) → Keeps last p → Keeps last q → Keeps last (then_maybe test p q)
unfolding then_maybe
then_maybe_keeps last test p q h k ts e = kept_bind last (p ts) (λ x. along (λ y. (x.0, y)) (optional test q x.1)) (h ts e) (λ x d. kept_along last (λ y. (x.0, y)) (optional test q x.1) (optional_keeps last test q k x.1 d))

several_keeps : {T F A : Type 0} (n : ℕ) (last : T → Bool) (test : Test T) (p : Reader T F A) → Keeps last p → Keeps last (several n test p)
several_keeps zero last test p h ts e = e
several_keeps (suc n) last test p h ts e =
    kept_cond last (test (first ts)) (p ts >>= λ x. along (λ xs. x.0 ∷ xs) (several n test p x.1)) (Ok ([], ts))
    (kept_bind last (p ts) (λ x. along (λ xs. x.0 ∷ xs) (several n test p x.1)) (h ts e) (λ x d. kept_along last (λ xs. x.0 ∷ xs) (several n test p x.1) (several_keeps n last test p h x.1 d)))
    e

pub many_keeps : {T F A : Type 0} (last : T → Bool) (test : Test T) (p : Reader T F A) → Keeps last p → Keeps last (many test p)
unfolding many
many_keeps last test p h ts e = several_keeps (suc (length ts)) last test p h ts e

pub refuse_keeps : {T F : Type 0} (A : Type 0) (last : T → Bool) (k : F) → Keeps {T = T} {A = A} last (refuse k)
refuse_keeps A last k ts e = e

-- A fault before the last token: the rest isn't empty.
pub kept_rest : {T F A : Type 0} (last : T → Bool) (k : F) (r : Answer T F A) → Kept last r → r ≡ Err (k, []) → ⊥
kept_rest last k r kept e = subst (Kept last) e kept
