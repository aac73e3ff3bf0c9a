-- Two readers that answer the same, but where the first stops with a fault of one kind: as a reader that may nest, and
-- one that may nest deeper.
use Rattle.std.proofs.Common.{◌≡◌, ℕ, zero, suc, List, [], ◌∷◌, length, Ok, Err, Bool, true, false, cond, refl, sym, ap, subst, ◌∙◌, Option, Some, None, ◌⊎◌, inl, inr}
use Rattle.aq_grammar.specs.Words.{first}
use Rattle.aq_grammar.specs.Readers.{Answer, Reader, ◌>>=◌, along, both, mapped, after, before, Test, switch, choice, optional, several, many, then_maybe, placed}
use Rattle.aq_grammar.proofs.Reading.{err_pair}

abbrev pub Alike : {T F A : Type 0} → F → Answer T F A → Answer T F A → Type 0
Alike {T = T} fault r s = (r ≡ s) ⊎ ((rest : List T) × (r ≡ Err (fault, rest)))

abbrev pub Agree : {T F A : Type 0} → F → Reader T F A → Reader T F A → Type 0
Agree {T = T} fault p q = (ts : List T) → Alike fault (p ts) (q ts)

pub alike_later : {T F A B : Type 0} (fault : F) (r : Answer T F A) (f g : A × List T → Answer T F B) → ((x : A × List T) → Alike fault (f x) (g x)) → Alike fault (r >>= f) (r >>= g)
alike_later fault (Ok x) f g h = h x
alike_later fault (Err d) f g h = inl refl

pub alike_bind : {T F A B : Type 0} (fault : F) (r s : Answer T F A) (f g : A × List T → Answer T F B) → Alike fault r s → ((x : A × List T) → Alike fault (f x) (g x)) → Alike fault (r >>= f) (s >>= g)
alike_bind {T = T} {F = F} {A = A} {B = B} fault r s f g alike h = elim alike [ inl e ↦ subst (λ (t : Answer T F A). Alike fault (r >>= f) (t >>= g)) e (alike_later fault r f g h) | inr e ↦ inr (e.0, ap (λ (t : Answer T F A). t >>= f) e.1) ]

pub alike_along : {T F A B : Type 0} (fault : F) (f : A → B) (r s : Answer T F A) → Alike fault r s → Alike fault (along f r) (along f s)
alike_along fault f r s alike = elim alike [ inl e ↦ inl (ap (along f) e) | inr e ↦ inr (e.0, ap (along f) e.1) ]

pub alike_cond : {T F A : Type 0} (fault : F) (b : Bool) (r s t u : Answer T F A) → Alike fault r s → Alike fault t u → Alike fault (cond b r t) (cond b s u)
alike_cond fault true r s t u h k = h
alike_cond fault false r s t u h k = k

pub same_agree : {T F A : Type 0} (fault : F) (p : Reader T F A) → Agree fault p p
same_agree fault p ts = inl refl

pub mapped_agree : {T F A B : Type 0} (fault : F) (f : A → B) (p q : Reader T F A) → Agree fault p q → Agree fault (mapped f p) (mapped f q)
unfolding mapped
mapped_agree fault f p q h ts = alike_along fault f (p ts) (q ts) (h ts)

pub both_agree : {T F A B : Type 0} (fault : F) (p q : Reader T F A) (r s : Reader T F B) → Agree fault p q → Agree fault r s → Agree fault (both p r) (both q s)
unfolding both
both_agree fault p q r s h k ts = alike_bind fault (p ts) (q ts) (λ x. along (λ y. (x.0, y)) (r x.1)) (λ x. along (λ y. (x.0, y)) (s x.1)) (h ts) (λ x. alike_along fault (λ y. (x.0, y)) (r x.1) (s x.1) (k x.1))

pub choice_agree : {T F A : Type 0} (fault : F) (test : Test T) (p q r s : Reader T F A) → Agree fault p q → Agree fault r s → Agree fault (choice test p r) (choice test q s)
unfolding choice
choice_agree fault test p q r s h k ts = alike_cond fault (test (first ts)) (p ts) (q ts) (r ts) (s ts) (h ts) (k ts)

pub optional_agree : {T F A : Type 0} (fault : F) (test : Test T) (p q : Reader T F A) → Agree fault p q → Agree fault (optional test p) (optional test q)
unfolding optional
optional_agree fault test p q h ts = alike_cond fault (test (first ts)) (along Some (p ts)) (along Some (q ts)) (Ok (None, ts)) (Ok (None, ts)) (alike_along fault Some (p ts) (q ts) (h ts)) (inl refl)

pub after_agree : {T F A : Type 0} (fault : F) (s : Reader T F (Unit {0})) (p q : Reader T F A) → Agree fault p q → Agree fault (after s p) (after s q)
unfolding after
after_agree fault s p q h ts = alike_bind fault (s ts) (s ts) (λ x. p x.1) (λ x. q x.1) (inl refl) (λ x. h x.1)

pub before_agree : {T F A : Type 0} (fault : F) (s : Reader T F (Unit {0})) (p q : Reader T F A) → Agree fault p q → Agree fault (before p s) (before q s)
unfolding before
before_agree fault s p q h ts = alike_bind fault (p ts) (q ts) (λ x. along (λ _. x.0) (s x.1)) (λ x. along (λ _. x.0) (s x.1)) (h ts) (λ x. inl refl)

pub switch_agree : {T F A K : Type 0} (fault : F) (key : Option T → K) (p q : K → Reader T F A) → ((k : K) → Agree fault (p k) (q k)) → Agree fault (switch key p) (switch key q)
unfolding switch
switch_agree fault key p q h ts = h (key (first ts)) ts

pub placed_agree : {T F A P : Type 0} (fault : F) (place : Option T → P) (p q : Reader T F A) → Agree fault p q → Agree fault (placed place p) (placed place q)
unfolding placed
placed_agree fault place p q h ts = alike_along fault (λ x. (place (first ts), x)) (p ts) (q ts) (h ts)

pub then_maybe_agree : {T F A B : Type 0} (fault : F) (test : Test T) (p q : Reader T F A) (r s : Reader T F B) → Agree fault p q → Agree fault r s → Agree fault (then_maybe test p r) (then_maybe test q s)
unfolding then_maybe
then_maybe_agree fault test p q r s h k ts = alike_bind fault (p ts) (q ts) (λ x. along (λ y. (x.0, y)) (optional test r x.1)) (λ x. along (λ y. (x.0, y)) (optional test s x.1)) (h ts) (λ x. alike_along fault (λ y. (x.0, y)) (optional test r x.1) (optional test s x.1) (optional_agree fault test r s k x.1))

pub several_agree : {T F A : Type 0} (fault : F) (n : ℕ) (test : Test T) (p q : Reader T F A) → Agree fault p q → Agree fault (several n test p) (several n test q)
several_agree fault zero test p q h ts = inl refl
several_agree fault (suc n) test p q h ts =
    alike_cond fault (test (first ts)) (p ts >>= λ x. along (λ xs. x.0 ∷ xs) (several n test p x.1)) (q ts >>= λ x. along (λ xs. x.0 ∷ xs) (several n test q x.1)) (Ok ([], ts)) (Ok ([], ts))
    (alike_bind fault (p ts) (q ts) (λ x. along (λ xs. x.0 ∷ xs) (several n test p x.1)) (λ x. along (λ xs. x.0 ∷ xs) (several n test q x.1)) (h ts) (λ x. alike_along fault (λ xs. x.0 ∷ xs) (several n test p x.1) (several n test q x.1) (several_agree fault n test p q h x.1)))
    (inl refl)

pub many_agree : {T F A : Type 0} (fault : F) (test : Test T) (p q : Reader T F A) → Agree fault p q → Agree fault (many test p) (many test q)
unfolding many
many_agree fault test p q h ts = several_agree fault (suc (length ts)) test p q h ts

other_fault : {T F A : Type 0} (fault k : F) (ts rest : List T) → (k ≡ fault → ⊥) → (let r : Answer T F A = Err (k, ts) in r) ≡ Err (fault, rest) → ⊥
other_fault {A = A} fault k ts rest not e = not (err_pair {A = A} k fault ts rest e).0

-- Where the readers agree, another fault stays.
pub fault_stays : {T F A : Type 0} (fault : F) (r s : Answer T F A) (k : F) (rest : List T) → (k ≡ fault → ⊥) → Alike fault r s → r ≡ Err (k, rest) → s ≡ Err (k, rest)
fault_stays fault r s k rest not alike e = elim alike [ inl h ↦ sym h ∙ e | inr h ↦ absurd (other_fault fault k rest h.0 not (sym e ∙ h.1)) ]
