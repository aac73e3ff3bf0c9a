-- Readers of token lists, and how they are put together.
--
-- A reader goes from the left to the right and looks at one token ahead. It answers a value and the tokens that are
-- left, or a fault and the tokens that are left, of which the first is the one at fault. So no positions occur.
use Rattle.std.specs.Prelude.{ℕ, zero, suc, List, [], ◌∷◌, ◌++◌, length, Option, Some, None, Result, Ok, Err, Bool, cond}
use Rattle.aq_grammar.specs.Words.{first}

abbrev pub Answer : Type 0 → Type 0 → Type 0 → Type 0
Answer T F A = Result (A × List T) (F × List T)

abbrev pub Reader : Type 0 → Type 0 → Type 0 → Type 0
Reader T F A = List T → Result (A × List T) (F × List T)

infixl 10 ◌>>=◌
abbrev pub ◌>>=◌ : {A B E : Type 0} → Result A E → (A → Result B E) → Result B E
(Ok x) >>= f = f x
(Err e) >>= f = Err e

-- the same answer, with another value
abbrev pub along : {T F A B : Type 0} → (A → B) → Answer T F A → Answer T F B
along f (Ok x) = Ok (f x.0, x.1)
along f (Err e) = Err e

-- ---- one token

abbrev pub taken : {T F A : Type 0} → Result A F → T → List T → Answer T F A
taken (Ok x) t ts = Ok (x, ts)
taken (Err k) t ts = Err (k, t ∷ ts)

-- a token in which the view sees a value; the first fault is for the end of the list
abbrev pub see_at : {T F A : Type 0} → F → (T → Result A F) → Reader T F A
see_at none view [] = Err (none, [])
see_at none view (t ∷ ts) = taken (view t) t ts

abbrev pub or_fault : {F A : Type 0} → F → Option A → Result A F
or_fault k (Some x) = Ok x
or_fault k None = Err k

-- the same, where there is one fault
abbrev pub token_at : {T F A : Type 0} → F → (T → Option A) → Reader T F A
token_at k view = see_at k (λ t. or_fault k (view t))

-- a token that passes the test
abbrev pub one_at : {T F : Type 0} → F → (T → Bool) → Reader T F (Unit {0})
one_at k test = see_at k (λ t. cond (test t) (Ok tt) (Err k))

-- ---- one after the other

unfoldable pub both : {T F A B : Type 0} → Reader T F A → Reader T F B → Reader T F (A × B)
both p q ts = p ts >>= λ x. along (λ y. (x.0, y)) (q x.1)

unfoldable pub mapped : {T F A B : Type 0} → (A → B) → Reader T F A → Reader T F B
mapped f p ts = along f (p ts)

-- what stands behind something that has no value, and before it
unfoldable pub after : {T F A : Type 0} → Reader T F (Unit {0}) → Reader T F A → Reader T F A
after s p ts = s ts >>= λ x. p x.1

unfoldable pub before : {T F A : Type 0} → Reader T F A → Reader T F (Unit {0}) → Reader T F A
before p s ts = p ts >>= λ x. along (λ _. x.0) (s x.1)

-- ---- by the next token

-- a test of the next token, of which there may be none
abbrev pub Test : Type 0 → Type 0
Test T = Option T → Bool

-- which reader goes on is told by the next token
unfoldable pub switch : {T F A K : Type 0} → (Option T → K) → (K → Reader T F A) → Reader T F A
switch key reader ts = reader (key (first ts)) ts

-- the first reader where the next token passes the test, else the second
unfoldable pub choice : {T F A : Type 0} → Test T → Reader T F A → Reader T F A → Reader T F A
choice test p q ts = cond (test (first ts)) (p ts) (q ts)

unfoldable pub optional : {T F A : Type 0} → Test T → Reader T F A → Reader T F (Option A)
optional test p ts = cond (test (first ts)) (along Some (p ts)) (Ok (None, ts))

-- as long as the next token passes the test, at most so many times
abbrev pub several : {T F A : Type 0} → ℕ → Test T → Reader T F A → Reader T F (List A)
several zero test p ts = Ok ([], ts)
several (suc n) test p ts = cond (test (first ts)) (p ts >>= λ x. along (λ xs. x.0 ∷ xs) (several n test p x.1)) (Ok ([], ts))

-- as long as the next token passes the test; a reader that takes a token each time never comes to the bound
unfoldable pub many : {T F A : Type 0} → Test T → Reader T F A → Reader T F (List A)
many test p ts = several (suc (length ts)) test p ts

abbrev pub front_and_more : {A : Type 0} → A × List A → List A
front_and_more v = v.0 ∷ v.1

-- one, and more as long as the next token passes the test; s reads what stands between two
unfoldable pub separated : {T F A : Type 0} → Test T → Reader T F (Unit {0}) → Reader T F A → Reader T F (List A)
separated test s p = mapped front_and_more (both p (many test (after s p)))

-- the second reader only where the token behind the first passes the test
unfoldable pub then_maybe : {T F A B : Type 0} → Test T → Reader T F A → Reader T F B → Reader T F (A × Option B)
then_maybe test p q ts = p ts >>= λ x. along (λ y. (x.0, y)) (optional test q x.1)

-- the place of the first token, and what is read from there
unfoldable pub placed : {T F A P : Type 0} → (Option T → P) → Reader T F A → Reader T F (P × A)
placed place p ts = along (λ x. (place (first ts), x)) (p ts)

-- stops at once
abbrev pub refuse : {T F A : Type 0} → F → Reader T F A
refuse k ts = Err (k, ts)

-- what was read before, and what is still read: the state of a loop that reads `many`
abbrev pub with_front : {T F A : Type 0} → List A → Answer T F (List A) → Answer T F (List A)
with_front front read = along (λ xs. front ++ xs) read
