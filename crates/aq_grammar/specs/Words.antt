-- The words in which a grammar is written down: sets of token lists, and, for each value, the token lists that stand for it.
--
-- A grammar says nothing of how a list is read. `P ⨾ Q` is P and then Q, as in the rules of a grammar in extended
-- Backus-Naur form; the other words are `[ x ]`, `{ x }` and `x { "," x }` of that form, and single tokens.
use Rattle.std.specs.Prelude.{◌≡◌, List, [], ◌∷◌, ◌++◌, Option, Some, None, Result, Ok, Bool, true}

-- The list is cut in two: the first part is in P, and the second in Q.
infixr 5 ◌⨾◌
pub record Joined {T : Type 0} (P Q : List T → Type 0) (front : List T) : Type 0 where
  pub a : List T
  pub b : List T
  pub parts : front ≡ a ++ b
  pub left : P a
  pub right : Q b

abbrev pub ◌⨾◌ : {T : Type 0} → (List T → Type 0) → (List T → Type 0) → List T → Type 0
P ⨾ Q = Joined P Q

-- none, or one
abbrev pub IsOptional : {T A : Type 0} → (A → List T → Type 0) → Option A → List T → Type 0
IsOptional G None front = front ≡ []
IsOptional G (Some x) front = G x front

-- any number of them, one behind the other
abbrev pub IsMany : {T A : Type 0} → (A → List T → Type 0) → List A → List T → Type 0
IsMany G [] front = front ≡ []
IsMany G (x ∷ xs) front = Joined (G x) (IsMany G xs) front

-- one or more of them, with a text of S between each two
abbrev pub IsSeparated : {T A : Type 0} → (List T → Type 0) → (A → List T → Type 0) → List A → List T → Type 0
IsSeparated S G [] front = ⊥
IsSeparated S G (x ∷ xs) front = Joined (G x) (IsMany (λ y. Joined S (G y)) xs) front

-- one token, which passes the test
abbrev pub IsOne : {T : Type 0} → (T → Bool) → List T → Type 0
IsOne test front = (t : _) × (front ≡ t ∷ []) × (test t ≡ true)

-- one token, in which the view sees x
abbrev pub IsToken : {T A : Type 0} → (T → Option A) → A → List T → Type 0
IsToken view x front = (t : _) × (front ≡ t ∷ []) × (view t ≡ Some x)

-- the same, where the view says which fault it is that it sees nothing
abbrev pub IsSeen : {T F A : Type 0} → (T → Result A F) → A → List T → Type 0
IsSeen view x front = (t : _) × (front ≡ t ∷ []) × (view t ≡ Ok x)

-- the first token of a list, or of what comes behind it where it is empty
abbrev pub first_or : {T : Type 0} → List T → Option T → Option T
first_or [] n = n
first_or (t ∷ ts) n = Some t

abbrev pub first : {T : Type 0} → List T → Option T
first ts = first_or ts None

-- a text of G that begins at this place
abbrev pub IsPlaced : {T P : Type 0} → (Option T → P) → P → (List T → Type 0) → List T → Type 0
IsPlaced place at G front = G front × (place (first front) ≡ at)
