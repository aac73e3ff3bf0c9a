-- What it means that a reader reads a language.
--
-- A language stands for a reader in two words. L says of a list, with the token behind it, which value is read from it;
-- H is the grammar's own word, which knows nothing of the token behind. They differ only where the token behind decides:
-- at what may be left out or repeated, and at an `else`.
use Rattle.std.specs.Prelude.{◌≡◌, List, [], ◌∷◌, ◌++◌, Option, None, Some, Result, Ok, Err, Bool, true, false}
use Rattle.aq_grammar.specs.Words.{first, first_or, Joined}
use Rattle.aq_grammar.specs.Readers.{Test}

abbrev pub In : Type 0 → Type 0 → Type 1
In T A = A → List T → Option T → Type 0

-- The reader took a front of the list, and it is of this kind before the token that comes next.
pub record Found {T : Type 0} (ts rest : List T) (P : List T → Option T → Type 0) : Type 0 where
  pub front : List T
  pub parts : ts ≡ front ++ rest
  pub spelled : P front (first rest)

-- The reader stopped with the fault k before the rest. The tokens before it have an ending with which they are
-- in the language. And the fault is there whatever comes behind the token at which the reader stopped.
pub record Stopped {T F A : Type 0} (p : List T → Result (A × List T) (F × List T)) (H : A → List T → Type 0) (k : F) (ts rest : List T) : Type 0 where
  pub front : List T
  pub parts : ts ≡ front ++ rest
  pub ending : List T
  pub value : A
  pub spelled : H value (front ++ ending)
  pub local : (other : List T) → first other ≡ first rest → p (front ++ other) ≡ Err (k, other)

-- The reader p reads the language. What it finds is in the language (`sound`). What is in the language is read, and as
-- the value that it stands for (`complete`); so a list stands for one value at most. Where p stops, what it took can be
-- completed to a text of the language, and with the token at fault it cannot (`fails`, `complete`). L is part of H
-- (`forget`), and the language has a text at all (`some`): it completes what is read before p begins.
pub record Reads {T F A : Type 0} (p : List T → Result (A × List T) (F × List T)) (L : A → List T → Option T → Type 0) (H : A → List T → Type 0) : Type 0 where
  pub sound : (ts rest : List T) (x : A) → p ts ≡ Ok (x, rest) → Found ts rest (L x)
  pub complete : (front rest : List T) (x : A) → L x front (first rest) → p (front ++ rest) ≡ Ok (x, rest)
  pub fails : (ts rest : List T) (k : F) → p ts ≡ Err (k, rest) → Stopped p H k ts rest
  pub forget : (front : List T) (n : Option T) (x : A) → L x front n → H x front
  pub some : A
  pub some_text : List T
  pub some_is : H some some_text

-- ---- what is read where readers are put together

-- The list is cut in two, and the first part is in P where the second, or else n, comes next.
pub record JoinedIn {T : Type 0} (P Q : List T → Option T → Type 0) (front : List T) (n : Option T) : Type 0 where
  pub a : List T
  pub b : List T
  pub parts : front ≡ a ++ b
  pub left : P a (first_or b n)
  pub right : Q b n

abbrev pub BothIn : {T A B : Type 0} → In T A → In T B → In T (A × B)
BothIn L M x = JoinedIn (L x.0) (M x.1)

abbrev pub Both : {T A B : Type 0} → (A → List T → Type 0) → (B → List T → Type 0) → A × B → List T → Type 0
Both G H x = Joined (G x.0) (H x.1)

-- none, where the next token tells so, or one
abbrev pub OptionalIn : {T A : Type 0} → Test T → In T A → In T (Option A)
OptionalIn test L None front n = (front ≡ []) × (test n ≡ false)
OptionalIn test L (Some x) front n = L x front n

-- as many as the next token tells
abbrev pub ManyIn : {T A : Type 0} → Test T → In T A → In T (List A)
ManyIn test L [] front n = (front ≡ []) × (test n ≡ false)
ManyIn test L (x ∷ xs) front n = JoinedIn (L x) (ManyIn test L xs) front n

-- ---- languages that are given by tests

abbrev pub Told : {T A : Type 0} → (A → List T → Bool) → A → List T → Type 0
Told h x front = h x front ≡ true

abbrev pub ToldIn : {T A : Type 0} → (A → List T → Option T → Bool) → A → List T → Option T → Type 0
ToldIn l x front n = l x front n ≡ true

-- The fault k before the rest is the first: what comes before can be completed, and with the next token it is no
-- front of a text of the language, whatever comes behind.
pub record IsFirst {T F A : Type 0} (L : A → List T → Option T → Type 0) (H : A → List T → Type 0) (k : F) (ts rest : List T) : Type 0 where
  pub front : List T
  pub parts : ts ≡ front ++ rest
  pub before : (ending : List T) × (x : A) × H x (front ++ ending)
  pub at_token : (t : T) (more other left : List T) (x : A) → rest ≡ t ∷ more → L x (front ++ t ∷ other) (first left) → ⊥
