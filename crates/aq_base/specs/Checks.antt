-- Computations that go on with a value or stop with a fault, and what it is to give one. F is the type of faults.
use Rattle.std.specs.Prelude.{◌≡◌, List, [], ◌∷◌, Option, Some, None, Result, Ok, Err, Bool, if◌then◌else◌}

-- a value, or the first fault that was met
abbrev pub CheckedBy : Type 0 → Type 0 → Type 0
CheckedBy F A = Result A F

-- the fault where the test holds
abbrev pub refuse_if : {F : Type 0} → Bool → F → CheckedBy F (Unit {0})
refuse_if test fault = if test then Err fault else Ok tt

-- the fault where there is nothing
abbrev pub or_refuse : {F A : Type 0} → F → Option A → CheckedBy F A
or_refuse fault (Some x) = Ok x
or_refuse fault None = Err fault

-- the one, and then the other with its value
infixl 10 ◌>>=◌
abbrev pub ◌>>=◌ : {F A B : Type 0} → CheckedBy F A → (A → CheckedBy F B) → CheckedBy F B
(Ok x) >>= f = f x
(Err e) >>= f = Err e

-- the check, and then what follows
infixr 9 ◌>>◌
abbrev pub ◌>>◌ : {F A : Type 0} → CheckedBy F (Unit {0}) → CheckedBy F A → CheckedBy F A
(Ok u) >> next = next
(Err e) >> next = Err e

-- each in order, up to the first fault
abbrev pub all_checked : {F A B : Type 0} → (A → CheckedBy F B) → List A → CheckedBy F (List B)
all_checked f [] = Ok []
all_checked f (x ∷ xs) = f x >>= λ y. all_checked f xs >>= λ ys. Ok (y ∷ ys)

-- What a function answers gives what is wanted, its value seen by `view`: the same value, or the same fault. Want of memory
-- may be answered at any time, and then nothing is said.
abbrev pub GivesUnless : {F A B : Type 0} → F → (B → A) → Result B F → CheckedBy F A → Type 0
GivesUnless memory view (Ok x) wanted = wanted ≡ Ok (view x)
GivesUnless memory view (Err e) wanted = (e ≡ memory → ⊥) → wanted ≡ Err e
