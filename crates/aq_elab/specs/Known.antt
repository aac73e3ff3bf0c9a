-- What the statements before a place have made known, and computations that add to it or stop at the first fault.
use Rattle.std.specs.Prelude.{ℕ, List, [], ◌∷◌, Option, Some, None, Result, if◌then◌else◌}
use Rattle.std.specs.Str.{bytes_eq}
use Rattle.aq_base.specs.Checks.{CheckedBy, GivesUnless}
use Rattle.aq_elab.specs.declared.fault.ElabFault.{ElabFault}
use Rattle.aq_elab.specs.declared.fault.ElabFault.TheVariants as faults
use Rattle.aq_elab.specs.declared.scope.Declared.{Declared}

-- The names of registers in the order of their declaration, the names of claims in the order of their first mention, and
-- the numbers of qubits, of bits and of statements.
pub record Known : Type 0 where
  pub names : List (List ℕ × Declared)
  pub claims : List (List ℕ)
  pub qubits : ℕ
  pub bits : ℕ
  pub statements : ℕ

abbrev pub nothing_known : Known
nothing_known = record { names = []; claims = []; qubits = 0; bits = 0; statements = 0 }

-- what a name was declared as
abbrev pub declared_as : List (List ℕ × Declared) → List ℕ → Option Declared
declared_as [] name = None
declared_as (entry ∷ rest) name = if bytes_eq name entry.0 then Some entry.1 else declared_as rest name

-- ---- checks, of which the first that fails tells the fault

abbrev pub Checked : Type 0 → Type 0
Checked = CheckedBy ElabFault

-- ---- what a function of the program answers: the same, unless memory ran out

abbrev pub Gives : {A B : Type 0} → (B → A) → Result B ElabFault → Checked A → Type 0
Gives = GivesUnless faults.Memory
