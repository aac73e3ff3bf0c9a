-- Programs, and when one is valid: its numbers of qubits, bits and claims are in range.
use Rattle.std.specs.Prelude.{◌≡◌, ℕ, ◌+◌, ◌<◌, ◌≤◌, List, [], ◌∷◌, All, length, map, IfSome}
use Rattle.std.specs.List.{IsDistinct}
use Rattle.std.specs.Str.{bytes_eq}
use Rattle.aq_base.specs.Limits.{most_bits, most_qubits}
use Rattle.aq_prog.specs.Gates.{IsValidGate}
use Rattle.aq_prog.specs.declared.stmt.Stmt.{Stmt, every-Stmt}
use Rattle.aq_prog.specs.declared.stmt.Stmt.TheOpen.{Stmt-F}
use Rattle.aq_prog.specs.declared.program.BitRegister.{BitRegister}
use Rattle.aq_prog.specs.declared.program.Program.{Program}

-- one level of a statement on n qubits, m bits and k claims: its gate is valid, and what it names is there
abbrev pub IsValidLevel : {A : Type 0} → ℕ → ℕ → ℕ → Stmt-F A → Type 0
IsValidLevel n m k (Stmt-F.Gate gate) = IsValidGate n gate
IsValidLevel n m k (Stmt-F.Measure qubit bit) = (qubit < n) × IfSome bit (λ b. b < m)
IsValidLevel n m k (Stmt-F.Reset qubit) = qubit < n
IsValidLevel n m k (Stmt-F.If guard when_true when_false) = guard.bit < m
IsValidLevel n m k (Stmt-F.While guard claim body line) = (guard.bit < m) × (claim < k)
IsValidLevel n m k (Stmt-F.Assert claim line) = claim < k
IsValidLevel n m k (Stmt-F.Assume guard) = guard.bit < m

-- a statement with all the statements inside
abbrev pub IsValidStmt : ℕ → ℕ → ℕ → Stmt → Type 0
IsValidStmt n m k = every-Stmt (IsValidLevel n m k)

-- one level of a statement that a program text can have: all but an assumption
abbrev pub IsWrittenLevel : {A : Type 0} → Stmt-F A → Type 0
IsWrittenLevel (Stmt-F.Gate gate) = Unit {0}
IsWrittenLevel (Stmt-F.Measure qubit bit) = Unit {0}
IsWrittenLevel (Stmt-F.Reset qubit) = Unit {0}
IsWrittenLevel (Stmt-F.If guard when_true when_false) = Unit {0}
IsWrittenLevel (Stmt-F.While guard claim body line) = Unit {0}
IsWrittenLevel (Stmt-F.Assert claim line) = Unit {0}
IsWrittenLevel (Stmt-F.Assume guard) = ⊥

abbrev pub IsWritten : Stmt → Type 0
IsWritten = every-Stmt IsWrittenLevel

-- the registers stand one after the other, from a first bit up to an end, and each has a bit
abbrev pub AreInRow : ℕ → ℕ → List BitRegister → Type 0
AreInRow first end [] = first ≡ end
AreInRow first end (r ∷ rs) = (r.first ≡ first) × (0 < r.size) × AreInRow (first + r.size) end rs

-- The numbers of qubits and bits are within the limits. The registers have different names and are all the bits. Each
-- statement, inner ones too, is valid.
pub record IsValidProgram (p : Program) : Type 0 where
  pub qubits : p.qubits ≤ most_qubits
  pub bits : p.bits ≤ most_bits
  pub names : IsDistinct bytes_eq (map (λ r. r.name) p.registers)
  pub row : AreInRow 0 p.bits p.registers
  pub body : All (IsValidStmt p.qubits p.bits (length p.claims)) p.body
