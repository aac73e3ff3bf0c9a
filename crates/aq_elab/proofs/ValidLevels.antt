-- Statements by their levels: what is valid on some qubits, bits and claims stays so on more.
use Rattle.std.proofs.Common.{◌≢◌, ℕ, ◌<◌, ◌≤◌, List, length, Option, Some, None, IfSome, refl, ap, ap₂, arith}
use Rattle.std.specs.List.{All}
use Rattle.std.proofs.lemmas.List.Elements.{All-weaker}
use Rattle.aq_prog.specs.Gates.{IsValidGate}
use Rattle.aq_prog.specs.Programs.{IsValidLevel, IsWrittenLevel}
use Rattle.aq_prog.specs.declared.gate.Gate.{Gate}
use Rattle.aq_prog.specs.declared.stmt.Guard.{Guard}
use Rattle.aq_prog.specs.declared.stmt.Stmt.{Stmt, every-Stmt, every_made-Stmt}
use Rattle.aq_prog.specs.declared.stmt.Stmt.TheVariants as stmt
use Rattle.aq_prog.specs.declared.stmt.Stmt.TheOpen.{Stmt-F}
use Rattle.aq_prog.specs.declared.stmt.Stmt.TheViews.{roll-Stmt}
use Rattle.aq_elab.specs.Known.{Known}
use Rattle.aq_elab.proofs.ValidLists.{paired_with}
use denote.Hole.Carrier.{roll}

-- no fewer qubits, bits and claims
pub record IsGrown (before after : Known) : Type 0 where
  pub qubits : before.qubits ≤ after.qubits
  pub bits : before.bits ≤ after.bits
  pub claims : length before.claims ≤ length after.claims

pub not_less : (known : Known) → IsGrown known known
not_less known = record { qubits = omega arith; bits = omega arith; claims = omega arith }

pub grown_twice : (a b c : Known) → IsGrown a b → IsGrown b c → IsGrown a c
grown_twice a b c g h = record { qubits = omega (arith, g.qubits, h.qubits); bits = omega (arith, g.bits, h.bits); claims = omega (arith, g.claims, h.claims) }

-- ---- levels

gate-grown : (n m : ℕ) (gate : Gate) → n ≤ m → IsValidGate n gate → IsValidGate m gate
gate-grown n m gate le g = record {
  entries = g.entries;
  target = omega (arith, g.target);
  controls = All-weaker (λ c. (c < n) × (c ≢ gate.target)) (λ c. (c < m) × (c ≢ gate.target)) (λ c h. (omega (arith, h.0), h.1)) gate.controls g.controls;
  distinct = g.distinct;
}

below_more : (n m : ℕ) (bit : Option ℕ) → n ≤ m → IfSome bit (λ b. b < n) → IfSome bit (λ b. b < m)
below_more n m (Some b) le h = omega arith
below_more n m None le h = tt

abbrev pub IsValidIn : Known → Stmt-F Stmt → Type 0
IsValidIn known = IsValidLevel known.qubits known.bits (length known.claims)

level-grown : (a b : Known) → IsGrown a b → (x : Stmt-F Stmt) → IsValidIn a x → IsValidIn b x
level-grown a b g (Stmt-F.Gate gate) h = gate-grown a.qubits b.qubits gate g.qubits h
level-grown a b g (Stmt-F.Measure qubit bit) h = (omega (arith, g.qubits, h.0), below_more a.bits b.bits bit g.bits h.1)
level-grown a b g (Stmt-F.Reset qubit) h = omega (arith, g.qubits, h)
level-grown a b g (Stmt-F.If guard when_true when_false) h = omega (arith, g.bits, h)
level-grown a b g (Stmt-F.While guard claim body line) h = (omega (arith, g.bits, h.0), omega (arith, g.claims, h.1))
level-grown a b g (Stmt-F.Assert claim line) h = omega (arith, g.claims, h)
level-grown a b g (Stmt-F.Assume guard) h = omega (arith, g.bits, h)

-- ---- statements, each of whose levels is to have the property Q

module _ (Q : Stmt-F Stmt → Type 0) where
  -- what is valid here, and written in a text, has it
  abbrev pub Allows : Known → Type 0
  Allows known = (x : Stmt-F Stmt) → IsValidIn known x → IsWrittenLevel x → Q x

  pub Allows-before : (a b : Known) → IsGrown a b → Allows b → Allows a
  Allows-before a b g allows x valid written = allows x (level-grown a b g x valid) written

  pub every-gate : (gate : Gate) → Q (Stmt-F.Gate gate) → every-Stmt Q (stmt.Gate gate)
  unfolding roll-Stmt roll
  every-gate gate q = every_made-Stmt Q (Stmt-F.Gate gate) (Stmt-F.Gate gate) refl q

  pub every-measure : (qubit : ℕ) (bit : Option ℕ) → Q (Stmt-F.Measure qubit bit) → every-Stmt Q (stmt.Measure qubit bit)
  unfolding roll-Stmt roll
  every-measure qubit bit q = every_made-Stmt Q (Stmt-F.Measure qubit bit) (Stmt-F.Measure qubit bit) refl q

  pub every-reset : (qubit : ℕ) → Q (Stmt-F.Reset qubit) → every-Stmt Q (stmt.Reset qubit)
  unfolding roll-Stmt roll
  every-reset qubit q = every_made-Stmt Q (Stmt-F.Reset qubit) (Stmt-F.Reset qubit) refl q

  pub every-assert : (claim line : ℕ) → Q (Stmt-F.Assert claim line) → every-Stmt Q (stmt.Assert claim line)
  unfolding roll-Stmt roll
  every-assert claim line q = every_made-Stmt Q (Stmt-F.Assert claim line) (Stmt-F.Assert claim line) refl q

  pub every-if : (guard : Guard) (when_true when_false : List Stmt) → All (every-Stmt Q) when_true → All (every-Stmt Q) when_false → Q (Stmt-F.If guard when_true when_false) → every-Stmt Q (stmt.If guard when_true when_false)
  unfolding roll-Stmt roll
  every-if guard when_true when_false h k q =
      let first = paired_with (every-Stmt Q) when_true h in
      let second = paired_with (every-Stmt Q) when_false k in
      every_made-Stmt Q (Stmt-F.If guard when_true when_false) (Stmt-F.If guard first.list second.list) (ap₂ (λ (xs ys : List Stmt). Stmt-F.If guard xs ys) first.same second.same) q

  pub every-while : (guard : Guard) (claim : ℕ) (body : List Stmt) (line : ℕ) → All (every-Stmt Q) body → Q (Stmt-F.While guard claim body line) → every-Stmt Q (stmt.While guard claim body line)
  unfolding roll-Stmt roll
  every-while guard claim body line h q =
      let inner = paired_with (every-Stmt Q) body h in
      every_made-Stmt Q (Stmt-F.While guard claim body line) (Stmt-F.While guard claim inner.list line) (ap (λ (xs : List Stmt). Stmt-F.While guard claim xs line) inner.same) q
