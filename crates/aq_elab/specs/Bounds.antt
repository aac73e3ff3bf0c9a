-- How large the numbers of what is known are, and how a name is added to it.
use Rattle.std.specs.Prelude.{ℕ, ◌+◌, ◌≤◌, List, [], ◌∷◌, ◌++◌, All, Option}
use Rattle.aq_base.specs.Limits.{most_bits, most_qubits}
use Rattle.aq_elab.specs.Known.{Known}
use Rattle.aq_elab.specs.Spots.{width}
use Rattle.aq_elab.specs.declared.scope.Declared.{Declared}
use Rattle.aq_elab.specs.declared.scope.Span.{Span}
use Rattle.aq_elab.specs.declared.scope.Role.{Role}
use Rattle.aq_elab.specs.declared.scope.Role.TheVariants as roles

-- the number behind the last one of a span
abbrev pub end_of : Span → ℕ
end_of span = span.first + width span

-- a span of this end has no number above the limits
abbrev pub IsShort : Span → Type 0
IsShort span = end_of span ≤ most_bits

-- The numbers of qubits and of bits are within their limits, and each register is short.
pub record IsWithin (names : List (List ℕ × Declared)) (qubits bits : ℕ) : Type 0 where
  pub few_qubits : qubits ≤ most_qubits
  pub few_bits : bits ≤ most_bits
  pub short : All (λ (entry : List ℕ × Declared). IsShort entry.1.span) names

-- one name more, and new numbers of qubits and of bits
abbrev pub with_name : Known → List ℕ → Declared → ℕ → ℕ → Known
with_name known name declared qubits bits = record {
  names = known.names ++ (name, declared) ∷ [];
  claims = known.claims;
  qubits = qubits;
  bits = bits;
  statements = known.statements;
}

-- the next qubits or bits that aren't declared
abbrev pub next_span : Role → Option ℕ → Known → Span
next_span roles.Qubit size known = record { first = known.qubits; size = size }
next_span roles.Bit size known = record { first = known.bits; size = size }
