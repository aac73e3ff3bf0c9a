-- The program of a syntax tree.
use Rattle.std.specs.Prelude.{ℕ, ◌==◌, false, List, Option, Some, None, Ok}
use Rattle.std.specs.List.{filter_map}
use Rattle.std.specs.Option.{is_some}
use Rattle.aq_parse.specs.declared.tree.Tree.{Tree}
use Rattle.aq_prog.specs.declared.program.Program.{Program}
use Rattle.aq_prog.specs.declared.program.BitRegister.{BitRegister}
use Rattle.aq_base.specs.Checks.{refuse_if, ◌>>=◌, ◌>>◌}
use Rattle.aq_elab.specs.Known.{Checked, nothing_known}
use Rattle.aq_elab.specs.Spots.{width}
use Rattle.aq_elab.specs.Statements.{Step, statements_of}
use Rattle.aq_elab.specs.declared.fault.ElabFault.TheVariants as faults
use Rattle.aq_elab.specs.declared.scope.Declared.{Declared}
use Rattle.aq_elab.specs.declared.scope.Role.{Role}
use Rattle.aq_elab.specs.declared.scope.Role.TheVariants as roles

abbrev pub register_of : List ℕ → Declared → Role → Option BitRegister
register_of name d roles.Qubit = None
register_of name d roles.Bit = Some (record { name = name; first = d.span.first; size = width d.span; indexed = is_some d.span.size })

-- the bit registers, in the order of their declaration
abbrev pub registers_of : List (List ℕ × Declared) → List BitRegister
registers_of names = filter_map (λ entry. register_of entry.0 entry.1 entry.1.role) names

abbrev pub program_of : Step → Program
program_of s = record {
  qubits = s.known.qubits;
  bits = s.known.bits;
  registers = registers_of s.known.names;
  claims = s.known.claims;
  body = s.statements;
}

-- The program that a tree says, or its first fault.
unfoldable pub elaborated : Tree → Checked Program
elaborated tree =
    statements_of false tree.items nothing_known >>= λ s.
    refuse_if (s.known.qubits == 0) (faults.NoQubits tree.end)
    >> Ok (program_of s)
