-- What statements mean, in the order of the text: declarations add names, the others add statements to the program. The
-- first fault comes in the order of the rules: annotations, then a declaration inside a body, then the statement's own
-- checks, then the number of statements, then the statements inside.
use Rattle.std.specs.Prelude.{ℕ, ◌+◌, ◌==◌, Bool, true, false, not, ◌&&◌, List, [], ◌∷◌, ◌++◌, map, length, Option, Some, None, Ok, nat_lt}
use Rattle.std.specs.Option.{is_some}
use Rattle.aq_base.specs.Checks.{all_checked, or_refuse, refuse_if, ◌>>=◌, ◌>>◌}
use Rattle.aq_base.specs.Limits.{most_bits, most_qubits, most_statements}
use Rattle.aq_lex.specs.declared.place.Place.{Place}
use Rattle.aq_parse.specs.declared.tree.Word.{Word}
use Rattle.aq_parse.specs.declared.tree.Spot.{Spot}
use Rattle.aq_parse.specs.declared.tree.Test.{Test}
use Rattle.aq_parse.specs.declared.tree.Item.{Item}
use Rattle.aq_parse.specs.declared.tree.Node.TheOpen.{Node-F, Item-F}
use Rattle.aq_parse.specs.declared.tree.Node.TheFolds.{fold-Item}
use Rattle.aq_prog.specs.Digits.{tabulate}
use Rattle.aq_prog.specs.declared.stmt.Guard.{Guard}
use Rattle.aq_prog.specs.declared.stmt.Stmt.{Stmt}
use Rattle.aq_prog.specs.declared.stmt.Stmt.TheVariants as stmt
use Rattle.aq_elab.specs.Known.{Known, Checked, declared_as}
use Rattle.aq_elab.specs.Spots.{span_of, width, width_of, member}
use Rattle.aq_elab.specs.Calls.{gates_of_call}
use Rattle.aq_elab.specs.Annotations.{annotations}
use Rattle.aq_elab.specs.declared.fault.ElabFault.TheVariants as faults
use Rattle.aq_elab.specs.declared.scope.Span.{Span}
use Rattle.aq_elab.specs.declared.scope.Role.{Role}
use Rattle.aq_elab.specs.declared.scope.Role.TheVariants as roles

-- what is known then, and the statements of the program
pub record Step : Type 0 where
  pub known : Known
  pub statements : List Stmt

abbrev pub step : Known → List Stmt → Step
step known statements = record { known = known; statements = statements }

-- ---- declarations

abbrev pub is_none_of : Option ℕ → Bool
is_none_of (Some n) = n == 0
is_none_of None = false

-- the new name's register, behind those of its role
abbrev pub registered : Role → Word → Option ℕ → Known → Checked Known
registered roles.Qubit name size known =
    refuse_if (nat_lt most_qubits (known.qubits + width_of size)) (faults.TooManyQubits name.at)
    >> Ok (record {
      names = known.names ++ (name.text, record { role = roles.Qubit; span = record { first = known.qubits; size = size } }) ∷ [];
      claims = known.claims;
      qubits = known.qubits + width_of size;
      bits = known.bits;
      statements = known.statements;
    })
registered roles.Bit name size known =
    refuse_if (nat_lt most_bits (known.bits + width_of size)) (faults.TooManyBits name.at)
    >> Ok (record {
      names = known.names ++ (name.text, record { role = roles.Bit; span = record { first = known.bits; size = size } }) ∷ [];
      claims = known.claims;
      qubits = known.qubits;
      bits = known.bits + width_of size;
      statements = known.statements;
    })

unfoldable pub declaring : Role → Word → Option ℕ → Known → Checked Known
declaring role name size known =
    refuse_if (is_none_of size) (faults.EmptyRegister name.at)
    >> refuse_if (is_some (declared_as known.names name.text)) (faults.TwiceDeclared name.at)
    >> registered role name size known

-- ---- measurements and resets

-- qubits into bits, one by one; the fault is at this place
abbrev pub paired : Place → Span → Span → Checked (List Stmt)
paired at qubits bits =
    refuse_if (not (width qubits == width bits)) (faults.SizeDiffers at)
    >> Ok (tabulate (width qubits) (λ i. stmt.Measure (member qubits i) (Some (member bits i))))

-- qubits alone
abbrev pub unpaired : Span → List Stmt
unpaired qubits = tabulate (width qubits) (λ i. stmt.Measure (member qubits i) None)

-- the spots in the order of the text
unfoldable pub measured : Known → Spot → Option Spot → Bool → Checked (List Stmt)
measured known from None into_first = span_of known roles.Qubit from >>= λ qubits. Ok (unpaired qubits)
measured known from (Some into) false = span_of known roles.Qubit from >>= λ qubits. span_of known roles.Bit into >>= λ bits. paired into.name.at qubits bits
measured known from (Some into) true = span_of known roles.Bit into >>= λ bits. span_of known roles.Qubit from >>= λ qubits. paired from.name.at qubits bits

-- what a declared register is measured from
unfoldable pub measured_into : Known → Span → Option Spot → Checked (List Stmt)
measured_into known bits None = Ok []
measured_into known bits (Some from) = span_of known roles.Qubit from >>= λ qubits. paired from.name.at qubits bits

unfoldable pub resets : Known → Spot → Checked (List Stmt)
resets known spot = span_of known roles.Qubit spot >>= λ qubits. Ok (tabulate (width qubits) (λ i. stmt.Reset (member qubits i)))

-- ---- tests

-- one bit and its value
unfoldable pub guard_of : Known → Test → Checked Guard
guard_of known test =
    span_of known roles.Bit test.spot >>= λ bits.
    refuse_if (not (width bits == 1)) (faults.SizeDiffers test.spot.name.at)
    >> Ok (record { bit = member bits 0; value = test.value })

-- ---- statements

-- so many statements more; the fault is at this place
abbrev pub counted : Place → ℕ → Known → Checked Known
counted at n known =
    refuse_if (nat_lt most_statements (known.statements + n)) (faults.TooManyStatements at)
    >> Ok (record { names = known.names; claims = known.claims; qubits = known.qubits; bits = known.bits; statements = known.statements + n })

-- What a statement without its annotations means. `run` takes its place, its invariant and the number of its asserts.
pub record NodeMeaning : Type 0 where
  pub is_loop : Bool
  pub is_declaration : Bool
  pub run : Place → Option ℕ → ℕ → Known → Checked Step

-- What a statement means; it may be inside a body.
abbrev pub Meaning : Type 0
Meaning = Bool → Known → Checked Step

-- statements one after the other
abbrev pub in_order : List Meaning → Meaning
in_order [] inside known = Ok (step known [])
in_order (m ∷ rest) inside known = m inside known >>= λ s. in_order rest inside s.known >>= λ r. Ok (step r.known (s.statements ++ r.statements))

-- statements that have none inside: they are counted with the asserts behind their own checks
abbrev pub flat : Place → ℕ → Known → List Stmt → Checked Step
flat at asserts known statements = counted at (asserts + length statements) known >>= λ k. Ok (step k statements)

abbrev pub plain : (Known → Checked (List Stmt)) → NodeMeaning
plain own = record {
  is_loop = false;
  is_declaration = false;
  run = λ at invariant asserts known. own known >>= flat at asserts known;
}

abbrev pub declaration : (Known → Checked Step) → NodeMeaning
declaration own = record {
  is_loop = false;
  is_declaration = true;
  run = λ at invariant asserts known. own known >>= λ s. flat at asserts s.known s.statements;
}

abbrev pub branching : Test → List Meaning → List Meaning → NodeMeaning
branching test when_true when_false = record {
  is_loop = false;
  is_declaration = false;
  run = λ at invariant asserts known.
      guard_of known test >>= λ guard.
      counted at (asserts + 1) known >>= λ k.
      in_order when_true true k >>= λ first.
      in_order when_false true first.known >>= λ second.
      Ok (step second.known (stmt.If guard first.statements second.statements ∷ []));
}

abbrev pub looping : Test → List Meaning → NodeMeaning
looping test body = record {
  is_loop = true;
  is_declaration = false;
  run = λ at invariant asserts known.
      or_refuse (faults.MissingInvariant at) invariant >>= λ claim.
      guard_of known test >>= λ guard.
      counted at (asserts + 1) known >>= λ k.
      in_order body true k >>= λ inner.
      Ok (step inner.known (stmt.While guard claim inner.statements at.line ∷ []));
}

-- the number of the register's first bit is that of the bits before it
abbrev pub bits_declared : Word → Option ℕ → Option Spot → Known → Checked Step
bits_declared name size from known =
    declaring roles.Bit name size known >>= λ k.
    measured_into k (record { first = known.bits; size = size }) from >>= λ statements.
    Ok (step k statements)

-- one level of a statement, in which the statements inside already stand as their meanings
abbrev pub node_step : Node-F NodeMeaning Meaning → NodeMeaning
node_step Node-F.Include = declaration (λ known. Ok (step known []))
node_step (Node-F.Qubits name size) = declaration (λ known. declaring roles.Qubit name size known >>= λ k. Ok (step k []))
node_step (Node-F.Bits name size from) = declaration (bits_declared name size from)
node_step (Node-F.Measure from into into_first) = plain (λ known. measured known from into into_first)
node_step (Node-F.Reset spot) = plain (λ known. resets known spot)
node_step (Node-F.Barrier spots) = plain (λ known. all_checked (span_of known roles.Qubit) spots >>= λ spans. Ok [])
node_step (Node-F.Call name angle spots) = plain (λ known. gates_of_call known name angle spots >>= λ gates. Ok (map stmt.Gate gates))
node_step (Node-F.If test when_true when_false) = branching test when_true when_false
node_step (Node-F.While test body) = looping test body

abbrev pub with_claims : List (List ℕ) → Known → Known
with_claims claims known = record { names = known.names; claims = claims; qubits = known.qubits; bits = known.bits; statements = known.statements }

-- a statement behind its annotations
abbrev pub item_step : Item-F NodeMeaning Meaning → Meaning
item_step item inside known =
    annotations item.node.is_loop item.notes known.claims >>= λ a.
    refuse_if (inside && item.node.is_declaration) (faults.DeclaredInBlock item.at)
    >> (item.node.run item.at a.invariant (length a.asserts) (with_claims a.claims known) >>= λ s.
    Ok (step s.known (a.asserts ++ s.statements)))

abbrev pub meaning : Item → Meaning
meaning = fold-Item NodeMeaning Meaning node_step item_step

-- what statements mean behind others
abbrev pub statements_of : Bool → List Item → Known → Checked Step
statements_of inside items = in_order (map meaning items) inside
