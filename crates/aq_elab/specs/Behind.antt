-- Statements that are put behind those of a list.
use Rattle.std.specs.Prelude.{ℕ, ◌+◌, Bool, List, [], ◌++◌, map, Option, Ok, Err}
use Rattle.aq_parse.specs.declared.tree.Note.{Note}
use Rattle.aq_parse.specs.declared.tree.Angle.{Angle}
use Rattle.aq_parse.specs.declared.tree.Spot.{Spot}
use Rattle.aq_parse.specs.declared.tree.Test.{Test}
use Rattle.aq_parse.specs.declared.tree.Word.{Word}
use Rattle.aq_lex.specs.declared.place.Place.{Place}
use Rattle.aq_prog.specs.declared.stmt.Guard.{Guard}
use Rattle.aq_parse.specs.declared.tree.Node.TheOpen.{Node-F}
use Rattle.aq_prog.specs.declared.stmt.Stmt.{Stmt}
use Rattle.aq_prog.specs.declared.stmt.Stmt.TheVariants as stmt
use Rattle.aq_elab.specs.Calls.{gates_of_call}
use Rattle.aq_base.specs.Checks.{all_checked, ◌>>=◌}
use Rattle.aq_elab.specs.Known.{Known, Checked}
use Rattle.aq_elab.specs.Annotations.{Annotations, note_taken, notes_taken}
use Rattle.aq_elab.specs.Spots.{span_of}
use Rattle.aq_elab.specs.declared.scope.Role.TheVariants as roles
use Rattle.aq_elab.specs.Statements.{Step, step, with_claims, declaring, bits_declared, measured, resets, guard_of, counted}

-- more statements behind those of a list
abbrev pub listed : List Stmt → Checked (List Stmt) → Checked (List Stmt)
listed before (Ok more) = Ok (before ++ more)
listed before (Err e) = Err e

-- the statements of a step behind those of a list
abbrev pub behind : List Stmt → Checked Step → Checked Step
behind before (Ok s) = Ok (step s.known (before ++ s.statements))
behind before (Err e) = Err e

-- a barrier gives no statement
abbrev pub barred : Known → List Spot → Checked (List Stmt)
barred known spots = all_checked (span_of known roles.Qubit) spots >>= λ spans. Ok []

-- the statements of a gate call
abbrev pub called : Known → Word → Option Angle → List Spot → Checked (List Stmt)
called known name angle spots = gates_of_call known name angle spots >>= λ gates. Ok (map stmt.Gate gates)

-- what a statement without statements inside gives before it is counted; one with statements inside gives nothing here
abbrev pub own : {A B : Type 0} → Node-F A B → Known → Checked Step
own Node-F.Include known = Ok (step known [])
own (Node-F.Qubits name size) known = declaring roles.Qubit name size known >>= λ k. Ok (step k [])
own (Node-F.Bits name size from) known = bits_declared name size from known
own (Node-F.Measure from into into_first) known = measured known from into into_first >>= λ more. Ok (step known more)
own (Node-F.Reset spot) known = resets known spot >>= λ more. Ok (step known more)
own (Node-F.Barrier spots) known = barred known spots >>= λ more. Ok (step known more)
own (Node-F.Call name angle spots) known = called known name angle spots >>= λ more. Ok (step known more)
own (Node-F.If test when_true when_false) known = Ok (step known [])
own (Node-F.While test body) known = Ok (step known [])

-- the guard of a test, and what is known once its statement is counted with its asserts
abbrev pub headed : Test → Place → ℕ → Known → Checked (Guard × Known)
headed test at asserts known = guard_of known test >>= λ guard. counted at (asserts + 1) known >>= λ k. Ok (guard, k)

-- what is known, a list with the asserts behind it, and the invariant
pub record Noted : Type 0 where
  pub known : Known
  pub statements : List Stmt
  pub invariant : Option ℕ

abbrev pub annotations_of : Noted → Annotations
annotations_of n = record { claims = n.known.claims; asserts = n.statements; invariant = n.invariant }

abbrev pub noted_by : Known → Checked Annotations → Checked Noted
noted_by known (Ok a) = Ok (record { known = with_claims a.claims known; statements = a.asserts; invariant = a.invariant })
noted_by known (Err e) = Err e

-- one annotation, and all, behind those before
abbrev pub noted : Bool → Note → Noted → Checked Noted
noted is_loop note n = noted_by n.known (note_taken is_loop note (annotations_of n))

abbrev pub all_noted : Bool → List Note → Noted → Checked Noted
all_noted is_loop notes n = noted_by n.known (notes_taken is_loop notes (annotations_of n))
