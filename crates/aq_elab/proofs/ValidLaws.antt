-- What a tree means is a valid program, and has no assumption.
use Rattle.std.proofs.Common.{◌≡◌, length, Result, Ok, Err, IfOk}
use Rattle.std.specs.Prelude.{◌==◌, false}
use Rattle.std.specs.List.{All}
use Rattle.std.proofs.lemmas.Result.{IfOk-at_ok}
use Rattle.aq_parse.specs.declared.tree.Tree.{Tree}
use Rattle.aq_prog.specs.Programs.{IsValidLevel, IsWrittenLevel, IsWritten, IsValidProgram}
use Rattle.aq_prog.specs.declared.program.Program.{Program}
use Rattle.aq_prog.specs.declared.stmt.Stmt.{Stmt}
use Rattle.aq_prog.specs.declared.stmt.Stmt.TheOpen.{Stmt-F}
use Rattle.aq_base.specs.Checks.{refuse_if, ◌>>=◌, ◌>>◌}
use Rattle.aq_elab.specs.Known.{Checked, nothing_known, Gives}
use Rattle.aq_elab.specs.Statements.{Step, statements_of}
use Rattle.aq_elab.specs.Elaborated.{program_of, elaborated}
use Rattle.aq_elab.specs.declared.fault.ElabFault.{ElabFault}
use Rattle.aq_elab.specs.declared.fault.ElabFault.TheVariants as faults
use Rattle.aq_elab.proofs.ValidLists.{unless}
use Rattle.aq_elab.proofs.ValidKnown.{nothing-sound}
use Rattle.aq_elab.proofs.ValidStatements.{IsFine}
use Rattle.aq_elab.proofs.ValidTrees.{statements-good}

-- a step from nothing, fine whatever its levels are to have
abbrev IsWhole : Step → Type 1
IsWhole s = (Q : Stmt-F Stmt → Type 0) → IsFine Q nothing_known s

step-valid : (s : Step) → IsWhole s → IsValidProgram (program_of s)
step-valid s whole =
    let fine = whole (IsValidLevel s.known.qubits s.known.bits (length s.known.claims)) in
    record {
      qubits = fine.sound.qubits;
      bits = fine.sound.bits;
      names = fine.sound.names;
      row = fine.sound.row;
      body = fine.statements (λ x valid written. valid);
    }

step-written : (s : Step) → IsWhole s → All IsWritten s.statements
step-written s whole = (whole IsWrittenLevel).statements (λ x valid written. written)

-- what holds of the program of each such step holds of the program that a tree means
of_whole : (R : Program → Type 0) → ((s : Step) → IsWhole s → R (program_of s)) → (tree : Tree) → IfOk (elaborated tree) R
unfolding elaborated
of_whole R holds tree = by (statements_of false tree.items nothing_known) (λ Q. statements-good Q tree.items false nothing_known nothing-sound)
  where
    by : (c : Checked Step) → ((Q : Stmt-F Stmt → Type 0) → IfOk c (IsFine Q nothing_known))
        → IfOk (c >>= λ s. refuse_if (s.known.qubits == 0) (faults.NoQubits tree.end) >> Ok (program_of s)) R
    by (Ok s) h = unless R (s.known.qubits == 0) (faults.NoQubits tree.end) (Ok (program_of s)) (λ e. holds s h)
    by (Err f) h = tt

pub elaborated-valid : (tree : Tree) (p : Program) → elaborated tree ≡ Ok p → IsValidProgram p
elaborated-valid tree p e = IfOk-at_ok IsValidProgram e (of_whole IsValidProgram step-valid tree)

pub elaborated-written : (tree : Tree) (p : Program) → elaborated tree ≡ Ok p → All IsWritten p.body
elaborated-written tree p e = IfOk-at_ok (λ (p : Program). All IsWritten p.body) e (of_whole (λ (p : Program). All IsWritten p.body) step-written tree)

-- ---- of what a function gives

pub valid_given : (r : Result Program ElabFault) (tree : Tree) → Gives (λ (p : Program). p) r (elaborated tree) → IfOk r IsValidProgram
valid_given (Ok p) tree e = elaborated-valid tree p e
valid_given (Err f) tree h = tt

pub written_given : (r : Result Program ElabFault) (tree : Tree) → Gives (λ (p : Program). p) r (elaborated tree) → IfOk r (λ (p : Program). All IsWritten p.body)
written_given (Ok p) tree e = elaborated-written tree p e
written_given (Err f) tree h = tt
