-- Annotations behind statements.
use Rattle.std.proofs.Common.{◌≡◌, Bool, true, false, List, [], ◌∷◌, ◌++◌, Ok, Err, not, refl, ap, ◌∙◌, if◌then◌else◌, codes}
use Rattle.std.proofs.lemmas.List.{append_assoc}
use Rattle.std.specs.Str.{bytes_eq}
use Rattle.aq_parse.specs.declared.tree.Note.{Note}
use Rattle.aq_prog.specs.declared.stmt.Stmt.{Stmt}
use Rattle.aq_prog.specs.declared.stmt.Stmt.TheVariants as stmt
use Rattle.aq_base.specs.Checks.{refuse_if, ◌>>=◌, ◌>>◌}
use Rattle.aq_elab.specs.Known.{Checked}
use Rattle.aq_elab.specs.Annotations.{Annotations, note_taken, notes_taken, asserted, kept, is_name, is_stray, claim_number}
use Rattle.aq_elab.specs.declared.fault.ElabFault.{ElabFault}
use Rattle.aq_elab.specs.declared.fault.ElabFault.TheVariants as faults

-- annotations whose asserts stand behind statements
abbrev pub front : List Stmt → Annotations → Annotations
front before a = record { claims = a.claims; asserts = before ++ a.asserts; invariant = a.invariant }

abbrev pub fronted : List Stmt → Checked Annotations → Checked Annotations
fronted before (Ok a) = Ok (front before a)
fronted before (Err e) = Err e

abbrev picked : Bool → Bool → Bool → Bool → ElabFault → Annotations → Annotations → Annotations → Checked Annotations
picked assert no_name invariant stray fault p q a = if assert then (refuse_if no_name fault >> Ok p) else (if invariant then (refuse_if stray fault >> Ok q) else Ok a)

picked-front : (before : List Stmt) (assert no_name invariant stray : Bool) (fault : ElabFault) (p q a : Annotations) → picked assert no_name invariant stray fault (front before p) (front before q) (front before a) ≡ fronted before (picked assert no_name invariant stray fault p q a)
picked-front before true true i s fault p q a = refl
picked-front before true false i s fault p q a = refl
picked-front before false n true true fault p q a = refl
picked-front before false n true false fault p q a = refl
picked-front before false n false s fault p q a = refl

asserted-front : (before : List Stmt) (note : Note) (a : Annotations) → asserted note (front before a) ≡ front before (asserted note a)
asserted-front before note a = ap (λ (xs : List Stmt). record { claims = (asserted note a).claims; asserts = xs; invariant = a.invariant }) (append_assoc before a.asserts (stmt.Assert (claim_number a.claims note.rest) note.name.at.line ∷ []))

note_taken-front : (before : List Stmt) (is_loop : Bool) (note : Note) (a : Annotations) → note_taken is_loop note (front before a) ≡ fronted before (note_taken is_loop note a)
unfolding note_taken
note_taken-front before is_loop note a =
    let assert = bytes_eq note.name.text (codes "assert") in
    let invariant = bytes_eq note.name.text (codes "invariant") in
    ap (λ (p : Annotations). picked assert (not (is_name note.rest)) invariant (is_stray is_loop note a) (faults.StrayAnnotation note.name.at) p (front before (kept note a)) (front before a)) (asserted-front before note a)
    ∙ picked-front before assert (not (is_name note.rest)) invariant (is_stray is_loop note a) (faults.StrayAnnotation note.name.at) (asserted note a) (kept note a) a

then-front : (before : List Stmt) (f : Annotations → Checked Annotations) → ((a : Annotations) → f (front before a) ≡ fronted before (f a)) → (r : Checked Annotations) → (fronted before r >>= f) ≡ fronted before (r >>= f)
then-front before f h (Ok a) = h a
then-front before f h (Err e) = refl

pub notes_taken-front : (before : List Stmt) (is_loop : Bool) (notes : List Note) (a : Annotations) → notes_taken is_loop notes (front before a) ≡ fronted before (notes_taken is_loop notes a)
notes_taken-front before is_loop [] a = refl
notes_taken-front before is_loop (note ∷ rest) a =
    ap (λ r. r >>= notes_taken is_loop rest) (note_taken-front before is_loop note a)
    ∙ then-front before (notes_taken is_loop rest) (notes_taken-front before is_loop rest) (note_taken is_loop note a)
