-- The annotations of a statement: `@assert NAME` and `@invariant NAME`. Others are ignored.
use Rattle.std.specs.Prelude.{ℕ, Bool, false, not, ◌&&◌, ◌||◌, List, [], ◌∷◌, ◌++◌, Option, Some, None, Ok, codes, if◌then◌else◌}
use Rattle.std.specs.List.{list_any, list_all, position_or_len}
use Rattle.std.specs.Option.{is_some}
use Rattle.std.specs.Str.{bytes_eq}
use Rattle.aq_lex.specs.Bytes.{is_word, is_letter}
use Rattle.aq_parse.specs.declared.tree.Note.{Note}
use Rattle.aq_prog.specs.declared.stmt.Stmt.{Stmt}
use Rattle.aq_prog.specs.declared.stmt.Stmt.TheVariants as stmt
use Rattle.aq_base.specs.Checks.{refuse_if, ◌>>=◌, ◌>>◌}
use Rattle.aq_elab.specs.Known.{Checked}
use Rattle.aq_elab.specs.declared.fault.ElabFault.TheVariants as faults

-- a name: a letter or `_`, then letters, digits and `_`
abbrev pub is_name : List ℕ → Bool
is_name [] = false
is_name (b ∷ bs) = is_letter b && list_all is_word bs

-- claims go by their numbers, in the order of their first mention
abbrev pub claim_number : List (List ℕ) → List ℕ → ℕ
claim_number claims name = position_or_len (bytes_eq name) claims

abbrev pub with_claim : List (List ℕ) → List ℕ → List (List ℕ)
with_claim claims name = if list_any (bytes_eq name) claims then claims else claims ++ name ∷ []

-- the claims so far, and of one statement the asserts before it and its invariant
pub record Annotations : Type 0 where
  pub claims : List (List ℕ)
  pub asserts : List Stmt
  pub invariant : Option ℕ

abbrev pub asserted : Note → Annotations → Annotations
asserted note a = record {
  claims = with_claim a.claims note.rest;
  asserts = a.asserts ++ stmt.Assert (claim_number a.claims note.rest) note.name.at.line ∷ [];
  invariant = a.invariant;
}

abbrev pub kept : Note → Annotations → Annotations
kept note a = record {
  claims = with_claim a.claims note.rest;
  asserts = a.asserts;
  invariant = Some (claim_number a.claims note.rest);
}

-- an invariant is one name, stands at a loop, and is the first
abbrev pub is_stray : Bool → Note → Annotations → Bool
is_stray is_loop note a = not (is_name note.rest) || (not is_loop || is_some a.invariant)

-- one annotation behind others
unfoldable pub note_taken : Bool → Note → Annotations → Checked Annotations
note_taken is_loop note a =
    if bytes_eq note.name.text (codes "assert") then (refuse_if (not (is_name note.rest)) (faults.StrayAnnotation note.name.at) >> Ok (asserted note a))
    else (if bytes_eq note.name.text (codes "invariant") then (refuse_if (is_stray is_loop note a) (faults.StrayAnnotation note.name.at) >> Ok (kept note a))
    else Ok a)

abbrev pub notes_taken : Bool → List Note → Annotations → Checked Annotations
notes_taken is_loop [] a = Ok a
notes_taken is_loop (note ∷ rest) a = note_taken is_loop note a >>= notes_taken is_loop rest

-- the annotations of a statement
abbrev pub annotations : Bool → List Note → List (List ℕ) → Checked Annotations
annotations is_loop notes claims = notes_taken is_loop notes (record { claims = claims; asserts = []; invariant = None })
