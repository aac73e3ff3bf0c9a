-- The asserts and the invariant of a statement name claims that are known.
use Rattle.std.proofs.Common.{◌≡◌, ℕ, ◌<◌, ◌≤◌, Bool, true, false, List, [], ◌∷◌, ◌++◌, length, Option, Some, None, IfSome, Ok, IfOk, refl, arith}
use Rattle.std.specs.Prelude.{not, codes, if◌then◌else◌}
use Rattle.std.specs.List.{All, list_any, position_or_len}
use Rattle.std.specs.Str.{bytes_eq}
use Rattle.std.proofs.lemmas.List.{length-append}
use Rattle.std.proofs.lemmas.List.Elements.{All-nil, All-push}
use Rattle.std.proofs.lemmas.List.Sums.{prefix_len-le-length}
use Rattle.aq_parse.specs.declared.tree.Note.{Note}
use Rattle.aq_prog.specs.declared.stmt.Stmt.{Stmt, every-Stmt}
use Rattle.aq_prog.specs.declared.stmt.Stmt.TheVariants as stmt
use Rattle.aq_prog.specs.declared.stmt.Stmt.TheOpen.{Stmt-F}
use Rattle.aq_base.specs.Checks.{refuse_if, ◌>>◌}
use Rattle.aq_elab.specs.Annotations.{is_name, claim_number, with_claim, Annotations, asserted, kept, is_stray, note_taken, notes_taken, annotations}
use Rattle.aq_elab.specs.declared.fault.ElabFault.TheVariants as faults
use Rattle.aq_elab.proofs.ValidLists.{follows, unless, at_test, place-below}
use Rattle.aq_elab.proofs.ValidLevels.{every-assert}

claims-grow : (claims : List (List ℕ)) (name : List ℕ) → length claims ≤ length (with_claim claims name)
claims-grow claims name = by (list_any (bytes_eq name) claims)
  where
    by : (b : Bool) → length claims ≤ length (if b then claims else claims ++ name ∷ [])
    by true = omega arith
    by false = omega (arith, length-append claims (name ∷ []))

claim-known : (claims : List (List ℕ)) (name : List ℕ) → claim_number claims name < length (with_claim claims name)
claim-known claims name = by (list_any (bytes_eq name) claims) refl
  where
    by : (b : Bool) → list_any (bytes_eq name) claims ≡ b → position_or_len (bytes_eq name) claims < length (if b then claims else claims ++ name ∷ [])
    by true e = place-below (bytes_eq name) claims e
    by false e = omega (arith, length-append claims (name ∷ []), prefix_len-le-length (λ x. not (bytes_eq name x)) claims)

claim_more : (claims more : List (List ℕ)) (claim : Option ℕ) → length claims ≤ length more → IfSome claim (λ c. c < length claims) → IfSome claim (λ c. c < length more)
claim_more claims more None le h = tt
claim_more claims more (Some c) le h = omega arith

-- each level of the asserts is to have the property Q
module _ (Q : Stmt-F Stmt → Type 0) where
  abbrev pub AllowsClaims : List (List ℕ) → Type 0
  AllowsClaims claims = (claim line : ℕ) → claim < length claims → Q (Stmt-F.Assert claim line)

  pub record AreKnown (start : List (List ℕ)) (a : Annotations) : Type 0 where
    pub grown : length start ≤ length a.claims
    pub asserts : AllowsClaims a.claims → All (every-Stmt Q) a.asserts
    pub invariant : IfSome a.invariant (λ c. c < length a.claims)

  asserted-known : (start : List (List ℕ)) (note : Note) (a : Annotations) → AreKnown start a → AreKnown start (asserted note a)
  asserted-known start note a are =
      let grows = claims-grow a.claims note.rest in
      let below = claim-known a.claims note.rest in
      record {
        grown = omega (arith, are.grown, grows);
        asserts = λ allows. All-push (every-Stmt Q) a.asserts (stmt.Assert (claim_number a.claims note.rest) note.name.at.line)
            (are.asserts (λ claim line lt. allows claim line (omega arith)))
            (every-assert Q (claim_number a.claims note.rest) note.name.at.line (allows (claim_number a.claims note.rest) note.name.at.line below));
        invariant = claim_more a.claims (with_claim a.claims note.rest) a.invariant grows are.invariant;
      }

  kept-known : (start : List (List ℕ)) (note : Note) (a : Annotations) → AreKnown start a → AreKnown start (kept note a)
  kept-known start note a are =
      let grows = claims-grow a.claims note.rest in
      record {
        grown = omega (arith, are.grown, grows);
        asserts = λ allows. are.asserts (λ claim line lt. allows claim line (omega arith));
        invariant = claim-known a.claims note.rest;
      }

  note_taken-known : (start : List (List ℕ)) (is_loop : Bool) (note : Note) (a : Annotations) → AreKnown start a → IfOk (note_taken is_loop note a) (AreKnown start)
  unfolding note_taken
  note_taken-known start is_loop note a are =
      let stray = faults.StrayAnnotation note.name.at in
      let as_assert = refuse_if (not (is_name note.rest)) stray >> Ok (asserted note a) in
      let as_invariant = refuse_if (is_stray is_loop note a) stray >> Ok (kept note a) in
      let other = if bytes_eq note.name.text (codes "invariant") then as_invariant else Ok a in
      at_test (AreKnown start) (bytes_eq note.name.text (codes "assert")) as_assert other
      (λ e. unless (AreKnown start) (not (is_name note.rest)) stray (Ok (asserted note a)) (λ f. asserted-known start note a are))
      (λ e. at_test (AreKnown start) (bytes_eq note.name.text (codes "invariant")) as_invariant (Ok a)
      (λ f. unless (AreKnown start) (is_stray is_loop note a) stray (Ok (kept note a)) (λ g. kept-known start note a are))
      (λ f. are))

  notes_taken-known : (start : List (List ℕ)) (is_loop : Bool) (notes : List Note) (a : Annotations) → AreKnown start a → IfOk (notes_taken is_loop notes a) (AreKnown start)
  notes_taken-known start is_loop [] a are = are
  notes_taken-known start is_loop (note ∷ rest) a are =
      follows (AreKnown start) (AreKnown start) (note_taken is_loop note a) (notes_taken is_loop rest) (note_taken-known start is_loop note a are) (notes_taken-known start is_loop rest)

  pub annotations-known : (is_loop : Bool) (notes : List Note) (claims : List (List ℕ)) → IfOk (annotations is_loop notes claims) (AreKnown claims)
  annotations-known is_loop notes claims =
      notes_taken-known claims is_loop notes (record { claims = claims; asserts = []; invariant = None }) (record { grown = omega arith; asserts = λ allows. All-nil (every-Stmt Q); invariant = tt })
